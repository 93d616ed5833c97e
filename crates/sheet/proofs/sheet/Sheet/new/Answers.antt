use Rattle.std.proofs.Common.{rules}
use Rattle.sheet.proofs.Made.{made_at}
use Rattle.sheet.proofs.sheet.Sheet.new.Goals as goal

pub returns-clause-rules : goal.returns-clause-rules
returns-clause-rules c = made_at _ _ _ _ _ (search rules)
