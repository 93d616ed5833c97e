use Rattle.std.proofs.Common.{refl}
use Rattle.layout.specs.Rules.{limits}
use Rattle.layout.proofs.Scans.{kept_rules}
use Rattle.sheet.specs.Sheets.{held}
use Rattle.sheet.proofs.sheet.Sheet.count.Goals as goal

pub returns : goal.returns
returns c = record { value = refl; rules = kept_rules limits (held c.args.self.now) c.args.self.now.lawful }
