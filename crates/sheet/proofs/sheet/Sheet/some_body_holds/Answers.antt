use Rattle.std.proofs.Common.{rules, tests}
use Rattle.std.proofs.lemmas.Iterator.{YieldsList-from_slice}
use Rattle.std.proofs.lemmas.Iterator.Search.{any_from_yields_List}
use Rattle.layout.specs.declared.record.Record.{Record}
use Rattle.sheet.specs.Spots.{holds}
use Rattle.sheet.proofs.sheet.Sheet.some_body_holds.Goals as goal

pub returns-else-body_holds : goal.returns-else-body_holds
returns-else-body_holds c =
    any_from_yields_List (λ (r : Record). holds r c.args.run.from c.args.run.to) _ _ _ c.any.ensures.ran (YieldsList-from_slice c.args.self.now.records.now cc) (λ x b q k. search (rules, tests))
