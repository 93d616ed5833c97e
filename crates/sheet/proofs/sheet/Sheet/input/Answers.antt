use Rattle.sheet.specs.Sheets.{held}
use Rattle.sheet.proofs.Runs.{run_test}
use Rattle.sheet.proofs.sheet.Sheet.input.Goals as goal

pub invariant_of-result : goal.invariant_of-result
invariant_of-result c = record { run = run_test (held c.args.self.now) c.rest.result.from c.rest.result.to c.rest.ensures.run }
