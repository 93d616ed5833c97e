use Rattle.sheet.specs.Sheets.{held}
use Rattle.sheet.proofs.Inputs.{behind_run}
use Rattle.sheet.proofs.input.Input.past.Goals as goal

pub invariant_of-result : goal.invariant_of-result
invariant_of-result c =
    let x = c.args.self.now in
    rw c.past.ensures (record { run = behind_run (held x.sheet) x.rest x.sheet.lawful x.run c.args.count })
