use Rattle.sheet.specs.Sheets.{held}
use Rattle.sheet.proofs.Inputs.{front_run}
use Rattle.sheet.proofs.input.Input.take.Goals as goal

pub invariant_of-result : goal.invariant_of-result
invariant_of-result c =
    let x = c.args.self.now in
    rw c.min.ensures (record { run = front_run (held x.sheet) x.rest x.sheet.lawful x.run c.args.count })
