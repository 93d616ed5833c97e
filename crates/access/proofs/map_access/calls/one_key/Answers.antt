use Rattle.std.proofs.Common.{rules}
use Rattle.sheet.specs.Sheets.{held}
use Rattle.sheet.proofs.Inputs.{rest_fits}
use Rattle.access.proofs.map_access.calls.one_key.Goals as goal

pub returns : goal.returns
returns g c =
    let x = c.args.input.now in
    let fits = rest_fits (held x.sheet) x.rest x.sheet.lawful x.run in
    let place = c.in_ok-behind.ensures.place in
    let rest = c.in_ok-behind.ensures.rest in
    search rules
