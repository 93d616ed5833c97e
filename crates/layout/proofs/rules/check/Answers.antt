use Rattle.std.proofs.Common.{◌≡◌, Some, None, arith}
use Rattle.std.proofs.lemmas.Grind.{common_steps}
use Rattle.std.proofs.lemmas.Result.{err_from_is_err_and}
use Rattle.layout.specs.Scan.{first_fault}
use Rattle.layout.proofs.Scans.{told_at}
use Rattle.layout.proofs.rules.check.Goals as goal

pub returns-in_err-track-clause-rules : goal.returns-in_err-track-clause-rules
returns-in_err-track-clause-rules g c =
    let b = c.args.bounds in
    let rs = g.R.Records.list c.args.records.now in
    let p = err_from_is_err_and c.from_residual.result c.from_residual.ensures.1 in
    let same : Some c.in_err-track.field-0.0 ≡ first_fault b.names b.strings b.depth rs = grind (arith, common_steps) in
    rw (p.1, p.2) (told_at b.names b.strings b.depth rs (Some c.in_err-track.field-0.0) same)

pub returns-clause-rules : goal.returns-clause-rules
returns-clause-rules g c =
    let b = c.args.bounds in
    let rs = g.R.Records.list c.args.records.now in
    let same : None ≡ first_fault b.names b.strings b.depth rs = grind (arith, common_steps) in
    told_at b.names b.strings b.depth rs None same
