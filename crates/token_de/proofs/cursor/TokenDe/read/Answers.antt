use Rattle.std.proofs.Common.{◌+◌, sym, ap, ◌∙◌, subst, arith}
use Rattle.std.proofs.lemmas.Result.{err_from_is_err_and}
use Rattle.sheet.specs.declared.spot.Spot.{Spot}
use Rattle.sheet.specs.declared.spot.Rest.{Rest}
use Rattle.sheet.specs.Sheets.{held}
use Rattle.sheet.specs.Spots.{past}
use Rattle.sheet.proofs.Runs.{few_records}
use Rattle.token_de.specs.Reading.{Accepted}
use Rattle.token_de.proofs.Words.{taken_inside, read_accepts, read_refuses}
use Rattle.token_de.proofs.cursor.TokenDe.read.Goals as goal

pub returns-in_err-count : goal.returns-in_err-count
returns-in_err-count g c =
    let x = c.input-input in
    let p = err_from_is_err_and c.from_residual.result c.from_residual.ensures.1 in
    rw (p.1, p.2) (read_refuses (g.met.S.Words.exact c.args.seed.now) x.result c.args.sheet.now c.args.self.now.at x.ensures.sheet x.ensures.rest c.in_err-count.field-0.0 c.in_err-count.ensures)

pub overflow_add-rest : goal.overflow_add-rest
overflow_add-rest g c =
    let x = c.input-input in
    let inside = taken_inside (g.met.S.Words.exact c.args.seed.now) x.result c.args.sheet.now c.args.self.now.at x.ensures.sheet x.ensures.rest c.in_ok-count.field-0 (g.met.S.Seed.lawful c.args.seed.now) c.in_ok-count.ensures in
    omega (arith, inside, ap (λ (r : Rest). r.from) c.rest.ensures, few_records (held c.args.sheet.now) c.args.sheet.now.lawful)

pub returns : goal.returns
returns g c =
    let x = c.input-input in
    let s = c.args.self.now.at in
    let t = c.in_ok-count.field-0 in
    let passed = ap (λ (r : Rest). past s (r.from + t.count)) (sym c.rest.ensures) ∙ sym c.past-self.ensures in
    subst (λ (after : Spot). Accepted (g.S.Words.word c.args.seed.now) (held c.args.sheet.now) s after t.value) passed
    (read_accepts (g.met.S.Words.exact c.args.seed.now) x.result c.args.sheet.now s x.ensures.sheet x.ensures.rest t (g.met.S.Seed.lawful c.args.seed.now) c.in_ok-count.ensures)
