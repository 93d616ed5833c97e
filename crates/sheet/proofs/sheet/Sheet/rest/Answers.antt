use Rattle.std.proofs.Common.{ℕ, Option, sym, subst}
use Rattle.sheet.specs.Sheets.{held}
use Rattle.sheet.specs.Spots.{Rested}
use Rattle.sheet.proofs.Runs.{rest_full, rest_nothing}
use Rattle.sheet.proofs.sheet.Sheet.rest.Goals as goal

pub returns-then-not-stands : goal.returns-then-not-stands
returns-then-not-stands c = rest_nothing (held c.args.self.now) c.args.spot c.args.self.now.lawful (sym c.if-not-stands.ensures)

pub returns : goal.returns
returns c =
    let s = c.args.spot in
    subst (λ (l : Option ℕ). Rested (held c.args.self.now) s (record { from = s.place; to = s.end; last = l })) (sym c.last_passed.ensures)
    (rest_full (held c.args.self.now) s c.args.self.now.lawful (sym c.if-not-stands.ensures))
