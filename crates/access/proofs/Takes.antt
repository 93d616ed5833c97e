-- What a seed takes lies in its run. Assumes nothing.
use Rattle.std.proofs.Common.{◌≡◌, ◌+◌, ◌<◌, ◌≤◌, IfOk, Ok, Err, sym}
use Rattle.layout.specs.Rules.{limits}
use Rattle.layout.proofs.Scans.{kept_rules}
use Rattle.sheet.specs.declared.input.Input.{Input}
use Rattle.sheet.specs.Sheets.{held}
use Rattle.sheet.proofs.Runs.{run_is}
use Rattle.token_de.specs.declared.seed.Taken.{Taken}
use Rattle.token_de.specs.Meaning.{Answer, Meaning, on, Lawful}

pub takes_within : {V : Type 0} {m : Meaning V} → Lawful m → (x : Input) → (r : Answer (Taken V)) → r ≡ on m x → IfOk r (λ t. (0 < t.count) × (x.rest.from + t.count ≤ x.rest.to))
takes_within law x (Ok t) is = law.within (held x.sheet) _ _ _ t (kept_rules limits (held x.sheet) x.sheet.lawful) (run_is (held x.sheet) _ _ x.run) (sym is)
takes_within law x (Err f) is = tt
