-- Whether something is left of a rest. Assumes nothing.
use Rattle.std.proofs.Common.{◌≡◌, ℕ, Bool, true, false, cond, ltb, ◌<◌, Some, None, Option, refl, sym, ap, ◌∙◌}
use Rattle.std.specs.Prelude.{is_some, not}
use Rattle.std.proofs.lemmas.Bool.{ltb-true}
use Rattle.sheet.specs.declared.spot.Rest.{Rest}
use Rattle.sheet.specs.Inputs.{first}

-- something is given where the test holds, and only there
pub given : {A : Type 0} (b : Bool) (a x : A) → Some x ≡ cond b (Some a) None → (b ≡ true) × (x ≡ a)
given true a x e = (refl, cc)
given false a x e = absurd (cc)

pub missing : {A : Type 0} (b : Bool) (a : A) → None ≡ cond b (Some a) None → b ≡ false
missing true a e = absurd (cc)
missing false a e = refl

tested : {A : Type 0} (b : Bool) (a : A) → is_some (cond b (Some a) None) ≡ true → b ≡ true
tested true a e = refl
tested false a e = absurd (cc)

-- a record of a rest is left
pub some_left : (r : Rest) (o : Option ℕ) (b : Bool) → o ≡ first r → b ≡ is_some o → b ≡ true → r.from < r.to
some_left r o b is test found = ltb-true r.from r.to (tested (ltb r.from r.to) r.from (ap is_some (sym is) ∙ sym test ∙ found))

pub not_none : (r : Rest) (o : Option ℕ) (b : Bool) → o ≡ first r → is_some o ≡ not b → b ≡ false → r.from < r.to
not_none r o b is test absent = some_left r o (is_some o) is refl (test ∙ ap not absent)
