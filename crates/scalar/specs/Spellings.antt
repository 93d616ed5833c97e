-- What a name spells. Assumes nothing.
use Rattle.std.specs.Prelude.{◌≡◌, ℕ, Bool, true, false, List, Some, codes, refl}
use Rattle.std.proofs.Common.{arith}
use Rattle.std.proofs.lemmas.Bool.Decides.{nat_tests}
use Rattle.std.proofs.lemmas.Slice.Eq.{bytes_eq-Decides}
use Rattle.scalar.specs.Bools.{truth, spelling}

-- a name that spells a truth value is its spelling
pub spells : (name : List ℕ) (v : Bool) → truth name ≡ Some v → name ≡ spelling v
spells name true is = (bytes_eq-Decides name (codes "true")).0 (grind (arith, nat_tests))
spells name false is = (bytes_eq-Decides name (codes "false")).0 (grind (arith, nat_tests))

pub spelt : (v : Bool) → truth (spelling v) ≡ Some v
spelt true = refl
spelt false = refl
