-- The words of the signed seeds. Assumes nothing.
use Rattle.std.specs.Prelude.{◌≡◌, ℕ, Bool, true, false, T, ℤ, ◌≤ℤ◌, Some, int_le, refl}
use Rattle.std.proofs.Common.{sym, ap, subst, ◌∙◌, arith}
use Rattle.std.proofs.Math.IntN.{ℤ_set}
use Rattle.std.proofs.Math.Dec.{T_prop}
use Rattle.std.proofs.lemmas.Int.{ints}
use Rattle.std.proofs.lemmas.Option.{option_and_then_some}
use Rattle.sheet.specs.declared.token.Token.{Token}
use Rattle.scalar.specs.declared.signed.Signed.{Signed}
use Rattle.token_de.specs.declared.fault.Wanted.TheVariants as wanted
use Rattle.token_de.specs.Meaning.{Exact}
use Rattle.scalar.specs.Integers.{magnitude_of, integer}
use Rattle.scalar.specs.NumbersLemmas.{number_exact}
use Rattle.scalar.specs.Signeds.{signed_value, inside, signed_worth, signed_read, SignedWord, IsSigned}
use Rattle.scalar.specs.Tokens.{token_one, integer_of, integer_same}

pub le_one : (a b : ℤ) → IsProp (a ≤ℤ b)
le_one a b x y n = record { le = T_prop (int_le a b) x.le y.le n }

-- the test of the order and the order
pub from_test : (a b : ℤ) → int_le a b ≡ true → a ≤ℤ b
from_test a b e = record { le = subst T (sym e) tt }

pub to_test : (a b : ℤ) → a ≤ℤ b → int_le a b ≡ true
to_test a b le = go (int_le a b) le.le
  where
    go : (x : Bool) → T x → x ≡ true
    go true ok = refl
    go false ok = absurd ok

module _ (s : Signed) where
  pub inside_some : (z v : ℤ) → inside s z ≡ Some v → (v ≡ z) × (s.low ≤ℤ v) × (v ≤ℤ s.high)
  inside_some z v is = (grind (arith, ints), grind (arith, ints), grind (arith, ints))

  pub inside_is : (v : ℤ) → s.low ≤ℤ v → v ≤ℤ s.high → inside s v ≡ Some v
  inside_is v low high = grind (arith, ints)

  pub sound : (b : Bool) (t : Token) (v : ℤ) → signed_worth s b t ≡ Some v → IsSigned s b t v
  sound b t v is = option_and_then_some (λ m. inside s (signed_value b m)) (magnitude_of t) v is
      (λ m e k. let i = integer_of t m e in ((m, i.0), i.1, inside_some (signed_value b m) v k))

  pub complete : (b : Bool) (t : Token) (v : ℤ) → IsSigned s b t v → signed_worth s b t ≡ Some v
  complete b t v w = ap (λ (x : Token). signed_worth s b x) w.1 ∙ ap (inside s) (sym w.2.0) ∙ inside_is v w.2.1 w.2.2

-- the seed takes its words
pub signed_exact : (s : Signed) → Exact (signed_read s) (SignedWord s)
signed_exact s =
    number_exact wanted.Signed (signed_worth s) (IsSigned s) (sound s) (complete s)
    (λ b t v. token_one (λ (n : ℕ × ℕ). integer n.0 n.1) integer_same (λ (n : ℕ × ℕ). (v ≡ signed_value b n.0) × (s.low ≤ℤ v) × (v ≤ℤ s.high)) (λ n. hlevel (ℤ_set, T_prop)) t)
    (λ v w. cc w.1)
