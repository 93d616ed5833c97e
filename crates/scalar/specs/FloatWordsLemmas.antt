-- The words of the float seed. Assumes nothing.
use Rattle.std.specs.Prelude.{◌≡◌, ℕ, Bool, ◌⊎◌, Some, ◌≢◌, refl}
use Rattle.std.proofs.Common.{sym, ap, ◌∙◌, inl, inr}
use Rattle.std.proofs.Math.Nat.{ℕ_set}
use Rattle.sheet.specs.declared.token.Integer.{Integer}
use Rattle.sheet.specs.declared.token.Literal.TheVariants as literals
use Rattle.sheet.specs.declared.token.Token.{Token}
use Rattle.sheet.specs.declared.token.Token.TheVariants as tokens
use Rattle.scalar.specs.Numbers.{minus}
use Rattle.token_de.specs.Meaning.{Exact}
use Rattle.token_de.specs.declared.fault.Wanted.TheVariants as wanted
use Rattle.scalar.specs.Floats.{signed_bits, float_worth, float_read, FloatWord, numeral, numeral_bits, IsFloat}
use Rattle.scalar.specs.NumbersLemmas.{number_exact}
use Rattle.scalar.specs.Tokens.{token_one}

pub sound : (b : Bool) (t : Token) (v : ℕ) → float_worth b t ≡ Some v → IsFloat b t v
sound b (tokens.Literal (literals.Integer i)) v is = (inl i, refl, cc)
sound b (tokens.Literal (literals.Float x)) v is = (inr x, refl, cc)
sound b _ v is = absurd (cc)

pub worth_of : (b : Bool) (n : Integer ⊎ ℕ) → float_worth b (numeral n) ≡ Some (signed_bits b (numeral_bits n))
worth_of b (inl i) = refl
worth_of b (inr x) = refl

pub same : (x y : Integer ⊎ ℕ) → numeral x ≡ numeral y → x ≡ y
same (inl i) (inl j) e = cc
same (inr x) (inr y) e = cc
same _ _ e = absurd (cc)

pub no_minus : (n : Integer ⊎ ℕ) → minus ≢ numeral n
no_minus (inl i) e = cc
no_minus (inr x) e = cc

-- the seed takes its words
pub float_exact : Exact float_read FloatWord
float_exact =
    number_exact wanted.Float float_worth IsFloat sound
    (λ b t v w. ap (float_worth b) w.1 ∙ worth_of b w.0 ∙ ap Some (sym w.2))
    (λ b t v. token_one numeral same (λ (n : Integer ⊎ ℕ). v ≡ signed_bits b (numeral_bits n)) (λ _. ℕ_set _ _) t)
    (λ v w. no_minus w.0 w.1)
