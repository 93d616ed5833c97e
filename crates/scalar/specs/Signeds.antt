-- Signed integers between two ends. Assumes nothing.
use Rattle.std.specs.Prelude.{◌≡◌, ℕ, Bool, true, false, cond, ◌&&◌, ℤ, pos, neg_ℤ, ◌≤ℤ◌, Some, None, Option, int_le}
use Rattle.std.specs.Option.{option_and_then}
use Rattle.sheet.specs.declared.token.Token.{Token}
use Rattle.token_de.specs.declared.fault.Wanted.TheVariants as wanted
use Rattle.token_de.specs.Meaning.{Meaning, Grammar}
use Rattle.scalar.specs.declared.signed.Signed.{Signed}
use Rattle.scalar.specs.Integers.{magnitude_of, integer}
use Rattle.scalar.specs.Numbers.{number_read, NumberWord}

-- the integer of a magnitude, behind a `-` or not
abbrev pub signed_value : Bool → ℕ → ℤ
signed_value true m = neg_ℤ (pos m)
signed_value false m = pos m

abbrev pub inside : Signed → ℤ → Option ℤ
inside s v = cond (int_le s.low v && int_le v s.high) (Some v) None

abbrev pub signed_worth : Signed → Bool → Token → Option ℤ
signed_worth s b t = option_and_then (λ m. inside s (signed_value b m)) (magnitude_of t)

abbrev pub signed_read : Signed → Meaning ℤ
signed_read s = number_read wanted.Signed (signed_worth s)

-- an integer that fits 64 bits, whose value behind a `-` or alone is between the ends
abbrev pub IsSigned : Signed → Bool → Token → ℤ → Type 0
IsSigned s b t v = (n : ℕ × ℕ) × (t ≡ integer n.0 n.1) × ((v ≡ signed_value b n.0) × (s.low ≤ℤ v) × (v ≤ℤ s.high))

abbrev pub SignedWord : Signed → Grammar ℤ
SignedWord s = NumberWord (IsSigned s)
