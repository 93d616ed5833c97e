-- Numbers as the bits of an f64. Assumes nothing.
use Rattle.std.specs.Prelude.{◌≡◌, ℕ, Bool, true, false, ◌⊎◌, Some, None, Option, bit_or}
use Rattle.std.proofs.Common.{inl, inr}
use Rattle.std.specs.Option.{option_map}
use Rattle.sheet.specs.declared.token.Integer.{Integer}
use Rattle.sheet.specs.declared.token.Literal.TheVariants as literals
use Rattle.sheet.specs.declared.token.Token.{Token}
use Rattle.sheet.specs.declared.token.Token.TheVariants as tokens
use Rattle.token_de.specs.declared.fault.Wanted.TheVariants as wanted
use Rattle.token_de.specs.Meaning.{Meaning, Grammar}
use Rattle.scalar.specs.Numbers.{number_read, NumberWord}

-- the bits of an integer or a float literal
abbrev pub bits_of : Token → Option ℕ
bits_of (tokens.Literal (literals.Integer i)) = Some i.bits
bits_of (tokens.Literal (literals.Float b)) = Some b
bits_of _ = None

-- a `-` sets bit 63
abbrev pub signed_bits : Bool → ℕ → ℕ
signed_bits true b = bit_or b 0x8000000000000000
signed_bits false b = b

abbrev pub float_worth : Bool → Token → Option ℕ
float_worth b t = option_map (signed_bits b) (bits_of t)

abbrev pub float_read : Meaning ℕ
float_read = number_read wanted.Float float_worth

-- an integer literal, or a float literal by its bits
abbrev pub numeral : Integer ⊎ ℕ → Token
numeral (inl i) = tokens.Literal (literals.Integer i)
numeral (inr b) = tokens.Literal (literals.Float b)

abbrev pub numeral_bits : Integer ⊎ ℕ → ℕ
numeral_bits (inl i) = i.bits
numeral_bits (inr b) = b

abbrev pub IsFloat : Bool → Token → ℕ → Type 0
IsFloat b t v = (n : Integer ⊎ ℕ) × (t ≡ numeral n) × (v ≡ signed_bits b (numeral_bits n))

abbrev pub FloatWord : Grammar ℕ
FloatWord = NumberWord IsFloat
