-- Unsigned integers between two ends. Assumes nothing.
use Rattle.std.specs.Prelude.{◌≡◌, ℕ, ◌≤◌, cond, ◌&&◌, Some, None, Option, nat_le}
use Rattle.layout.specs.Rules.{Parts}
use Rattle.sheet.specs.declared.token.Token.{Token}
use Rattle.sheet.specs.Tokens.{token}
use Rattle.token_de.specs.declared.fault.Wanted.TheVariants as wanted
use Rattle.token_de.specs.Meaning.{Meaning, Grammar}
use Rattle.token_de.specs.Steps.{single, One}
use Rattle.scalar.specs.declared.unsigned.Unsigned.{Unsigned}
use Rattle.scalar.specs.Integers.{magnitude_of, integer}

abbrev pub between : Unsigned → Option ℕ → Option ℕ
between s None = None
between s (Some v) = cond (nat_le s.low v && nat_le v s.high) (Some v) None

abbrev pub unsigned_of : Unsigned → Parts → Token → Option ℕ
unsigned_of s h t = between s (magnitude_of t)

abbrev pub unsigned_read : Unsigned → Meaning ℕ
unsigned_read s = single wanted.Unsigned (unsigned_of s)

-- an integer that fits 64 bits, between the ends
abbrev pub IsUnsigned : Unsigned → Parts → ℕ → ℕ → Type 0
IsUnsigned s h p v = (bits : ℕ) × (token h p ≡ integer v bits) × ((s.low ≤ v) × (v ≤ s.high))

abbrev pub UnsignedWord : Unsigned → Grammar ℕ
UnsignedWord s = One (IsUnsigned s)
