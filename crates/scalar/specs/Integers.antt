-- The magnitude of an integer token. Assumes nothing.
use Rattle.std.specs.Prelude.{ℕ, Some, None, Option}
use Rattle.sheet.specs.declared.token.Literal.TheVariants as literals
use Rattle.sheet.specs.declared.token.Token.{Token}
use Rattle.sheet.specs.declared.token.Token.TheVariants as tokens

-- the magnitude of an integer literal that fits 64 bits
abbrev pub magnitude_of : Token → Option ℕ
magnitude_of (tokens.Literal (literals.Integer i)) = i.magnitude
magnitude_of _ = None

-- the token of an integer literal of this magnitude
abbrev pub integer : ℕ → ℕ → Token
integer m bits = tokens.Literal (literals.Integer (record { magnitude = Some m; bits = bits }))
