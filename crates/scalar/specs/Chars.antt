-- Characters. Assumes nothing.
use Rattle.std.specs.Prelude.{◌≡◌, ℕ, Some, None, Option}
use Rattle.layout.specs.Rules.{Parts}
use Rattle.sheet.specs.declared.token.Literal.TheVariants as literals
use Rattle.sheet.specs.declared.token.Token.{Token}
use Rattle.sheet.specs.declared.token.Token.TheVariants as tokens
use Rattle.sheet.specs.Tokens.{token}
use Rattle.token_de.specs.declared.fault.Wanted.TheVariants as wanted
use Rattle.token_de.specs.Meaning.{Meaning, Grammar}
use Rattle.token_de.specs.Steps.{single, One}

abbrev pub char_of : Parts → Token → Option ℕ
char_of h (tokens.Literal (literals.Char c)) = Some c
char_of h _ = None

abbrev pub char_read : Meaning ℕ
char_read = single wanted.Char char_of

-- a char literal
abbrev pub IsChar : Parts → ℕ → ℕ → Type 0
IsChar h p v = token h p ≡ tokens.Literal (literals.Char v)

abbrev pub CharWord : Grammar ℕ
CharWord = One IsChar
