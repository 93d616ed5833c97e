-- The unit value. Assumes nothing.
use Rattle.std.specs.Prelude.{◌≡◌, ℕ, Bool, true, false, cond, ◌&&◌, Some, None, Option, ◌==◌}
use Rattle.layout.specs.Rules.{Parts}
use Rattle.layout.specs.declared.kind.Delimiter.{Delimiter}
use Rattle.layout.specs.declared.kind.Delimiter.TheVariants.{Parenthesis}
use Rattle.sheet.specs.declared.token.Group.{Group}
use Rattle.sheet.specs.declared.token.Token.{Token}
use Rattle.sheet.specs.declared.token.Token.TheVariants as tokens
use Rattle.sheet.specs.Tokens.{token}
use Rattle.token_de.specs.declared.fault.Wanted.TheVariants as wanted
use Rattle.token_de.specs.Meaning.{Meaning, Grammar}
use Rattle.token_de.specs.Steps.{single, One}

abbrev pub parenthesis : Delimiter → Bool
parenthesis Parenthesis = true
parenthesis _ = false

abbrev pub unit_of : Parts → Token → Option (Unit {0})
unit_of h (tokens.Group g) = cond (parenthesis g.delimiter && g.count == 0) (Some tt) None
unit_of h _ = None

abbrev pub unit_read : Meaning (Unit {0})
unit_read = single wanted.Unit unit_of

-- an empty pair of parentheses
abbrev pub IsUnit : Parts → ℕ → Unit {0} → Type 0
IsUnit h p v = (g : Group) × (token h p ≡ tokens.Group g) × ((g.delimiter ≡ Parenthesis) × (g.count ≡ 0))

abbrev pub UnitWord : Grammar (Unit {0})
UnitWord = One IsUnit
