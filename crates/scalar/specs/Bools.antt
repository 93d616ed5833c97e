-- Truth values. Assumes nothing.
use Rattle.std.specs.Prelude.{◌≡◌, ℕ, Bool, true, false, cond, List, Some, None, codes, Option}
use Rattle.std.specs.Str.{bytes_eq}
use Rattle.layout.specs.Rules.{Parts}
use Rattle.sheet.specs.declared.token.Part.{Part}
use Rattle.sheet.specs.declared.token.Token.{Token}
use Rattle.sheet.specs.declared.token.Token.TheVariants as tokens
use Rattle.sheet.specs.Tokens.{token, bytes_of}
use Rattle.token_de.specs.declared.fault.Wanted.TheVariants as wanted
use Rattle.token_de.specs.Meaning.{Meaning, Grammar}
use Rattle.token_de.specs.Steps.{single, One}

-- what a name spells
abbrev pub truth : List ℕ → Option Bool
truth name = cond (bytes_eq name (codes "true")) (Some true) (cond (bytes_eq name (codes "false")) (Some false) None)

abbrev pub bool_of : Parts → Token → Option Bool
bool_of h (tokens.Ident p) = truth (bytes_of h.names p)
bool_of h _ = None

abbrev pub bool_read : Meaning Bool
bool_read = single wanted.Bool bool_of

-- the name of a truth value
abbrev pub spelling : Bool → List ℕ
spelling true = codes "true"
spelling false = codes "false"

-- an identifier of that name
abbrev pub IsBool : Parts → ℕ → Bool → Type 0
IsBool h p v = (part : Part) × (token h p ≡ tokens.Ident part) × (bytes_of h.names part ≡ spelling v)

abbrev pub BoolWord : Grammar Bool
BoolWord = One IsBool
