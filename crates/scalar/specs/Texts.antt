-- Identifiers and texts. Assumes nothing.
use Rattle.std.specs.Prelude.{◌≡◌, ℕ, Some, None, Ok, Err, Option}
use Rattle.layout.specs.Rules.{Parts, limits, Kept}
use Rattle.sheet.specs.declared.spot.Spot.{Spot}
use Rattle.sheet.specs.Spots.{rest}
use Rattle.token_de.specs.Cursors.{text_read}
use Rattle.token_de.specs.declared.fault.Fault.{Fault}
use Rattle.sheet.specs.declared.text.Pool.{Pool}
use Rattle.sheet.specs.declared.text.Pool.TheVariants.{Names, Strings}
use Rattle.sheet.specs.declared.token.Part.{Part}
use Rattle.sheet.specs.declared.token.Token.{Token}
use Rattle.sheet.specs.declared.token.Token.TheVariants as tokens
use Rattle.sheet.specs.Tokens.{token}
use Rattle.token_de.specs.declared.fault.Wanted.TheVariants as wanted
use Rattle.token_de.specs.Meaning.{Answer, Meaning, Grammar}
use Rattle.token_de.specs.Steps.{single, One}
use Rattle.scalar.specs.declared.text.TextPart.{TextPart}

abbrev pub in_pool : Pool → Part → TextPart
in_pool k p = record { pool = k; start = p.start; len = p.len }

abbrev pub identifier_of : Parts → Token → Option TextPart
identifier_of h (tokens.Ident p) = Some (in_pool Names p)
identifier_of h _ = None

abbrev pub string_of : Parts → Token → Option TextPart
string_of h (tokens.Ident p) = Some (in_pool Names p)
string_of h (tokens.String p) = Some (in_pool Strings p)
string_of h _ = None

abbrev pub identifier_read : Meaning TextPart
identifier_read = single wanted.Identifier identifier_of

abbrev pub string_read : Meaning TextPart
string_read = single wanted.String string_of

-- the token of a text: an identifier in the names, a string literal in the strings
abbrev pub spelled_in : Pool → Part → Token
spelled_in Names p = tokens.Ident p
spelled_in Strings p = tokens.String p

-- an identifier or a string literal
abbrev pub IsText : Parts → ℕ → TextPart → Type 0
IsText h p v = token h p ≡ spelled_in v.pool (record { start = v.start; len = v.len })

-- an identifier
abbrev pub IsIdentifier : Parts → ℕ → TextPart → Type 0
IsIdentifier h p v = IsText h p v × (v.pool ≡ Names)

abbrev pub IdentifierWord : Grammar TextPart
IdentifierWord = One IsIdentifier

abbrev pub StringWord : Grammar TextPart
StringWord = One IsText

-- THE TEXT READ of a cursor is refused exactly as the string seed is
abbrev pub refusal : {X : Type 0} → Answer X → Option Fault
refusal (Ok x) = None
refusal (Err f) = Some f

abbrev pub TextRefusedAsString : Type 0
TextRefusedAsString = (h : Parts) (s : Spot) → Kept limits h → refusal (text_read h s) ≡ refusal (string_read h (rest h s).from (rest h s).to (rest h s).last)
