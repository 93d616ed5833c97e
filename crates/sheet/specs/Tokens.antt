-- What a record means. Assumes nothing.
use Rattle.std.specs.Prelude.{◌≡◌, ℕ, true, cond, List, take, drop, Some, None, Option, ◌==◌}
use Rattle.layout.specs.declared.record.Record.{Record}
use Rattle.layout.specs.Rules.{Parts, entry, is_scalar}
use Rattle.layout.specs.declared.kind.Delimiter.{Delimiter}
use Rattle.layout.specs.declared.kind.Delimiter.TheVariants.{Parenthesis, Brace, Bracket, Invisible}
use Rattle.sheet.specs.declared.token.Part.{Part}
use Rattle.sheet.specs.declared.token.Literal.{Literal}
use Rattle.sheet.specs.declared.token.Literal.TheVariants as literals
use Rattle.sheet.specs.declared.token.Token.{Token}
use Rattle.sheet.specs.declared.token.Token.TheVariants as tokens

-- a group's delimiter: 0 parenthesis, 1 brace, 2 bracket, 3 invisible
abbrev pub delimiter_of : ℕ → Delimiter
delimiter_of s = cond (s == 0) Parenthesis (cond (s == 1) Brace (cond (s == 2) Bracket Invisible))

-- the part of a pool that a record's text is
abbrev pub part_of : Record → Part
part_of r = record { start = r.a; len = r.b }

-- an integer's magnitude, unless its mark says that it exceeds 64 bits
abbrev pub magnitude_of : Record → Option ℕ
magnitude_of r = cond (r.mark == 0) (Some r.value) None

-- a literal that is no string: 1 byte string, 2 C string, 3 byte, 4 char, 5 integer, 6 float, 7 other
abbrev pub literal_of : Record → Literal
literal_of r =
    cond (r.sub == 1) literals.ByteString
    (cond (r.sub == 2) literals.CString
    (cond (r.sub == 3) literals.Byte
    (cond (r.sub == 4) (literals.Char r.value)
    (cond (r.sub == 5) (literals.Integer (record { magnitude = magnitude_of r; bits = r.bits }))
    (cond (r.sub == 6) (literals.Float r.bits)
    literals.Other)))))

-- a record's token: kind 0 identifier, 1 punct, 2 literal (a string if its sub is 0), 3 group
abbrev pub token_of : Record → Token
token_of r =
    cond (r.kind == 0) (tokens.Ident (part_of r))
    (cond (r.kind == 1) (tokens.Punct (record { code = r.sub }))
    (cond (r.kind == 2) (cond (r.sub == 0) (tokens.String (part_of r)) (tokens.Literal (literal_of r)))
    (tokens.Group (record { delimiter = delimiter_of r.sub; first = r.a; count = r.b }))))

-- token i of a sheet
unfoldable pub token : Parts → ℕ → Token
token h i = token_of (entry h.records i)

-- a char literal's value is a Unicode scalar value
abbrev pub scalar_char : Record → Type 0
scalar_char r = r.sub ≡ 4 → is_scalar r.value ≡ true

-- the bytes of a part of a pool
abbrev pub bytes_of : List ℕ → Part → List ℕ
bytes_of pool p = take p.len (drop p.start pool)
