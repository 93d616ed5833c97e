-- Content: what a read of it answers. Assumes nothing.
use Rattle.std.specs.Prelude.{ℕ, zero, suc, ◌+◌, ◌^◌, Bool, cond, ◌&&◌, pos, neg_ℤ, Some, None, Ok, Err, Option, ◌==◌, bit_or, nat_le, nat_lt}
use Rattle.std.specs.Option.{unwrap_or}
use Rattle.layout.specs.Rules.{Parts}
use Rattle.sheet.specs.declared.text.Pool.TheVariants.{Names, Strings}
use Rattle.layout.specs.declared.kind.Delimiter.{Delimiter}
use Rattle.layout.specs.declared.kind.Delimiter.TheVariants.{Parenthesis, Brace, Bracket, Invisible}
use Rattle.sheet.specs.declared.token.Part.{Part}
use Rattle.sheet.specs.declared.token.Punct.{Punct}
use Rattle.sheet.specs.declared.token.Literal.{Literal}
use Rattle.sheet.specs.declared.token.Literal.TheVariants as literals
use Rattle.sheet.specs.declared.token.Token.{Token}
use Rattle.sheet.specs.declared.token.Token.TheVariants as tokens
use Rattle.sheet.specs.Tokens.{token, bytes_of}
use Rattle.token_de.specs.declared.seed.Taken.{Taken}
use Rattle.token_de.specs.declared.fault.Fault.TheVariants.{Wrong, Ended, Empty, Leftover, Unreadable}
use Rattle.token_de.specs.declared.fault.Wanted.TheVariants as wanted
use Rattle.token_de.specs.Meaning.{Answer, Meaning}
use Rattle.token_de.specs.Steps.{◌then◌}
use Rattle.scalar.specs.Bools.{truth}
use Rattle.scalar.specs.declared.text.TextPart.{TextPart}
use Rattle.scalar.specs.Texts.{in_pool}
use Rattle.content.specs.declared.datum.Datum.{Datum}
use Rattle.content.specs.declared.datum.Datum.TheVariants as datum
use Rattle.content.specs.Bodies.{Reads, body, entry}

abbrev pub taken : {V : Type 0} → ℕ → V → Answer (Taken V)
taken n v = Ok (record { count = n; value = v })

-- an identifier, by the truth value that it spells
abbrev pub named : Option Bool → Part → Datum
named (Some b) p = datum.Bool b
named None p = datum.Text (in_pool Names p)

-- an integer of this magnitude at p
abbrev pub integer_value : Option ℕ → ℕ → Answer Datum
integer_value (Some n) p = Ok (datum.Unsigned n)
integer_value None p = Err (Wrong wanted.ContentInteger p)

-- a literal at p that is no string
abbrev pub literal_value : Literal → ℕ → Answer Datum
literal_value (literals.Char c) p = Ok (datum.Char c)
literal_value (literals.Integer i) p = integer_value i.magnitude p
literal_value (literals.Float b) p = Ok (datum.Float b)
literal_value literals.ByteString p = Err (Unreadable p)
literal_value literals.CString p = Err (Unreadable p)
literal_value literals.Byte p = Err (Unreadable p)
literal_value literals.Other p = Err (Unreadable p)

-- the same behind a `-` at p, which sets bit 63 of a float
abbrev pub negated_integer : Option ℕ → ℕ → Answer Datum
negated_integer (Some n) p = cond (nat_le n (2 ^ 63)) (Ok (datum.Signed (neg_ℤ (pos n)))) (Err (Wrong wanted.ContentInteger p))
negated_integer None p = Err (Wrong wanted.ContentInteger p)

abbrev pub negated_literal : Literal → ℕ → Answer Datum
negated_literal (literals.Integer i) p = negated_integer i.magnitude p
negated_literal (literals.Float b) p = Ok (datum.Float (bit_or b 0x8000000000000000))
negated_literal (literals.Char c) p = Err (Wrong wanted.Content p)
negated_literal literals.ByteString p = Err (Wrong wanted.Content p)
negated_literal literals.CString p = Err (Wrong wanted.Content p)
negated_literal literals.Byte p = Err (Wrong wanted.Content p)
negated_literal literals.Other p = Err (Wrong wanted.Content p)

abbrev pub negated : Token → ℕ → Answer Datum
negated (tokens.Literal l) p = negated_literal l p
negated (tokens.Ident k) p = Err (Wrong wanted.Content p)
negated (tokens.String k) p = Err (Wrong wanted.Content p)
negated (tokens.Punct k) p = Err (Wrong wanted.Content p)
negated (tokens.Group g) p = Err (Wrong wanted.Content p)

-- a punct at p: a `-` before a number
abbrev pub from_punct : Parts → ℕ → ℕ → Punct → Answer (Taken Datum)
from_punct h p e k = cond (k.code == 45 && nat_lt (p + 1) e) (negated (token h (p + 1)) p then (λ v. taken 2 v)) (Err (Wrong wanted.Content p))

-- the one word of an invisible group
abbrev pub alone : ℕ → ℕ → Taken Datum → Answer (Taken Datum)
alone first count t = cond (t.count == count) (taken 1 t.value) (Err (Leftover (first + t.count)))

abbrev pub list_value : ℕ → ℕ → Answer (Taken Datum)
list_value p n = taken 1 (datum.List (record { group = p; count = n }))

abbrev pub map_value : ℕ → ℕ → Answer (Taken Datum)
map_value p n = taken 1 (datum.Map (record { group = p; count = n }))

-- a group at p; m are the reads of content one level down
abbrev pub from_group : Parts → Reads Datum → ℕ → ℕ → ℕ → Delimiter → Answer (Taken Datum)
from_group h m p first count Parenthesis = cond (count == 0) (taken 1 datum.Empty) (body h m first (first + count) then list_value p)
from_group h m p first count Bracket = body h m first (first + count) then list_value p
from_group h m p first count Brace = body h (entry h m m) first (first + count) then map_value p
from_group h m p first count Invisible = cond (count == 0) (Err (Empty p)) (m first (first + count) None then alone first count)

abbrev pub from_token : Parts → Reads Datum → ℕ → ℕ → Token → Answer (Taken Datum)
from_token h m p e (tokens.Ident k) = taken 1 (named (truth (bytes_of h.names k)) k)
from_token h m p e (tokens.String k) = taken 1 (datum.Text (in_pool Strings k))
from_token h m p e (tokens.Punct k) = from_punct h p e k
from_token h m p e (tokens.Literal l) = literal_value l p then (λ v. taken 1 v)
from_token h m p e (tokens.Group g) = from_group h m p g.first g.count g.delimiter

abbrev pub none_left : {V : Type 0} → Option ℕ → Answer (Taken V)
none_left last = Err (Ended wanted.Content (unwrap_or last 0))

abbrev pub text_value : Taken TextPart → Answer (Taken Datum)
text_value t = taken t.count (datum.Text t.value)

-- content of at most n levels
unfoldable pub content : ℕ → Meaning Datum
content zero h p e last = none_left last
content (suc n) h p e last = cond (nat_lt p e) (from_token h (content n h) p e (token h p)) (none_left last)

-- record 0 stands alone on its level, and 32 levels lie below it
abbrev pub any_read : Meaning Datum
any_read = content 33

abbrev pub no_value : Taken Datum → Answer (Taken (Unit {0}))
no_value t = taken t.count tt

abbrev pub ignored_read : Meaning (Unit {0})
ignored_read h p e last = any_read h p e last then no_value
