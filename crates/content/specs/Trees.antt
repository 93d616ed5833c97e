-- The grammar of content: its words, its groups, its lists and its members, each by the others. Assumes nothing.
use Rattle.std.specs.Prelude.{◌≡◌, ℕ, ◌+◌, ◌^◌, ◌<◌, ◌≤◌, Bool, true, pos, neg_ℤ, Some, ◌≢◌, bit_or}
use Rattle.layout.specs.Rules.{Parts}
use Rattle.sheet.specs.declared.text.Pool.TheVariants.{Names, Strings}
use Rattle.layout.specs.declared.kind.Delimiter.{Delimiter}
use Rattle.layout.specs.declared.kind.Delimiter.TheVariants.{Parenthesis, Brace, Bracket, Invisible}
use Rattle.sheet.specs.declared.token.Part.{Part}
use Rattle.sheet.specs.declared.token.Punct.{Punct}
use Rattle.sheet.specs.declared.token.Integer.{Integer}
use Rattle.sheet.specs.declared.token.Literal.TheVariants as literals
use Rattle.sheet.specs.declared.token.Group.{Group}
use Rattle.sheet.specs.declared.token.Token.{Token}
use Rattle.sheet.specs.declared.token.Token.TheVariants as tokens
use Rattle.sheet.specs.Tokens.{token, bytes_of}
use Rattle.token_de.specs.Meaning.{Grammar}
use Rattle.scalar.specs.Bools.{spelling}
use Rattle.scalar.specs.Texts.{in_pool}
use Rattle.content.specs.declared.datum.Datum.{Datum}
use Rattle.content.specs.declared.datum.Datum.TheVariants as datum
use Rattle.content.specs.Bodies.{is}

-- one token with the value v: a name that spells no truth value is a text
pub data Plain (h : Parts) (v : Datum) : Token → Type 0 where
  truth : {k : Part} → (b : Bool) → bytes_of h.names k ≡ spelling b → v ≡ datum.Bool b → Plain h v (tokens.Ident k)
  name : {k : Part} → ((b : Bool) → bytes_of h.names k ≢ spelling b) → v ≡ datum.Text (in_pool Names k) → Plain h v (tokens.Ident k)
  string : {k : Part} → v ≡ datum.Text (in_pool Strings k) → Plain h v (tokens.String k)
  char : {c : ℕ} → v ≡ datum.Char c → Plain h v (tokens.Literal (literals.Char c))
  integer : {i : Integer} → (n : ℕ) → i.magnitude ≡ Some n → v ≡ datum.Unsigned n → Plain h v (tokens.Literal (literals.Integer i))
  float : {b : ℕ} → v ≡ datum.Float b → Plain h v (tokens.Literal (literals.Float b))

-- a token behind a `-`, with the value v of both
pub data Negated (v : Datum) : Token → Type 0 where
  negative_integer : {i : Integer} → (n : ℕ) → i.magnitude ≡ Some n → n ≤ 2 ^ 63 → v ≡ datum.Signed (neg_ℤ (pos n)) → Negated v (tokens.Literal (literals.Integer i))
  negative_float : {b : ℕ} → v ≡ datum.Float (bit_or b 0x8000000000000000) → Negated v (tokens.Literal (literals.Float b))

mutual
  -- from p up to q, with the value v, the first token being t
  pub data Word (h : Parts) : ℕ → ℕ → Datum → Token → Type 0 where
    plain : {p q : ℕ} {v : Datum} {t : Token} → q ≡ p + 1 → Plain h v t → Word h p q v t
    negative : {p q : ℕ} {v : Datum} {k : Punct} → q ≡ p + 2 → k.code ≡ 45 → Negated v (token h (p + 1)) → Word h p q v (tokens.Punct k)
    group : {p q : ℕ} {v : Datum} {g : Group} → q ≡ p + 1 → WordGroup h p v g.first g.count g.delimiter → Word h p q v (tokens.Group g)

  -- a group at p with the value v
  pub data WordGroup (h : Parts) : ℕ → Datum → ℕ → ℕ → Delimiter → Type 0 where
    empty : {p first count : ℕ} {v : Datum} → count ≡ 0 → v ≡ datum.Empty → WordGroup h p v first count Parenthesis
    parenthesis : {p first count : ℕ} {v : Datum} → 0 < count → (n : ℕ) → WordList h (first + count) first n → v ≡ datum.List (record { group = p; count = n }) → WordGroup h p v first count Parenthesis
    bracket : {p first count : ℕ} {v : Datum} → (n : ℕ) → WordList h (first + count) first n → v ≡ datum.List (record { group = p; count = n }) → WordGroup h p v first count Bracket
    brace : {p first count : ℕ} {v : Datum} → (n : ℕ) → WordMembers h (first + count) first n → v ≡ datum.Map (record { group = p; count = n }) → WordGroup h p v first count Brace
    invisible : {p first count : ℕ} {v : Datum} → 0 < count → Word h first (first + count) v (token h first) → WordGroup h p v first count Invisible

  -- a list body from p up to e, of n words
  pub data WordList (h : Parts) : ℕ → ℕ → ℕ → Type 0 where
    none : {e p n : ℕ} → p ≡ e → n ≡ 0 → WordList h e p n
    last : {e p n : ℕ} → p < e → (v : Datum) → Word h p e v (token h p) → n ≡ 1 → WordList h e p n
    more : {e p n : ℕ} (q : ℕ) → p < q → q < e → (v : Datum) → Word h p q v (token h p) → is 44 (token h q) ≡ true → (m : ℕ) → WordList h e (q + 1) m → n ≡ m + 1 → WordList h e p n

  -- a member body from p up to e, of n entries: a key up to the `=` at r, a value behind it
  pub data WordMembers (h : Parts) : ℕ → ℕ → ℕ → Type 0 where
    no_entry : {e p n : ℕ} → p ≡ e → n ≡ 0 → WordMembers h e p n
    last_entry : {e p n : ℕ} (r : ℕ) → p < r → r + 1 < e → (k v : Datum) → Word h p r k (token h p) → is 61 (token h r) ≡ true → Word h (r + 1) e v (token h (r + 1)) → n ≡ 1 → WordMembers h e p n
    more_entry : {e p n : ℕ} (r q : ℕ) → p < r → r + 1 < q → q < e → (k v : Datum) → Word h p r k (token h p) → is 61 (token h r) ≡ true → Word h (r + 1) q v (token h (r + 1)) → is 44 (token h q) ≡ true → (m : ℕ) → WordMembers h e (q + 1) m → n ≡ m + 1 → WordMembers h e p n

-- a content word from p up to q
abbrev pub AnyWord : Grammar Datum
AnyWord h p q v = Word h p q v (token h p)

-- the same of any value
abbrev pub IgnoredWord : Grammar (Unit {0})
IgnoredWord h p q u = (v : Datum) × AnyWord h p q v
