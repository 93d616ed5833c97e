-- The grammar of content by levels, over which the proofs go by induction. Assumes nothing.
use Rattle.std.specs.Prelude.{◌≡◌, ℕ, zero, suc, ◌+◌, ◌<◌, true}
use Rattle.layout.specs.Rules.{Parts}
use Rattle.layout.specs.declared.kind.Delimiter.{Delimiter}
use Rattle.layout.specs.declared.kind.Delimiter.TheVariants.{Parenthesis, Brace, Bracket, Invisible}
use Rattle.sheet.specs.declared.token.Punct.{Punct}
use Rattle.sheet.specs.declared.token.Group.{Group}
use Rattle.sheet.specs.declared.token.Token.{Token}
use Rattle.sheet.specs.declared.token.Token.TheVariants as tokens
use Rattle.sheet.specs.Tokens.{token}
use Rattle.content.specs.declared.datum.Datum.{Datum}
use Rattle.content.specs.declared.datum.Datum.TheVariants as datum
use Rattle.content.specs.Bodies.{is}
use Rattle.content.specs.Trees.{Plain, Negated}

-- from p up to e: nothing, or a word, or a word, a comma and a list body; n words in all
pub data Items {V : Type 0} (h : Parts) (W : ℕ → ℕ → V → Type 0) (e : ℕ) : ℕ → ℕ → Type 0 where
  none : {p n : ℕ} → p ≡ e → n ≡ 0 → Items h W e p n
  final : {p n : ℕ} → p < e → (v : V) → W p e v → n ≡ 1 → Items h W e p n
  more : {p n : ℕ} (q : ℕ) → p < q → q < e → (v : V) → W p q v → is 44 (token h q) ≡ true → (m : ℕ) → Items h W e (q + 1) m → n ≡ m + 1 → Items h W e p n

-- from p up to q: a key up to a `=`, and a value behind it
abbrev pub Entry : {K V : Type 0} → Parts → (ℕ → ℕ → K → Type 0) → (ℕ → ℕ → V → Type 0) → ℕ → ℕ → K × V → Type 0
Entry h WK WV p q kv = (r : ℕ) × (p < r) × (r + 1 < q) × WK p r kv.0 × (is 61 (token h r) ≡ true) × WV (r + 1) q kv.1

-- W are the words one level down
pub data Grouped (h : Parts) (W : ℕ → ℕ → Datum → Type 0) (p : ℕ) (v : Datum) (first count : ℕ) : Delimiter → Type 0 where
  empty : count ≡ 0 → v ≡ datum.Empty → Grouped h W p v first count Parenthesis
  parenthesis : 0 < count → (n : ℕ) → Items h W (first + count) first n → v ≡ datum.List (record { group = p; count = n }) → Grouped h W p v first count Parenthesis
  bracket : (n : ℕ) → Items h W (first + count) first n → v ≡ datum.List (record { group = p; count = n }) → Grouped h W p v first count Bracket
  brace : (n : ℕ) → Items h (Entry h W W) (first + count) first n → v ≡ datum.Map (record { group = p; count = n }) → Grouped h W p v first count Brace
  invisible : 0 < count → W first (first + count) v → Grouped h W p v first count Invisible

pub data Shape (h : Parts) (W : ℕ → ℕ → Datum → Type 0) (p q : ℕ) (v : Datum) : Token → Type 0 where
  plain : {t : Token} → q ≡ p + 1 → Plain h v t → Shape h W p q v t
  negative : {k : Punct} → q ≡ p + 2 → k.code ≡ 45 → Negated v (token h (p + 1)) → Shape h W p q v (tokens.Punct k)
  group : {g : Group} → q ≡ p + 1 → Grouped h W p v g.first g.count g.delimiter → Shape h W p q v (tokens.Group g)

-- a content word of at most n levels
unfoldable pub Content : ℕ → Parts → ℕ → ℕ → Datum → Type 0
Content zero h p q v = ⊥
Content (suc n) h p q v = Shape h (Content n h) p q v (token h p)
