-- The comma and the `=` that stand behind what a seed took. Assumes nothing.
use Rattle.std.specs.Prelude.{◌≡◌, ℕ, ◌+◌, ◌-◌, Bool, false, cond, Some, Ok, Err, ◌==◌, nat_lt}
use Rattle.layout.specs.Rules.{Parts}
use Rattle.sheet.specs.declared.token.Token.{Token}
use Rattle.sheet.specs.declared.token.Token.TheVariants as tokens
use Rattle.sheet.specs.declared.input.Input.{Input}
use Rattle.sheet.specs.Tokens.{token}
use Rattle.sheet.specs.Sheets.{held}
use Rattle.sheet.specs.Inputs.{behind}
use Rattle.token_de.specs.declared.fault.Fault.{Fault}
use Rattle.token_de.specs.declared.fault.Fault.TheVariants.{NoEquals, NoSeparator}
use Rattle.token_de.specs.Meaning.{Answer}

-- a token is the punct of this code
abbrev pub is : ℕ → Token → Bool
is c (tokens.Punct k) = k.code == c
is c (tokens.Ident p) = false
is c (tokens.String p) = false
is c (tokens.Literal l) = false
is c (tokens.Group g) = false

-- past the comma at q, or the end
abbrev pub after : Parts → ℕ → ℕ → Answer ℕ
after h q e = cond (nat_lt q e) (cond (is 44 (token h q)) (Ok (q + 1)) (Err (NoSeparator q))) (Ok q)

-- the `=` at q behind a key at p
abbrev pub equals : Parts → ℕ → ℕ → ℕ → Answer ℕ
equals h p q e = cond (nat_lt q e) (cond (is 61 (token h q)) (Ok q) (Err (NoEquals q))) (Err (NoEquals p))

-- n trees of x are the comma, or it is at the end
abbrev pub Comma : Input → ℕ → Type 0
Comma x n = after (held x.sheet) x.rest.from x.rest.to ≡ Ok (x.rest.from + n)

-- y is left of x past a comma, or at the end
pub record PastComma (x y : Input) : Type 0 where
  pub sheet : y.sheet ≡ x.sheet
  pub place : after (held x.sheet) x.rest.from x.rest.to ≡ Ok y.rest.from
  pub to : y.rest.to ≡ x.rest.to
  pub rest : y.rest ≡ behind x.rest (y.rest.from - x.rest.from)

abbrev pub NoComma : Input → Fault → Type 0
NoComma x f = after (held x.sheet) x.rest.from x.rest.to ≡ Err f

-- the `=` stands behind the key of n trees of x
abbrev pub Equals : Input → ℕ → Type 0
Equals x n = equals (held x.sheet) x.rest.from (behind x.rest n).from x.rest.to ≡ Ok (behind x.rest n).from

-- y is left of x past the `=` behind its key of n trees
pub record PastEquals (x : Input) (n : ℕ) (y : Input) : Type 0 where
  pub sheet : y.sheet ≡ x.sheet
  pub equals_at : ℕ
  pub place : equals (held x.sheet) x.rest.from (behind x.rest n).from x.rest.to ≡ Ok equals_at
  pub rest : y.rest ≡ record { from = equals_at + 1; to = x.rest.to; last = Some equals_at }

abbrev pub NotEquals : Input → ℕ → Fault → Type 0
NotEquals x n f = equals (held x.sheet) x.rest.from (behind x.rest n).from x.rest.to ≡ Err f
