-- How deep the groups of a run nest. Assumes nothing.
use Rattle.std.specs.Prelude.{ℕ, zero, suc, ◌+◌, ◌<◌, ◌≤◌}
use Rattle.layout.specs.Rules.{Parts}
use Rattle.sheet.specs.declared.token.Token.{Token}
use Rattle.sheet.specs.declared.token.Token.TheVariants as tokens
use Rattle.sheet.specs.Tokens.{token}

-- P of the ends of a group's body
abbrev pub Inside : (ℕ → ℕ → Type 0) → Token → Type 0
Inside P (tokens.Ident p) = Unit {0}
Inside P (tokens.String p) = Unit {0}
Inside P (tokens.Punct p) = Unit {0}
Inside P (tokens.Literal l) = Unit {0}
Inside P (tokens.Group g) = P g.first (g.first + g.count)

-- the tokens from p up to e, and what is in them, make at most n levels
unfoldable pub Levels : ℕ → Parts → ℕ → ℕ → Type 0
Levels zero h p e = e ≤ p
Levels (suc n) h p e = (i : ℕ) → p ≤ i → i < e → Inside (Levels n h) (token h i)
