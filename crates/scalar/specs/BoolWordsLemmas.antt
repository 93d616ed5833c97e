-- The words of the bool seed. Assumes nothing.
use Rattle.std.specs.Prelude.{◌≡◌, Bool, Some, refl}
use Rattle.std.proofs.Common.{ap, ◌∙◌}
use mathlib.Core.List.{is_set}
use Rattle.std.proofs.Math.Nat.{ℕ_set}
use Rattle.layout.specs.Rules.{Parts}
use Rattle.sheet.specs.declared.token.Part.{Part}
use Rattle.sheet.specs.declared.token.Token.{Token}
use Rattle.sheet.specs.declared.token.Token.TheVariants as tokens
use Rattle.sheet.specs.Tokens.{token, bytes_of}
use Rattle.token_de.specs.declared.fault.Wanted.TheVariants as wanted
use Rattle.token_de.specs.Meaning.{Exact}
use Rattle.token_de.proofs.Trees.{single_exact}
use Rattle.scalar.specs.Bools.{truth, bool_of, bool_read, BoolWord, IsBool, spelling}
use Rattle.scalar.specs.Spellings.{spells, spelt}
use Rattle.scalar.specs.Tokens.{token_one}

read_so : (h : Parts) (t : Token) (v : Bool) → bool_of h t ≡ Some v → (part : Part) × (t ≡ tokens.Ident part) × (bytes_of h.names part ≡ spelling v)
read_so h (tokens.Ident p) v is = (p, refl, spells (bytes_of h.names p) v is)
read_so h _ v is = absurd (cc)

-- the seed takes its words
pub bool_exact : Exact bool_read BoolWord
bool_exact =
    single_exact wanted.Bool bool_of IsBool
    (λ h p. read_so h (token h p))
    (λ h p v w. ap (λ (t : Token). bool_of h t) w.1 ∙ ap truth w.2 ∙ spelt v)
    (λ h p v. token_one tokens.Ident (λ x y e. cc) (λ (part : Part). bytes_of h.names part ≡ spelling v) (λ _. is_set ℕ_set _ _) (token h p))
