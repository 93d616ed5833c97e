-- The words of the unit seed. Assumes nothing.
use Rattle.std.specs.Prelude.{◌≡◌, true, Some, refl}
use Rattle.layout.specs.Rules.{Parts}
use Rattle.std.proofs.Common.{arith}
use Rattle.std.proofs.Math.Nat.{ℕ_set}
use base.Stored.{Coded-set}
use Rattle.std.proofs.lemmas.Bool.Decides.{nat_tests}
use Rattle.sheet.specs.contracts.token.Delimiter.{the_row}
use Rattle.layout.specs.declared.kind.Delimiter.{Delimiter}
use Rattle.layout.specs.declared.kind.Delimiter.TheVariants.{Parenthesis}
use Rattle.sheet.specs.declared.token.Group.{Group}
use Rattle.sheet.specs.declared.token.Token.{Token}
use Rattle.sheet.specs.declared.token.Token.TheVariants as tokens
use Rattle.sheet.specs.Tokens.{token}
use Rattle.token_de.specs.declared.fault.Wanted.TheVariants as wanted
use Rattle.token_de.specs.Meaning.{Exact}
use Rattle.token_de.proofs.Trees.{single_exact}
use Rattle.scalar.specs.Tokens.{token_one}
use Rattle.scalar.specs.Units.{parenthesis, unit_of, unit_read, UnitWord, IsUnit}

pub delimiter_set : IsSet Delimiter
delimiter_set = Coded-set the_row.coded

parens : (d : Delimiter) → parenthesis d ≡ true → d ≡ Parenthesis
parens Parenthesis is = refl
parens _ is = absurd (cc)

pub empty : (h : Parts) (t : Token) (v : Unit {0}) → unit_of h t ≡ Some v → (g : Group) × (t ≡ tokens.Group g) × ((g.delimiter ≡ Parenthesis) × (g.count ≡ 0))
empty h (tokens.Group g) v is = (g, refl, (parens g.delimiter (grind (arith, nat_tests)), grind (arith, nat_tests)))
empty h _ v is = absurd (cc)

-- the seed takes its words
pub unit_exact : Exact unit_read UnitWord
unit_exact =
    single_exact wanted.Unit unit_of IsUnit
    (λ h p. empty h (token h p))
    (λ h p v w. grind (arith, nat_tests))
    (λ h p v. token_one tokens.Group (λ x y e. cc) (λ (g : Group). (g.delimiter ≡ Parenthesis) × (g.count ≡ 0)) (λ g. hlevel (delimiter_set, ℕ_set)) (token h p))
