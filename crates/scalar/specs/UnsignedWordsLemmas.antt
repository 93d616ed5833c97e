-- The words of the unsigned seeds. Assumes nothing.
use Rattle.std.specs.Prelude.{◌≡◌, ℕ, ◌≤◌, Some, None, Option}
use Rattle.std.proofs.Common.{ap, ◌∙◌, arith}
use Rattle.std.proofs.Math.Bridge.{le_prop}
use Rattle.std.proofs.lemmas.Bool.Decides.{nat_tests}
use Rattle.sheet.specs.declared.token.Token.{Token}
use Rattle.sheet.specs.Tokens.{token}
use Rattle.token_de.specs.declared.fault.Wanted.TheVariants as wanted
use Rattle.token_de.specs.Meaning.{Exact}
use Rattle.token_de.proofs.Trees.{single_exact}
use Rattle.scalar.specs.declared.unsigned.Unsigned.{Unsigned}
use Rattle.scalar.specs.Unsigneds.{between, unsigned_of, unsigned_read, UnsignedWord, IsUnsigned}
use Rattle.scalar.specs.Integers.{magnitude_of, integer}
use Rattle.scalar.specs.Tokens.{token_one, integer_of, integer_bits}

-- what is between the ends is the magnitude
pub inside : (s : Unsigned) (o : Option ℕ) (v : ℕ) → between s o ≡ Some v → (o ≡ Some v) × (s.low ≤ v) × (v ≤ s.high)
inside s None v is = absurd (cc)
inside s (Some m) v is = (grind (arith, nat_tests), grind (arith, nat_tests), grind (arith, nat_tests))

ends : (s : Unsigned) (v : ℕ) → s.low ≤ v → v ≤ s.high → between s (Some v) ≡ Some v
ends s v low high = grind (arith, nat_tests)

-- the seed takes its words
pub unsigned_exact : (s : Unsigned) → Exact (unsigned_read s) (UnsignedWord s)
unsigned_exact s =
    single_exact wanted.Unsigned (unsigned_of s) (IsUnsigned s)
    (λ h p v is. let k = inside s (magnitude_of (token h p)) v is in let i = integer_of (token h p) v k.0 in (i.0, i.1, (k.1, k.2)))
    (λ h p v w. ap (λ (t : Token). unsigned_of s h t) w.1 ∙ ends s v w.2.0 w.2.1)
    (λ h p v. token_one (integer v) (integer_bits v) (λ _. (s.low ≤ v) × (v ≤ s.high)) (λ _. hlevel (le_prop)) (token h p))
