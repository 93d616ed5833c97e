-- The words of the char seed. Assumes nothing.
use Rattle.std.proofs.Common.{arith}
use Rattle.std.proofs.lemmas.Bool.Decides.{nat_tests}
use Rattle.token_de.specs.declared.fault.Wanted.TheVariants as wanted
use Rattle.token_de.specs.Meaning.{Exact}
use Rattle.token_de.proofs.Trees.{token_set, single_exact}
use Rattle.scalar.specs.Chars.{char_read, CharWord, char_of, IsChar}

-- the seed takes its words
pub char_exact : Exact char_read CharWord
char_exact =
    single_exact wanted.Char char_of IsChar
    (λ h p v is. grind (arith, nat_tests))
    (λ h p v w. grind (arith, nat_tests))
    (λ h p v. token_set _ _)
