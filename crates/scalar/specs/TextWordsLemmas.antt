-- The words of the identifier and the string seed. Assumes nothing.
use Rattle.std.proofs.Common.{arith}
use Rattle.std.proofs.lemmas.Bool.Decides.{nat_tests}
use Rattle.token_de.specs.declared.fault.Wanted.TheVariants as wanted
use Rattle.token_de.specs.Meaning.{Exact}
use Rattle.token_de.proofs.Trees.{token_set, single_exact}
use Rattle.scalar.specs.Texts.{identifier_read, IdentifierWord, identifier_of, IsIdentifier, string_read, StringWord, string_of, IsText}
use base.Stored.{Coded-set}
use Rattle.sheet.specs.contracts.text.Pool.{the_row}
use Rattle.sheet.specs.declared.text.Pool.{Pool}

pub pool_set : IsSet Pool
pool_set = Coded-set the_row.coded

-- the seeds take their words
pub identifier_exact : Exact identifier_read IdentifierWord
identifier_exact =
    single_exact wanted.Identifier identifier_of IsIdentifier
    (λ h p v is. (grind (arith, nat_tests), grind (arith, nat_tests)))
    (λ h p v w. grind (arith, nat_tests))
    (λ h p v. hlevel (token_set, pool_set))

pub string_exact : Exact string_read StringWord
string_exact =
    single_exact wanted.String string_of IsText
    (λ h p v is. grind (arith, nat_tests))
    (λ h p v w. grind (arith, nat_tests))
    (λ h p v. token_set _ _)
