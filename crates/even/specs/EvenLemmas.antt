-- Even integers are a lawful seed. Assumes nothing.
use Rattle.std.proofs.Common.{◌%◌, eqb, arith}
use Rattle.token_de.specs.declared.fault.Wanted.TheVariants as wanted
use Rattle.token_de.specs.Meaning.{Lawful}
use Rattle.token_de.proofs.Trees.{tested_lawful}
use Rattle.scalar.specs.Integers.{magnitude_of}
use Rattle.even.specs.Evens.{even_read}

pub even_lawful : Lawful even_read
even_lawful = tested_lawful wanted.Unsigned (λ h t. magnitude_of t) (λ v. eqb (v % 2) 0) 100 (omega arith) (omega arith)
