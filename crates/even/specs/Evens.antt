-- Even integers. Assumes nothing.
use Rattle.std.specs.Prelude.{ℕ, ◌%◌, eqb}
use Rattle.token_de.specs.declared.fault.Wanted.TheVariants as wanted
use Rattle.token_de.specs.Meaning.{Meaning}
use Rattle.token_de.specs.Steps.{tested}
use Rattle.scalar.specs.Integers.{magnitude_of}

-- one integer literal that fits 64 bits, and is even; else the data fault 100
abbrev pub even_read : Meaning ℕ
even_read = tested wanted.Unsigned (λ h t. magnitude_of t) (λ v. eqb (v % 2) 0) 100
