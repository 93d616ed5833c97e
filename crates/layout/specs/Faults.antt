-- The number of each refusal of a load, and the record that it names. Assumes nothing.
use Rattle.std.specs.Prelude.{ℕ}
use Rattle.layout.specs.declared.fault.LoadFault.{LoadFault}
use Rattle.layout.specs.declared.fault.LoadFault.TheVariants.{Short, OutOfRange, WrongLength, OffLine, Misplaced, TooDeep, SmallTable}

abbrev pub number : LoadFault → ℕ
number Short = 1
number OutOfRange = 2
number WrongLength = 3
number (OffLine i) = 4
number (Misplaced i) = 5
number (TooDeep i) = 6
number SmallTable = 7

abbrev pub at : LoadFault → ℕ
at Short = 0
at OutOfRange = 0
at WrongLength = 0
at (OffLine i) = i
at (Misplaced i) = i
at (TooDeep i) = i
at SmallTable = 0
