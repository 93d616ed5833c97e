-- The number of each refusal of a read, its detail, and the record that it names. Assumes nothing.
use Rattle.std.specs.Prelude.{ℕ, ◌≤◌}
use Rattle.token_de.specs.declared.fault.Fault.{Fault}
use Rattle.token_de.specs.declared.fault.Fault.TheVariants.{Wrong, Ended, Empty, NoEquals, NoSeparator, Leftover, Unreadable, Data}
use Rattle.token_de.specs.declared.fault.DataFault.{DataFault}
use Rattle.token_de.specs.declared.fault.DataFault.TheVariants.{Custom}
use Rattle.token_de.specs.declared.fault.Wanted.{Wanted}
use Rattle.token_de.specs.declared.fault.Wanted.TheVariants as wanted

abbrev pub number : Fault → ℕ
number (Wrong w i) = 10
number (Ended w i) = 11
number (Empty i) = 12
number (NoEquals i) = 13
number (NoSeparator i) = 14
number (Leftover i) = 15
number (Unreadable i) = 16
number (Data d i) = 17

abbrev pub at : Fault → ℕ
at (Wrong w i) = i
at (Ended w i) = i
at (Empty i) = i
at (NoEquals i) = i
at (NoSeparator i) = i
at (Leftover i) = i
at (Unreadable i) = i
at (Data d i) = i

abbrev pub wanted_number : Wanted → ℕ
wanted_number wanted.Bool = 1
wanted_number wanted.Signed = 2
wanted_number wanted.Unsigned = 3
wanted_number wanted.Float = 4
wanted_number wanted.Char = 5
wanted_number wanted.String = 6
wanted_number wanted.Identifier = 7
wanted_number wanted.Unit = 8
wanted_number wanted.Content = 15
wanted_number wanted.ContentInteger = 16

abbrev pub data_number : DataFault → ℕ
data_number (Custom n) = n

abbrev RangedData : DataFault → Type 0
RangedData (Custom n) = (100 ≤ n) × (n ≤ 255)

abbrev pub detail : Fault → ℕ
detail (Wrong w i) = wanted_number w
detail (Ended w i) = wanted_number w
detail (Empty i) = 0
detail (NoEquals i) = 0
detail (NoSeparator i) = 0
detail (Leftover i) = 0
detail (Unreadable i) = 0
detail (Data d i) = data_number d

-- a customer's data fault has a detail from 100 to 255
abbrev pub Ranged : Fault → Type 0
Ranged (Wrong w i) = Unit {0}
Ranged (Ended w i) = Unit {0}
Ranged (Empty i) = Unit {0}
Ranged (NoEquals i) = Unit {0}
Ranged (NoSeparator i) = Unit {0}
Ranged (Leftover i) = Unit {0}
Ranged (Unreadable i) = Unit {0}
Ranged (Data d i) = RangedData d
