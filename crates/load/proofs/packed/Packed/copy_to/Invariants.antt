use Rattle.std.proofs.Common.{◌≡◌, ◌++◌, take, drop}
use Rattle.load.specs.Files.{unpacked}
use Rattle.load.proofs.packed.Packed.copy_to.Given as goal

-- the first i places hold the first i records, and the later ones are as they were
abbrev pub invariant-loop-i : goal.invariant-loop-i
invariant-loop-i l = l.table ≡ unpacked (take l.i l.self.records.now) ++ drop l.i l.initial.table
