use Rattle.std.proofs.Common.{refl}
use Rattle.layout.specs.Scan.{first_fault, kept}
use Rattle.sheet.proofs.sheet.Sheet.empty.Goals as goal

pub invariant_of-result : goal.invariant_of-result
unfolding kept first_fault
invariant_of-result c = record { lawful = refl }
