use Rattle.std.proofs.Common.{arith}
use Rattle.load.proofs.Files.{unpacked_chunks}
use Rattle.load.proofs.packed.Packed.new.Goals as goal

pub returns-clause-records : goal.returns-clause-records
returns-clause-records c = unpacked_chunks _ _ _ _ c.as_chunks.ensures.front c.as_chunks.ensures.front_len (omega arith)
