-- A tree with its bodies. Assumes nothing.
use Rattle.std.specs.Prelude.{ℕ, List}
use Rattle.layout.specs.declared.record.Record.{Record}
use Rattle.layout.specs.Rules.{InBody}

-- record i lies in the tree of record k: it is k, or it is in the body of a group that lies in that tree
pub data InTree (rs : List Record) (k : ℕ) : ℕ → Type 0 where
  self : InTree rs k k
  inside : {g : ℕ} (i : ℕ) → InBody rs g i → InTree rs k g → InTree rs k i
