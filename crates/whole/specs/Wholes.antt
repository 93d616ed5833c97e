-- A whole file, read as one value. Assumes nothing.
use Rattle.std.specs.Prelude.{◌≡◌, ℕ, ◌<◌, List, ◌++◌, length, drop, None, Err}
use Rattle.layout.specs.declared.record.Record.{Record}
use Rattle.layout.specs.Rules.{Parts, limits, InBody}
use Rattle.load.specs.Files.{Takes}
use Rattle.load.specs.Files as files
use Rattle.token_de.specs.declared.fault.Fault.{Fault}
use Rattle.token_de.specs.Meaning.{Meaning, Grammar}
use Rattle.access.specs.Nested.{InTree}
use Rattle.whole.specs.declared.error.FileError.{FileError}
use Rattle.whole.specs.declared.error.FileError.TheVariants.{Load, Read}

-- every record lies in the tree of record 0, and each but record 0 in the body of exactly one group
pub record Covers (rs : List Record) : Type 0 where
  pub in_tree : (i : ℕ) → i < length rs → InTree rs 0 i
  pub one_body : (i : ℕ) → 0 < i → i < length rs → (g : ℕ) × InBody rs g i × ((f : ℕ) → InBody rs f i → f ≡ g)

-- record 0 of a sheet is a word of this value, with no other value and no other reading
pub record RootAccepted {V : Type 0} (w : Grammar V) (h : Parts) (v : V) : Type 0 where
  pub word : w h 0 1 v
  pub only : (u : V) (x : w h 0 1 u) → ◌≡◌ {A = (u : V) × w h 0 1 u} (u, x) (v, word)

-- record 0 is no word, and the fault is that of the seed's meaning
pub record RootRefused {V : Type 0} (m : Meaning V) (w : Grammar V) (h : Parts) (x : Fault) : Type 0 where
  pub none : (u : V) → w h 0 1 u → ⊥
  pub fault : m h 0 1 None ≡ Err x

-- the table after a load of these parts: their records, and the later places as they were
abbrev pub Loaded : Parts → List Record → List Record → Type 0
Loaded p before after = after ≡ p.records ++ drop (length p.records) before

-- a reading of a file: parts that it is the bytes of, and their record 0 as a word
abbrev pub Reading : {V : Type 0} → Grammar V → Type 0
Reading {V} w = (p : Parts) × (v : V) × w p 0 1 v

-- ACCEPTED: the file is the bytes of parts whose record 0 is a word of this value; it has no other reading; and no record of the file stands outside that word
pub record Accepted {V : Type 0} (w : Grammar V) (f : List ℕ) (before after : List Record) (v : V) : Type 0 where
  pub parts : Parts
  pub takes : Takes limits f (length before) parts
  pub word : w parts 0 1 v
  pub only : (p : Parts) → Takes limits f (length before) p → (u : V) (x : w p 0 1 u) → ◌≡◌ {A = Reading w} (p, u, x) (parts, v, word)
  pub covers : Covers parts.records
  pub table : Loaded parts before after

-- REFUSED: the file has no reading, and the fault is the load's or the read's, whole
pub record Unread {V : Type 0} (m : Meaning V) (f : List ℕ) (before after : List Record) (x : Fault) : Type 0 where
  pub parts : Parts
  pub takes : Takes limits f (length before) parts
  pub fault : m parts 0 1 None ≡ Err x
  pub table : Loaded parts before after

abbrev pub Why : {V : Type 0} → Meaning V → List ℕ → List Record → List Record → FileError → Type 0
Why m f before after (Load x) = files.Refused limits f before after x
Why m f before after (Read x) = Unread m f before after x

pub record Refused {V : Type 0} (m : Meaning V) (w : Grammar V) (f : List ℕ) (before after : List Record) (x : FileError) : Type 0 where
  pub none : (p : Parts) → Takes limits f (length before) p → (u : V) → w p 0 1 u → ⊥
  pub why : Why m f before after x
