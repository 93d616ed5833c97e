-- The sheet file: its bytes, which files are taken, and why the others are refused. Assumes nothing.
use Rattle.std.specs.Prelude.{◌≡◌, ℕ, ◌+◌, ◌*◌, ◌<◌, ◌≤◌, true, false, cond, List, ◌++◌, map, length, take, drop, Some, Option, ◌==◌, ◌≢◌, nat_le, nat_lt, slice_index}
use Rattle.std.specs.List.{range_with_len}
use Rattle.layout.specs.declared.record.Record.{Record}
use Rattle.layout.specs.declared.limits.Limits.{Limits}
use Rattle.layout.specs.declared.fault.LoadFault.{LoadFault}
use Rattle.layout.specs.declared.fault.LoadFault.TheVariants.{Short, OutOfRange, WrongLength, OffLine, Misplaced, TooDeep, SmallTable}
use Rattle.layout.specs.Rules.{Parts, entry, sized, Kept, FirstBreak}
use Rattle.layout.specs.Scan.{first_fault}

-- THE BYTES
-- the number at byte i, low byte first, over 2, 4 and 8 bytes
abbrev pub le16 : List ℕ → ℕ → ℕ
le16 bs i = slice_index bs i + slice_index bs (i + 1) * 256

abbrev pub le32 : List ℕ → ℕ → ℕ
le32 bs i = slice_index bs i + slice_index bs (i + 1) * 256 + slice_index bs (i + 2) * 65536 + slice_index bs (i + 3) * 16777216

abbrev pub le64 : List ℕ → ℕ → ℕ
le64 bs i = le32 bs i + le32 bs (i + 4) * 4294967296

-- the record in the 32 bytes from byte i on
unfoldable pub record_at : List ℕ → ℕ → Record
record_at bs i = record { kind = slice_index bs i; sub = slice_index bs (i + 1); mark = le16 bs (i + 2); a = le32 bs (i + 4); b = le32 bs (i + 8); place = le32 bs (i + 12); value = le64 bs (i + 16); bits = le64 bs (i + 24) }

-- n records, one after the other
unfoldable pub records_of : ℕ → List ℕ → List Record
records_of n bs = map (λ k. record_at bs (32 * k)) (range_with_len 0 n)

-- the records of parts of 32 bytes each
abbrev pub unpacked : List (List ℕ) → List Record
unpacked parts = map (λ bs. record_at bs 0) parts

-- the head's three numbers, and what follows its twelve bytes
abbrev pub N : List ℕ → ℕ
N f = le32 f 0

abbrev pub L1 : List ℕ → ℕ
L1 f = le32 f 4

abbrev pub L2 : List ℕ → ℕ
L2 f = le32 f 8

abbrev pub after_head : List ℕ → List ℕ
after_head f = drop 12 f

-- a file is exactly the bytes of these parts: the head with their sizes, each record in 32 bytes, the names, the strings
pub record Encodes (f : List ℕ) (p : Parts) : Type 0 where
  pub head : 12 ≤ length f
  pub count : N f ≡ length p.records
  pub names_size : L1 f ≡ length p.names
  pub strings_size : L2 f ≡ length p.strings
  pub size : length (after_head f) ≡ 32 * length p.records + length p.names + length p.strings
  pub records : (i : ℕ) → i < length p.records → entry p.records i ≡ record_at (after_head f) (32 * i)
  pub pools : drop (32 * length p.records) (after_head f) ≡ p.names ++ p.strings

-- ACCEPTED
-- a file is taken into a table of so many places: it is the bytes of parts that keep every rule and fit the table
pub record Takes (lim : Limits) (f : List ℕ) (places : ℕ) (p : Parts) : Type 0 where
  pub encodes : Encodes f p
  pub kept : Kept lim p
  pub fits : length p.records ≤ places

-- the parts that a load shows: the first n records of the table, and two pools
abbrev pub shown : ℕ → List Record → List ℕ → List ℕ → Parts
shown n table ns ss = record { records = take n table; names = ns; strings = ss }

-- a load is accepted, with the table before and after it
pub record Accepted (lim : Limits) (f : List ℕ) (before after : List Record) (n : ℕ) (ns ss : List ℕ) : Type 0 where
  pub takes : Takes lim f (length before) (shown n after ns ss)
  -- no other parts have these bytes
  pub only : (p : Parts) → Encodes f p → p ≡ shown n after ns ss
  -- n is the number of records, and the later places of the table stay
  pub count : n ≡ length (take n after)
  pub later : after ≡ take n after ++ drop n before

-- REFUSED
-- the first check that a file fails, in the order in which they are made: the head, its numbers, the length, the
-- table's room, and then record by record
module _ (lim : Limits) (f : List ℕ) (places : ℕ) where
  abbrev pub room_fault : Option LoadFault
  room_fault = cond (nat_le (N f) places) (first_fault (L1 f) (L2 f) lim.depth (records_of (N f) (after_head f))) (Some SmallTable)

  abbrev pub length_fault : Option LoadFault
  length_fault = cond (length (after_head f) == 32 * N f + L1 f + L2 f) room_fault (Some WrongLength)

  unfoldable pub load_fault : Option LoadFault
  load_fault = cond (nat_lt (length f) 12) (Some Short) (cond (sized lim (N f) (L1 f) (L2 f)) length_fault (Some OutOfRange))

-- the same in the words of the rules
module _ (lim : Limits) (f : List ℕ) (places : ℕ) where
  abbrev pub Headed : Type 0
  Headed = 12 ≤ length f

  abbrev pub InRange : Type 0
  InRange = Headed × (sized lim (N f) (L1 f) (L2 f) ≡ true)

  abbrev pub RightLength : Type 0
  RightLength = InRange × (length (after_head f) ≡ 32 * N f + L1 f + L2 f)

  abbrev pub Roomy : Type 0
  Roomy = RightLength × (N f ≤ places)

  -- the checks before it pass, and its own does not
  abbrev pub Fails : LoadFault → Type 0
  Fails Short = length f < 12
  Fails OutOfRange = Headed × (sized lim (N f) (L1 f) (L2 f) ≡ false)
  Fails WrongLength = InRange × (length (after_head f) ≢ 32 * N f + L1 f + L2 f)
  Fails SmallTable = RightLength × (places < N f)
  Fails (OffLine i) = Roomy × FirstBreak (L1 f) (L2 f) lim.depth (records_of (N f) (after_head f)) (OffLine i)
  Fails (Misplaced i) = Roomy × FirstBreak (L1 f) (L2 f) lim.depth (records_of (N f) (after_head f)) (Misplaced i)
  Fails (TooDeep i) = Roomy × FirstBreak (L1 f) (L2 f) lim.depth (records_of (N f) (after_head f)) (TooDeep i)

-- a load is refused, with the table before and after it
pub record Refused (lim : Limits) (f : List ℕ) (before after : List Record) (x : LoadFault) : Type 0 where
  pub first : load_fault lim f (length before) ≡ Some x
  pub fails : Fails lim f (length before) x
  pub same : after ≡ before
  -- no parts could have been taken
  pub none : (p : Parts) → Takes lim f (length before) p → ⊥

-- the head of a file, taken apart
pub record Split (f : List ℕ) (n l m : ℕ) (rest : List ℕ) : Type 0 where
  pub head : 12 ≤ length f
  pub count : n ≡ N f
  pub names : l ≡ L1 f
  pub strings : m ≡ L2 f
  pub follows : rest ≡ after_head f
