-- The rules that every sheet keeps. Assumes nothing.
use Rattle.std.specs.Prelude.{◌≡◌, ℕ, zero, suc, ◌+◌, ◌<◌, ◌≤◌, Bool, true, false, cond, ◌&&◌, ◌||◌, List, [], ◌∷◌, length, ◌==◌, ◌≢◌, nat_le, nat_lt, slice_index_or}
use Rattle.layout.specs.declared.record.Record.{Record}
use Rattle.layout.specs.declared.limits.Limits.{Limits}
use Rattle.layout.specs.declared.fault.LoadFault.{LoadFault}
use Rattle.layout.specs.declared.fault.LoadFault.TheVariants.{Short, OutOfRange, WrongLength, OffLine, Misplaced, TooDeep, SmallTable}

-- what a sheet is made of
pub record Parts : Type 0 where
  pub records : List Record
  pub names : List ℕ
  pub strings : List ℕ

-- the limits of every sheet
abbrev pub limits : Limits
limits = record { records = 1024; names = 8192; strings = 8192; depth = 32 }

abbrev pub no_record : Record
no_record = record { kind = 0; sub = 0; mark = 0; a = 0; b = 0; place = 0; value = 0; bits = 0 }

-- record i
abbrev pub entry : List Record → ℕ → Record
entry rs i = slice_index_or rs i no_record

-- SIZES: n records, 1 at least, and l bytes of names and m of strings are within the limits
abbrev pub sized : Limits → ℕ → ℕ → ℕ → Bool
sized lim n l m = (nat_le 1 n && nat_le n lim.records) && (nat_le l lim.names && nat_le m lim.strings)

-- THE LINE OF ITS KIND
-- the kinds: 0 identifier, 1 punct, 2 literal, 3 group
abbrev pub group : Record → Bool
group r = r.kind == 3

abbrev pub among : ℕ → List ℕ → Bool
among c [] = false
among c (x ∷ xs) = x == c || among c xs

-- the ASCII codes of = < > ! ~ + - * / % ^ & | @ . , ; : # $ ? '
abbrev pub puncts : List ℕ
puncts = 61 ∷ 60 ∷ 62 ∷ 33 ∷ 126 ∷ 43 ∷ 45 ∷ 42 ∷ 47 ∷ 37 ∷ 94 ∷ 38 ∷ 124 ∷ 64 ∷ 46 ∷ 44 ∷ 59 ∷ 58 ∷ 35 ∷ 36 ∷ 63 ∷ 39 ∷ []

unfoldable pub is_punct : ℕ → Bool
is_punct c = among c puncts

-- a Unicode scalar value: any code up to 10FFFF that is no surrogate
abbrev pub is_scalar : ℕ → Bool
is_scalar v = nat_lt v 0xd800 || (nat_lt 0xdfff v && nat_lt v 0x110000)

-- the part of a text, from a over b bytes, ends inside a pool of so many bytes
abbrev pub part_fits : Record → ℕ → Bool
part_fits r pool = nat_le (r.a + r.b) pool

-- the pattern of a float: at most that of infinity
abbrev pub is_pattern : ℕ → Bool
is_pattern bits = nat_le bits 0x7ff0000000000000

-- a literal, by its sub: 0 string, 4 char, 5 integer, 6 float; 1 byte string, 2 C string, 3 byte, 7 other
abbrev pub literal : ℕ → Record → Bool
literal m r =
    cond (r.sub == 0) (part_fits r m)
    (cond (r.sub == 4) (is_scalar r.value)
    (cond (r.sub == 5) (nat_le r.mark 1 && is_pattern r.bits)
    (cond (r.sub == 6) (is_pattern r.bits)
    (nat_le r.sub 7))))

-- a record is on the line of its kind, with l bytes of names and m of strings
abbrev pub lined : ℕ → ℕ → Record → Bool
lined l m r =
    cond (r.kind == 0) (part_fits r l)
    (cond (r.kind == 1) (is_punct r.sub)
    (cond (r.kind == 2) (literal m r)
    (r.kind == 3 && nat_le r.sub 3)))

-- THE ORDER OF THE BODIES
-- where the body before record i ended: 1 where there is none
abbrev pub bodies_end : List Record → ℕ → ℕ
bodies_end rs zero = 1
bodies_end rs (suc i) = cond (group (entry rs i)) ((entry rs i).a + (entry rs i).b) (bodies_end rs i)

-- record i lies in the body of the earlier group g
pub record InBody (rs : List Record) (g i : ℕ) : Type 0 where
  pub earlier : g < i
  pub is_group : group (entry rs g) ≡ true
  pub from : (entry rs g).a ≤ i
  pub upto : i < (entry rs g).a + (entry rs g).b

pub record Placed (rs : List Record) (i : ℕ) : Type 0 where
  -- record 0 is a brace
  pub brace : i ≡ 0 → (group (entry rs i) ≡ true) × ((entry rs i).sub ≡ 1)
  -- every other lies in a body of an earlier group
  pub inside : 0 < i → (g : ℕ) × InBody rs g i
  -- a group's body begins where the body before it ended, and ends inside the sheet
  pub body : group (entry rs i) ≡ true → ((entry rs i).a ≡ bodies_end rs i) × ((entry rs i).a + (entry rs i).b ≤ length rs)

-- DEPTH
-- record 0 has depth 0, and a body is one deeper than its group
pub data Depth (rs : List Record) : ℕ → ℕ → Type 0 where
  top : Depth rs zero zero
  below : {g d : ℕ} (i : ℕ) → InBody rs g i → Depth rs g d → Depth rs i (suc d)

-- record i is at most so deep
abbrev pub Shallow : ℕ → List Record → ℕ → Type 0
Shallow most rs i = (d : ℕ) → Depth rs i d → d ≤ most

-- ALL OF THEM
-- what record i keeps, with l bytes of names, m of strings, and a deepest depth
pub record Ruled (l m most : ℕ) (rs : List Record) (i : ℕ) : Type 0 where
  pub line : lined l m (entry rs i) ≡ true
  pub placed : Placed rs i
  pub shallow : Shallow most rs i

pub record Kept (lim : Limits) (p : Parts) : Type 0 where
  pub sizes : sized lim (length p.records) (length p.names) (length p.strings) ≡ true
  pub each : (i : ℕ) → i < length p.records → Ruled (length p.names) (length p.strings) lim.depth p.records i

-- THE FIRST RECORD THAT BREAKS A RULE, and which of its rules is the first that it breaks
module _ (l m most : ℕ) (rs : List Record) where
  -- record i is there, and those before it keep the rules
  abbrev pub Reached : ℕ → Type 0
  Reached i = (i < length rs) × ((j : ℕ) → j < i → Ruled l m most rs j)

  abbrev pub FirstBreak : LoadFault → Type 0
  FirstBreak (OffLine i) = Reached i × (lined l m (entry rs i) ≢ true)
  FirstBreak (Misplaced i) = Reached i × (lined l m (entry rs i) ≡ true) × (Placed rs i → ⊥)
  FirstBreak (TooDeep i) = Reached i × (lined l m (entry rs i) ≡ true) × Placed rs i × (Shallow most rs i → ⊥)
  FirstBreak Short = ⊥
  FirstBreak OutOfRange = ⊥
  FirstBreak WrongLength = ⊥
  FirstBreak SmallTable = ⊥
