-- What a sheet holds, and the sheet that is made of parts. Assumes nothing.
use Rattle.std.specs.Prelude.{◌≡◌, ℕ, ◌≤◌, Bool, cond, ◌&&◌, List, [], ◌∷◌, length, take, nat_le}
use Rattle.layout.specs.declared.record.Record.{Record}
use Rattle.layout.specs.Rules.{Parts, limits, Kept}
use Rattle.layout.specs.Scan.{kept}
use Rattle.sheet.specs.declared.sheet.Sheet.{Sheet}

abbrev pub held : Sheet → Parts
held s = record { records = s.records.now; names = s.names.now; strings = s.strings.now }

-- the first n records of a table, and two pools
abbrev pub parts_of : ℕ → List Record → List ℕ → List ℕ → Parts
parts_of n table ns ss = record { records = take n table; names = ns; strings = ss }

-- one record, an empty brace
abbrev pub empty_sheet : Parts
empty_sheet = record { records = record { kind = 3; sub = 1; mark = 0; a = 1; b = 0; place = 0; value = 0; bits = 0 } ∷ []; names = []; strings = [] }

-- the first n records of a table are there, and with the pools they keep every rule
abbrev pub sheetable : ℕ → List Record → List ℕ → List ℕ → Bool
sheetable n table ns ss = nat_le n (length table) && kept limits (parts_of n table ns ss)

-- the sheet of n records of a table: an empty brace where the parts break a rule
abbrev pub sheet_of : ℕ → List Record → List ℕ → List ℕ → Parts
sheet_of n table ns ss = cond (sheetable n table ns ss) (parts_of n table ns ss) empty_sheet

-- the same in the words of the rules
pub record Made (n : ℕ) (table : List Record) (ns ss : List ℕ) (h : Parts) : Type 0 where
  pub lawful : n ≤ length table → Kept limits (parts_of n table ns ss) → h ≡ parts_of n table ns ss
  pub unlawful : (n ≤ length table → Kept limits (parts_of n table ns ss) → ⊥) → h ≡ empty_sheet
