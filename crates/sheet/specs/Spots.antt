-- Runs of a sheet, and what a sheet has of a spot. Assumes nothing.
use Rattle.std.specs.Prelude.{◌≡◌, ℕ, ◌+◌, ◌-◌, ◌<◌, ◌≤◌, Bool, true, cond, ◌&&◌, ◌||◌, ◌⊎◌, List, length, Some, None, Option, nat_le, nat_lt}
use Rattle.std.specs.List.{list_any}
use Rattle.layout.specs.declared.record.Record.{Record}
use Rattle.layout.specs.Rules.{Parts, entry, group}
use Rattle.sheet.specs.declared.token.Group.{Group}
use Rattle.sheet.specs.declared.spot.Body.{Body}
use Rattle.sheet.specs.declared.spot.Spot.{Spot}
use Rattle.sheet.specs.declared.spot.Rest.{Rest}

-- a record is a group whose body holds the records from p up to e
abbrev pub holds : Record → ℕ → ℕ → Bool
holds r p e = group r && (nat_le r.a p && nat_le e (r.a + r.b))

-- A RUN: neighbouring records of one body, or record 0
pub record Run (h : Parts) (p e : ℕ) : Type 0 where
  pub order : p ≤ e
  pub within : (e ≤ 1) ⊎ ((g : ℕ) × (g < length h.records) × (holds (entry h.records g) p e ≡ true))

-- the same as a test
abbrev pub some_holds : List Record → ℕ → ℕ → Bool
some_holds rs p e = list_any (λ r. holds r p e) rs

unfoldable pub is_run : Parts → ℕ → ℕ → Bool
is_run h p e = nat_le p e && (nat_le e 1 || some_holds h.records p e)

-- SPOTS
abbrev pub body_of : ℕ → Group → Body
body_of i g = record { parent = i; from = g.first; to = g.first + g.count }

abbrev pub at_root : Spot
at_root = record { group = 0; first = 0; place = 0; end = 1 }

abbrev pub at_body : Body → Spot
at_body b = record { group = b.parent; first = b.from; place = b.from; end = b.to }

-- before the records from p up to e, as a run of its own
abbrev pub at_rest : ℕ → ℕ → Spot
at_rest p e = record { group = 0; first = p; place = p; end = e }

abbrev pub past : Spot → ℕ → Spot
past s q = record { group = s.group; first = s.first; place = q; end = s.end }

-- the sheet has the spot's run, and the spot stands in it
abbrev pub stands : Parts → Spot → Bool
stands h s = is_run h s.first s.end && (nat_le s.first s.place && nat_le s.place s.end)

-- the last token passed: the record before the place, unless nothing has been passed
abbrev pub last_passed : Spot → Option ℕ
last_passed s = cond (nat_lt s.first s.place) (Some (s.place - 1)) None

-- what a sheet has of a spot: nothing where it does not have the run
unfoldable pub rest : Parts → Spot → Rest
rest h s = cond (stands h s) (record { from = s.place; to = s.end; last = last_passed s }) (record { from = 0; to = 0; last = None })

-- a last token passed is a record of the sheet
abbrev pub Passed : Parts → Option ℕ → Type 0
Passed h None = Unit {0}
Passed h (Some i) = i < length h.records

-- what a sheet answers of a spot: its rest, which is a run of the sheet, after a record of the sheet
pub record Rested (h : Parts) (s : Spot) (r : Rest) : Type 0 where
  pub is : r ≡ rest h s
  pub run : Run h r.from r.to
  pub within : r.to ≤ length h.records
  pub passed : Passed h r.last
