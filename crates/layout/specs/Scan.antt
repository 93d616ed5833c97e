-- The first record that breaks a rule, found in one pass over the records. Assumes nothing.
use Rattle.std.specs.Prelude.{ℕ, ◌+◌, Bool, true, false, cond, ◌&&◌, List, [], ◌∷◌, length, Some, None, Ok, Err, Option, Result, ◌==◌, nat_le, nat_lt}
use Rattle.layout.specs.declared.record.Record.{Record}
use Rattle.layout.specs.declared.limits.Limits.{Limits}
use Rattle.layout.specs.declared.fault.LoadFault.{LoadFault}
use Rattle.layout.specs.declared.fault.LoadFault.TheVariants.{OffLine, Misplaced, TooDeep}
use Rattle.layout.specs.declared.rules.Track.{Track}
use Rattle.layout.specs.Rules.{Parts, sized, group, lined}

abbrev pub start : Track
start = record { next = 1; level = 0; upto = 1 }

-- record i of n is placed by rule, where the last body ended at e
abbrev pub fitting : ℕ → ℕ → ℕ → Record → Bool
fitting n i e r = cond (i == 0) (group r && r.sub == 1) (nat_lt i e) && cond (group r) (r.a == e && nat_le (r.a + r.b) n) true

-- the depth of record i
abbrev pub level_at : ℕ → Track → ℕ
level_at i t = cond (i == t.upto) (t.level + 1) t.level

-- the track behind record i
abbrev pub along : ℕ → Track → Record → Track
along i t r = record { next = cond (group r) (r.a + r.b) t.next; level = level_at i t; upto = cond (i == t.upto) t.next t.upto }

-- the fault of record i of n, if any
abbrev pub fault_of : ℕ → ℕ → ℕ → ℕ → ℕ → Track → Record → Option LoadFault
fault_of l m most n i t r = cond (lined l m r) (cond (fitting n i t.next r) (cond (nat_le (level_at i t) most) None (Some (TooDeep i))) (Some (Misplaced i))) (Some (OffLine i))

abbrev pub or_later : Option LoadFault → Option LoadFault → Option LoadFault
or_later None o = o
or_later (Some f) o = Some f

-- the first fault from record i on
abbrev pub scan : ℕ → ℕ → ℕ → ℕ → ℕ → Track → List Record → Option LoadFault
scan l m most n i t [] = None
scan l m most n i t (r ∷ rs) = or_later (fault_of l m most n i t r) (scan l m most n (i + 1) (along i t r) rs)

-- the first fault of all
unfoldable pub first_fault : ℕ → ℕ → ℕ → List Record → Option LoadFault
first_fault l m most rs = scan l m most (length rs) 0 start rs

abbrev pub refusal : Result (Unit {0}) LoadFault → Option LoadFault
refusal (Ok u) = None
refusal (Err f) = Some f

abbrev pub faultless : Option LoadFault → Bool
faultless None = true
faultless (Some f) = false

-- whether parts keep every rule
unfoldable pub kept : Limits → Parts → Bool
kept lim p = sized lim (length p.records) (length p.names) (length p.strings) && faultless (first_fault (length p.names) (length p.strings) lim.depth p.records)
