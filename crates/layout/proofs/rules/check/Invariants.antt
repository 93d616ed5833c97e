use Rattle.std.proofs.Common.{◌≡◌, drop}
use Rattle.layout.specs.Scan.{scan, first_fault}
use Rattle.layout.proofs.rules.check.Given as goal

-- the first fault from here on is the first of all
abbrev pub invariant-loop-i : goal.invariant-loop-i
invariant-loop-i g l = let rs = g.R.Records.list l.records in scan l.bounds.names l.bounds.strings l.bounds.depth l.count l.i l.track (drop l.i rs) ≡ first_fault l.bounds.names l.bounds.strings l.bounds.depth rs
