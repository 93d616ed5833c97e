use Rattle.std.proofs.Common.{◌≤◌}
use Rattle.station_read.proofs.walk.walk.Given as goal

-- A turn passes at most one record.
abbrev pub invariant-loop-turn : goal.invariant-loop-turn
invariant-loop-turn l = l.walked ≤ l._turn
