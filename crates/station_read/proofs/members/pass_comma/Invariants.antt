use Rattle.std.proofs.Common.{◌≤◌}
use Rattle.sheet.specs.Sheets.{held}
use Rattle.station_read.specs.Left.{left}
use Rattle.station_read.proofs.members.pass_comma.Given as goal

abbrev pub invariant-loop-tree : goal.invariant-loop-tree
invariant-loop-tree l = left (held l.sheet) l.cursor.at ≤ left (held l.sheet) l.fn.cursor.at

abbrev pub decreases-loop-tree : goal.decreases-loop-tree
decreases-loop-tree l = left (held l.sheet) l.cursor.at
