use Rattle.sheet.specs.Sheets.{held}
use Rattle.station_read.specs.Left.{left}
use Rattle.station_read.proofs.members.print_members.Given as goal

abbrev pub decreases-loop-cursor : goal.decreases-loop-cursor
decreases-loop-cursor l = left (held l.sheet) l.cursor.at
