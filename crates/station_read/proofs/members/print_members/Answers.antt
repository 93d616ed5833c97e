use Rattle.station_read.proofs.Left.{peek_left}
use Rattle.station_read.proofs.members.print_members.Goals as goal

pub loop-cursor-smaller : goal.loop-cursor-smaller
loop-cursor-smaller c = c.pass_comma.ensures (peek_left _ _ c.peek.result (cc) c.peek.ensures)
