-- How many trees a cursor has before it. Assumes nothing.
use Rattle.std.specs.Prelude.{ℕ, ◌-◌}
use Rattle.layout.specs.Rules.{Parts}
use Rattle.sheet.specs.declared.spot.Spot.{Spot}
use Rattle.sheet.specs.Spots.{rest}

abbrev pub left : Parts → Spot → ℕ
left h s = (rest h s).to - (rest h s).from
