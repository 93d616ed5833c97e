use Rattle.access.proofs.Takes.{takes_within}
use Rattle.access.proofs.reads.take.Goals as goal

pub returns-clause-within : goal.returns-clause-within
returns-clause-within g c = takes_within (g.met.S.Seed.lawful c.args.seed.now) c.args.input.now c.read.result c.read.ensures
