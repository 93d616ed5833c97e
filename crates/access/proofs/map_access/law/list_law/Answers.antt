use Rattle.access.proofs.Ledger.{list_law}
use Rattle.access.proofs.map_access.law.list_law.Goals as goal

pub returns : goal.returns
returns c = list_law
