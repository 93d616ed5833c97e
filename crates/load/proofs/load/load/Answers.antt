use Rattle.load.proofs.Loads.{refused_range, accepted}
use Rattle.load.proofs.load.load.Goals as goal

pub returns-then-not-allow : goal.returns-then-not-allow
returns-then-not-allow c = refused_range _ _ _ _ _ _ _ c.in_ok-head.ensures c.if-not-allow.ensures

pub returns : goal.returns
returns c =
    accepted _ _ _ _ _ _ _ c.in_ok-head.ensures c.if-not-allow.ensures c.if-rest-records.false c.if-table-head.false
    _ c.new-packed.ensures.records _ _ _ _ _ (rw c.bounds.ensures at c.in_ok-check.ensures.same) c.new-packed.ensures.count c.copy_to.ensures
    c.split_at.ensures.back c.split_at-2.ensures.front c.split_at-2.ensures.back
