use Rattle.std.proofs.Common.{◌+◌, ◌-◌, ◌*◌}
use Rattle.content.specs.Contents.{content}
use Rattle.content.proofs.Loops.{entries, answer, Left}
use Rattle.content.proofs.content.+content_content_group_content_list_content_members.Given as goal

abbrev pub decreases-content : goal.decreases-content
decreases-content l = 3 * l.depth

abbrev pub decreases-content_group : goal.decreases-content_group
decreases-content_group l = 3 * l.depth + 2

abbrev pub decreases-content_list : goal.decreases-content_list
decreases-content_list l = 3 * l.depth + 1

abbrev pub decreases-content_members : goal.decreases-content_members
decreases-content_members l = 3 * l.depth + 1

abbrev pub invariant-content_list-loop-left : goal.invariant-content_list-loop-left
invariant-content_list-loop-left l = let m = content l.depth in Left m l.depth l.body.rest.from (answer m l.body) l.left l.count

abbrev pub decreases-content_list-loop-left : goal.decreases-content_list-loop-left
decreases-content_list-loop-left l = l.left.rest.to - l.left.rest.from

abbrev pub invariant-content_members-loop-left : goal.invariant-content_members-loop-left
invariant-content_members-loop-left l = let m = entries l.depth in Left m l.depth l.body.rest.from (answer m l.body) l.left l.count

abbrev pub decreases-content_members-loop-left : goal.decreases-content_members-loop-left
decreases-content_members-loop-left l = l.left.rest.to - l.left.rest.from
