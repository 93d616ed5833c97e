use Rattle.std.proofs.Common.{ap, ◌∙◌, arith}
use Rattle.std.proofs.lemmas.Result.{err_from_is_err_and}
use Rattle.sheet.specs.Inputs.{first}
use Rattle.token_de.proofs.Passed.{comma_passed, equals_passed}
use Rattle.content.proofs.Rests.{not_none}
use Rattle.content.proofs.Loops.{one_word, list_refused, list_stopped, list_next, key_refused, equals_refused, value_levels, value_refused, entry_stopped, entry_next}
use Rattle.content.proofs.content.+content_content_group_content_list_content_members.Goals as goal

pub content_group-returns-in_ok-word-in-Invisible-2 : goal.content_group-returns-in_ok-word-in-Invisible-2
content_group-returns-in_ok-word-in-Invisible-2 t c = c.alone.ensures ∙ (rw c.in-Invisible-2.is (one_word c.args.depth c.args.at c.args.body.now c.requires (not_none c.args.body.now.rest _ _ (c.first.ensures ∙ ap first c.rest.ensures) c.is_none-is_empty.ensures c.if-is_empty-2.false) _ c.in_ok-word-in-Invisible-2.ensures))

pub content_list-returns-in_err-word : goal.content_list-returns-in_err-word
content_list-returns-in_err-word t c =
    let p = err_from_is_err_and c.from_residual.result c.from_residual.ensures.1 in
    rw (p.1, p.2) (list_refused c.args.depth c.loop-left.left c.loop-left.invariant (c.first.ensures ∙ ap first c.rest.ensures) c.is_some.ensures c.loop-left-test.true _ c.in_err-word.ensures)

pub content_list-returns-in_err-comma : goal.content_list-returns-in_err-comma
content_list-returns-in_err-comma t c =
    let p = err_from_is_err_and c.from_residual-in_err-comma.result c.from_residual-in_err-comma.ensures.1 in
    rw (p.1, p.2) (list_stopped c.args.depth c.loop-left.left c.loop-left.invariant (c.first.ensures ∙ ap first c.rest.ensures) c.is_some.ensures c.loop-left-test.true _ c.in_ok-word.ensures c.past-behind.result c.past-behind.ensures.sheet c.past-behind.ensures.rest _ c.in_err-comma.ensures)

pub content_list-loop-left-preserved : goal.content_list-loop-left-preserved
content_list-loop-left-preserved t c = list_next c.args.depth c.loop-left.left c.loop-left.invariant (c.first.ensures ∙ ap first c.rest.ensures) c.is_some.ensures c.loop-left-test.true _ c.in_ok-word.ensures c.past-behind.result c.past-behind.ensures.sheet c.past-behind.ensures.rest _ (comma_passed _ _ _ c.in_ok-comma.ensures c.past-left.ensures.sheet c.past-left.ensures.rest)

pub content_members-returns-in_err-key : goal.content_members-returns-in_err-key
content_members-returns-in_err-key t c =
    let p = err_from_is_err_and c.from_residual.result c.from_residual.ensures.1 in
    rw (p.1, p.2) (key_refused c.args.depth c.loop-left.left c.loop-left.invariant (c.first.ensures ∙ ap first c.rest.ensures) c.is_some.ensures c.loop-left-test.true _ c.in_err-key.ensures)

pub content_members-returns-in_err-equals : goal.content_members-returns-in_err-equals
content_members-returns-in_err-equals t c =
    let p = err_from_is_err_and c.from_residual-in_err-equals.result c.from_residual-in_err-equals.ensures.1 in
    rw (p.1, p.2) (equals_refused c.args.depth c.loop-left.left c.loop-left.invariant (c.first.ensures ∙ ap first c.rest.ensures) c.is_some.ensures c.loop-left-test.true _ c.in_ok-key.ensures _ c.in_err-equals.ensures)

pub content_members-content-requires-in-loop-left : goal.content_members-content-requires-in-loop-left
content_members-content-requires-in-loop-left t c = (omega (arith, c.decreases), value_levels c.args.depth c.loop-left.left c.loop-left.invariant (c.first.ensures ∙ ap first c.rest.ensures) c.is_some.ensures c.loop-left-test.true _ c.in_ok-key.ensures c.past-value_on.result (equals_passed _ _ c.past.result _ c.in_ok-equals.ensures c.past.ensures.sheet c.past.ensures.rest c.past-value_on.ensures.sheet c.past-value_on.ensures.rest))

pub content_members-returns-in_err-value : goal.content_members-returns-in_err-value
content_members-returns-in_err-value t c =
    let p = err_from_is_err_and c.from_residual-in_err-value.result c.from_residual-in_err-value.ensures.1 in
    rw (p.1, p.2) (value_refused c.args.depth c.loop-left.left c.loop-left.invariant (c.first.ensures ∙ ap first c.rest.ensures) c.is_some.ensures c.loop-left-test.true _ c.in_ok-key.ensures c.past-value_on.result (equals_passed _ _ c.past.result _ c.in_ok-equals.ensures c.past.ensures.sheet c.past.ensures.rest c.past-value_on.ensures.sheet c.past-value_on.ensures.rest) _ c.in_err-value.ensures)

pub content_members-returns-in_err-comma : goal.content_members-returns-in_err-comma
content_members-returns-in_err-comma t c =
    let p = err_from_is_err_and c.from_residual-in_err-comma.result c.from_residual-in_err-comma.ensures.1 in
    rw (p.1, p.2) (entry_stopped c.args.depth c.loop-left.left c.loop-left.invariant (c.first.ensures ∙ ap first c.rest.ensures) c.is_some.ensures c.loop-left-test.true _ c.in_ok-key.ensures c.past-value_on.result (equals_passed _ _ c.past.result _ c.in_ok-equals.ensures c.past.ensures.sheet c.past.ensures.rest c.past-value_on.ensures.sheet c.past-value_on.ensures.rest) _ c.in_ok-value.ensures c.past-behind.result c.past-behind.ensures.sheet c.past-behind.ensures.rest _ c.in_err-comma.ensures)

pub content_members-loop-left-preserved : goal.content_members-loop-left-preserved
content_members-loop-left-preserved t c = entry_next c.args.depth c.loop-left.left c.loop-left.invariant (c.first.ensures ∙ ap first c.rest.ensures) c.is_some.ensures c.loop-left-test.true _ c.in_ok-key.ensures c.past-value_on.result (equals_passed _ _ c.past.result _ c.in_ok-equals.ensures c.past.ensures.sheet c.past.ensures.rest c.past-value_on.ensures.sheet c.past-value_on.ensures.rest) _ c.in_ok-value.ensures c.past-behind.result c.past-behind.ensures.sheet c.past-behind.ensures.rest _ (comma_passed _ _ _ c.in_ok-comma.ensures c.past-left.ensures.sheet c.past-left.ensures.rest)
