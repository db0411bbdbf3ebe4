use mathlib.Core.Path.{sym, ◌∙◌}
use Rattle.successors.proofs.Begun.{behind_begun, after_head}
use Rattle.successors.proofs.Cases.{leaf_case, sequence_done, sequence_goes, guard_case, choice_left, choice_short, choice_right, star_ends, round}
use Rattle.successors.proofs.Parallels.{parallel_short, parallel_ends, parallel_left, parallel_cut, parallel_right, parallel_both, both_made}
use borrow.Author.Rules.{rules}
use borrow.Author.Tests.{not-false}
use Rattle.successors.proofs.+building.Goals as goal

pub begin-returns-in_default : goal.begin-returns-in_default
begin-returns-in_default t c = let n = c.in_default.in_default-own.rest in leaf_case c.args.s.now _ _ _ _ _ c.first.ensures.0 n.0.0.0.0.0.1 n.0.0.0.0.1 n.0.0.0.1 n.0.0.1 n.0.1 n.1 _ c.behind.ensures c.put_one.ensures

pub begin_after-returns : goal.begin_after-returns
begin_after-returns t c = after_head c.args.s.now c.args.n _ _ _ _ _ _ c.requires.1 c.put_head-x.ensures c.begin_behind.ensures

pub begin_behind-returns : goal.begin_behind-returns
begin_behind-returns t c = behind_begun c.args.x c.args.u.now _ c.args.out.now _ _ c.requires.1 (not-false _ c.if-not-x.false) c.begin-y.ensures

pub begin_both-returns : goal.begin_both-returns
begin_both-returns t c = both_made c.args.s.now c.args.n c.args.path.now _ _ _ _ _ _ _ _ c.requires.2 c.begin_after-x.ensures c.close-z.ensures c.last.ensures c.begin_behind-y.ensures

pub begin_choice-returns-then-s-n : goal.begin_choice-returns-then-s-n
begin_choice-returns-then-s-n t c = choice_short c.args.s.now c.args.path.now _ _ _ c.requires.1 (λ z. c.if-first-eq-CHOOSE_LEFT.false (c.first.ensures.0 ∙ z)) c.size_word-n.ensures.0 c.if-s-n.true c.unbuilt.ensures

pub begin_choice-returns : goal.begin_choice-returns
begin_choice-returns t c = choice_right c.args.s.now c.args.path.now _ _ _ c.requires.1 (λ z. c.if-first-eq-CHOOSE_LEFT.false (c.first.ensures.0 ∙ z)) c.size_word-n.ensures.0 _ _ c.behind_size.ensures c.begin.ensures

pub begin_chosen-returns : goal.begin_chosen-returns
begin_chosen-returns t c = choice_left c.args.s.now c.args.path.now c.behind-t.result.now c.behind-t.ensures c.behind.result.now c.behind.ensures c.requires.1 _ _ _ _ _ _ _ _ _ c.requires.2 c.begin-x.ensures c.last.ensures c.skip_row-e.ensures c.close-z.ensures c.last-2.ensures c.skip-left.ensures

pub begin_guard-returns : goal.begin_guard-returns
begin_guard-returns t c = search (guard_case)

pub begin_parallel-returns-then-s-lt5 : goal.begin_parallel-returns-then-s-lt5
begin_parallel-returns-then-s-lt5 t c = parallel_short c.args.s.now c.args.path.now _ _ c.requires.1 c.if-s-lt5.true c.unbuilt.ensures

pub begin_parallel-returns-in-0 : goal.begin_parallel-returns-in-0
begin_parallel-returns-in-0 t c = parallel_ends c.args.s.now c.args.path.now _ _ c.requires.1 _ _ _ _ _ c.behind.ensures (sym c.first.ensures.0 ∙ c.in-0.is) c.skip-n.ensures c.last.ensures c.skip.ensures c.put_one.ensures

pub begin_parallel-returns-in-1 : goal.begin_parallel-returns-in-1
begin_parallel-returns-in-1 t c = parallel_left c.args.s.now c.args.path.now _ _ c.requires.1 _ _ _ c.behind-in-1.ensures (sym c.first.ensures.0 ∙ c.in-1.is) c.begin_after.ensures c.with_right.ensures

pub begin_right-returns-then-s-n : goal.begin_right-returns-then-s-n
begin_right-returns-then-s-n t c = parallel_cut c.args.s.now c.args.path.now _ _ c.requires.1 _ c.size_word-n.ensures.0 c.requires.3 c.requires.4 c.if-s-n.true c.unbuilt.ensures

pub begin_right-returns-then-first-eq-RIGHT_MOVES : goal.begin_right-returns-then-first-eq-RIGHT_MOVES
begin_right-returns-then-first-eq-RIGHT_MOVES t c = parallel_right c.args.s.now c.args.path.now _ _ c.requires.1 _ c.size_word-n.ensures.0 _ _ c.behind_size.ensures (sym c.first.ensures.0 ∙ c.if-first-eq-RIGHT_MOVES.true) c.begin_after.ensures

pub begin_right-returns : goal.begin_right-returns
begin_right-returns t c = parallel_both c.args.s.now c.args.path.now _ _ c.requires.1 _ c.size_word-n.ensures.0 c.requires.3 c.requires.4 _ _ c.behind_size-2.ensures (λ z. c.if-first-eq-RIGHT_MOVES.false (c.first.ensures.0 ∙ z)) c.begin_both.ensures

pub begin_round-returns : goal.begin_round-returns
begin_round-returns t c = round c.args.s.now c.args.path.now c.behind-t.result.now c.behind.result.now _ c.behind-t.ensures c.behind.ensures c.requires.1 _ _ _ _ _ _ _ _ _ _ _ c.requires.2 c.put_one-h.ensures c.begin_behind-x.ensures c.last.ensures c.skip_row-e.ensures c.close-z.ensures c.put_behind.ensures (search rules)

pub begin_sequence-returns-then-first-eq-DONE : goal.begin_sequence-returns-then-first-eq-DONE
begin_sequence-returns-then-first-eq-DONE t c = sequence_done c.args.s.now c.args.path.now c.behind-t.result.now c.behind-t.ensures _ _ _ _ c.requires.1 (sym c.first.ensures.0 ∙ c.if-first-eq-DONE.true) c.behind.ensures c.begin.ensures

pub begin_sequence-returns : goal.begin_sequence-returns
begin_sequence-returns t c = sequence_goes c.args.s.now c.args.path.now c.behind-t.result.now c.behind-t.ensures _ _ _ _ c.requires.1 (λ z. c.if-first-eq-DONE.false (c.first.ensures.0 ∙ z)) c.begin_after.ensures c.with_right.ensures

pub begin_star-returns-then-first-eq-END : goal.begin_star-returns-then-first-eq-END
begin_star-returns-then-first-eq-END t c = star_ends c.args.s.now c.args.path.now c.behind.result.now c.behind-then-first-eq-END.result.now _ c.behind.ensures c.behind-then-first-eq-END.ensures c.requires.1 _ _ _ (sym c.first.ensures.0 ∙ c.if-first-eq-END.true) c.skip.ensures c.put_one.ensures
