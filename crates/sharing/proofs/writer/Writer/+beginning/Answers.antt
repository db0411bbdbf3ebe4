use Rattle.std.proofs.Common.{rules}
use mathlib.Core.Path.{refl, sym, ◌∙◌}
use native.Mathlib.Omega.{arith}
use Rattle.words.specs.Laws.Checking.{part, last_len, behind_fewer}
use Rattle.sharing.proofs.BeginningEnds.{lent_length}
use Rattle.sharing.proofs.BeginningCases.{leaf_case, action_case, sequence_done, sequence_full, sequence_goes, guard_case, choice_left, choice_short, choice_right, star_ends, round_full, round}
use Rattle.sharing.proofs.BeginningParallels.{left_lost, left_without_room, left_written, both_lost, both_lost_second, both_written, parallel_ends, parallel_short, parallel_full, parallel_left, parallel_right, parallel_cut, parallel_both}
use Rattle.sharing.proofs.writer.Writer.+beginning.Goals as goal
use Rattle.sharing.proofs.writer.Writer.+beginning.Goals.{begin_parallel-then-s-lt5-via-then-s-lt5, begin_parallel-then-s-lt5-via-else-s-lt5+then-self-at}

pub begin-returns-in-21-clause-begun : goal.begin-returns-in-21-clause-begun
begin-returns-in-21-clause-begun t c = action_case c.args.s.now c.args.path.now c.behind.result.now c.behind.ensures _ _ _ _ _ (sym c.first.ensures.0 ∙ c.in-21.is) c.action_number.ensures.1 c.put_done.ensures.put

pub begin-returns-in_default-clause-begun : goal.begin-returns-in_default-clause-begun
begin-returns-in_default-clause-begun t c = leaf_case c.args.s.now _ _ _ _ _ _ c.first.ensures.0 (search rules) (search rules) (search rules) (search rules) (search rules) (search rules) c.put_done-in_default.ensures.put

pub begin_choice-returns-then-first-eq-CHOOSE_LEFT-clause-begun : goal.begin_choice-returns-then-first-eq-CHOOSE_LEFT-clause-begun
begin_choice-returns-then-first-eq-CHOOSE_LEFT-clause-begun t c = choice_left c.args.s.now c.args.path.now c.behind-t.result.now c.behind-t.ensures _ _ c.requires.1 _ _ _ c.behind.ensures (sym c.first.ensures.0 ∙ c.if-first-eq-CHOOSE_LEFT.true) c.begin.ensures.begun

pub begin_choice-returns-then-t-n-clause-begun : goal.begin_choice-returns-then-t-n-clause-begun
begin_choice-returns-then-t-n-clause-begun t c = choice_short c.args.s.now c.args.path.now c.behind-t.result.now c.behind-t.ensures _ _ c.requires.1 _ (λ z. c.if-first-eq-CHOOSE_LEFT.false (c.first.ensures.0 ∙ z)) c.size_word-n.ensures.0 c.if-t-n.true

pub begin_choice-returns-clause-begun : goal.begin_choice-returns-clause-begun
begin_choice-returns-clause-begun t c = choice_right c.args.s.now c.args.path.now c.behind-t.result.now c.behind-t.ensures _ _ c.requires.1 _ (λ z. c.if-first-eq-CHOOSE_LEFT.false (c.first.ensures.0 ∙ z)) c.size_word-n.ensures.0 _ _ _ c.behind_size.ensures c.begin-2.ensures.begun

pub begin_guard-begin-requires : goal.begin_guard-begin-requires
begin_guard-begin-requires t c = let h = behind_fewer c.args.s.now c.behind-t.result.now 26 c.behind-t.ensures c.requires.1 (omega arith) in let k = last_len _ _ _ c.last.ensures in (omega arith, (omega arith, omega arith))

pub begin_guard-returns-clause-begun : goal.begin_guard-returns-clause-begun
begin_guard-returns-clause-begun t c = guard_case c.args.s.now c.args.path.now c.behind-t.result.now c.behind-t.ensures _ _ _ _ _ _ c.requires.1 c.behind_condition.ensures c.last.ensures c.begin.ensures.begun

pub begin_left-part_word-requires : goal.begin_left-part_word-requires
begin_left-part_word-requires t c = omega (arith, last_len _ _ _ c.last.ensures)

pub begin_parallel-returns-then-d-eq-BOTH_DONE-clause-begun : goal.begin_parallel-returns-then-d-eq-BOTH_DONE-clause-begun
begin_parallel-returns-then-d-eq-BOTH_DONE-clause-begun t c = parallel_ends c.args.s.now c.args.path.now _ _ c.requires.1 _ _ _ c.behind.ensures (sym c.first-d.ensures.0 ∙ c.if-d-eq-BOTH_DONE.true) c.put_done.ensures.put

pub begin_parallel-returns-then-s-lt5-clause-begun : goal.begin_parallel-returns-then-s-lt5-clause-begun
begin_parallel-returns-then-s-lt5-clause-begun t c = elim c.then-s-lt5.branch [
  | begin_parallel-then-s-lt5-via-then-s-lt5 w ↦ parallel_short c.args.s.now c.args.path.now _ _ c.requires.1 w.if-s-lt5.true
  | begin_parallel-then-s-lt5-via-else-s-lt5+then-self-at w ↦ parallel_full c.args.s.now c.args.path.now _ _ c.requires.1 (λ z. c.if-d-eq-BOTH_DONE.false (c.first-d.ensures.0 ∙ z)) w.if-self-at.true
]

pub begin_parallel-returns-then-d-eq-LEFT_MOVES-clause-begun : goal.begin_parallel-returns-then-d-eq-LEFT_MOVES-clause-begun
begin_parallel-returns-then-d-eq-LEFT_MOVES-clause-begun t c = parallel_left c.args.s.now c.args.path.now _ _ c.requires.1 _ (part 5 c.args.s.now) _ _ _ c.behind-then-d-eq-LEFT_MOVES.ensures (sym c.first-d.ensures.0 ∙ c.if-d-eq-LEFT_MOVES.true) c.if-self-at.false c.begin_left.ensures.begun

pub begin_right-returns-then-e-n-clause-begun : goal.begin_right-returns-then-e-n-clause-begun
begin_right-returns-then-e-n-clause-begun t c = parallel_cut c.args.s.now c.args.path.now _ _ c.requires.parallel.0 _ (part 5 c.args.s.now) _ c.size_word-n.ensures.0 c.requires.right_moves.0 c.requires.right_moves.1 c.if-e-n.true

pub begin_right-returns-then-first-eq-RIGHT_MOVES-clause-begun : goal.begin_right-returns-then-first-eq-RIGHT_MOVES-clause-begun
begin_right-returns-then-first-eq-RIGHT_MOVES-clause-begun t c = parallel_right c.args.s.now c.args.path.now _ _ c.requires.parallel.0 _ (part 5 c.args.s.now) _ c.size_word-n.ensures.0 _ _ _ _ c.behind_size.ensures (sym c.first.ensures.0 ∙ c.if-first-eq-RIGHT_MOVES.true) c.requires.room c.part_word.ensures c.begin.ensures.begun

pub begin_right-returns-clause-begun : goal.begin_right-returns-clause-begun
begin_right-returns-clause-begun t c = parallel_both c.args.s.now c.args.path.now _ _ c.requires.parallel.0 _ (part 5 c.args.s.now) _ c.size_word-n.ensures.0 c.requires.right_moves.0 c.requires.right_moves.1 _ _ _ c.behind_size-2.ensures (λ z. c.if-first-eq-RIGHT_MOVES.false (c.first.ensures.0 ∙ z)) c.requires.room c.begin_both.ensures.begun

pub begin_sequence-returns-then-first-eq-DONE-clause-begun : goal.begin_sequence-returns-then-first-eq-DONE-clause-begun
begin_sequence-returns-then-first-eq-DONE-clause-begun t c = sequence_done c.args.s.now c.args.path.now c.behind-t.result.now c.behind-t.ensures _ _ _ _ _ c.requires.1 (sym c.first.ensures.0 ∙ c.if-first-eq-DONE.true) c.behind.ensures c.begin.ensures.begun

pub begin_sequence-returns-then-self-at-clause-begun : goal.begin_sequence-returns-then-self-at-clause-begun
begin_sequence-returns-then-self-at-clause-begun t c = sequence_full c.args.s.now c.args.path.now c.behind-t.result.now c.behind-t.ensures _ _ c.requires.1 (λ z. c.if-first-eq-DONE.false (c.first.ensures.0 ∙ z)) c.if-self-at.true

pub begin_sequence-returns-clause-begun : goal.begin_sequence-returns-clause-begun
begin_sequence-returns-clause-begun t c = sequence_goes c.args.s.now c.args.path.now c.behind-t.result.now c.behind-t.ensures _ _ c.requires.1 (λ z. c.if-first-eq-DONE.false (c.first.ensures.0 ∙ z)) _ _ _ c.if-self-at.false c.skip.ensures c.begin-2.ensures.begun

pub begin_star-returns-then-first-eq-END-clause-begun : goal.begin_star-returns-then-first-eq-END-clause-begun
begin_star-returns-then-first-eq-END-clause-begun t c = star_ends c.args.s.now c.args.path.now _ refl _ _ _ c.behind.ensures c.requires.1 _ _ (sym c.first.ensures.0 ∙ c.if-first-eq-END.true) c.put_done.ensures.put

pub begin_star-returns-then-self-at-clause-begun : goal.begin_star-returns-then-self-at-clause-begun
begin_star-returns-then-self-at-clause-begun t c = round_full c.args.s.now c.args.path.now _ refl _ _ _ refl c.requires.1 (λ z. c.if-first-eq-END.false (c.first.ensures.0 ∙ z)) c.if-self-at.true

pub begin_star-returns-clause-begun : goal.begin_star-returns-clause-begun
begin_star-returns-clause-begun t c = round c.args.s.now c.args.path.now c.behind-2.result.now c.behind-2.ensures _ _ _ c.behind-3.ensures c.requires.1 (λ z. c.if-first-eq-END.false (c.first.ensures.0 ∙ z)) _ _ c.if-self-at.false c.begin.ensures.begun

pub begin_both-begin-requires-2 : goal.begin_both-begin-requires-2
begin_both-begin-requires-2 t c = let h = lent_length c.args.n c.args.e.now in let k = last_len _ _ _ c.last.ensures in (omega arith, (omega arith, omega arith))

pub begin_both-returns-in_err-left-clause-begun : goal.begin_both-returns-in_err-left-clause-begun
begin_both-returns-in_err-left-clause-begun t c = rw c.from_residual.ensures (both_lost _ _ _ _ _ _ c.in_err-left.ensures.begun)

pub begin_both-returns-in_err-right-clause-begun : goal.begin_both-returns-in_err-right-clause-begun
begin_both-returns-in_err-right-clause-begun t c =
    rw c.from_residual-in_err-right.ensures (both_lost_second _ _ _ _ _ _ _ _ _ _ _ c.in_ok-left.ensures.begun c.last.ensures c.in_err-right.ensures.begun)

pub begin_both-returns-clause-begun : goal.begin_both-returns-clause-begun
begin_both-returns-clause-begun t c =
    both_written _ _ _ _ _ _ _ _ _ _ _ c.in_ok-left.ensures.begun c.last.ensures _ _ _ c.in_ok-right.ensures.begun

pub begin_left-returns-in_err-left-clause-begun : goal.begin_left-returns-in_err-left-clause-begun
begin_left-returns-in_err-left-clause-begun t c = rw c.from_residual.ensures (left_lost _ _ _ _ _ c.in_err-left.ensures.begun)

pub begin_left-returns-then-self-at-clause-begun : goal.begin_left-returns-then-self-at-clause-begun
begin_left-returns-then-self-at-clause-begun t c = left_without_room _ _ _ _ _ _ _ _ c.in_ok-left.ensures.begun c.if-self-at.true

pub begin_left-returns-clause-begun : goal.begin_left-returns-clause-begun
begin_left-returns-clause-begun t c = left_written _ _ _ _ _ _ _ _ c.in_ok-left.ensures.begun _ _ _ c.if-self-at.false c.skip.ensures c.last.ensures c.part_word.ensures
