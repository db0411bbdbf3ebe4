use Rattle.words.specs.Checking.{last_of}
use Rattle.std.proofs.Common.{rules}
use mathlib.Core.Path.{refl, sym, ap, ◌∙◌}
use lib.Dec.{lit<}
use Rattle.words.specs.Laws.Checking.{last_len}
use Rattle.derivation.specs.Laws.Answers.{sized, decided_as}
use Rattle.derivation.specs.Lending.{answered}
use Rattle.sharing.proofs.WalkingCases.{derived_as, sought_store, sought_path}
use Rattle.derivation.specs.Laws.Outcomes.{decided_path}
use Rattle.sharing.proofs.SeekingArms.{internal_sought, perform_sought, two_left, two_right, choice_sought, sequence_right, sequence_left, star_end, star_round, parallel_done, parallel_beside, guard_shut, guard_open, at_front, other_sought}
use native.Mathlib.Omega.{arith}
use Rattle.sharing.proofs.seeking.+seeking.Goals as goal

pub seek-returns-in-20-clause-sought : goal.seek-returns-in-20-clause-sought
seek-returns-in-20-clause-sought t c = at_front _ _ _ _ _ _ _ _ 20 _ c.first-w.ensures.0 c.behind-t.ensures c.in-20.is (lit< tt) (sought_path c.only.ensures.path (internal_sought _ _ _ _ _ _ _ c.only.ensures.one.0 c.only.ensures.one.1 c.args.arrays.now.within.1))

pub seek-returns-in-21-clause-sought : goal.seek-returns-in-21-clause-sought
seek-returns-in-21-clause-sought t c = at_front _ _ _ _ _ _ _ _ 21 _ c.first-w.ensures.0 c.behind-t.ensures c.in-21.is (lit< tt) (sought_path c.only-in-21.ensures.path (perform_sought _ _ _ _ _ _ _ c.only-in-21.ensures.one.0 c.only-in-21.ensures.one.1 c.args.arrays.now.within.1))

pub seek-returns-in-23-clause-sought : goal.seek-returns-in-23-clause-sought
seek-returns-in-23-clause-sought t c = at_front _ _ _ _ _ _ _ _ 23 _ c.first-w.ensures.0 c.behind-t.ensures c.in-23.is (lit< tt) (choice_sought _ _ _ _ _ _ _ _ c.seek_two.ensures.sought (omega arith))

pub seek-returns-in_default-clause-sought : goal.seek-returns-in_default-clause-sought
seek-returns-in_default-clause-sought t c = other_sought _ _ _ _ _ _ _ _ c.first-w.ensures.0 (search rules) c.args.arrays.now.within.1 refl

pub seek_guard-returns-then-truth_of-eq0-clause-sought : goal.seek_guard-returns-then-truth_of-eq0-clause-sought
seek_guard-returns-then-truth_of-eq0-clause-sought t c = guard_shut _ _ _ _ c.eval_cond-c.ensures.0 refl _ _ _ _ _ (sym c.truth_of.ensures ∙ c.if-truth_of-eq0.true) c.args.arrays.now.within.1 refl

pub seek_guard-seek-requires : goal.seek_guard-seek-requires
seek_guard-seek-requires t c = (omega (arith, last_len _ _ _ c.last.ensures), omega (arith, last_len _ _ _ c.last.ensures))

pub seek_guard-returns-clause-sought : goal.seek_guard-returns-clause-sought
seek_guard-returns-clause-sought t c = guard_open _ _ _ _ c.eval_cond-c.ensures.0 (c.last.ensures ∙ ap (λ n. last_of n c.args.t.now) c.words_left.ensures) _ _ _ _ _ (λ z. c.if-truth_of-eq0.false (c.truth_of.ensures ∙ z)) c.seek.ensures.sought

pub seek_parallel-returns-then-both_done-clause-sought : goal.seek_parallel-returns-then-both_done-clause-sought
seek_parallel-returns-then-both_done-clause-sought t c = parallel_done _ _ _ _ _ _ _ c.behind_mask-t.ensures _ c.both_done.ensures _ _ _ c.if-both_done.true c.only-r.ensures.one.0 c.only-r.ensures.one.1 c.args.arrays.now.within.1 (decided_path c.only-r.ensures.path c.decide.ensures.decided)

pub seek_parallel-returns-clause-sought : goal.seek_parallel-returns-clause-sought
seek_parallel-returns-clause-sought t c = parallel_beside _ _ _ _ _ _ _ c.behind_mask-t.ensures _ c.both_done.ensures _ _ c.if-both_done.false c.seek_two.ensures.sought (omega arith)

pub seek_sequence-returns-then-first-eq-DONE-clause-sought : goal.seek_sequence-returns-then-first-eq-DONE-clause-sought
seek_sequence-returns-then-first-eq-DONE-clause-sought t c = sequence_right _ _ _ _ _ _ _ _ (sym c.first.ensures.0 ∙ c.if-first-eq-DONE.true) c.behind.ensures c.seek.ensures.sought

pub seek_sequence-returns-clause-sought : goal.seek_sequence-returns-clause-sought
seek_sequence-returns-clause-sought t c = sequence_left _ _ _ _ _ _ _ (λ e. c.if-first-eq-DONE.false (c.first.ensures.0 ∙ e)) c.seek-2.ensures.sought

pub seek_star-returns-then-arrays-eq0-clause-sought : goal.seek_star-returns-then-arrays-eq0-clause-sought
seek_star-returns-then-arrays-eq0-clause-sought t c = star_end _ _ _ _ _ _ _ c.if-arrays-eq0.true c.decide.ensures.decided

pub seek_star-returns-clause-sought : goal.seek_star-returns-clause-sought
seek_star-returns-clause-sought t c = star_round _ _ _ _ _ _ _ _ _ _ c.if-arrays-eq0.false c.seek-r.ensures.sought c.decide-2.ensures.decided (omega arith)

pub seek_two-returns-in-Found-clause-sought : goal.seek_two-returns-in-Found-clause-sought
seek_two-returns-in-Found-clause-sought t c =
    let p = ap (answered c.walk_all-l.new.self) c.in-Found.is in
    two_left _ _ _ _ _ _ _ c.walk_all-l.ensures.kept.path_length c.requires.0 _ (derived_as p c.walk_all-l.ensures.derived) _ _ (decided_as p c.decide.ensures.decided)

pub seek_two-seek-r-requires : goal.seek_two-seek-r-requires
seek_two-seek-r-requires t c = (omega (arith, last_len _ _ _ c.last-u.ensures), omega (arith, last_len _ _ _ c.last-u.ensures))

pub seek_two-size_before-requires : goal.seek_two-size_before-requires
seek_two-size_before-requires t c = (c.requires.0, last_len _ _ _ c.last-u.ensures)

pub seek_two-returns-in-Passed-clause-sought : goal.seek_two-returns-in-Passed-clause-sought
seek_two-returns-in-Passed-clause-sought t c = two_right _ _ _ _ _ _ _ c.walk_all-l.ensures.kept.path_length c.requires.0 _ _ (derived_as (ap (answered c.walk_all-l.new.self) c.in-Passed.is) c.walk_all-l.ensures.derived) _ _ _ _ _ _ c.last-u.ensures c.walk_all-l.ensures.kept.acts_length (sought_store c.walk_all-l.ensures.kept.store c.seek-r.ensures.sought) (sized c.size_before.ensures c.decide_right.ensures.decided)
