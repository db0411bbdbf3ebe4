use Rattle.words.specs.Checking.{last_of}
use Rattle.derivation.proofs.Sides.{both_none_right, both_none_left, both_made, sides_none_left, sides_left_made, sides_none_right, sides_right_made}
use Rattle.std.proofs.Common.{rules}
use lib.ListN.{drop}
use lib.Seq.{length-take-le}
use mathlib.Core.Path.{refl, sym, ap, ◌∙◌}
use lib.Dec.{lit<}
use Rattle.words.specs.Laws.Checking.{last_len}
use Rattle.derivation.specs.Lending.{answered}
use Rattle.derivation.specs.Laws.Answers.{sized, decided_as}
use Rattle.derivation.specs.Laws.Outcomes.{decided_path}
use Rattle.derivation.proofs.Answers.{at_store, derived_as}
use Rattle.derivation.proofs.Walking.{walk_as, no_place, whole_back, derived_path, operands_path}
use Rattle.derivation.proofs.Arms.{internal_derived, perform_derived, two_left, two_right, choice_derived, sequence_right, sequence_lost, sequence_found, sequence_passed, star_end, star_round, guard_shut, guard_open, at_front, other_derived}
use Rattle.derivation.proofs.Listed.{whole_length, listed_lost_second, listed_none, listed_sides}
use Rattle.derivation.proofs.Idle.{right_derived, left_found, left_passed, masked_right, masked_left, masked_listed}
use Rattle.derivation.proofs.Parallels.{parallel_done, parallel_covered, parallel_masked}
use native.Mathlib.Omega.{arith}
use Rattle.derivation.proofs.+deriving.Goals as goal

pub arrays::Arrays::derive_both-invariant_of-self-in-At : goal.arrays::Arrays::derive_both-invariant_of-self-in-At
arrays::Arrays::derive_both-invariant_of-self-in-At t c = let w = whole_back c.walk.new.self.at c.walk.new.self.path.now _ c.derive_lent-before.auto.path c.walk.new.self.within.0 in record { few = (omega (arith, w, c.walk.new.self.few.0), omega (arith, c.derive_lent-before.auto.acts, c.walk.new.self.few.1)); due = c.walk.new.self.due; within = (omega (arith, w, c.walk.new.self.within.0, c.derive_lent-before.ensures.placed.place _ c.in-At.is, length-take-le c.walk.new.self.at c.walk.new.self.path.now c.walk.new.self.within.0), c.walk.new.self.within.1) }

pub arrays::Arrays::derive_both-returns-in-At-clause-derived : goal.arrays::Arrays::derive_both-returns-in-At-clause-derived
arrays::Arrays::derive_both-returns-in-At-clause-derived t c = both_made _ _ _ _ _ _ _ _ c.walk.ensures.kept.path_length _ (walk_as c.walk.new.self c.in-Found.is c.walk.ensures.derived) _ _ c.walk.ensures.kept.acts_length c.derive_lent-before.auto.path _ (at_store c.walk.ensures.kept.store (derived_as c.in-At.is c.derive_lent-before.ensures)) _ _ _ refl (sized c.size_before.ensures c.decide_right.ensures.decided)

pub arrays::Arrays::derive_both-returns-in_default-before : goal.arrays::Arrays::derive_both-returns-in_default-before
arrays::Arrays::derive_both-returns-in_default-before t c = let k = c.walk.ensures.kept in let w = whole_back c.walk.new.self.at c.walk.new.self.path.now _ c.derive_lent-before.auto.path c.walk.new.self.within.0 in record { kept = record { store = k.store; path = k.path; acts = k.acts; path_length = w ∙ k.path_length; acts_length = c.derive_lent-before.auto.acts ∙ k.acts_length }; derived = both_none_left _ _ _ _ _ _ _ _ c.walk.ensures.kept.path_length _ (walk_as c.walk.new.self c.in-Found.is c.walk.ensures.derived) _ _ c.walk.ensures.kept.acts_length c.derive_lent-before.auto.path _ (at_store c.walk.ensures.kept.store c.derive_lent-before.ensures) c.in_default-before.not-At _ }

pub arrays::Arrays::derive_both-returns-in_default : goal.arrays::Arrays::derive_both-returns-in_default
arrays::Arrays::derive_both-returns-in_default t c = let k = c.walk.ensures.kept in record { kept = record { store = k.store; path = k.path; acts = k.acts; path_length = k.path_length; acts_length = k.acts_length }; derived = both_none_right _ _ _ _ _ _ _ _ c.walk.ensures.kept.path_length _ c.walk.ensures.derived (no_place c.walk.new.self _ (search rules)) }

pub arrays::Arrays::derive_guard-skip-requires : goal.arrays::Arrays::derive_guard-skip-requires
arrays::Arrays::derive_guard-skip-requires t c = omega (arith, last_len _ _ _ c.last-u.ensures)

pub arrays::Arrays::derive_guard-passing-requires : goal.arrays::Arrays::derive_guard-passing-requires
arrays::Arrays::derive_guard-passing-requires t c = omega (arith, c.skip.ensures.0, last_len _ _ _ c.last-u.ensures)

pub arrays::Arrays::derive_guard-returns-then-truth_of-eq0-clause-derived : goal.arrays::Arrays::derive_guard-returns-then-truth_of-eq0-clause-derived
arrays::Arrays::derive_guard-returns-then-truth_of-eq0-clause-derived t c = derived_path c.passing.ensures.path (guard_shut _ _ _ _ _ c.eval_cond-c.ensures.0 (c.last-u.ensures ∙ ap (λ n. last_of n c.args.t.now) c.words_left.ensures) _ _ _ _ _ (sym c.truth_of.ensures ∙ c.if-truth_of-eq0.true) c.skip.ensures c.passing.ensures.passed)

pub arrays::Arrays::derive_guard-walk-requires : goal.arrays::Arrays::derive_guard-walk-requires
arrays::Arrays::derive_guard-walk-requires t c = (omega (arith, last_len _ _ _ c.last-u.ensures), omega (arith, last_len _ _ _ c.last-u.ensures))

pub arrays::Arrays::derive_guard-returns-clause-derived : goal.arrays::Arrays::derive_guard-returns-clause-derived
arrays::Arrays::derive_guard-returns-clause-derived t c = guard_open _ _ _ _ _ c.eval_cond-c.ensures.0 (c.last-u.ensures ∙ ap (λ n. last_of n c.args.t.now) c.words_left.ensures) _ _ _ _ _ (λ z. c.if-truth_of-eq0.false (c.truth_of.ensures ∙ z)) c.walk.ensures.derived

pub arrays::Arrays::derive_left-skip-requires : goal.arrays::Arrays::derive_left-skip-requires
arrays::Arrays::derive_left-skip-requires t c = omega (arith, last_len _ _ _ c.last.ensures)

pub arrays::Arrays::derive_left-passing-requires : goal.arrays::Arrays::derive_left-passing-requires
arrays::Arrays::derive_left-passing-requires t c = omega (arith, c.skip.ensures.0, last_len _ _ _ c.last.ensures)

pub arrays::Arrays::derive_left-returns-in-Found-clause-derived : goal.arrays::Arrays::derive_left-returns-in-Found-clause-derived
arrays::Arrays::derive_left-returns-in-Found-clause-derived t c = left_found _ _ _ _ _ _ _ _ (walk_as c.walk-l.new.self c.in-Found.is c.walk-l.ensures.derived) c.walk-l.ensures.kept.path_length _ _ (decided_as (ap (answered c.walk-l.new.self) c.in-Found.is) c.decide.ensures.decided)

pub arrays::Arrays::derive_left-returns-in-Passed-clause-derived : goal.arrays::Arrays::derive_left-returns-in-Passed-clause-derived
arrays::Arrays::derive_left-returns-in-Passed-clause-derived t c = operands_path c.passing.ensures.path (left_passed _ _ _ _ _ _ _ _ _ (walk_as c.walk-l.new.self c.in-Passed.is c.walk-l.ensures.derived) _ _ _ c.last.ensures c.skip.ensures c.passing.ensures.passed)

pub arrays::Arrays::derive_left_alone-returns-in-Found-clause-derived : goal.arrays::Arrays::derive_left_alone-returns-in-Found-clause-derived
arrays::Arrays::derive_left_alone-returns-in-Found-clause-derived t c = λ u. sides_left_made _ _ _ _ _ _ _ c.walk-l.ensures.kept.path_length _ (walk_as c.walk-l.new.self c.in-Found.is c.walk-l.ensures.derived) _ _ (decided_as (ap (answered c.walk-l.new.self) c.in-Found.is) c.decide.ensures.decided)

pub arrays::Arrays::derive_left_alone-returns-in_default : goal.arrays::Arrays::derive_left_alone-returns-in_default
arrays::Arrays::derive_left_alone-returns-in_default t c = let k = c.walk-l.ensures.kept in record { kept = record { store = k.store; path = k.path; acts = k.acts; path_length = k.path_length; acts_length = k.acts_length }; derived = λ u. sides_none_left _ _ _ _ _ _ _ c.walk-l.ensures.kept.path_length _ c.walk-l.ensures.derived (no_place c.walk-l.new.self _ (search rules)) }

pub arrays::Arrays::derive_listed-list-requires-2 : goal.arrays::Arrays::derive_listed-list-requires-2
arrays::Arrays::derive_listed-list-requires-2 t c = omega (arith, last_len _ _ _ c.last-u.ensures)

pub arrays::Arrays::derive_listed-returns-in_default-list-clause-derived : goal.arrays::Arrays::derive_listed-returns-in_default-list-clause-derived
arrays::Arrays::derive_listed-returns-in_default-list-clause-derived t c = listed_lost_second _ _ _ _ _ c.in-Some.ensures _ _ _ c.last-u.ensures c.in_default-list.ensures _ _ _ _ refl

pub arrays::Arrays::derive_listed-passing-requires : goal.arrays::Arrays::derive_listed-passing-requires
arrays::Arrays::derive_listed-passing-requires t c = omega (arith, last_len _ _ _ c.last-v.ensures, last_len _ _ _ c.last-u.ensures)

pub arrays::Arrays::derive_listed-returns-in-Passed-clause-derived : goal.arrays::Arrays::derive_listed-returns-in-Passed-clause-derived
arrays::Arrays::derive_listed-returns-in-Passed-clause-derived t c = operands_path c.passing.ensures.path (listed_none _ _ _ _ _ c.in-Some.ensures _ _ _ c.last-u.ensures c.in-Some-list.ensures _ refl _ _ c.split_at.ensures.front c.split_at.ensures.back _ _ _ _ _ c.in-Passed.ensures.located _ _ c.last-v.ensures c.passing.ensures.passed)

pub arrays::Arrays::derive_listed-derive_left_alone-requires : goal.arrays::Arrays::derive_listed-derive_left_alone-requires
arrays::Arrays::derive_listed-derive_left_alone-requires t c = (omega arith, (omega arith, c.in-Left.ensures.within))

pub arrays::Arrays::derive_listed-derive_right_alone-requires : goal.arrays::Arrays::derive_listed-derive_right_alone-requires
arrays::Arrays::derive_listed-derive_right_alone-requires t c = (omega arith, (omega arith, last_len _ _ _ c.last-u.ensures, c.in-Right.ensures.within))

pub arrays::Arrays::derive_listed-derive_both-requires : goal.arrays::Arrays::derive_listed-derive_both-requires
arrays::Arrays::derive_listed-derive_both-requires t c = (omega arith, (omega arith, last_len _ _ _ c.last-u.ensures, c.in-Both.ensures.within.0, c.in-Both.ensures.within.1))

pub arrays::Arrays::derive_listed-returns-in-Left-clause-derived : goal.arrays::Arrays::derive_listed-returns-in-Left-clause-derived
arrays::Arrays::derive_listed-returns-in-Left-clause-derived t c = listed_sides _ _ _ _ _ c.in-Some.ensures _ _ _ c.last-u.ensures c.in-Some-list.ensures _ refl _ _ c.split_at.ensures.front c.split_at.ensures.back _ _ _ _ _ c.in-Left.ensures.located _ _ _ (omega (arith, whole_length _ _ _ _ _ c.in-Some.ensures _ _ _ c.last-u.ensures c.in-Some-list.ensures)) (c.derive_left_alone.ensures.derived _)

pub arrays::Arrays::derive_listed-returns-in-Right-clause-derived : goal.arrays::Arrays::derive_listed-returns-in-Right-clause-derived
arrays::Arrays::derive_listed-returns-in-Right-clause-derived t c = listed_sides _ _ _ _ _ c.in-Some.ensures _ _ _ c.last-u.ensures c.in-Some-list.ensures _ refl _ _ c.split_at.ensures.front c.split_at.ensures.back _ _ _ _ _ c.in-Right.ensures.located _ _ _ (omega (arith, whole_length _ _ _ _ _ c.in-Some.ensures _ _ _ c.last-u.ensures c.in-Some-list.ensures)) c.derive_right_alone.ensures.derived

pub arrays::Arrays::derive_listed-returns-in-Both-clause-derived : goal.arrays::Arrays::derive_listed-returns-in-Both-clause-derived
arrays::Arrays::derive_listed-returns-in-Both-clause-derived t c = listed_sides _ _ _ _ _ c.in-Some.ensures _ _ _ c.last-u.ensures c.in-Some-list.ensures _ refl _ _ c.split_at.ensures.front c.split_at.ensures.back _ _ _ _ _ c.in-Both.ensures.located _ _ _ (omega (arith, whole_length _ _ _ _ _ c.in-Some.ensures _ _ _ c.last-u.ensures c.in-Some-list.ensures)) c.derive_both.ensures.derived

pub arrays::Arrays::derive_masked-returns-then-idle-clause-derived : goal.arrays::Arrays::derive_masked-returns-then-idle-clause-derived
arrays::Arrays::derive_masked-returns-then-idle-clause-derived t c = masked_right _ _ _ _ _ _ _ _ _ _ c.idle.ensures c.if-idle.true _ c.join.ensures c.derive_right.ensures.derived

pub arrays::Arrays::derive_masked-idle-requires-2 : goal.arrays::Arrays::derive_masked-idle-requires-2
arrays::Arrays::derive_masked-idle-requires-2 t c = omega (arith, last_len _ _ _ c.last.ensures)

pub arrays::Arrays::derive_masked-returns-then-idle-2-clause-derived : goal.arrays::Arrays::derive_masked-returns-then-idle-2-clause-derived
arrays::Arrays::derive_masked-returns-then-idle-2-clause-derived t c = masked_left _ _ _ _ _ _ _ _ _ _ c.idle.ensures c.if-idle.false _ _ c.skip.ensures c.last.ensures _ c.idle-2.ensures c.if-idle-2.true _ c.join-then-idle-2.ensures c.derive_left.ensures.derived

pub arrays::Arrays::derive_masked-returns-clause-derived : goal.arrays::Arrays::derive_masked-returns-clause-derived
arrays::Arrays::derive_masked-returns-clause-derived t c = masked_listed _ _ _ _ _ _ _ _ _ _ c.idle.ensures c.if-idle.false _ _ c.skip.ensures c.last.ensures _ c.idle-2.ensures c.if-idle-2.false c.derive_listed.ensures.derived

pub arrays::Arrays::derive_parallel-returns-then-join-x-clause-derived : goal.arrays::Arrays::derive_parallel-returns-then-join-x-clause-derived
arrays::Arrays::derive_parallel-returns-then-join-x-clause-derived t c = parallel_covered _ _ _ _ _ _ _ _ c.behind_mask-t.ensures _ c.both_done.ensures _ c.if-both_done.false _ c.mask_set-mask.ensures _ c.join.ensures c.if-join-x.true c.derive_two.ensures.derived

pub arrays::Arrays::derive_parallel-returns-clause-derived : goal.arrays::Arrays::derive_parallel-returns-clause-derived
arrays::Arrays::derive_parallel-returns-clause-derived t c = parallel_masked _ _ _ _ _ _ _ _ c.behind_mask-t.ensures _ c.both_done.ensures _ c.if-both_done.false _ c.mask_set-mask.ensures _ c.join.ensures c.if-join-x.false c.derive_masked.ensures.derived

pub arrays::Arrays::derive_parallel-returns-then-both_done-clause-derived : goal.arrays::Arrays::derive_parallel-returns-then-both_done-clause-derived
arrays::Arrays::derive_parallel-returns-then-both_done-clause-derived t c = parallel_done _ _ _ _ _ _ _ _ c.behind_mask-t.ensures _ c.both_done.ensures _ _ _ c.if-both_done.true (c.behind-v.ensures ∙ ap (drop 1) c.behind.ensures) c.single-r.ensures.one.0 c.single-r.ensures.one.1 (decided_path c.single-r.ensures.path c.decide.ensures.decided)

pub arrays::Arrays::derive_right-walk-r-requires : goal.arrays::Arrays::derive_right-walk-r-requires
arrays::Arrays::derive_right-walk-r-requires t c = (omega (arith, last_len _ _ _ c.last-u.ensures), omega (arith, last_len _ _ _ c.last-u.ensures))

pub arrays::Arrays::derive_right-size_before-requires : goal.arrays::Arrays::derive_right-size_before-requires
arrays::Arrays::derive_right-size_before-requires t c = (c.requires, last_len _ _ _ c.last-u.ensures)

pub arrays::Arrays::derive_right-returns-clause-derived : goal.arrays::Arrays::derive_right-returns-clause-derived
arrays::Arrays::derive_right-returns-clause-derived t c = right_derived _ _ _ _ _ _ _ _ _ _ _ _ c.skip.ensures c.last-u.ensures c.walk-r.ensures.derived c.walk-r.ensures.kept.path_length (sized c.size_before.ensures c.decide_right.ensures.decided)

pub arrays::Arrays::derive_right_alone-returns-in-Found-clause-derived : goal.arrays::Arrays::derive_right_alone-returns-in-Found-clause-derived
arrays::Arrays::derive_right_alone-returns-in-Found-clause-derived t c = sides_right_made _ _ _ _ _ _ _ c.walk-r.ensures.kept.path_length _ (walk_as c.walk-r.new.self c.in-Found.is c.walk-r.ensures.derived) _ _ (sized c.size_before.ensures (decided_as (ap (answered c.walk-r.new.self) c.in-Found.is) c.decide_right.ensures.decided))

pub arrays::Arrays::derive_right_alone-returns-in_default : goal.arrays::Arrays::derive_right_alone-returns-in_default
arrays::Arrays::derive_right_alone-returns-in_default t c = let k = c.walk-r.ensures.kept in record { kept = record { store = k.store; path = k.path; acts = k.acts; path_length = k.path_length; acts_length = k.acts_length }; derived = sides_none_right _ _ _ _ _ _ _ c.walk-r.ensures.kept.path_length _ c.walk-r.ensures.derived (no_place c.walk-r.new.self _ (search rules)) }

pub arrays::Arrays::derive_sequence-returns-then-first-eq-DONE-clause-derived : goal.arrays::Arrays::derive_sequence-returns-then-first-eq-DONE-clause-derived
arrays::Arrays::derive_sequence-returns-then-first-eq-DONE-clause-derived t c = sequence_right _ _ _ _ _ _ _ _ _ (sym c.first.ensures.0 ∙ c.if-first-eq-DONE.true) c.behind.ensures c.walk.ensures.derived

pub arrays::Arrays::derive_sequence-skip-requires : goal.arrays::Arrays::derive_sequence-skip-requires
arrays::Arrays::derive_sequence-skip-requires t c = omega (arith, last_len _ _ _ c.last.ensures)

pub arrays::Arrays::derive_sequence-passing-requires : goal.arrays::Arrays::derive_sequence-passing-requires
arrays::Arrays::derive_sequence-passing-requires t c = omega (arith, c.skip.ensures.0, last_len _ _ _ c.last.ensures)

pub arrays::Arrays::derive_sequence-returns-in-Found-clause-derived : goal.arrays::Arrays::derive_sequence-returns-in-Found-clause-derived
arrays::Arrays::derive_sequence-returns-in-Found-clause-derived t c = walk_as c.walk-l.new.self (sym c.in-Found.is) (sequence_found _ _ _ _ _ _ _ (λ e. c.if-first-eq-DONE.false (c.first.ensures.0 ∙ e)) _ (walk_as c.walk-l.new.self c.in-Found.is c.walk-l.ensures.derived))

pub arrays::Arrays::derive_sequence-returns-in-Full-clause-derived : goal.arrays::Arrays::derive_sequence-returns-in-Full-clause-derived
arrays::Arrays::derive_sequence-returns-in-Full-clause-derived t c = sequence_lost _ _ _ _ _ _ _ (λ e. c.if-first-eq-DONE.false (c.first.ensures.0 ∙ e)) (walk_as c.walk-l.new.self c.in-Full.is c.walk-l.ensures.derived)

pub arrays::Arrays::derive_sequence-returns-in-Passed-clause-derived : goal.arrays::Arrays::derive_sequence-returns-in-Passed-clause-derived
arrays::Arrays::derive_sequence-returns-in-Passed-clause-derived t c = derived_path c.passing.ensures.path (sequence_passed _ _ _ _ _ _ _ (λ e. c.if-first-eq-DONE.false (c.first.ensures.0 ∙ e)) _ _ (walk_as c.walk-l.new.self c.in-Passed.is c.walk-l.ensures.derived) _ _ _ c.last.ensures c.skip.ensures c.passing.ensures.passed)

pub arrays::Arrays::derive_star-returns-then-self-eq0-clause-derived : goal.arrays::Arrays::derive_star-returns-then-self-eq0-clause-derived
arrays::Arrays::derive_star-returns-then-self-eq0-clause-derived t c = star_end _ _ _ _ _ _ _ _ c.if-self-eq0.true c.decide.ensures.decided

pub arrays::Arrays::derive_star-returns-clause-derived : goal.arrays::Arrays::derive_star-returns-clause-derived
arrays::Arrays::derive_star-returns-clause-derived t c = star_round _ _ _ _ _ _ _ _ _ _ _ c.if-self-eq0.false c.walk-r.ensures.derived c.walk-r.ensures.kept.path_length c.decide-2.ensures.decided (omega arith)

pub arrays::Arrays::derive_two-walk-r-requires : goal.arrays::Arrays::derive_two-walk-r-requires
arrays::Arrays::derive_two-walk-r-requires t c = (omega (arith, last_len _ _ _ c.last-u.ensures), omega (arith, last_len _ _ _ c.last-u.ensures))

pub arrays::Arrays::derive_two-size_before-requires : goal.arrays::Arrays::derive_two-size_before-requires
arrays::Arrays::derive_two-size_before-requires t c = (c.requires.0, last_len _ _ _ c.last-u.ensures)

pub arrays::Arrays::derive_two-returns-in-Found-clause-derived : goal.arrays::Arrays::derive_two-returns-in-Found-clause-derived
arrays::Arrays::derive_two-returns-in-Found-clause-derived t c = two_left _ _ _ _ _ _ _ _ c.walk-l.ensures.kept.path_length _ (walk_as c.walk-l.new.self c.in-Found.is c.walk-l.ensures.derived) _ _ (decided_as (ap (answered c.walk-l.new.self) c.in-Found.is) c.decide.ensures.decided)

pub arrays::Arrays::derive_two-returns-in-Passed-clause-derived : goal.arrays::Arrays::derive_two-returns-in-Passed-clause-derived
arrays::Arrays::derive_two-returns-in-Passed-clause-derived t c = two_right _ _ _ _ _ _ _ _ c.walk-l.ensures.kept.path_length _ _ (walk_as c.walk-l.new.self c.in-Passed.is c.walk-l.ensures.derived) _ _ _ _ _ _ c.last-u.ensures c.walk-l.ensures.kept.acts_length (at_store c.walk-l.ensures.kept.store c.walk-r.ensures.derived) c.walk-r.ensures.kept.path_length (sized c.size_before.ensures c.decide_right.ensures.decided)

pub arrays::Arrays::walk-returns-in-20-clause-derived : goal.arrays::Arrays::walk-returns-in-20-clause-derived
arrays::Arrays::walk-returns-in-20-clause-derived t c = at_front _ _ _ _ _ _ _ _ _ 20 _ c.first-w.ensures.0 c.behind-t.ensures c.in-20.is (lit< tt) (derived_path c.single.ensures.path (internal_derived _ _ _ _ _ _ _ _ c.single.ensures.one.0 c.single.ensures.one.1 refl))

pub arrays::Arrays::walk-returns-in-21-clause-derived : goal.arrays::Arrays::walk-returns-in-21-clause-derived
arrays::Arrays::walk-returns-in-21-clause-derived t c = at_front _ _ _ _ _ _ _ _ _ 21 _ c.first-w.ensures.0 c.behind-t.ensures c.in-21.is (lit< tt) (derived_path c.derive_action.ensures.path (perform_derived _ _ _ _ _ _ _ c.derive_action.ensures.derived))

pub arrays::Arrays::walk-returns-in-23-clause-derived : goal.arrays::Arrays::walk-returns-in-23-clause-derived
arrays::Arrays::walk-returns-in-23-clause-derived t c = at_front _ _ _ _ _ _ _ _ _ 23 _ c.first-w.ensures.0 c.behind-t.ensures c.in-23.is (lit< tt) (choice_derived _ _ _ _ _ _ _ _ _ c.derive_two.ensures.derived (omega arith))

pub arrays::Arrays::walk-returns-in_default-clause-derived : goal.arrays::Arrays::walk-returns-in_default-clause-derived
arrays::Arrays::walk-returns-in_default-clause-derived t c = derived_path c.passing.ensures.path (other_derived _ _ _ _ _ _ _ _ _ c.first-w.ensures.0 c.behind-t.ensures (search rules) c.passing.ensures.passed)
