use mathlib.Core.Path.{sym, ap, ◌∙◌}
use lib.Bits.{bit_or}
use lib.ListN.{drop}
use lib.Dec.{lit<}
use native.Mathlib.Omega.{arith}
use borrow.Author.Rules.{rules}
use Rattle.words.specs.Checking.{last_of}
use Rattle.words.specs.Laws.Checking.{part, back_rest}
use Rattle.listing.proofs.Answers.{at_store, two_listed}
use Rattle.listing.proofs.Arms.{internal_listed, choice_listed, sequence_right, sequence_lost, sequence_left, at_front, other_listed}
use Rattle.listing.proofs.Sides.{star_lost, star_listed, guard_shut, guard_open}
use Rattle.listing.proofs.Parallels.{masked_lost_second, masked_lost_made, masked_made, beside_left, beside_right, parallel_done, parallel_hidden, parallel_masked}
use Rattle.listing.proofs.lister.Lister.+listing_terms.Goals as goal

pub list_combined-returns-in_err-left-clause-listed : goal.list_combined-returns-in_err-left-clause-listed
list_combined-returns-in_err-left-clause-listed t c = rw c.from_residual-in_err-left.ensures
    (masked_lost_second _ _ _ _ _ _ _ c.behind_mask-t.ensures _ c.in_ok-n.ensures.listed c.in_ok-n.ensures.kept.same_length _ c.last.ensures _ _ (at_store c.in_ok-n.ensures.kept.same_store c.in_err-left.ensures.listed))

pub list_combined-returns-in_err-c-clause-listed : goal.list_combined-returns-in_err-c-clause-listed
list_combined-returns-in_err-c-clause-listed t c = rw c.from_residual-in_err-c.ensures
    (masked_lost_made _ _ _ _ _ _ _ c.behind_mask-t.ensures _ c.in_ok-n.ensures.listed c.in_ok-n.ensures.kept.same_length _ c.last.ensures _ _ _ (at_store c.in_ok-n.ensures.kept.same_store c.in_ok-left.ensures.listed)
    c.in_ok-left.ensures.kept.same_length c.in_ok-n.ensures.kept.no_fewer c.in_ok-left.ensures.kept.no_fewer (omega arith) _ c.mask_set.ensures _ (part c.args.self.now.count c.list_shown-2.new.self.acts.now) _ _ c.in_err-c.ensures)

pub list_combined-returns-clause-listed : goal.list_combined-returns-clause-listed
list_combined-returns-clause-listed t c =
    masked_made _ _ _ _ _ _ _ c.behind_mask-t.ensures _ c.in_ok-n.ensures.listed c.in_ok-n.ensures.kept.same_length _ c.last.ensures _ _ _ (at_store c.in_ok-n.ensures.kept.same_store c.in_ok-left.ensures.listed)
    c.in_ok-left.ensures.kept.same_length c.in_ok-n.ensures.kept.no_fewer c.in_ok-left.ensures.kept.no_fewer (omega arith) _ c.mask_set.ensures _ (part c.args.self.now.count c.list_shown-2.new.self.acts.now) _ _ c.in_ok-c.ensures (back_rest c.list_shown-2.new.self.acts.now c.combine.new.acts c.args.self.now.count)

pub list_guard-returns-then-truth_of-eq0-clause-listed : goal.list_guard-returns-then-truth_of-eq0-clause-listed
list_guard-returns-then-truth_of-eq0-clause-listed t c = guard_shut _ _ _ _ c.eval_cond-c.ensures.0 (c.last-u.ensures ∙ ap (λ n. last_of n c.args.t.now) c.words_left.ensures) _ _ _ (sym c.truth_of.ensures ∙ c.if-truth_of-eq0.true) c.skip.ensures.1

pub list_guard-returns-clause-listed : goal.list_guard-returns-clause-listed
list_guard-returns-clause-listed t c = guard_open _ _ _ _ c.eval_cond-c.ensures.0 (c.last-u.ensures ∙ ap (λ n. last_of n c.args.t.now) c.words_left.ensures) _ _ _ _ _ (λ z. c.if-truth_of-eq0.false (c.truth_of.ensures ∙ z)) c.list_shown.ensures.listed

pub list_masked-returns-then-idle-clause-listed : goal.list_masked-returns-then-idle-clause-listed
list_masked-returns-then-idle-clause-listed t c =
    beside_left _ _ _ _ _ _ _ _ _ c.behind_mask-t.ensures _ c.skip.ensures.1 c.last-u.ensures _ _ _ c.idle.ensures c.if-idle.true c.list_shown.ensures.listed (c.join-y.ensures ∙ ap (bit_or c.args.x) c.mask_set.ensures)

pub list_masked-returns-then-idle-2-clause-listed : goal.list_masked-returns-then-idle-2-clause-listed
list_masked-returns-then-idle-2-clause-listed t c =
    beside_right _ _ _ _ _ _ _ _ _ c.behind_mask-t.ensures _ c.skip.ensures.1 c.last-u.ensures _ _ _ _ c.idle-2.ensures c.if-idle-2.true c.skip-then-idle-2.ensures.1 c.in_ok-list_shown.ensures.listed (c.join-y.ensures ∙ ap (bit_or c.args.x) c.mask_set.ensures)

pub list_parallel-returns-then-both_done-clause-listed : goal.list_parallel-returns-then-both_done-clause-listed
list_parallel-returns-then-both_done-clause-listed t c =
    parallel_done _ _ _ _ _ _ _ _ c.behind_mask-t.ensures _ c.both_done.ensures _ _ c.if-both_done.true (c.behind-v.ensures ∙ ap (drop 1) c.behind.ensures) c.list_one.ensures.listed

pub list_parallel-returns-then-y-x-clause-listed : goal.list_parallel-returns-then-y-x-clause-listed
list_parallel-returns-then-y-x-clause-listed t c =
    parallel_hidden _ _ _ _ _ _ _ _ c.behind_mask-t.ensures _ c.both_done.ensures _ c.if-both_done.false _ (c.join-y.ensures ∙ ap (bit_or c.args.x) c.mask_set.ensures) c.if-y-x.true c.list_two.ensures.listed

pub list_parallel-returns-clause-listed : goal.list_parallel-returns-clause-listed
list_parallel-returns-clause-listed t c =
    parallel_masked _ _ _ _ _ _ _ _ c.behind_mask-t.ensures _ c.both_done.ensures _ c.if-both_done.false _ (c.join-y.ensures ∙ ap (bit_or c.args.x) c.mask_set.ensures) c.if-y-x.false c.list_masked.ensures.listed

pub list_sequence-returns-in_err-left-clause-listed : goal.list_sequence-returns-in_err-left-clause-listed
list_sequence-returns-in_err-left-clause-listed t c = rw c.from_residual.ensures (sequence_lost _ _ _ _ _ _ c.requires.1 c.in_err-left.ensures.listed)

pub list_sequence-returns-clause-listed : goal.list_sequence-returns-clause-listed
list_sequence-returns-clause-listed t c = sequence_left _ _ _ _ _ _ c.requires.1 _ _ _ c.in_ok-left.ensures.listed c.last.ensures c.skip.ensures.1

pub list_shown-returns-in-20-clause-listed : goal.list_shown-returns-in-20-clause-listed
list_shown-returns-in-20-clause-listed t c = at_front _ _ _ _ _ _ _ _ 20 _ c.first-w.ensures.0 c.behind-t.ensures c.in-20.is (lit< tt) (internal_listed _ _ _ _ _ _ _ c.list_one.ensures.listed)

pub list_shown-returns-in-22-clause-listed : goal.list_shown-returns-in-22-clause-listed
list_shown-returns-in-22-clause-listed t c = at_front _ _ _ _ _ _ _ _ 22 _ c.first-w.ensures.0 c.behind-t.ensures c.in-22.is (lit< tt) (sequence_right _ _ _ _ _ _ _ _ (sym c.first.ensures.0 ∙ c.if-first-eq-DONE.true) c.behind.ensures c.list_shown.ensures.listed)

pub list_shown-returns-in-23-clause-listed : goal.list_shown-returns-in-23-clause-listed
list_shown-returns-in-23-clause-listed t c = at_front _ _ _ _ _ _ _ _ 23 _ c.first-w.ensures.0 c.behind-t.ensures c.in-23.is (lit< tt) (choice_listed _ _ _ _ _ _ _ c.list_two.ensures.listed)

pub list_shown-returns-in_default-clause-listed : goal.list_shown-returns-in_default-clause-listed
list_shown-returns-in_default-clause-listed t c = other_listed _ _ _ _ _ _ c.first-w.ensures.0 c.behind-t.ensures (search rules)

pub list_star-returns-in_err-list_one-clause-listed : goal.list_star-returns-in_err-list_one-clause-listed
list_star-returns-in_err-list_one-clause-listed t c = rw c.from_residual.ensures (star_lost _ _ _ _ _ _ _ c.in_err-list_one.ensures.listed)

pub list_star-returns-clause-listed : goal.list_star-returns-clause-listed
list_star-returns-clause-listed t c = star_listed _ _ _ _ _ _ _ _ c.in_ok-list_one.ensures.listed c.in_ok-list_one.ensures.kept.same_length _ _ _ (at_store c.in_ok-list_one.ensures.kept.same_store c.list_shown.ensures.listed)

pub list_two-returns-clause-listed : goal.list_two-returns-clause-listed
list_two-returns-clause-listed t c = two_listed _ _ _ _ _ _ _ c.in_ok-left.ensures.listed _ c.last.ensures c.in_ok-left.ensures.kept.same_length _ _ _ (at_store c.in_ok-left.ensures.kept.same_store c.list_shown-2.ensures.listed)
