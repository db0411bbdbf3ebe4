-- The beginning of a successor and its parts, which call one another, meet their contracts. The measure is four times the words of the term at hand, with
-- less for a part than for what calls it on the same words. Where a part returns, a case of proofs/ says what it answers.
use lib.ListN.{length}
use Prim.Native.Nat.{◌+◌, ◌*◌, ◌-◌}
use Rattle.successors.proofs.+building.Given as goal

abbrev pub decreases-begin : goal.decreases-begin
decreases-begin l = 4 * length l.s.now + 3

abbrev pub decreases-begin_after : goal.decreases-begin_after
decreases-begin_after l = 4 * (length l.s.now - l.n) + 5

abbrev pub decreases-begin_behind : goal.decreases-begin_behind
decreases-begin_behind l = 4 * length l.u.now + 4

abbrev pub decreases-begin_both : goal.decreases-begin_both
decreases-begin_both l = 4 * length l.s.now

abbrev pub decreases-begin_choice : goal.decreases-begin_choice
decreases-begin_choice l = 4 * length l.s.now + 2

abbrev pub decreases-begin_chosen : goal.decreases-begin_chosen
decreases-begin_chosen l = 4 * length l.s.now + 1

abbrev pub decreases-begin_guard : goal.decreases-begin_guard
decreases-begin_guard l = 4 * length l.s.now + 2

abbrev pub decreases-begin_parallel : goal.decreases-begin_parallel
decreases-begin_parallel l = 4 * length l.s.now + 2

abbrev pub decreases-begin_right : goal.decreases-begin_right
decreases-begin_right l = 4 * length l.s.now + 1

abbrev pub decreases-begin_round : goal.decreases-begin_round
decreases-begin_round l = 4 * length l.s.now + 1

abbrev pub decreases-begin_sequence : goal.decreases-begin_sequence
decreases-begin_sequence l = 4 * length l.s.now + 2

abbrev pub decreases-begin_star : goal.decreases-begin_star
decreases-begin_star l = 4 * length l.s.now + 2
