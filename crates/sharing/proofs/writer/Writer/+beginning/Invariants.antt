-- The beginning of a successor and its parts, which call one another, meet their contracts (document 01, "Moves, in order"). The measure is four times the
-- words of the term at hand, with less for a part than for what calls it on the same words. Where a part returns, a case of proofs/ says what it answers.
use Prim.Native.Nat.{◌+◌, ◌*◌}
use lib.ListN.{length}
use Rattle.sharing.proofs.writer.Writer.+beginning.Given as goal

abbrev pub decreases-begin : goal.decreases-begin
decreases-begin l = 4 * length l.s.now + 3

abbrev pub decreases-begin_both : goal.decreases-begin_both
decreases-begin_both l = 4 * length l.e.now + 4

abbrev pub decreases-begin_choice : goal.decreases-begin_choice
decreases-begin_choice l = 4 * length l.s.now + 2

abbrev pub decreases-begin_guard : goal.decreases-begin_guard
decreases-begin_guard l = 4 * length l.s.now + 2

abbrev pub decreases-begin_left : goal.decreases-begin_left
decreases-begin_left l = 4 * length l.e.now + 4

abbrev pub decreases-begin_parallel : goal.decreases-begin_parallel
decreases-begin_parallel l = 4 * length l.s.now + 2

abbrev pub decreases-begin_right : goal.decreases-begin_right
decreases-begin_right l = 4 * length l.s.now + 1

abbrev pub decreases-begin_sequence : goal.decreases-begin_sequence
decreases-begin_sequence l = 4 * length l.s.now + 2

abbrev pub decreases-begin_star : goal.decreases-begin_star
decreases-begin_star l = 4 * length l.s.now + 2
