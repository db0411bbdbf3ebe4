use Prim.Native.Nat.{◌+◌, ◌*◌}
use lib.ListN.{length}
use Rattle.term_check.proofs.Weigher.+running.Given as goal

abbrev pub decreases-check : goal.decreases-check
decreases-check l = 3 * length l.s.now

abbrev pub decreases-guarded : goal.decreases-guarded
decreases-guarded l = 3 * length l.t.now + 1

abbrev pub decreases-in_parallel : goal.decreases-in_parallel
decreases-in_parallel l = 3 * length l.t.now + 2

abbrev pub decreases-two_terms : goal.decreases-two_terms
decreases-two_terms l = 3 * length l.t.now + 1

abbrev pub decreases-starred : goal.decreases-starred
decreases-starred l = 3 * length l.t.now + 1
