use Prim.Native.Nat.{◌+◌, ◌*◌}
use lib.ListN.{length}
use Rattle.rule_terms.proofs.+terms.Given as goal

abbrev pub decreases-check_plain : goal.decreases-check_plain
decreases-check_plain l = 6 * length l.s.now

abbrev pub decreases-check_term : goal.decreases-check_term
decreases-check_term l = 6 * length l.s.now + 1

abbrev pub decreases-copies : goal.decreases-copies
decreases-copies l = 6 * length l.t.now + 3

abbrev pub decreases-guarded : goal.decreases-guarded
decreases-guarded l = 6 * length l.t.now + 3

abbrev pub decreases-in_parallel : goal.decreases-in_parallel
decreases-in_parallel l = 6 * length l.t.now + 4

abbrev pub decreases-operand : goal.decreases-operand
decreases-operand l = 6 * length l.t.now + 2

abbrev pub decreases-quantified : goal.decreases-quantified
decreases-quantified l = 6 * length l.t.now + 4

abbrev pub decreases-two_terms : goal.decreases-two_terms
decreases-two_terms l = 6 * length l.t.now + 3
