-- The search for a path and its parts, which call one another, meet their contracts. Where a part returns, a case of proofs/ says what it answers.
-- The measures of the cycle: eight times the words of the term at hand, with a part above what it calls on the same words; and the contracts that each
-- member reads.
use lib.ListN.{length}
use Prim.Native.Nat.{◌+◌, ◌*◌}
use Rattle.derivation.proofs.+deriving.Given as goal

abbrev pub decreases-arrays::Arrays::derive_both : goal.decreases-arrays::Arrays::derive_both
decreases-arrays::Arrays::derive_both l = 8 * length l.t.now + 2

abbrev pub decreases-arrays::Arrays::derive_guard : goal.decreases-arrays::Arrays::derive_guard
decreases-arrays::Arrays::derive_guard l = 8 * length l.t.now + 1

abbrev pub decreases-arrays::Arrays::derive_left : goal.decreases-arrays::Arrays::derive_left
decreases-arrays::Arrays::derive_left l = 8 * length l.t.now + 1

abbrev pub decreases-arrays::Arrays::derive_left_alone : goal.decreases-arrays::Arrays::derive_left_alone
decreases-arrays::Arrays::derive_left_alone l = 8 * length l.t.now + 3

abbrev pub decreases-arrays::Arrays::derive_listed : goal.decreases-arrays::Arrays::derive_listed
decreases-arrays::Arrays::derive_listed l = 8 * length l.t.now + 4

abbrev pub decreases-arrays::Arrays::derive_masked : goal.decreases-arrays::Arrays::derive_masked
decreases-arrays::Arrays::derive_masked l = 8 * length l.t.now + 5

abbrev pub decreases-arrays::Arrays::derive_parallel : goal.decreases-arrays::Arrays::derive_parallel
decreases-arrays::Arrays::derive_parallel l = 8 * length l.d.now + 6

abbrev pub decreases-arrays::Arrays::derive_right : goal.decreases-arrays::Arrays::derive_right
decreases-arrays::Arrays::derive_right l = 8 * length l.t.now + 1

abbrev pub decreases-arrays::Arrays::derive_right_alone : goal.decreases-arrays::Arrays::derive_right_alone
decreases-arrays::Arrays::derive_right_alone l = 8 * length l.t.now + 3

abbrev pub decreases-arrays::Arrays::derive_sequence : goal.decreases-arrays::Arrays::derive_sequence
decreases-arrays::Arrays::derive_sequence l = 8 * length l.t.now + 1

abbrev pub decreases-arrays::Arrays::derive_star : goal.decreases-arrays::Arrays::derive_star
decreases-arrays::Arrays::derive_star l = 8 * length l.t.now + 1

abbrev pub decreases-arrays::Arrays::derive_two : goal.decreases-arrays::Arrays::derive_two
decreases-arrays::Arrays::derive_two l = 8 * length l.t.now + 1

abbrev pub decreases-arrays::Arrays::walk : goal.decreases-arrays::Arrays::walk
decreases-arrays::Arrays::walk l = 8 * length l.s.now

abbrev pub decreases-derive_lent : goal.decreases-derive_lent
decreases-derive_lent l = 8 * length l.s.now + 1
