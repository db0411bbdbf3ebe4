-- The steps one after the other: what was passed stays. Fewer words of the term are left with each step.
use lib.ListN.{length}
use Prim.Native.Nat.{◌-◌}
use Rattle.successors.proofs.Stays.{Passed}
use Rattle.successors.proofs.unchanged.unchanged.Given as goal

abbrev pub invariant-loop-n : goal.invariant-loop-n
invariant-loop-n l = Passed l.s l.path l.at l.used

abbrev pub decreases-loop-n : goal.decreases-loop-n
decreases-loop-n l = length l.s - l.at
