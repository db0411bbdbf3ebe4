use Prim.Native.Nat.{◌+◌, ◌*◌, ◌-◌, ◌≤◌}
use lib.ListN.{length}
use Rattle.codes.specs.Laws.Skipping.{Idling}
use Rattle.codes.proofs.idle.Given as goal

abbrev pub invariant-loop-due : goal.invariant-loop-due
invariant-loop-due l = (l.at ≤ length l.s + 6) × (l.due ≤ 1 + 4 * l.at) × Idling l.shape l.s l.at l.due

abbrev pub decreases-loop-due : goal.decreases-loop-due
decreases-loop-due l = length l.s + 7 - l.at
