use Rattle.codes.specs.Laws.Skipping.{Skipping}
use lib.ListN.{length}
use Prim.Native.Nat.{◌+◌, ◌*◌, ◌-◌, ◌≤◌}
use Rattle.codes.proofs.skip_row.Given as goal

abbrev pub invariant-loop-due : goal.invariant-loop-due
invariant-loop-due l = (l.at ≤ length l.s + 7) × (l.due ≤ l.n + 4 * l.at) × Skipping l.shape l.s l.n l.at l.due

abbrev pub decreases-loop-due : goal.decreases-loop-due
decreases-loop-due l = length l.s + 8 - l.at
