use Prim.Native.Nat.{◌+◌, ◌*◌, ◌≤◌}
use mathlib.Core.Path.{◌≡◌}
use lib.ListN.{length}
use Rattle.words.specs.Checking.{last_of}
use Rattle.unfold.specs.Puts.{Putting}
use Rattle.unfold.specs.Instantiation.{Instantiates}
use Rattle.unfold.proofs.rows.put_row.Given as goal

abbrev pub invariant-loop-k : goal.invariant-loop-k
invariant-loop-k l =
    (length l.s ≤ l.n) × (length l.s ≤ length l.scope.words.now) × (l.k + 2 * length l.s ≤ l.count + 131070) × (l.s ≡ last_of (length l.s) l.scope.words.now)
    × Putting (Instantiates l.scope.words.now l.scope.context.variables.now l.count l.n) (Instantiates l.scope.words.now l.scope.context.variables.now l.k (length l.s)) l.initial.out l.out

abbrev pub decreases-loop-k : goal.decreases-loop-k
decreases-loop-k l = length l.s
