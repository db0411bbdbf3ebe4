use mathlib.Core.Path.{◌≡◌}
use lib.ListN.{length}
use lib.Seq.{paste}
use Rattle.declarations.proofs.copy.Given as goal

abbrev pub invariant-loop-i : goal.invariant-loop-i
invariant-loop-i l = (length l.tb ≡ length l.initial.tb) × (l.tb ≡ paste l.initial.tb l.at l.s l.i)
