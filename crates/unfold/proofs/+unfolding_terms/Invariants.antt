-- The measures of the cycle, by which a call (a lower process) and an operand (fewer words left) fall; and the contracts that each member reads.
-- Document 01, "Unfolding, size and breadth".
use Prim.Native.Nat.{◌+◌, ◌-◌, ◌*◌, min}
use mathlib.Core.List.{◌∷◌}
use lib.ListN.{length}
use Rattle.unfold.specs.Joints.{code_of}
use Rattle.unfold.specs.Unfolded.{Here}
use Rattle.unfold.specs.Puts.{Putting}
use Rattle.unfold.specs.Saying.{Copies}
use Rattle.unfold.proofs.TermCases.{Begins}
use Rattle.unfold.proofs.+unfolding_terms.Given as goal

abbrev pub decreases-body : goal.decreases-body
decreases-body l = l.p * 262144 + 262143

abbrev pub decreases-call : goal.decreases-call
decreases-call l = l.scope.now.process * 262144 + 4 * l.n + 3

abbrev pub decreases-copies : goal.decreases-copies
decreases-copies l = l.scope.now.process * 262144 + 4 * l.n + 3

abbrev pub decreases-copy : goal.decreases-copy
decreases-copy l = l.scope.now.process * 262144 + 4 * l.n + 1

abbrev pub decreases-enter : goal.decreases-enter
decreases-enter l = l.scope.now.process * 262144 + 4 * min l.n (length l.scope.now.words.now) + 1

abbrev pub decreases-guarded : goal.decreases-guarded
decreases-guarded l = l.scope.now.process * 262144 + 4 * l.n + 1

abbrev pub decreases-joined : goal.decreases-joined
decreases-joined l = l.scope.now.process * 262144 + 4 * l.n + 3

abbrev pub decreases-over : goal.decreases-over
decreases-over l = l.scope.now.process * 262144 + 4 * l.n + 3

abbrev pub decreases-starred : goal.decreases-starred
decreases-starred l = l.scope.now.process * 262144 + 4 * l.n + 1

abbrev pub decreases-two_terms : goal.decreases-two_terms
decreases-two_terms l = l.scope.now.process * 262144 + 4 * l.n + 1

abbrev pub decreases-unfold : goal.decreases-unfold
decreases-unfold l = l.scope.now.process * 262144 + 4 * min l.n (length l.scope.now.words.now)

abbrev pub invariant-copies-loop-x : goal.invariant-copies-loop-x
invariant-copies-loop-x l =
    Begins l.scope.context.variables.now l.more × Putting (Here Copies l.scope l.n (code_of l.joint ∷ l.mask) 0 (l.size - 1)) (Here Copies l.scope l.n (code_of l.joint ∷ l.mask) l.x (l.size - 1 - l.x)) l.initial.out l.out
