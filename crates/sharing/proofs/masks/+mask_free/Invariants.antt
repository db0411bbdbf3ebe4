-- A term is gone through by its front, and the loop goes on with its last operand (document 01, "Moves, in order").
use Rattle.std.proofs.Common.{length}
use Rattle.sharing.proofs.MasksCases.{Passing}
use Rattle.sharing.proofs.masks.+mask_free.Given as goal

abbrev pub decreases-mask_free : goal.decreases-mask_free
decreases-mask_free l = length l.s.now

abbrev pub invariant-loop-s : goal.invariant-loop-s
invariant-loop-s l = Passing l.fn.s l.s

abbrev pub decreases-loop-s : goal.decreases-loop-s
decreases-loop-s l = length l.s
