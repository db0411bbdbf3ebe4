use mathlib.Core.Path.{refl}
use native.Mathlib.Omega.{arith}
use lib.ListN.{length-set}
use Rattle.cells.specs.Laws.Framing.{apart_next}
use Rattle.cells.proofs.copy_cells.Goals as goal

pub loop-i-preserved : goal.loop-i-preserved
loop-i-preserved c = (simp length-set (omega arith), apart_next _ _ _ _ _ _ (omega arith) (omega arith) refl c.loop-i.invariant.1.copied c.loop-i.invariant.1.copies_up)
