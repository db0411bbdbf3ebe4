use native.Mathlib.Omega.{arith}
use lib.ListN.{length-set}
use Rattle.cells.specs.Laws.Framing.{each_next, each_end}
use Rattle.cells.proofs.framing.fill_each.Goals as goal

pub loop-x-preserved : goal.loop-x-preserved
loop-x-preserved c = (simp length-set (omega arith), each_next _ _ _ _ _ _ _ c.loop-x-test.true c.eval_data-v.ensures.0 c.loop-x.invariant.1)

pub returns : goal.returns
returns c = (c.loop-x.invariant.0, each_end _ _ _ _ _ _ (omega arith) c.loop-x-test.false c.loop-x.invariant.1)
