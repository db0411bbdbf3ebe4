use lib.ListN.{length-set}
use native.Mathlib.Omega.{arith}
use Rattle.cells.specs.Laws.Preparing.{readying_next, readying_end}
use Rattle.cells.proofs.lay.Goals as goal

pub loop-i-preserved : goal.loop-i-preserved
loop-i-preserved c = (omega arith, simp length-set (omega arith), readying_next _ _ _ _ _ _ _ _ (omega arith) c.ready_word.ensures c.loop-i.invariant.2)

pub returns : goal.returns
returns c = (c.loop-i.invariant.1, λ h. readying_end _ _ _ _ _ _ _ c.args.functions.now.few (omega arith) c.loop-i-test.false c.loop-i.invariant.2)
