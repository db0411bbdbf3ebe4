use Rattle.measures.proofs.Steps.{no_step, next_step}
use Rattle.measures.proofs.repeated.Goals as goal

pub loop-init : goal.loop-init
loop-init g c = λ f h. no_step f _

pub loop-preserved : goal.loop-preserved
loop-preserved g c = λ f h. next_step f _ _ (c.loop.invariant f h) (h _ _ c.step-w.ensures)
