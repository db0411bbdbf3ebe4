use Rattle.successors.proofs.Stays.{stays_there, passed_next}
use Rattle.successors.proofs.unchanged.unchanged.Goals as goal

pub loop-n-preserved : goal.loop-n-preserved
loop-n-preserved c = passed_next _ _ _ _ c.loop-n.invariant _ _ (stays_there c.args.s.now c.args.path.now _ _ _ c.in-Some.ensures.1) c.in-Some.ensures.0 c.leading.ensures.0 c.if-s-at.false c.if-path-next.false
