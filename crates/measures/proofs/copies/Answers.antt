use Rattle.std.proofs.Common.{rules}
use Rattle.measures.specs.Weighing.{measure, joint_of}
use Rattle.measures.proofs.Steps.{no_copy, copies}
use Rattle.measures.proofs.copies.Goals as goal

pub returns-then-n-eq0 : goal.returns-then-n-eq0
returns-then-n-eq0 c = no_copy _ _ _ _ c.if-n-eq0.true c.empty.ensures

pub returns : goal.returns
returns c = copies _ _ _ _ c.if-n-eq0.false (c.repeated.ensures (joint_of c.args.joint (measure c.args.a)) λ w v k. search rules)
