-- The beginning that was written is followed by the words between it and the last e.
use Rattle.successors.proofs.Made.{closed}
use Rattle.successors.proofs.close.Goals as goal

pub returns : goal.returns
returns c = closed c.args.t.now c.args.x c.args.e c.args.out.now c.requires.0 c.requires.1 _ _ c.if-n-e.false c.put_behind-y.ensures
