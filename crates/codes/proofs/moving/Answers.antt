use Rattle.codes.proofs.Cases.{moving_coded}
use Rattle.codes.proofs.moving.Goals as goal

pub returns : goal.returns
returns c = moving_coded c.args.w c.requires
