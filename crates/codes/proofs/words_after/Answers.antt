use Rattle.codes.proofs.Cases.{words_told}
use Rattle.codes.proofs.words_after.Goals as goal

pub returns : goal.returns
returns c = words_told c.args.shape c.args.w c.requires
