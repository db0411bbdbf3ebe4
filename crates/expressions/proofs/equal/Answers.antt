-- Two words are the same, or they differ (`Words`).
use Rattle.expressions.proofs.Words.{equal_byte}
use Rattle.expressions.proofs.equal.Goals as goal

pub returns : goal.returns
returns c = equal_byte _ _ c.requires.0 c.requires.1 _ c.from.ensures
