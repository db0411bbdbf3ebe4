-- A sum is a number, or not: the least of it and the word of undefined (`Words`).
use Rattle.expressions.proofs.Words.{sum_least}
use Rattle.expressions.proofs.add.Goals as goal

pub returns : goal.returns
returns c = sum_least _ _ _ c.min.ensures
