-- Of 0 and 1, the least is `and`, and the largest `or` (`Words`).
use Rattle.expressions.proofs.Words.{least_word, largest_word}
use Rattle.expressions.proofs.connect.Goals as goal

pub returns-in-And : goal.returns-in-And
returns-in-And c = rw c.in-And.is (least_word _ _ _ c.requires.0 c.min.ensures)

pub returns-in-Or : goal.returns-in-Or
returns-in-Or c = rw c.in-Or.is (largest_word _ _ _ c.requires.0 c.requires.1 c.max.ensures)
