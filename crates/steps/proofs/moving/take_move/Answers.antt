-- A short term has a short path (`size_below`), and any other room in the long array.
use Rattle.steps.proofs.TakeCases.{size_below}
use Rattle.steps.proofs.moving.take_move.Goals as goal

pub returns-then-s-le256 : goal.returns-then-s-le256
returns-then-s-le256 c = λ P E w b. c.take_sized.ensures P E w (size_below c.if-s-le256.true P E w)

pub returns-then-s-le1024 : goal.returns-then-s-le1024
returns-then-s-le1024 c = λ P E w b. c.take_sized-then-s-le1024.ensures P E w (size_below c.if-s-le1024.true P E w)
