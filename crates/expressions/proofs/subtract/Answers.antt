-- A difference is a number; or it falls below 0, or has no first operand (`Words`).
use Rattle.expressions.proofs.Words.{difference_fits, difference_none}
use Rattle.expressions.proofs.subtract.Goals as goal

pub returns-then-b-a : goal.returns-then-b-a
returns-then-b-a c = difference_fits _ _ c.if-a-lt-UNDEFINED.true c.if-b-a.true

pub returns-else-a-lt-UNDEFINED : goal.returns-else-a-lt-UNDEFINED
returns-else-a-lt-UNDEFINED c = difference_none _ _ c.else-a-lt-UNDEFINED.either
