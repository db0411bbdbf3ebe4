-- Less than a number; less than the word of undefined; not less (`Words`).
use mathlib.Core.Logic.{inl, inr}
use Rattle.expressions.proofs.Words.{less_byte}
use Rattle.expressions.proofs.less.Goals as goal
use Rattle.expressions.proofs.less.Goals.{then-a-b, else-a-b}

pub returns : goal.returns
returns c =
    less_byte _ _ c.requires.0 c.requires.1 _ _ c.from.ensures
    (elim c.if-a-b.branch [ then-a-b w ↦ inl (w.if-a-b.true, w.from-is) | else-a-b w ↦ inr (w.if-a-b.false, w.from-is) ])
