use mathlib.Core.Path.{refl}
use Rattle.term_check.proofs.Values.{elements_next, some_elements}
use Rattle.term_check.proofs.elements.Goals as goal

pub loop-i-preserved : goal.loop-i-preserved
loop-i-preserved c = elements_next _ _ _ _ c.loop-i.invariant c.loop-i-test.true _ _ _ refl c.size_of.ensures.0 refl c.if-t-i-ne-CONSTANT.false c.if-size_of-t.false

pub returns-then-size_of-t : goal.returns-then-size_of-t
returns-then-size_of-t c = search some_elements
