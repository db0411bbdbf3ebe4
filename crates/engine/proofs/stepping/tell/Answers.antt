use Rattle.engine.proofs.StepCases.{told_internal, told_visible}
use mathlib.Core.Path.{refl}
use Rattle.engine.proofs.stepping.tell.Goals as goal

pub returns-then-code-eq0 : goal.returns-then-code-eq0
returns-then-code-eq0 c = told_internal _ _ _ c.if-code-eq0.true refl

pub returns : goal.returns
returns c = told_visible _ _ _ _ _ _ _ c.if-code-eq0.false refl c.label_of.ensures c.argument_count.ensures c.argument_at.ensures c.argument_at-2.ensures
