use Rattle.actions.proofs.Cases.{code_none, code_one, code_two}
use mathlib.Core.Path.{◌∙◌}
use Rattle.actions.proofs.code_at.Goals as goal

pub returns-then-n-eq0 : goal.returns-then-n-eq0
returns-then-n-eq0 c = code_none _ _ _ c.arguments-n.ensures.1 (c.from-label.ensures ∙ c.word.ensures) c.if-n-eq0.true

pub returns-then-n-eq1 : goal.returns-then-n-eq1
returns-then-n-eq1 c = code_one _ _ _ c.arguments-n.ensures.1 (c.from-label.ensures ∙ c.word.ensures) _ (c.from-x.ensures ∙ c.word-2.ensures) c.if-n-eq1.true

pub returns : goal.returns
returns c =
    code_two _ _ _ c.arguments-n.ensures.1 (c.from-label.ensures ∙ c.word.ensures) _ (c.from-x.ensures ∙ c.word-2.ensures) _ (c.from-y.ensures ∙ c.word-3.ensures)
    c.arguments-n.ensures.0 c.if-n-eq0.false c.if-n-eq1.false
