-- Nothing changes by an internal action (`store_same`); a store has the room (`store_room`) and a label is below 64 (`store_label`); then all cells are new
-- (`store_renewed`).
use mathlib.Core.Path.{refl, ◌∙◌}
use Rattle.steps.proofs.Stores.{store_same, store_label, store_renewed}
use Rattle.steps.proofs.renewing.renew.Goals as goal

pub returns-then-code-eq0 : goal.returns-then-code-eq0
returns-then-code-eq0 c = (refl, store_same _ _ _ _ _ _ _ c.if-code-eq0.true)

pub returns-then-label-gt63 : goal.returns-then-label-gt63
returns-then-label-gt63 c = (c.give.ensures.0 ∙ c.keep.ensures.0, store_label _ _ _ _ _ _ _ _ _ _ c.if-code-eq0.false c.label_of-label.ensures refl c.if-label-gt63.true)

pub returns : goal.returns
returns c = (c.fill.ensures.0 ∙ c.give.ensures.0 ∙ c.keep.ensures.0, store_renewed _ _ _ _ _ _ _ _ _ _ _ _ c.if-code-eq0.false c.label_of-label.ensures refl c.keep.ensures.0 c.give.ensures.0 c.fill.ensures.0 c.keep.ensures.1 c.give.ensures.1 c.fill.ensures.1)
