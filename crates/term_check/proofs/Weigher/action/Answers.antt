use mathlib.Core.Path.{refl}
use Rattle.term_check.proofs.Leaves.{action_out, action_in}
use Rattle.term_check.proofs.Weigher.action.Goals as goal

pub returns-in_err-m-clause-read : goal.returns-in_err-m-clause-read
returns-in_err-m-clause-read c = rw c.from_residual.ensures (action_out _ _ c.if-t-eq0.false _ _ c.labels.ensures refl c.if-labels-l.false _ _ _ c.label_row-ds.ensures c.behind.ensures c.in_err-m.ensures refl)

pub returns-clause-read : goal.returns-clause-read
returns-clause-read c = action_in _ _ c.if-t-eq0.false _ _ c.labels.ensures refl c.if-labels-l.false _ _ _ c.label_row-ds.ensures c.behind.ensures c.in_ok-m.ensures _ _ _ refl refl c.single.ensures _ c.leaf.ensures.read
