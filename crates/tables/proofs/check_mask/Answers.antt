use mathlib.Core.Path.{refl}
use Rattle.tables.proofs.Rounds.{mask_on}
use Rattle.tables.proofs.check_mask.Goals as goal

pub loop-i-preserved : goal.loop-i-preserved
loop-i-preserved c = mask_on _ _ _ _ _ c.loop-i.invariant c.loop-i-test.true _ _ c.mask_limit.ensures refl c.if-t-i.false _ c.if-mask_limit-t.false c.saturating_sub-left.ensures
