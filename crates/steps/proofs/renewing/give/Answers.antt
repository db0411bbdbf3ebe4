-- Two words are stored, the low halves of two arguments (`variables_given`).
use mathlib.Core.Path.{refl}
use lib.ListN.{length-set}
use Rattle.steps.proofs.Keeps.{variables_given}
use Rattle.steps.proofs.renewing.give.Goals as goal

pub returns : goal.returns
returns c = (simp length-set, variables_given _ _ _ _ _ _ c.requires c.argument_at.ensures refl c.argument_at-2.ensures refl)
