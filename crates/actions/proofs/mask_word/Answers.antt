use mathlib.Core.Path.{◌∙◌}
use native.Mathlib.Omega.{arith}
use Rattle.actions.proofs.Cases.{word_in_mask}
use Rattle.actions.proofs.mask_word.Goals as goal

pub returns : goal.returns
returns c = word_in_mask _ _ _ (c.from.ensures ∙ c.word.ensures) (omega arith)
