use mathlib.Core.Path.{◌∙◌}
use native.Mathlib.Omega.{arith}
use Rattle.words.specs.Laws.Words.{word_at}
use Rattle.blocks.proofs.Joining.{decode_next, decode_end}
use Rattle.blocks.proofs.decode.Goals as goal

pub loop-i-preserved : goal.loop-i-preserved
loop-i-preserved c = decode_next _ _ _ _ _ c.requires (omega arith) _ (omega arith) (c.word_at.ensures ∙ word_at _ _ (omega arith)) c.loop-i.invariant

pub returns : goal.returns
returns c = decode_end _ _ _ _ _ c.requires (omega arith) (omega arith) c.loop-i.invariant
