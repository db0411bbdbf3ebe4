-- In order: the block's number is wrong; it is right and the first sum is right; the first sum is wrong.
use mathlib.Core.Path.{◌∙◌}
use native.Mathlib.Omega.{arith}
use Rattle.words.specs.Laws.Words.{word_at}
use Rattle.blocks.proofs.Right.{number_wrong, sum_wrong, sum_right}
use Rattle.blocks.proofs.check_block.Goals as goal

pub returns-then-word_at-i : goal.returns-then-word_at-i
returns-then-word_at-i c = number_wrong _ c.args.block.now (c.word_at.ensures ∙ word_at c.args.block.now 0 (omega (arith, c.told-block))) c.if-word_at-i.true

pub returns-then-block-p : goal.returns-then-block-p
returns-then-block-p c = sum_right _ c.args.block.now (c.word_at.ensures ∙ word_at c.args.block.now 0 (omega (arith, c.told-block))) c.if-word_at-i.false c.sums_of-p.ensures c.if-block-p.true

pub returns-else-block-p : goal.returns-else-block-p
returns-else-block-p c = sum_wrong _ c.args.block.now (c.word_at.ensures ∙ word_at c.args.block.now 0 (omega (arith, c.told-block))) c.if-word_at-i.false c.sums_of-p.ensures c.if-block-p.false
