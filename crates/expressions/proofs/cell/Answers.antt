-- A cell is read, or the argument is outside the domain (`Words`).
use Rattle.expressions.proofs.Words.{cell_there, cell_outside}
use Rattle.expressions.proofs.cell.Goals as goal

pub returns-then-x-word : goal.returns-then-x-word
returns-then-x-word c = let a = c.args in cell_there a.m.now a.at a.f a.x c.word.result c.word.ensures.0 c.word-then-x-word.result c.word-then-x-word-2.result c.word.ensures.1 c.if-x-word.true c.word-then-x-word.ensures.0 c.word-then-x-word-2.ensures.0 c.word-then-x-word-2.ensures.1

pub returns-else-x-word : goal.returns-else-x-word
returns-else-x-word c = let a = c.args in cell_outside a.m.now a.at a.f a.x c.word.result c.word.ensures.0 c.requires.2 c.if-x-word.false
