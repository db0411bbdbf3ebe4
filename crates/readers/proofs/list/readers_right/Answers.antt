use Rattle.std.proofs.Common.{arith}
use Rattle.readers.proofs.Laws.Lists.{readers_next, readers_fail, readers_odd, readers_end}
use Rattle.readers.proofs.list.readers_right.Goals as goal

pub returns-then-list-ne0 : goal.returns-then-list-ne0
returns-then-list-ne0 c = readers_odd _ (λ e. c.if-list-ne0.true e)

pub returns-then-not-is_reader : goal.returns-then-not-is_reader
returns-then-not-is_reader c = readers_fail _ _ _ _ (omega arith) c.loop-i.invariant c.word_at.ensures c.is_reader.ensures c.if-not-is_reader.true

pub loop-i-preserved : goal.loop-i-preserved
loop-i-preserved c = readers_next _ _ _ _ (omega arith) c.loop-i.invariant c.word_at.ensures c.is_reader.ensures c.if-not-is_reader.false

pub returns : goal.returns
returns c = readers_end _ c.loop-i.i c.if-list-ne0.false c.loop-i.invariant (omega arith)
