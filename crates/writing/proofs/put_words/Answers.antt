use native.Mathlib.Omega.{arith}
use Rattle.writing.specs.Laws.Wrote.{words_none, words_next}
use Rattle.writing.proofs.put_words.Goals as goal

pub loop-i-init : goal.loop-i-init
loop-i-init c = (omega arith, words_none _)

pub loop-i-preserved : goal.loop-i-preserved
loop-i-preserved c = (omega arith, rw c.to_le_bytes.ensures (words_next _ _ _ _ c.loop-i-test.true c.loop-i.invariant.0 c.loop-i.invariant.1))
