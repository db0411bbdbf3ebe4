use Rattle.std.proofs.Common.{arith}
use lib.ListN.{length-set}
use Rattle.cells.specs.Laws.Preparing.{loading_next}
use Rattle.cells.proofs.load_words.Goals as goal

pub loop-i-preserved : goal.loop-i-preserved
loop-i-preserved c = (simp length-set (omega arith), loading_next _ _ _ _ _ _ (omega arith) c.word_at.ensures c.loop-i.invariant.1)
