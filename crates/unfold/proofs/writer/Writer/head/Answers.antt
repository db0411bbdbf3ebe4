use native.Mathlib.Omega.{arith}
use mathlib.Core.Path.{refl, ◌∙◌}
use Rattle.unfold.specs.Laws.Puts.{from_none}
use Rattle.unfold.proofs.RowCases.{head_put, head_next}
use Rattle.unfold.proofs.writer.Writer.head.Goals as goal

pub loop-i-init : goal.loop-i-init
loop-i-init c = from_none _ _

pub loop-i-preserved : goal.loop-i-preserved
loop-i-preserved c = head_next _ _ _ _ _ _ (omega arith) (omega (arith, c.put.auto.bytes)) c.loop-i.invariant c.put-in-loop-i.ensures

pub returns : goal.returns
returns c = record {
  same_buffer = refl;
  same_length = c.loop-i.auto.bytes ∙ c.put.auto.bytes;
  put = record { ends = omega arith; written_there = head_put _ _ _ _ _ _ _ (omega arith) c.put.ensures c.loop-i-test.false c.loop-i.invariant };
}
