use mathlib.Core.Path.{◌∙◌}
use native.Mathlib.Omega.{arith}
use Rattle.unfold.proofs.RowCases.{from_bytes}
use Rattle.unfold.proofs.writer.put.Goals as goal

pub returns : goal.returns
returns c = from_bytes _ _ _ _ _ (omega arith) (c.copy_from_slice.ensures.after ∙ c.to_le_bytes.ensures)
