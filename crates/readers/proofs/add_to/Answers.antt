-- One record is the sum; the others are kept (document 02, K1).
use Rattle.std.proofs.Common.{ap}
use Rattle.std.specs.Prelude.{slice_set}
use Rattle.readers.specs.Table.{added_to}
use Rattle.readers.proofs.add_to.Goals as goal

pub returns : goal.returns
unfolding added_to
returns c = ap (λ r. slice_set c.args.table.now c.args.index r) c.plus.ensures
