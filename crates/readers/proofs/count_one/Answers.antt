-- One entry of the counts, by the definition.
use Rattle.std.proofs.Common.{ap}
use Rattle.readers.specs.Table.{one_more}
use Rattle.readers.proofs.count_one.Goals as goal

pub returns : goal.returns
unfolding one_more
returns c = ap (one_more c.args.by_reader.now c.args.index) c.place.ensures.0
