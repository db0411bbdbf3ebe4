use Rattle.std.proofs.Common.{rules}
use Rattle.eb3.specs.Reading.{number_of}
use Rattle.words.specs.Laws.Checking.{number_ends}
use Rattle.declarations.proofs.parameters.Goals as goal

pub returns : goal.returns
returns c = c.counted_row.ensures (number_of 5 c.args.d) (number_ends 5 c.args.d) λ s r k. search rules
