use Rattle.std.proofs.Common.{rules}
use Rattle.eb3.specs.Reading.{count_of}
use Rattle.words.specs.Laws.Rows.{count_ends}
use Rattle.declarations.proofs.check_domains.Goals as goal

pub returns : goal.returns
returns c = c.counted_row.ensures (count_of 1 64) (count_ends 1 64) λ s r k. search rules
