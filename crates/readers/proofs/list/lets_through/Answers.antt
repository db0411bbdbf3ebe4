-- A table that is too short (`records_short`), or the readers (`records_there`).
use Rattle.std.proofs.Common.{◌∙◌}
use Rattle.std.proofs.lemmas.Bool.{lt-leb}
use Rattle.readers.proofs.Laws.Lists.{records_short, records_there}
use Rattle.readers.proofs.list.lets_through.Goals as goal

pub returns-then-table-ge32 : goal.returns-then-table-ge32
returns-then-table-ge32 c = records_there _ c.args.table.now _ c.if-table-ge32.true c.readers_right.ensures

pub returns-else-table-ge32 : goal.returns-else-table-ge32
returns-else-table-ge32 c = lt-leb _ _ c.if-table-ge32.false ∙ records_short _ c.args.table.now c.if-table-ge32.false
