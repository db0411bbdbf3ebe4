-- Read, added and written, the table is increased (`table_increased`).
use Rattle.readers.proofs.Laws.Table.{records_fit}
use Rattle.readers.proofs.Laws.Bytes.{numbers_fit}
use Rattle.readers.proofs.Laws.Increase.{table_increased}
use Rattle.readers.proofs.add_table.Goals as goal

pub add_all-u-requires : goal.add_all-u-requires
add_all-u-requires c = records_fit _ (numbers_fit c.args.table.now (λ i. (c.slice_known-1.given i).fits)) _ c.read_records-t.ensures

pub returns : goal.returns
returns c = search table_increased
