use Rattle.std.proofs.Common.{refl}
use Rattle.readers.proofs.Laws.Table.{put_start, put_next}
use Rattle.readers.proofs.write_records.Goals as goal

pub loop-i-init : goal.loop-i-init
loop-i-init c = put_start _ _

pub loop-i-preserved : goal.loop-i-preserved
loop-i-preserved c = put_next _ _ _ _ _ _ c.loop-i.invariant refl c.write_record.ensures.0
