use Rattle.readers.proofs.Laws.Table.{read_start, read_next}
use Rattle.readers.proofs.read_records.Goals as goal

pub loop-i-init : goal.loop-i-init
loop-i-init c =
    let h = c.default-t.ensures in
    read_start _ c.default-t.result (λ i. record { visible = (h.0) i; internal = (h.1.0) i; refused = (h.1.1) i })

pub loop-i-preserved : goal.loop-i-preserved
loop-i-preserved c = read_next _ _ _ _ c.loop-i-test.true c.loop-i.invariant c.read_record.ensures
