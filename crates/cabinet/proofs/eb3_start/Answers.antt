use Rattle.cabinet.proofs.Cases.{start_gives, start_refuses}
use Rattle.cabinet.proofs.eb3_start.Goals as goal

pub returns-in-Ok : goal.returns-in-Ok
returns-in-Ok c = let e = c.start.ensures in record { answer = start_gives _ _ _ _ e.answer _ c.in-Ok.is; term_after = e.term_after; memory_after = e.memory_after }

pub returns-in-Err : goal.returns-in-Err
returns-in-Err c = let e = c.start.ensures in record { answer = start_refuses _ _ _ _ e.answer _ _ c.default.result c.in-Err.is c.from.ensures c.default.ensures; term_after = e.term_after; memory_after = e.memory_after }
