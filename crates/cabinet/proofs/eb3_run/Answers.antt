use Rattle.cabinet.proofs.Cases.{run_gives, run_refuses}
use Rattle.cabinet.proofs.eb3_run.Goals as goal

pub returns-in-Ok : goal.returns-in-Ok
returns-in-Ok c = let q = run_gives _ _ _ _ _ _ _ _ _ _ _ _ c.run.ensures _ _ c.in-Ok.is c.from.ensures in record { answer = q.0; table_after = q.1; term_after = q.2; memory_after = q.3; scratch_after = q.4 }

pub returns-in-Err : goal.returns-in-Err
returns-in-Err c = let q = run_refuses _ _ _ _ _ _ _ _ _ _ _ _ c.run.ensures _ _ c.default.result c.in-Err.is c.from-in-Err.ensures c.default.ensures in record { answer = q.0; table_after = q.1; term_after = q.2; memory_after = q.3; scratch_after = q.4 }
