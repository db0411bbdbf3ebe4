use Rattle.cabinet.proofs.Cases.{admit_gives, admit_refuses}
use Rattle.cabinet.proofs.eb3_admit.Goals as goal

pub returns-in-Ok : goal.returns-in-Ok
returns-in-Ok c = admit_gives _ _ c.admit.ensures _ c.in-Ok.is

pub returns-in-Err : goal.returns-in-Err
returns-in-Err c = admit_refuses _ _ c.admit.ensures _ _ c.default.result c.in-Err.is c.from.ensures c.default.ensures
