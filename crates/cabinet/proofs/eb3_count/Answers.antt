use Rattle.cabinet.proofs.Cases.{count_gives, count_refuses}
use Rattle.cabinet.proofs.eb3_count.Goals as goal

pub returns-in-Ok : goal.returns-in-Ok
returns-in-Ok c = count_gives _ _ _ _ c.count.ensures _ c.in-Ok.is

pub returns-in-Err : goal.returns-in-Err
returns-in-Err c = count_refuses _ _ _ _ c.count.ensures _ _ c.default.result c.in-Err.is c.from.ensures c.default.ensures
