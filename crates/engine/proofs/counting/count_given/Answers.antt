use Rattle.engine.proofs.RoomCases.{fits, lacks}
use Rattle.engine.proofs.CountCases.{counted_short, counted_done}
use Rattle.engine.proofs.counting.count_given.Goals as goal

pub returns-in_err-room : goal.returns-in_err-room
returns-in_err-room c =
    let h = lacks c.room.ensures c.in_err-room.was _ c.from_residual.ensures in
    rw h.0 (counted_short _ h.1)

pub returns : goal.returns
returns c = counted_done _ (fits c.room.ensures c.in_ok-room.was) _ c.count_at.ensures
