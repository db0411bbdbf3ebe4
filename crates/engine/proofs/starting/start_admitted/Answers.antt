use Rattle.engine.proofs.RoomCases.{fits, lacks}
use Rattle.engine.proofs.StartCases.{started_short_term, started_short_memory, started_done}
use Rattle.engine.proofs.starting.start_admitted.Goals as goal

pub returns-in_err-room : goal.returns-in_err-room
returns-in_err-room c =
    let h = lacks c.room.ensures c.in_err-room.was _ c.from_residual.ensures in
    rw h.0 (started_short_term _ _ h.1)

pub returns-in_err-room-2 : goal.returns-in_err-room-2
returns-in_err-room-2 c =
    let h = lacks c.room-2.ensures c.in_err-room-2.was _ c.from_residual-in_err-room-2.ensures in
    rw h.0 (started_short_memory _ _ (fits c.room.ensures c.in_ok-room.was) h.1)

pub returns : goal.returns
returns c = started_done _ _ (fits c.room.ensures c.in_ok-room.was) (fits c.room-2.ensures c.in_ok-room-2.was) _ _ c.begin.ensures
