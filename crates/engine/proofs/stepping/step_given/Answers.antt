use Rattle.given.specs.Laws.Handing.{handed_some, handed_none}
use Rattle.engine.proofs.RoomCases.{fits, lacks}
use Rattle.engine.proofs.StepGivenCases.{steps_stranger, steps_short_term, steps_short_memory, steps_short_next, steps_done}
use Rattle.engine.proofs.stepping.step_given.Goals as goal

pub returns-in_err-room-clause-done : goal.returns-in_err-room-clause-done
returns-in_err-room-clause-done c =
    let h = lacks c.room.ensures c.in_err-room.was _ c.from_residual-in_err-room.ensures in
    rw h.0 (steps_short_term _ _ _ _ _ c.ask.ensures _ (handed_some _ c.ok_or.ensures.value c.in_ok-wanted.was) h.1)

pub returns-in_err-room-2-clause-done : goal.returns-in_err-room-2-clause-done
returns-in_err-room-2-clause-done c =
    let h = lacks c.room-2.ensures c.in_err-room-2.was _ c.from_residual-in_err-room-2.ensures in
    rw h.0 (steps_short_memory _ _ _ _ _ c.ask.ensures _ (handed_some _ c.ok_or.ensures.value c.in_ok-wanted.was) (fits c.room.ensures c.in_ok-room.was) h.1)

pub returns-in_err-room-3-clause-done : goal.returns-in_err-room-3-clause-done
returns-in_err-room-3-clause-done c =
    let h = lacks c.room-3.ensures c.in_err-room-3.was _ c.from_residual-in_err-room-3.ensures in
    rw h.0 (steps_short_next _ _ _ _ _ c.ask.ensures _ (handed_some _ c.ok_or.ensures.value c.in_ok-wanted.was) (fits c.room.ensures c.in_ok-room.was) (fits c.room-2.ensures c.in_ok-room-2.was) h.1)

pub returns-clause-done : goal.returns-clause-done
returns-clause-done c = steps_done _ _ _ _ _ c.ask.ensures _ (handed_some _ c.ok_or.ensures.value c.in_ok-wanted.was) (fits c.room.ensures c.in_ok-room.was) (fits c.room-2.ensures c.in_ok-room-2.was) (fits c.room-3.ensures c.in_ok-room-3.was) _ _ _ c.step_at.ensures.done

pub returns-in_err-wanted-clause-done : goal.returns-in_err-wanted-clause-done
returns-in_err-wanted-clause-done c =
    let h = handed_none _ c.ok_or.ensures.value c.in_err-wanted.was _ c.from_residual.ensures in
    rw h.1 (steps_stranger _ _ _ _ _ c.ask.ensures h.0)
