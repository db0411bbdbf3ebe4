use Rattle.engine.proofs.RoomCases.{fits, lacks}
use Rattle.engine.proofs.RunCases.{ran_short_term, ran_short_memory, ran_short_spare, ran_short_cells, ran_not_through, ran_done, table_room}
use mathlib.Core.Path.{refl}
use Rattle.engine.proofs.running.run_admitted.Goals as goal

pub returns-in_err-room : goal.returns-in_err-room
returns-in_err-room c =
    let h = lacks c.room.ensures c.in_err-room.was _ c.from_residual.ensures in
    rw h.0 (ran_short_term c.args.rules.now c.args.sizes c.args.list.now c.args.table.now c.args.term.now c.args.memory.now c.args.spare.now c.args.cells.now h.1)

pub returns-in_err-room-2 : goal.returns-in_err-room-2
returns-in_err-room-2 c =
    let h = lacks c.room-2.ensures c.in_err-room-2.was _ c.from_residual-in_err-room-2.ensures in
    rw h.0 (ran_short_memory c.args.rules.now c.args.sizes c.args.list.now c.args.table.now c.args.term.now c.args.memory.now c.args.spare.now c.args.cells.now (fits c.room.ensures c.in_ok-room.was) h.1)

pub returns-in_err-room-3 : goal.returns-in_err-room-3
returns-in_err-room-3 c =
    let h = lacks c.room-3.ensures c.in_err-room-3.was _ c.from_residual-in_err-room-3.ensures in
    rw h.0 (ran_short_spare c.args.rules.now c.args.sizes c.args.list.now c.args.table.now c.args.term.now c.args.memory.now c.args.spare.now c.args.cells.now (fits c.room.ensures c.in_ok-room.was) (fits c.room-2.ensures c.in_ok-room-2.was) h.1)

pub returns-in_err-room-4 : goal.returns-in_err-room-4
returns-in_err-room-4 c =
    let h = lacks c.room-4.ensures c.in_err-room-4.was _ c.from_residual-in_err-room-4.ensures in
    rw h.0 (ran_short_cells c.args.rules.now c.args.sizes c.args.list.now c.args.table.now c.args.term.now c.args.memory.now c.args.spare.now c.args.cells.now (fits c.room.ensures c.in_ok-room.was) (fits c.room-2.ensures c.in_ok-room-2.was) (fits c.room-3.ensures c.in_ok-room-3.was) h.1)

pub returns-then-not-lets_through : goal.returns-then-not-lets_through
returns-then-not-lets_through c = ran_not_through c.args.rules.now c.args.sizes c.args.list.now c.args.table.now c.args.term.now c.args.memory.now c.args.spare.now c.args.cells.now (fits c.room.ensures c.in_ok-room.was) (fits c.room-2.ensures c.in_ok-room-2.was) (fits c.room-3.ensures c.in_ok-room-3.was) (fits c.room-4.ensures c.in_ok-room-4.was) _ c.lets_through.ensures c.if-not-lets_through.true

pub add_table-requires : goal.add_table-requires
add_table-requires c = table_room c.args.list.now _ _ c.lets_through.ensures c.if-not-lets_through.false

pub returns : goal.returns
returns c = ran_done c.args.rules.now c.args.sizes c.args.list.now c.args.table.now c.args.term.now c.args.memory.now c.args.spare.now c.args.cells.now (fits c.room.ensures c.in_ok-room.was) (fits c.room-2.ensures c.in_ok-room-2.was) (fits c.room-3.ensures c.in_ok-room-3.was) (fits c.room-4.ensures c.in_ok-room-4.was) _ c.lets_through.ensures c.if-not-lets_through.false _ _ _ _ _ _ _ refl c.run_main-totals.ensures c.add_table.ensures
