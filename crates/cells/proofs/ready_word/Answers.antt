-- One case for each kind of word below the cells (`specs/Laws/Preparing`).
use mathlib.Core.Path.{ap}
use Prim.Native.Nat.{◌%◌}
use Rattle.cells.specs.Laws.Preparing.{ready_variable, ready_old, ready_row, ready_none}
use Rattle.cells.proofs.ready_word.Goals as goal

pub returns-then-i-lt-OLD_CELLS : goal.returns-then-i-lt-OLD_CELLS
returns-then-i-lt-OLD_CELLS c = ready_variable _ _ _ _ _ c.if-i-lt-OLD_CELLS.true

pub returns-then-i-lt-ROWS : goal.returns-then-i-lt-ROWS
returns-then-i-lt-ROWS c = ready_old _ _ _ _ _ c.if-i-lt-OLD_CELLS.false c.if-i-lt-ROWS.true

pub returns-then-f-functions : goal.returns-then-f-functions
returns-then-f-functions c = ready_row _ _ _ _ _ _ c.if-i-lt-ROWS.false c.if-f-functions.true (ap (λ v. v % 65536) c.entry.ensures)

pub returns : goal.returns
returns c = ready_none _ _ _ _ _ c.if-i-lt-ROWS.false c.if-f-functions.false
