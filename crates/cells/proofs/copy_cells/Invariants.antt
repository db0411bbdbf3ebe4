-- Each turn of the loop copies one word more (`apart_next`).
use mathlib.Core.Path.{◌≡◌}
use lib.ListN.{length}
use Rattle.cells.specs.Frames.{CopiedApart}
use Rattle.cells.proofs.copy_cells.Given as goal

-- Each turn of the loop copies one word more (`apart_next`).
abbrev pub invariant-loop-i : goal.invariant-loop-i
invariant-loop-i l = (length l.m ≡ length l.initial.m) × CopiedApart l.initial.m l.m l.from l.at l.i
