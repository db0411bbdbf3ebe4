-- Each turn of the loop makes one cell more new (`each_next`).
use mathlib.Core.Path.{◌≡◌}
use lib.ListN.{length}
use Rattle.cells.specs.Laws.Framing.{Begins}
use Rattle.cells.proofs.framing.fill_each.Given as goal

-- Each turn of the loop makes one cell more new (`each_next`).
abbrev pub invariant-loop-x : goal.invariant-loop-x
invariant-loop-x l = (length l.m ≡ length l.initial.m) × Begins l.s l.at l.k l.initial.m l.m l.x
