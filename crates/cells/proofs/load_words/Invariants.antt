-- Each turn of the loop puts one word more (`loading_next`).
use lib.ListN.{length}
use mathlib.Core.Path.{◌≡◌}
use Rattle.cells.specs.Preparing.{Loading}
use Rattle.cells.proofs.load_words.Given as goal

-- Each turn of the loop puts one word more (`loading_next`).
abbrev pub invariant-loop-i : goal.invariant-loop-i
invariant-loop-i l = (length l.m ≡ length l.initial.m) × Loading l.memory l.initial.m l.m l.at l.i
