-- Each turn of the loop makes one word more ready (`readying_next`).
use lib.ListN.{length}
use Prim.Native.Nat.{◌≤◌}
use mathlib.Core.Path.{◌≡◌}
use Rattle.expressions.specs.Stores.{now_place}
use Rattle.cells.specs.Laws.Preparing.{Readying}
use Rattle.cells.proofs.lay.Given as goal

-- Each turn of the loop makes one word more ready (`readying_next`).
abbrev pub invariant-loop-i : goal.invariant-loop-i
invariant-loop-i l = (now_place ≤ length l.initial.m) × (length l.m ≡ length l.initial.m) × Readying l.functions.directory.now l.initial.m l.m l.functions.width l.functions.count l.functions.cells l.i
