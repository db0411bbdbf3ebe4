use Prim.Native.Nat.{ℕ, ◌<◌, ◌≤◌, ◌+◌}
use lib.ListN.{length, get_or}
use mathlib.Core.Path.{◌≡◌}
use Rattle.listing.proofs.combining.shift.Given as goal

-- Each turn of the loop copies one number more.
abbrev pub invariant-loop-i : goal.invariant-loop-i
invariant-loop-i l = (length l.acts ≡ length l.initial.acts) × ((j : ℕ) → j < l.i → get_or l.acts j 0 ≡ get_or l.initial.acts (l.b + j) 0) × ((j : ℕ) → l.i ≤ j → get_or l.acts j 0 ≡ get_or l.initial.acts j 0)
