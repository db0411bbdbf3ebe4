use Prim.Native.Nat.{ℕ, ◌<◌}
use mathlib.Core.Path.{◌≡◌}
use mathlib.Core.Bool.{Bool}
use lib.ListN.{drop}
use Rattle.listing.specs.Combining.{outside}
use Rattle.listing.proofs.Writing.{Putting}
use Rattle.listing.proofs.combining.Out.put_outside.Given as goal

abbrev pub invariant-loop-a : goal.invariant-loop-a
invariant-loop-a g l = (q : ℕ → Bool) → ((a : ℕ) (b : Bool) → a < 4294967296 → goal.F-post g l.test a b → b ≡ q a) → Putting (outside q l.from) l.initial.self l.self (outside q (drop l.a-index l.from))
