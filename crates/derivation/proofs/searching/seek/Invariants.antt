-- What is still to be searched answers what the whole does.
use Rattle.std.proofs.Common.{◌≡◌, ℕ, Bool, ◌<◌, ◌≤◌, drop}
use Rattle.derivation.specs.Searching.{nth_place}
use Rattle.derivation.proofs.searching.seek.Given as goal

abbrev pub invariant-loop-i : goal.invariant-loop-i
invariant-loop-i g l = (l.due ≤ l.k) × ((q : ℕ → Bool) → ((a : ℕ) (b : Bool) → a < 4294967296 → goal.F-post g l.test a b → b ≡ q a) → nth_place q 0 l.acts l.k ≡ nth_place q l.i (drop l.i l.acts) l.due)
