-- What is still to be searched answers what the whole does.
use Rattle.std.proofs.Common.{◌≡◌, ◌≤◌, drop}
use Rattle.paths.specs.Paths.{paired}
use Rattle.derivation.specs.Searching.{nth_pair}
use Rattle.derivation.proofs.searching.seek_pair.Given as goal

abbrev pub invariant-loop-i : goal.invariant-loop-i
invariant-loop-i l = (l.due ≤ l.k) × (nth_pair (paired l.x l.mask) 0 l.left l.right l.k ≡ nth_pair (paired l.x l.mask) l.i (drop l.i l.left) l.right l.due)
