-- The walk over a shared term, whose functions call one another, meets its contracts: FindingCases and FindingSides say what is answered where it returns
-- (document 01, "Moves, in order").
use lib.ListN.{length}
use Prim.Native.Nat.{◌+◌, ◌*◌}
use Rattle.sharing.proofs.finding.+finding.Given as goal

abbrev pub decreases-find : goal.decreases-find
decreases-find l = 2 * length l.s.now

abbrev pub decreases-find_beside : goal.decreases-find_beside
decreases-find_beside l = 2 * length l.t.now + 1

abbrev pub decreases-find_then : goal.decreases-find_then
decreases-find_then l = 2 * length l.t.now + 1
