-- A shared term is spelled out by its first word, its parts one after the other (document 01, "Operations": Run writes the last term). The measure is twice
-- the number of words given, and one more where these are the words after the first.
use lib.ListN.{length}
use Prim.Native.Nat.{◌+◌, ◌*◌}
use Rattle.sharing.proofs.expansion.Expansion.+expanding.Given as goal

abbrev pub decreases-expand : goal.decreases-expand
decreases-expand l = 2 * length l.s.now

abbrev pub decreases-expand_beside : goal.decreases-expand_beside
decreases-expand_beside l = 2 * length l.t.now + 1

abbrev pub decreases-expand_then : goal.decreases-expand_then
decreases-expand_then l = 2 * length l.t.now + 1
