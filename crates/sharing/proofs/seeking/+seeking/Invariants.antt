-- The search for a part's path and its parts, which call one another, meet their contracts (document 01, "Moves, in order"). Where a part returns, a case of
-- proofs/SeekingArms says what it answers.
use lib.ListN.{length}
use Prim.Native.Nat.{◌+◌, ◌*◌}
use Rattle.sharing.proofs.seeking.+seeking.Given as goal

-- Four times the words of the term at hand, with a part above what it calls on the same words.
abbrev pub decreases-seek : goal.decreases-seek
decreases-seek l = 4 * length l.s.now

abbrev pub decreases-seek_guard : goal.decreases-seek_guard
decreases-seek_guard l = 4 * length l.t.now + 1

abbrev pub decreases-seek_parallel : goal.decreases-seek_parallel
decreases-seek_parallel l = 4 * length l.d.now + 2

abbrev pub decreases-seek_sequence : goal.decreases-seek_sequence
decreases-seek_sequence l = 4 * length l.t.now + 1

abbrev pub decreases-seek_star : goal.decreases-seek_star
decreases-seek_star l = 4 * length l.t.now + 1

abbrev pub decreases-seek_two : goal.decreases-seek_two
decreases-seek_two l = 4 * length l.t.now + 1
