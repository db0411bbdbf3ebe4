use lib.ListN.{length}
use Prim.Native.Nat.{◌+◌, ◌*◌}
use Rattle.listing.proofs.lister.Lister.+listing_terms.Given as goal

abbrev pub decreases-list_combined : goal.decreases-list_combined
decreases-list_combined l = 4 * length l.d.now + 1

abbrev pub decreases-list_guard : goal.decreases-list_guard
decreases-list_guard l = 4 * length l.t.now + 1

abbrev pub decreases-list_masked : goal.decreases-list_masked
decreases-list_masked l = 4 * length l.d.now + 2

abbrev pub decreases-list_parallel : goal.decreases-list_parallel
decreases-list_parallel l = 4 * length l.d.now + 3

abbrev pub decreases-list_sequence : goal.decreases-list_sequence
decreases-list_sequence l = 4 * length l.t.now + 1

abbrev pub decreases-list_shown : goal.decreases-list_shown
decreases-list_shown l = 4 * length l.s.now

abbrev pub decreases-list_star : goal.decreases-list_star
decreases-list_star l = 4 * length l.t.now + 1

abbrev pub decreases-list_two : goal.decreases-list_two
decreases-list_two l = 4 * length l.t.now + 1
