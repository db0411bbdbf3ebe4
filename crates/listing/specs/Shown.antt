-- The moves of a running term outside a set of labels (document 01, "Moves, in order": a parallel has its sides' moves outside its mask, and pairs of
-- those in it). Beside a side that can never move there are no pairs, so the mask only hides labels. Labels that masks above hide are handed down, so
-- that nothing is listed that is taken away again.
use Rattle.std.specs.Prelude.{Bool, List, ℕ}
use Rattle.eb3.specs.Expressions.{Cond}
use Rattle.eb3.specs.Terms.{Term}
use Rattle.actions.specs.Sets.{in_set}
use Rattle.listing.specs.Listing.{codes}
use Rattle.listing.specs.Combining.{outside}

-- The numbers of the moves' actions whose labels are not in x, in order.
unfoldable pub shown : ℕ → (Cond → Bool) → Term → List ℕ
shown x g E = outside (in_set x) (codes g E)
