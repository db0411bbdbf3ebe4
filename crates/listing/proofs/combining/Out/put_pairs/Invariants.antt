use lib.ListN.{drop}
use Rattle.actions.specs.Sets.{in_set}
use Rattle.listing.specs.Combining.{pairs}
use Rattle.listing.proofs.Writing.{Putting}
use Rattle.listing.proofs.combining.Out.put_pairs.Given as goal

abbrev pub invariant-loop-x : goal.invariant-loop-x
invariant-loop-x l = Putting (pairs (in_set l.mask) l.left l.right) l.initial.self l.self (pairs (in_set l.mask) (drop l.x-index l.left) l.right)
