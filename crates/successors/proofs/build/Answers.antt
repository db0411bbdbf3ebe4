-- The words that stay, after them the beginning of the operand's successor, and the rest of the term: the whole successor.
use Rattle.successors.proofs.Begun.{built}
use Rattle.successors.proofs.build.Goals as goal

pub returns : goal.returns
returns c = built _ _ _ _ _ _ _ _ _ c.unchanged-stay.ensures c.begin_after-x.ensures c.close.ensures
