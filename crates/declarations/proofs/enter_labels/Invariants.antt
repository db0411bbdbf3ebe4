use Rattle.declarations.proofs.Cases.{Entering}
use Rattle.declarations.proofs.enter_labels.Given as goal

abbrev pub invariant-loop-i : goal.invariant-loop-i
invariant-loop-i l = Entering l.t l.initial.tb l.n l.at l.d l.tb l.left l.i
