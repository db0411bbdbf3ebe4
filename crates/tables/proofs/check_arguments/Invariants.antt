use Rattle.tables.proofs.Rounds.{Passed}
use Rattle.tables.proofs.check_arguments.Given as goal

abbrev pub invariant-loop-d : goal.invariant-loop-d
invariant-loop-d l = Passed l.tb l.vars l.ds l.t l.d-index l.n
