use Rattle.rules.proofs.ProcessCases.{Going}
use Rattle.rules.proofs.processes.Given as goal

abbrev pub invariant-loop-p : goal.invariant-loop-p
invariant-loop-p l = Going l.t l.fn.tb l.n l.p l.main l.tb
