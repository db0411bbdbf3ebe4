use Rattle.declarations.proofs.NotingCases.{FunctionsGoing}
use Rattle.declarations.proofs.functions.Given as goal

abbrev pub invariant-loop-j : goal.invariant-loop-j
invariant-loop-j l = FunctionsGoing l.tb l.t l.initial.dir l.n l.k l.i l.begin l.dir l.left l.cells l.j
