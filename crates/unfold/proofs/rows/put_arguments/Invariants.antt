use Rattle.unfold.specs.Puts.{Putting}
use Rattle.unfold.specs.Saying.{Constants}
use Rattle.unfold.proofs.RowCases.{ArgumentsFrom}
use Rattle.unfold.proofs.rows.put_arguments.Given as goal

abbrev pub invariant-loop-j : goal.invariant-loop-j
invariant-loop-j l = Putting (Constants l.vars l.s l.count) (ArgumentsFrom l.vars l.s l.count l.j) l.initial.out l.out
