use Rattle.tables.proofs.Rounds.{Masked}
use Rattle.tables.proofs.check_mask.Given as goal

abbrev pub invariant-loop-i : goal.invariant-loop-i
invariant-loop-i l = Masked l.k l.n l.t l.i l.left
