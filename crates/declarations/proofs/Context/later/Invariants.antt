use Rattle.tables.specs.Layout.{label_count}
use Rattle.declarations.proofs.LaterCases.{Sofar}
use Rattle.declarations.proofs.Context.later.Given as goal

abbrev pub invariant-loop-l : goal.invariant-loop-l
invariant-loop-l l = Sofar l.t l.self.tables.now l.initial.dir l.self.functions l.i (label_count l.self.tables.now) l.at l.dir l.left l.l
