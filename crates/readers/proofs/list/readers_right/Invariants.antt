use Rattle.readers.proofs.Laws.Lists.{ReadersTo}
use Rattle.readers.proofs.list.readers_right.Given as goal

-- While the readers are right, the answer is that of what comes after them (`readers_next`).
abbrev pub invariant-loop-i : goal.invariant-loop-i
invariant-loop-i l = ReadersTo l.list l.i
