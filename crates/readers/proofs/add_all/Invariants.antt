use Rattle.std.proofs.Common.{◌≡◌}
use Rattle.readers.specs.Table.{added_first}
use Rattle.readers.proofs.add_all.Given as goal

-- Each turn of the loop adds to one record more (`add_next`), or nothing (`add_nothing`).
abbrev pub invariant-loop-i : goal.invariant-loop-i
invariant-loop-i l = l.table ≡ added_first l.i l.by_reader l.initial.table
