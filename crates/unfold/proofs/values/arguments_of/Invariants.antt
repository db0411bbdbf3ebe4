use mathlib.Core.Path.{◌≡◌}
use lib.ListN.{take}
use Rattle.tables.specs.Tables.{from}
use Rattle.unfold.specs.Saying.{argument_at}
use Rattle.unfold.proofs.values.arguments_of.Given as goal

abbrev pub invariant-loop-j : goal.invariant-loop-j
invariant-loop-j l = take l.j l.values ≡ from 0 l.j (argument_at l.vars l.s)
