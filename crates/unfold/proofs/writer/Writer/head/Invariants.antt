use mathlib.Core.Path.{◌≡◌}
use Rattle.unfold.specs.Written.{written_from}
use Prim.Native.Nat.{◌+◌}
use lib.ListN.{take}
use Rattle.unfold.proofs.writer.Writer.head.Given as goal

abbrev pub invariant-loop-i : goal.invariant-loop-i
invariant-loop-i l = l.bytes ≡ written_from (l.at + 1) (take l.i l.ms) l.initial.bytes
