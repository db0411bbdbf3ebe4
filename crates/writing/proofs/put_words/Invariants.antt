use mathlib.Core.Path.{◌≡◌}
use Prim.Native.Nat.{◌*◌, ◌≤◌}
use lib.ListN.{length, take}
use Rattle.eb3.specs.Bytes.{written}
use Rattle.writing.proofs.put_words.Given as goal

abbrev pub invariant-loop-i : goal.invariant-loop-i
invariant-loop-i l = (2 * length l.src ≤ length l.initial.out) × (l.out ≡ written (take l.i l.src) l.initial.out)
