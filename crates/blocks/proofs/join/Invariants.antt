-- The words stored, then those of the blocks still to come, are the stream; after the words stored the array is as it was.
use mathlib.Core.Path.{◌≡◌}
use mathlib.Core.List.{◌++◌}
use Prim.Native.Nat.{◌*◌, ◌-◌}
use lib.ListN.{take, drop}
use Rattle.eb3.specs.Bytes.{words_in}
use Rattle.eb3.specs.Blocks.{contents}
use Rattle.blocks.proofs.join.Given as goal

-- The words stored, then those of the blocks still to come, are the stream; after the words stored the array is as it was.
abbrev pub invariant-loop-i : goal.invariant-loop-i
invariant-loop-i l = (take (254 * l.i) l.words ++ words_in (contents (l.n - l.i) (drop (512 * l.i) l.rules)) ≡ words_in (contents l.n l.rules)) × (drop (254 * l.i) l.words ≡ drop (254 * l.i) l.initial.words)
