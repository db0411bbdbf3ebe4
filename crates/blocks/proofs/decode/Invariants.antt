use mathlib.Core.Path.{◌≡◌}
use mathlib.Core.List.{◌++◌}
use Prim.Native.Nat.{◌*◌}
use lib.ListN.{take, drop}
use Rattle.eb3.specs.Bytes.{words_in}
use Rattle.blocks.proofs.decode.Given as goal

-- The words stored, and those of the bytes still to come, are the words of the content.
abbrev pub invariant-loop-i : goal.invariant-loop-i
invariant-loop-i l = take l.i l.words ++ words_in (drop (2 * l.i) l.content) ≡ words_in l.content
