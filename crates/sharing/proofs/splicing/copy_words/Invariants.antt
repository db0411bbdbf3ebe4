-- A copy word by word is the words put at their place (document 01, "Moves, in order"). The loop has copied the first i of them.
use mathlib.Core.Path.{◌≡◌}
use lib.ListN.{length}
use lib.Seq.{paste}
use Rattle.sharing.proofs.splicing.copy_words.Given as goal

-- A copy word by word is the words put at their place (document 01, "Moves, in order"). The loop has copied the first i of them.
abbrev pub invariant-loop-i : goal.invariant-loop-i
invariant-loop-i l = (length l.dst ≡ length l.initial.dst) × (l.dst ≡ paste l.initial.dst l.at l.src l.i)
