-- What joins two terms: its code, and how many words of a mask follow the code (document 01, "Unfolding, size and breadth").
use Rattle.std.specs.Prelude.{ℕ}
use Rattle.unfold.specs.declared.Joint.{Joint}
use Rattle.unfold.specs.declared.Joint.TheVariants.{Sequence, Choice, Parallel}

abbrev pub code_of : Joint → ℕ
code_of Sequence = 22
code_of Choice = 23
code_of Parallel = 25

abbrev pub mask_of : Joint → ℕ
mask_of Sequence = 0
mask_of Choice = 0
mask_of Parallel = 4
