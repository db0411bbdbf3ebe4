-- The arrays that a step works in, afterwards: they are the same arrays, and so as long as they were (document 01, "Moves, in order"; "Operations": Run).
use Rattle.std.specs.Prelude.{◌≡◌, length}
use Rattle.derivation.specs.declared.scratch.Scratch.{Scratch}

pub record SameArrays (s s' : Scratch) : Type 0 where
  pub path_is : s'.path.ghost_name ≡ s.path.ghost_name
  pub acts_is : s'.acts.ghost_name ≡ s.acts.ghost_name
  pub mid_is : s'.mid.ghost_name ≡ s.mid.ghost_name
  pub path_length : length s'.path.now ≡ length s.path.now
  pub acts_length : length s'.acts.now ≡ length s.acts.now
  pub mid_length : length s'.mid.now ≡ length s.mid.now
