-- Laws of the arrays that a step works in (`SameArrays`): they are the same arrays after no step, and after one step and another (document 01, "Moves, in
-- order"; "Operations": Run).
use Rattle.std.proofs.Common.{refl, ◌∙◌}
use Rattle.derivation.specs.declared.scratch.Scratch.{Scratch}
use Rattle.derivation.specs.Arrays.{SameArrays}

pub arrays_same : {s : Scratch} → SameArrays s s
arrays_same = record { path_is = refl; acts_is = refl; mid_is = refl; path_length = refl; acts_length = refl; mid_length = refl }

pub arrays_then : {s s' s'' : Scratch} → SameArrays s s' → SameArrays s' s'' → SameArrays s s''
arrays_then a b = record {
  path_is = b.path_is ∙ a.path_is;
  acts_is = b.acts_is ∙ a.acts_is;
  mid_is = b.mid_is ∙ a.mid_is;
  path_length = b.path_length ∙ a.path_length;
  acts_length = b.acts_length ∙ a.acts_length;
  mid_length = b.mid_length ∙ a.mid_length;
}
