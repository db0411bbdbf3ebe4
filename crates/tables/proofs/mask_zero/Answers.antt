use Rattle.std.proofs.Common.{◌∙◌, ap}
use Rattle.std.specs.Prelude.{◌≡◌, List, [], ◌∷◌, ℕ, ◌&&◌, eqb, refl}
use Rattle.eb3.specs.Admission.{all_zero}
use Rattle.eb3.specs.Sizes.{zero_mask}
use Rattle.tables.proofs.mask_zero.Goals as goal

same_test : (m : List ℕ) → all_zero m ≡ zero_mask m
unfolding all_zero zero_mask
same_test [] = refl
same_test (w ∷ m) = λ j. eqb w 0 && same_test m j

pub returns : goal.returns
returns c = c.zeros.ensures ∙ ap all_zero c.front.ensures ∙ same_test _
