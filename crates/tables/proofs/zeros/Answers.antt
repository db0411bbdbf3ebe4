use Rattle.std.specs.Prelude.{◌≡◌, List, [], ◌∷◌, ℕ, ◌&&◌, refl, nat_eq}
use Rattle.std.proofs.Common.{rules, tests, ◌∙◌}
use Rattle.std.specs.List.{list_all}
use Rattle.std.proofs.lemmas.Iterator.{YieldsList-from_slice}
use Rattle.std.proofs.lemmas.Iterator.Search.{all_from_yields_List}
use Rattle.eb3.specs.Admission.{all_zero}
use Rattle.tables.proofs.zeros.Goals as goal

all_zeros : (s : List ℕ) → list_all (λ w. nat_eq w 0) s ≡ all_zero s
unfolding all_zero
all_zeros [] = refl
all_zeros (w ∷ s) = λ j. nat_eq w 0 && all_zeros s j

pub returns : goal.returns
returns c =
    all_from_yields_List (λ w. nat_eq w 0) _ _ c.all.result c.all.ensures.ran (YieldsList-from_slice c.args.t.now (cc)) (λ x b q k. search (rules, tests))
    ∙ all_zeros c.args.t.now
