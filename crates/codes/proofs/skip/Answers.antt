use mathlib.Core.Path.{refl}
use mathlib.Core.List.{[], ◌∷◌}
use Rattle.codes.proofs.skip.Goals as goal

pub returns : goal.returns
returns c = (c.skip_row.ensures.0, λ P x rest h. c.skip_row.ensures.1 P (x ∷ []) rest h refl)
