-- `parallel_by` is the specification's parallel, whatever its mask.
-- Document 01, "Unfolding, size and breadth"; refusals 7 and 8.
use Rattle.std.specs.Prelude.{◌≡◌, refl}
use Rattle.eb3.specs.Terms.{Mask}
use Rattle.eb3.specs.Sizes.{zero_mask}
use Rattle.eb3.specs.Measures.{sat, Measure, parallel_of}
use Rattle.measures.specs.Weighing.{cap, parallel_by}

pub parallel_by_mask : (Δ : Mask) (l r : Measure) → parallel_by (zero_mask Δ) l r ≡ parallel_of (sat cap) Δ l r
parallel_by_mask Δ l r = refl
