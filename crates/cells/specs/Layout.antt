-- How a store holds the cells of attribute functions (document 01, "Memory and the history machine": one cell for each function and element of its domain,
-- in that order). Functions have one parameter each (edition 1).
use Rattle.std.specs.Prelude.{◌≡◌, List, [], ◌∷◌, ℕ, ◌+◌, ◌<◌, length, get_or}
use Rattle.eb3.specs.Values.{Value, undefined, encode}
use Rattle.eb3.specs.Attributes.{Attributes, domain, number_of_functions}
use Rattle.eb3.specs.Cells.{offset}
use Rattle.expressions.specs.Stores.{stored, row_place, begin_place}

-- A function's row: its domain's size, and where its cells begin.
pub record RowLaid (A : Attributes) (M : List ℕ) (f : ℕ) : Type 0 where
  pub one_parameter : domain A f ≡ stored M (row_place f) ∷ []
  pub begins : stored M (begin_place f) ≡ offset A f

abbrev pub Laid : Attributes → List ℕ → Type 0
Laid A M = (f : ℕ) → f < number_of_functions A → RowLaid A M f

-- The cells from a place on.
abbrev pub Holds : List ℕ → ℕ → List Value → Type 0
Holds M at cells = (c : ℕ) → c < length cells → stored M (at + c) ≡ encode 65535 (get_or cells c undefined)
