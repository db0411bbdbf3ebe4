-- The sizes of one domain.
-- Document 01, "Memory and the history machine".
use Rattle.std.specs.Prelude.{◌≡◌, List, [], ◌∷◌}
use Prim.Native.Nat.{ℕ, ◌≤◌}
use Rattle.eb3.specs.Cells.{cell_count}

-- The domain of a function of edition 1: its one parameter's, of 1 to 64 elements, a cell each.
pub record OneDomain (ns : List ℕ) : Type 0 where
  pub one_parameter : ns ≡ cell_count ns ∷ []
  pub some_cell : 1 ≤ cell_count ns
  pub few_cells : cell_count ns ≤ 64
