-- The parts of renewing a store: cells kept where before reads them, and an action's arguments given as variables (document 01, "Memory and the history
-- machine"; "Values and conditions": variables).
use Rattle.std.specs.Prelude.{◌≡◌, List, ℕ, ◌+◌, ◌≤◌, ◌<◌, length, get_or}
use Rattle.eb3.specs.Terms.{VisibleAction, visible}
use Rattle.expressions.specs.Stores.{stored, now_place, argument_place, old_cells_place}
use Rattle.actions.specs.Codes.{action_code, Small}

-- c cells were copied to the c words after them.
pub record Kept (M M' : List ℕ) (c : ℕ) : Type 0 where
  pub copied : (i : ℕ) → i < c → stored M' (now_place + c + i) ≡ stored M (now_place + i)
  pub kept_below : (i : ℕ) → i < now_place + c → stored M' i ≡ stored M i

-- Variables 1 and 2 are the arguments of the action with this number.
pub record Given (M M' : List ℕ) (code : ℕ) : Type 0 where
  pub arguments_there : (a : VisibleAction) → Small (visible a) → code ≡ action_code (visible a) → (i : ℕ) → i < length a.arguments → stored M' (argument_place i) ≡ get_or a.arguments i 0
  pub kept_above : (i : ℕ) → old_cells_place ≤ i → stored M' i ≡ stored M i
