-- The first k cells are in a store, one word each, from a place on (`Begun`): 65,535 for undefined, any other value up to 65,534 as itself.
-- Document 01, "Memory and the history machine".
use Rattle.std.specs.Prelude.{◌≡◌, List, ℕ, ◌+◌, ◌<◌}
use Rattle.std.proofs.Math.ListN.{get_or}
use Rattle.eb3.specs.Values.{Value, undefined, encode, AtMost}
use Rattle.expressions.specs.Stores.{largest_number, stored}

-- The first k of the cells are stored from `at` on.
pub record Begun (M : List ℕ) (at : ℕ) (cells : List Value) (k : ℕ) : Type 0 where
  pub words : (c : ℕ) → c < k → stored M (at + c) ≡ encode 65535 (get_or cells c undefined)
  pub small : (c : ℕ) → c < k → AtMost largest_number (get_or cells c undefined)
