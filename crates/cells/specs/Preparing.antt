-- A store made ready from the directory, the cells of a given memory put into it, and its cells written into a lent memory (document 01, "Memory and the
-- history machine"; "Operations").
use Rattle.std.specs.Prelude.{◌≡◌, cond, List, ℕ, ◌+◌, ◌-◌, ◌*◌, ◌/◌, ◌%◌, ◌≤◌, ◌<◌, ltb, length, get_or, take, drop}
use Rattle.eb3.specs.Bytes.{words_in, written}
use Rattle.declarations.specs.Directory.{first_cell_in}
use Rattle.expressions.specs.Stores.{stored, row_place, now_place, before_place, old_cells_place, row_words, begin_place}
use Rattle.std.specs.Prelude.{◌≡◌, List, ℕ, ◌+◌, ◌-◌, ◌*◌, ◌/◌, ◌%◌, ◌≤◌, ◌<◌, length, get_or, take, drop}
use Rattle.eb3.specs.Bytes.{words_in, written}
use Rattle.declarations.specs.Directory.{first_cell_in}
use Rattle.expressions.specs.Stores.{stored, now_place, old_cells_place, row_words, row_place, begin_place}

-- No variables; the old cells begin after c new ones; the rows of n functions are as in the directory's rows of w words; any other function has no cell.
pub record Prepared (D M M' : List ℕ) (w n c : ℕ) : Type 0 where
  pub no_variables : (i : ℕ) → i < old_cells_place → stored M' i ≡ 65535
  pub old_cells : before_place M' ≡ now_place + c
  pub sizes : (f : ℕ) → f < n → stored M' (row_place f) ≡ get_or D (w * f) 0 % 65536
  pub begins : (f : ℕ) → f < n → stored M' (begin_place f) ≡ get_or D (w * f + first_cell_in) 0 % 65536
  pub no_functions : (f : ℕ) → n ≤ f → f < 16 → (stored M' (row_place f) ≡ 0) × (stored M' (begin_place f) ≡ 0)
  pub kept : (i : ℕ) → now_place ≤ i → stored M' i ≡ stored M i

-- Word i of a store made ready, below the cells.
unfoldable pub ready_word : List ℕ → ℕ → ℕ → ℕ → ℕ → ℕ
ready_word D w n c i = cond (ltb i old_cells_place) 65535 (cond (ltb i (row_place 0)) (now_place + c) (cond (ltb ((i - row_place 0) / row_words) n) (get_or D (w * ((i - row_place 0) / row_words) + i % row_words) 0 % 65536) 0))

-- The first c words of a memory B were put into the store from a place on, as far as there is room; 0 where the memory has no word.
pub record Loaded (B M M' : List ℕ) (at c : ℕ) : Type 0 where
  pub same_length : length M' ≡ length M
  pub there : (i : ℕ) → i < c → at + i < length M → stored M' (at + i) ≡ get_or (words_in B) i 0
  pub kept_below : (i : ℕ) → i < at → stored M' i ≡ stored M i
  pub kept_above : (i : ℕ) → at + c ≤ i → stored M' i ≡ stored M i

-- The c cells of a store were written at the beginning of a lent memory, which is B' then.
pub record Saved (M B B' : List ℕ) (c : ℕ) : Type 0 where
  pub same_length : length B' ≡ length B
  pub right : now_place + c ≤ length M → 2 * c ≤ length B → B' ≡ written (take c (drop now_place M)) B

pub record Loading (B M M' : List ℕ) (at i : ℕ) : Type 0 where
  pub same_length : length M' ≡ length M
  pub there : (k : ℕ) → k < i → stored M' (at + k) ≡ get_or (words_in B) k 0
  pub kept_below : (k : ℕ) → k < at → stored M' k ≡ stored M k
  pub kept_above : (k : ℕ) → at + i ≤ k → stored M' k ≡ stored M k
