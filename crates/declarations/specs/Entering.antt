-- What the checks of domains, labels and functions answer, and the rows that they enter.
-- Document 01, "Blocks and the rule stream", items 2 to 5; refusals 4 and 5.
use Rattle.std.specs.Prelude.{◌≡◌, List, [], ◌∷◌, map, ℕ, suc, ◌+◌, ◌*◌, ◌≤◌, length, get_or, Ok, Err, Result}
use Rattle.std.proofs.Math.Seq.{paste}
use Rattle.eb3.specs.Refusal
use Rattle.eb3.specs.Cells.{cell_count}
use Rattle.eb3.specs.RuleSets.{Function}
use Rattle.eb3.specs.Reading.{Read, refused, taken, number_of, repeat, counted}
use Rattle.words.specs.Checking.{checked, Checked}
use Rattle.tables.specs.Layout.{label_place, label_words}
use Rattle.tables.specs.Tables.{from, row}
use Rattle.declarations.specs.declared.Counted.{Counted}
use Rattle.refusals.specs.declared.Refusal.{Refusal}
use Rattle.refusals.specs.Numbers.{refusal}

-- The rows of k labels from label l on.
abbrev pub labels_of : List ℕ → ℕ → ℕ → List (List ℕ)
labels_of T l k = from l k (λ i. row T (label_place i))

-- A row every `label_words` words: how many, and they.
unfoldable pub put_row : ℕ → List ℕ → List ℕ → List ℕ
put_row at l T = paste T at (length l ∷ l) (suc (length l))

unfoldable pub put_rows : ℕ → List (List ℕ) → List ℕ → List ℕ
put_rows at [] T = T
put_rows at (l ∷ ls) T = put_rows (at + label_words) ls (put_row at l T)

-- What is entered of n labels: where they are read, their rows.
pub record Entered (t T : List ℕ) (n at d : ℕ) (r : Checked) (T' : List ℕ) : Type 0 where
  pub answer : r ≡ checked (repeat n (counted 0 2 (number_of Refusal.reference d)) t)
  pub rows : (ls : List (List ℕ)) (u : List ℕ) → repeat n (counted 0 2 (number_of Refusal.reference d)) t ≡ taken ls u → T' ≡ put_rows at ls T
  pub same_length : length T' ≡ length T

-- A function's cells: one for each element of its domain; and all of some functions.
unfoldable pub cells_of : List ℕ → Function → ℕ
cells_of domains F = cell_count (map (λ d. get_or domains d 0) F.parameters)

unfoldable pub all_cells : List ℕ → List Function → ℕ
all_cells domains [] = 0
all_cells domains (F ∷ Fs) = cells_of domains F + all_cells domains Fs

-- n words are left, and c cells are counted.
abbrev pub found_cells : ℕ → ℕ → Result Counted Refusal
found_cells n c = Ok (record { left = n; cells = c })

unfoldable pub function_cells : List ℕ → Read Function → Result Counted Refusal
function_cells domains (refused k) = Err (refusal k)
function_cells domains (taken F t) = found_cells (length t) (cells_of domains F)

unfoldable pub functions_cells : List ℕ → Read (List Function) → Result Counted Refusal
functions_cells domains (refused k) = Err (refusal k)
functions_cells domains (taken Fs t) = found_cells (length t) (all_cells domains Fs)

-- k functions have fewer than 2 to the 32nd cells each: no sum of them overflows.
abbrev pub CellsBound : Result Counted Refusal → ℕ → Type 0
CellsBound (Ok a) k = a.cells ≤ k * 4294967296
CellsBound (Err j) k = Unit
