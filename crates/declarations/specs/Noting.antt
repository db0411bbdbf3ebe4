-- What is noted in the directory while functions are read, and by which readings.
-- Document 01, "Blocks and the rule stream", items 2 to 5; refusals 4 and 5.
use Rattle.std.specs.Prelude.{◌≡◌, List, ◌∷◌, ℕ, ◌+◌, ◌*◌, ◌≤◌, ◌<◌, length, get_or, replicate, Result}
use Rattle.eb3.specs.Expressions.{Data}
use Rattle.eb3.specs.RuleSets.{Function}
use Rattle.eb3.specs.Reading.{Read, taken, Reader, both, for_each, series}
use Rattle.eb3.specs.ExpressionReading.{read_data}
use Rattle.eb3.specs.RuleReading.{at_start_scope, at_label_scope, read_function}
use Rattle.words.specs.Checking.{checked, Checked}
use Rattle.words.specs.Ends.{Tail}
use Rattle.tables.specs.Layout.{domain_count, label_count}
use Rattle.tables.specs.Tables.{edition_in, declared}
use Rattle.declarations.specs.declared.Counted.{Counted}
use Rattle.declarations.specs.Entering.{labels_of, function_cells, functions_cells}
use Rattle.declarations.specs.Directory.{Standing, FunctionRow, FunctionRows, row_width}
use Rattle.refusals.specs.declared.Refusal.{Refusal}

-- ── what is read of function i of n, by the tables T ──

abbrev pub start_of : List ℕ → ℕ → ℕ → Reader Data
start_of T n i = read_data (at_start_scope (edition_in T) (replicate n 1) i)

abbrev pub for_label : List ℕ → ℕ → ℕ → List ℕ → Reader Data
for_label T n i ds = read_data (at_label_scope (edition_in T) (replicate n 1) i (length ds))

-- Its expressions for the first k labels; all of them; the function.
abbrev pub label_expressions : List ℕ → ℕ → ℕ → ℕ → Reader (List Data)
label_expressions T n i k = for_each (labels_of T 0 k) (for_label T n i)

abbrev pub expressions_of : List ℕ → ℕ → ℕ → Reader (Data × List Data)
expressions_of T n i = both (start_of T n i) (label_expressions T n i (label_count T))

abbrev pub function_of : List ℕ → ℕ → ℕ → Reader Function
function_of T n = read_function (edition_in T) (domain_count T) (labels_of T 0 (label_count T)) (replicate n 1)

-- ── what is noted ──

-- A check of t by the reader f, answered by r, with D the directory before it and D' after it, where f has the places from `at` up to `end`: what is
-- before them is kept, and what was read is found by them, whatever words t is the end of. Places have 32 bits.
pub record Noted {A B : Type 0} (summed : Read A → B) (f : Reader A) (t D : List ℕ) (at end : ℕ) (Found : List ℕ → List ℕ → A → Type 0) (r : B) (D' : List ℕ) : Type 0 where
  pub answer : r ≡ summed (f t)
  pub same_length : length D' ≡ length D
  pub kept : (j : ℕ) → j < at → get_or D' j 0 ≡ get_or D j 0
  pub found : (whole : List ℕ) (a : A) (u : List ℕ) → Tail t whole → length whole < 4294967296 → end ≤ length D → f t ≡ taken a u → Found whole D' a

-- Of expressions, as many words left as places.
abbrev pub LabelsNoted : List ℕ → ℕ → ℕ → ℕ → List ℕ → List ℕ → ℕ → Checked → List ℕ → Type 0
LabelsNoted T n i k t D at r D' = Noted checked (label_expressions T n i k) t D at (at + k) (λ whole E ds. Standing (edition_in T).width whole E at ds) r D'

abbrev pub ExpressionsNoted : List ℕ → ℕ → ℕ → List ℕ → List ℕ → ℕ → Checked → List ℕ → Type 0
ExpressionsNoted T n i t D at r D' = Noted checked (expressions_of T n i) t D at (at + (1 + label_count T)) (λ whole E p. Standing (edition_in T).width whole E at (p.0 ∷ p.1)) r D'

-- Of function i, a row, where `begin` cells are before its own; and of k functions from i on.
abbrev pub FunctionNoted : List ℕ → ℕ → ℕ → List ℕ → List ℕ → ℕ → ℕ → Result Counted Refusal → List ℕ → Type 0
FunctionNoted T n i t D at begin r D' = Noted (function_cells (declared T).domains) (function_of T n i) t D at (at + row_width (label_count T)) (λ whole E F. FunctionRow (edition_in T).width (declared T).domains whole E at begin F) r D'

abbrev pub FunctionsNoted : List ℕ → ℕ → ℕ → ℕ → List ℕ → List ℕ → ℕ → Result Counted Refusal → List ℕ → Type 0
FunctionsNoted T n k i t D begin r D' =
    Noted (functions_cells (declared T).domains) (series k i (function_of T n)) t D (row_width (label_count T) * i) (row_width (label_count T) * (i + k))
    (λ whole E Fs. FunctionRows (edition_in T).width (declared T).domains whole E (row_width (label_count T)) i begin Fs) r D'
