-- A store that was made ready and filled, and then saved, is the memory at the start.
-- Document 01, "Memory and the history machine": at start the empty-trace expressions fill the cells, function by function.
use Rattle.std.specs.Prelude.{◌≡◌, List, ℕ, ◌≤◌}
use Rattle.std.proofs.Common.{ap, sym, ◌∙◌, subst, arith}
use Rattle.std.proofs.Math.Option.{none}
use Rattle.std.proofs.Math.ListN.{length}
use Rattle.eb3.specs.Expressions.{no_reading}
use Rattle.eb3.specs.Attributes.{number_of_functions}
use Rattle.eb3.specs.Cells.{total_cells, initial_cells}
use Rattle.eb3.specs.RuleSets.{RuleSet, attributes}
use Rattle.eb3.specs.Bytes.{written}
use Rattle.tables.specs.Layout.{label_count, function_count}
use Rattle.declarations.specs.Directory.{row_width, at_start_in}
use Rattle.expressions.specs.Stores.{now_place}
use Rattle.eb3.proofs.Laws.Cells.{length_cells}
use Rattle.steps.specs.Laws.Ruled.{labels_there, functions_there}
use Rattle.cells.specs.Filling.{Filling, Filled}
use Rattle.cells.specs.Preparing.{Prepared, Saved}
use Rattle.cells.specs.Laws.Memory.{held_words}
use Rattle.cells.specs.Laws.ReadyingFills.{start_filling}
use Rattle.engine.specs.Memories.{MemoryStarted}

-- ── the start ──

-- From a store made ready, filled and saved.
pub memory_started : (t T D M M₁ M₂ B B' : List ℕ) (w n c : ℕ) → w ≡ row_width (label_count T) → n ≡ function_count T → length M₁ ≡ length M → length M₂ ≡ length M₁
    → (now_place ≤ length M → Prepared D M M₁ w n c)
    → ((R : RuleSet) → Filling (attributes R) none no_reading t D M₁ w at_start_in n → Filled (attributes R) none no_reading M₁ M₂)
    → Saved M₂ B B' c → MemoryStarted t T D (length M) c B B'
unfolding initial_cells
memory_started t T D M M₁ M₂ B B' w n c ew en l₁ l₂ prepared filled saved R form d ec room fits =
    let A = attributes R in
    let cells = initial_cells A in
    let k : length cells ≡ total_cells A = length_cells A none no_reading (number_of_functions A) in
    let ew' : w ≡ row_width (length R.labels) = ew ∙ ap (λ x. row_width x) (labels_there R form t T D d) in
    let en' : n ≡ length R.functions = en ∙ functions_there R form t T D d in
    let p : Prepared D M M₁ (row_width (length R.labels)) (length R.functions) (total_cells A) = subst (λ x. Prepared D M M₁ (row_width (length R.labels)) (length R.functions) x) ec (subst (λ x. Prepared D M M₁ (row_width (length R.labels)) x c) en' (subst (λ x. Prepared D M M₁ x n c) ew' (prepared (omega arith)))) in
    let f : Filling A none no_reading t D M₁ (row_width (length R.labels)) at_start_in (length R.functions) = start_filling R form t T D d M M₁ p (omega (arith, l₁, ec)) in
    let g : Filled A none no_reading M₁ M₂ = filled R (subst (λ x. Filling A none no_reading t D M₁ w at_start_in x) (sym en') (subst (λ x. Filling A none no_reading t D M₁ x at_start_in (length R.functions)) (sym ew') f)) in
    let e : c ≡ length cells = ec ∙ sym k in
    saved.right (omega (arith, l₁, l₂)) (omega arith)
    ∙ ap (λ x. written x B) (held_words M₂ cells c (sym e) (omega (arith, l₁, l₂)) g.cells)
