-- What is read from a store that holds cells is what is read from the cells, wherever in the store the cells begin: so for now and for before; and a guard
-- is judged in such a store as document 01 says ("Memory and the history machine").
use Rattle.std.specs.Prelude.{◌≡◌, List, [], ◌∷◌, ℕ, zero, suc, ◌+◌, ◌≤◌, ◌<◌, length}
use Rattle.std.proofs.Common.{sym, ◌∙◌, arith, lit<}
use Rattle.std.proofs.Math.Path.{ap}
use Rattle.std.proofs.Math.ListN.{get_or}
use Rattle.eb3.specs.Generic.Lists.{Within}
use Rattle.eb3.specs.Values.{Value, undefined, decode, AtMost}
use Rattle.eb3.proofs.Laws.Values.{decode_encode}
use Rattle.eb3.specs.Expressions.{Cond, no_reading, environment, evaluate_cond}
use Rattle.eb3.specs.Attributes.{Attributes, domain, number_of_functions, apply_in_domain, guard_holds}
use Rattle.eb3.proofs.Laws.Attributes.{apply_cong, guard_evaluated}
use Rattle.eb3.specs.Scopes.{CondInScope, guard_scope}
use Rattle.eb3.specs.Cells.{cell_count, cell_index, offset, total_cells, cell_at}
use Rattle.eb3.specs.Values.{ValuesAtMost}
use Rattle.expressions.specs.Stores.{stored, row_place, now_place, cell_in, reading_in, environment_in, begin_place}
use Rattle.expressions.specs.Answering.{Plain}
use Rattle.cells.specs.Layout.{RowLaid, Laid, Holds}
use Rattle.eb3.proofs.Laws.Cells.{cells_apart}
use Rattle.cells.specs.Laws.Cells.{one_count, one_index}
use Rattle.cells.specs.Agreement.{Agree, cond_agrees}
use Rattle.cells.specs.Reads.{Begun}

-- ── where cells are stored ──

module _ (A : Attributes) (M : List ℕ) (f : ℕ) (row : RowLaid A M f) where
  pub row_cells : cell_count (domain A f) ≡ stored M (row_place f)
  row_cells = ap cell_count row.one_parameter ∙ one_count _

  pub row_index : (x : ℕ) → cell_index (domain A f) (x ∷ []) ≡ x
  row_index x = ap (λ ns. cell_index ns (x ∷ [])) row.one_parameter ∙ one_index _ x

-- A store that keeps the rows stays laid out.
pub laid_kept : (A : Attributes) (M M' : List ℕ) → number_of_functions A ≤ 16 → ((i : ℕ) → row_place 0 ≤ i → i < now_place → stored M' i ≡ stored M i) → Laid A M → Laid A M'
laid_kept A M M' few kept laid f h = record {
  one_parameter = (laid f h).one_parameter ∙ ap (λ n. n ∷ []) (sym (kept (row_place f) (omega arith) (omega arith)));
  begins = kept (begin_place f) (omega arith) (omega arith) ∙ (laid f h).begins;
}

-- ── reading ──

module _ (A : Attributes) (M : List ℕ) (at : ℕ) (cells : List Value) (k : ℕ) (begun : Begun M at cells k) (f : ℕ) (row : RowLaid A M f) (there : offset A f + cell_count (domain A f) ≤ k) where
  cell_read : (x : ℕ) → x < stored M (row_place f) → cell_in M at f x ≡ get_or cells (offset A f + x) undefined
  unfolding cell_in
  cell_read x h =
      let l : offset A f + x < k = omega (arith, row_cells A M f row) in
      ap (λ i. decode 65534 (stored M (at + (i + x)))) row.begins
      ∙ ap (decode 65534) (begun.words (offset A f + x) l)
      ∙ decode_encode 65534 65535 (lit< tt) _ (begun.small (offset A f + x) l)

  element_read : (xs : List ℕ) → Within (stored M (row_place f) ∷ []) xs
      → cell_in M at f (get_or xs 0 0) ≡ get_or cells (offset A f + cell_index (stored M (row_place f) ∷ []) xs) undefined
  element_read [] w = absurd w
  element_read (x ∷ []) w = cell_read x w.0 ∙ ap (λ i. get_or cells (offset A f + i) undefined) (sym (one_index _ x))
  element_read (x ∷ y ∷ xs) w = absurd w.1

  pub begun_reads : (vs : List Value) → reading_in M at f vs ≡ cell_at A cells f vs
  unfolding reading_in cell_at
  begun_reads vs =
      apply_cong (stored M (row_place f) ∷ []) _ _ element_read vs
      ∙ ap (λ ns. apply_in_domain ns (λ xs. get_or cells (offset A f + cell_index ns xs) undefined) vs) (sym row.one_parameter)

-- ── all cells ──

value_at_most : (cells : List Value) → ValuesAtMost 65534 cells → (c : ℕ) → AtMost 65534 (get_or cells c undefined)
value_at_most [] h c = tt
value_at_most (v ∷ vs) h zero = h.0
value_at_most (v ∷ vs) h (suc c) = value_at_most vs h.1 c

module _ (A : Attributes) (M : List ℕ) (laid : Laid A M) (cells : List Value) (all : length cells ≡ total_cells A) (small : ValuesAtMost 65534 cells) where
  pub reads_cells : (at : ℕ) → Holds M at cells → (f : ℕ) → f < number_of_functions A → (vs : List Value) → reading_in M at f vs ≡ cell_at A cells f vs
  reads_cells at holds f h vs =
      let begun : Begun M at cells (total_cells A) = record { words = λ c l. holds c (omega (arith, all)); small = λ c l. value_at_most cells small c } in
      begun_reads A M at cells (total_cells A) begun f (laid f h) (cells_apart A f (number_of_functions A) h) vs

  pub guard_judged : Holds M now_place cells → (C : Cond) → Plain (guard_scope A 0) → CondInScope C (guard_scope A 0)
      → evaluate_cond C (environment_in M) ≡ guard_holds A (cell_at A cells) C
  guard_judged holds C plain s =
      let agree : Agree (guard_scope A 0) (environment_in M) (environment A.edition.top [] (cell_at A cells) no_reading) = record {
        top = sym plain.largest;
        variable = λ i h. absurd (let z : ⊥ = omega arith in z);
        now = λ g h vs. reads_cells now_place holds g h vs;
        before = λ g h vs. absurd (let z : ⊥ = omega arith in z);
      } in
      cond_agrees (guard_scope A 0) _ _ agree C s ∙ sym (guard_evaluated A (cell_at A cells) C)
