-- A rule set's store is ready to be filled: what the directory and the rule set's form say, put together (document 01, "Memory and the history machine").
use Rattle.std.specs.Prelude.{◌≡◌, refl, List, [], ◌∷◌, length, get_or, take}
use Rattle.std.proofs.Math.Path.{sym, ap, subst, fun_ext}
use Rattle.std.proofs.Common.{◌∙◌}
use Prim.Native.Nat.{ℕ, zero, suc, ◌+◌, ◌*◌, ◌%◌, ◌≤◌, ◌<◌}
use native.Mathlib.Omega.{arith}
use Rattle.eb3.specs.Expressions.{Data, Undefined}
use Rattle.eb3.specs.Attributes.{Attributes, domain, number_of_functions}
use Rattle.eb3.specs.Scopes.{arities, start_scope, label_scope, guard_scope}
use Rattle.eb3.specs.Cells.{cell_count, offset, total_cells}
use Rattle.eb3.proofs.Laws.CellCounts.{cells_below as cells_at_most}
use Rattle.eb3.specs.RuleSets.{Function, RuleSet, domain_size, sizes_of, no_rule, function_rule, attributes}
use Rattle.eb3.proofs.Laws.RuleSets.{functions_counted, domain_is}
use Rattle.eb3.specs.Spelling.{data_words}
use Rattle.eb3.specs.WellFormedness.{DomainsDefined, Form}
use Rattle.tables.specs.Laws.Editions.{width_in_tables, top_in_tables}
use Rattle.declarations.specs.Declaring.{Declares}
use Rattle.declarations.specs.Laws.Declaring.{parameter_is_one, arity_is_one}
use Rattle.declarations.specs.Directory.{Stands, Standing, FunctionRow, FunctionRows, row_width, Directory, first_cell_in}
use Rattle.declarations.specs.Entering.{cells_of, all_cells}
use Rattle.expressions.specs.Stores.{stored, row_place, begin_place}
use Rattle.expressions.specs.Answering.{Plain}
use Rattle.cells.specs.Layout.{Laid}
use Rattle.cells.specs.Preparing.{Prepared}
use Rattle.cells.specs.Laws.Cells.{offset_mono, one_count, next_offset}
use Rattle.cells.specs.Readying.{OneDomain}

-- ── the directory by numbers ──

-- Row j of the directory's rows from row i on; `begin` says where each function's cells begin.
row_at : (width : ℕ) (domains t D : List ℕ) (w i : ℕ) (Fs : List Function) (begin : ℕ → ℕ) → ((j : ℕ) → j < length Fs → begin (suc j) ≡ begin j + cells_of domains (get_or Fs j no_rule))
    → FunctionRows width domains t D w i (begin zero) Fs → (j : ℕ) → j < length Fs → FunctionRow width domains t D (w * (i + j)) (begin j) (get_or Fs j no_rule)
row_at width domains t D w i [] begin s r j h = absurd (let z : ⊥ = omega arith in z)
row_at width domains t D w i (F ∷ Fs) begin s r zero h = let e : i ≡ i + 0 = omega arith in subst (λ k. FunctionRow width domains t D (w * k) (begin zero) F) e r.0
row_at width domains t D w i (F ∷ Fs) begin s r (suc j) h =
    let e : suc i + j ≡ i + suc j = omega arith in
    let rest : FunctionRows width domains t D w (suc i) (begin (suc zero)) Fs = subst (λ k. FunctionRows width domains t D w (suc i) k Fs) (sym (s zero (omega arith))) r.1 in
    subst (λ k. FunctionRow width domains t D (w * k) (begin (suc j)) (get_or Fs j no_rule)) e (row_at width domains t D w (suc i) Fs (λ k. begin (suc k)) (λ k l. s (suc k) (omega arith)) rest j (omega arith))

-- Expression j of a row.
pub standing_at : (w : ℕ) (t D : List ℕ) (at : ℕ) (ds : List Data) → Standing w t D at ds → (j : ℕ) → j < length ds → Stands t (get_or D (at + j) 0) (data_words w (get_or ds j Undefined))
standing_at w t D at [] s j h = absurd (let z : ⊥ = omega arith in z)
standing_at w t D at (d ∷ ds) s zero h = let e : at ≡ at + 0 = omega arith in subst (λ n. Stands t (get_or D n 0) (data_words w d)) e s.0
standing_at w t D at (d ∷ ds) s (suc j) h =
    let e : suc at + j ≡ at + suc j = omega arith in
    subst (λ n. Stands t (get_or D n 0) (data_words w (get_or ds j Undefined))) e (standing_at w t D (suc at) ds s.1 j (omega arith))

-- ── cells one after the other ──

no_cells : (domains : List ℕ) (Fs : List Function) → all_cells domains (take 0 Fs) ≡ 0
unfolding all_cells
no_cells domains [] = refl
no_cells domains (F ∷ Fs) = refl

cells_next : (domains : List ℕ) (Fs : List Function) (f : ℕ) → f < length Fs → all_cells domains (take (suc f) Fs) ≡ all_cells domains (take f Fs) + cells_of domains (get_or Fs f no_rule)
unfolding all_cells
cells_next domains [] f h = absurd (let z : ⊥ = omega arith in z)
cells_next domains (F ∷ Fs) zero h = omega (arith, no_cells domains Fs)
cells_next domains (F ∷ Fs) (suc f) h = omega (arith, cells_next domains Fs f (omega arith))

module _ (R : RuleSet) (form : Form R) where
  abbrev A : Attributes
  A = attributes R

  pub cells_are : (f : ℕ) → f < length R.functions → cells_of R.domains (function_rule R f) ≡ cell_count (domain A f)
  unfolding cells_of
  cells_are f h = ap cell_count (sym (domain_is R f h))

  -- A function's cells begin after those of all functions before it.
  pub offset_sum : (f : ℕ) → f ≤ length R.functions → offset A f ≡ all_cells R.domains (take f R.functions)
  unfolding offset
  offset_sum zero h = sym (no_cells R.domains R.functions)
  offset_sum (suc f) h = omega (arith, offset_sum f (omega arith), cells_are f h, cells_next R.domains R.functions f h)

  one_domain : (ds : List ℕ) → length ds ≡ 1 → DomainsDefined R ds → OneDomain (sizes_of R ds)
  one_domain [] h k = absurd (let z : ⊥ = omega arith in z)
  one_domain (d ∷ []) h k = record {
    one_parameter = ap (λ n. n ∷ []) (sym (one_count (domain_size R d)));
    some_cell = subst (λ n. 1 ≤ n) (sym (one_count (domain_size R d))) (form.domain_sizes d k.0).0;
    few_cells = subst (λ n. n ≤ 64) (sym (one_count (domain_size R d))) (form.domain_sizes d k.0).1;
  }
  one_domain (d ∷ e ∷ ds) h k = absurd (let z : ⊥ = omega arith in z)

  -- ── what the tables say of its edition and of its functions' parameters ──

  module _ (T : List ℕ) (says : Declares T R) where
    one_each : (f : ℕ) → f < length R.functions → length (function_rule R f).parameters ≡ 1
    one_each = parameter_is_one R says.tables.one_parameter

    one_arity : (f : ℕ) → arities A f ≡ 1
    one_arity = arity_is_one R says.tables.one_parameter

    pub domain_of : (f : ℕ) → f < length R.functions → OneDomain (domain A f)
    domain_of f h = subst OneDomain (sym (domain_is R f h)) (one_domain (function_rule R f).parameters (one_each f h) (form.function_forms f h).parameters)

    pub few : total_cells A ≤ 1024
    few = cells_at_most R form one_each

    pub offset_few : (f : ℕ) → f < length R.functions → offset A f ≤ 1024
    offset_few f h = omega (arith, few, offset_mono A f (number_of_functions A) (omega (arith, functions_counted R)))

    pub plain_start : (f : ℕ) → Plain (start_scope A f)
    plain_start f = record { largest = top_in_tables T R says.same_edition; one_word = width_in_tables T R says.same_edition; one_parameter = fun_ext one_arity }

    pub plain_label : (f k : ℕ) → Plain (label_scope A f k)
    plain_label f k = record { largest = top_in_tables T R says.same_edition; one_word = width_in_tables T R says.same_edition; one_parameter = fun_ext one_arity }

    pub plain_guard : (k : ℕ) → Plain (guard_scope A k)
    plain_guard k = record { largest = top_in_tables T R says.same_edition; one_word = width_in_tables T R says.same_edition; one_parameter = fun_ext one_arity }

  -- ── rows ──

  module _ (t T D : List ℕ) (d : Directory t T D R) where
    abbrev w : ℕ
    w = row_width (length R.labels)

    -- The directory's row of function f says where its cells begin.
    pub directory_row : (f : ℕ) → f < length R.functions → FunctionRow R.edition.width R.domains t D (w * f) (offset A f) (function_rule R f)
    unfolding offset
    directory_row f h =
        let e : 0 + f ≡ f = omega arith in
        subst (λ k. FunctionRow R.edition.width R.domains t D (w * k) (offset A f) (function_rule R f)) e
        (row_at R.edition.width R.domains t D w 0 R.functions (offset A) (λ j l. next_offset A j ∙ ap (λ c. offset A j + c) (sym (cells_are j l))) d.functions f h)

    -- The directory's numbers are words of 32 bits, in which a count of at most 1,024 cells fits.
    pub directory_size : (f : ℕ) → f < length R.functions → get_or D (w * f) 0 ≡ cell_count (domain A f)
    directory_size f h = (directory_row f h).cells ∙ cells_are f h

    pub directory_begin : (f : ℕ) → f < length R.functions → get_or D (w * f + first_cell_in) 0 ≡ offset A f
    directory_begin f h = (directory_row f h).begins ∙ (let z : offset A f % 4294967296 ≡ offset A f = omega (arith, offset_few T d.declares f h) in z)

    module _ (M M' : List ℕ) (p : Prepared D M M' w (length R.functions) (total_cells A)) where
      size_laid : (f : ℕ) → f < length R.functions → stored M' (row_place f) ≡ cell_count (domain A f)
      size_laid f h = omega (arith, p.sizes f h, directory_size f h, (domain_of T d.declares f h).few_cells)

      begin_laid : (f : ℕ) → f < length R.functions → stored M' (begin_place f) ≡ offset A f
      begin_laid f h = omega (arith, p.begins f h, directory_begin f h, offset_few T d.declares f h)

      pub rows_laid : Laid A M'
      rows_laid f h =
          let l : f < length R.functions = omega (arith, functions_counted R) in
          record { one_parameter = (domain_of T d.declares f l).one_parameter ∙ ap (λ n. n ∷ []) (sym (size_laid f l)); begins = begin_laid f l }

      pub rows_small : (f : ℕ) → f < length R.functions → stored M' (row_place f) ≤ 64
      rows_small f h = subst (λ n. n ≤ 64) (sym (size_laid f h)) (domain_of T d.declares f h).few_cells
