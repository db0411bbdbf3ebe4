-- After Run every cell has its value (`cell_values`; document 01, "Memory and the history machine").
use Rattle.std.specs.Prelude.{◌≡◌, length, drop}
use Rattle.std.proofs.Math.Path.{refl, ap, subst}
use Rattle.std.proofs.Common.{sym, ◌∙◌, length-append}
use mathlib.Core.List.{List, [], ◌∷◌, ◌++◌, map}
use Prim.Native.Nat.{ℕ, zero, suc, ◌+◌, ◌*◌, ◌≤◌, ◌<◌}
use native.Mathlib.Omega.{arith}
use Rattle.std.proofs.Math.Decide.{dec_lt}
use Rattle.std.proofs.Math.ListN.{get_or, get_or-append}
use Rattle.eb3.specs.Generic.Lists.{Within}
use Rattle.eb3.specs.Values.{Value, undefined, encode}
use Rattle.eb3.specs.Attributes.{domain, Trace, attribute_value}
use Rattle.eb3.specs.Cells.{cell_count, cell_index, offset, total_cells, all_values}
use Rattle.eb3.proofs.Laws.Cells.{length_values, value_cell, values_at_most}
use Rattle.eb3.specs.Semantics.{Sem_T}
use Rattle.eb3.specs.Machines.{Machine, history_run}
use Rattle.eb3.proofs.Laws.Machines.{chain_run}
use Rattle.eb3.specs.Editions.{Edition}
use Rattle.eb3.proofs.Laws.Editions.{only_edition_1}
use Rattle.eb3.proofs.Laws.CellCounts.{one_parameter_each}
use Rattle.eb3.specs.RuleSets.{RuleSet, domain_size, sizes_of, label, function_rule, attributes}
use Rattle.eb3.proofs.Laws.RuleSets.{functions_counted, domain_is}
use Rattle.eb3.specs.Unfolding.{unfold_main}
use Rattle.eb3.specs.WellFormedness.{Form, WellFormed, WellFormedTrace}
use Rattle.eb3.proofs.Laws.MainRunning.{main_running}
use Rattle.eb3.proofs.Laws.Running.{history_well_formed, expressions_in_scope, parameters_small, trace_small}
use Rattle.eb3.specs.Bytes.{words_in}
use Rattle.eb3.proofs.Laws.Bytes.{written_words, words_counted}
use Rattle.eb3.proofs.Laws.Spelling.{Small}
use Rattle.eb3.specs.Memory.{memory_words}
use Rattle.eb3.proofs.Laws.Memory.{memory_small, memory_length}
use Rattle.eb3.specs.Readers.{numbers_in}
use Rattle.eb3.specs.Answers.{Sizes, Ran, Written}
use Rattle.eb3.proofs.Laws.Admission.{admitted}
use Rattle.eb3.specs.Demands.{Roomy, last_trace, values_words, after, Demand3}
use Rattle.demanded.specs.CellValues.{elements, cells_before, CellValues}

module _ (R : RuleSet) (good : Form R) (one : R.edition.function_parameters ≡ 1) where
  -- A function has one parameter.
  one_domain : (f : ℕ) → f < length R.functions → domain (attributes R) f ≡ elements R f ∷ []
  one_domain f l = domain_is R f l ∙ go (function_rule R f).parameters (one_parameter_each R good one f l)
    where
      go : (ds : List ℕ) → length ds ≡ 1 → sizes_of R ds ≡ domain_size R (get_or ds 0 0) ∷ []
      go [] b = let z : ⊥ = omega arith in absurd z
      go (d ∷ []) b = refl
      go (d ∷ e ∷ ds) b = let z : ⊥ = omega arith in absurd z

  offset_is : (f : ℕ) → f ≤ length R.functions → offset (attributes R) f ≡ cells_before R f
  unfolding offset cells_before cell_count
  offset_is zero l = refl
  offset_is (suc f) l =
      let e : cell_count (domain (attributes R) f) ≡ elements R f * 1 = ap cell_count (one_domain f l) in
      omega (arith, offset_is f (omega arith), e)

  place_is : (f : ℕ) → f < length R.functions → (x : ℕ) → offset (attributes R) f + cell_index (domain (attributes R) f) (x ∷ []) ≡ cells_before R f + x
  unfolding cell_index cell_count
  place_is f l x = ap (λ ds. offset (attributes R) f + cell_index ds (x ∷ [])) (one_domain f l) ∙ omega (arith, offset_is f (omega arith))

  module _ (H : Trace) (traced : WellFormedTrace R H) where
    word_at : (f : ℕ) → f < length R.functions → (x : ℕ) → x < elements R f
        → get_or (values_words R H) (cells_before R f + x) (encode 65535 undefined) ≡ encode 65535 (attribute_value (attributes R) H f (x ∷ []))
    unfolding memory_words
    word_at f l x b =
        get_d_of (all_values (attributes R) H) (cells_before R f + x)
        ∙ ap (encode 65535) (ap (λ k. get_or (all_values (attributes R) H) k undefined) (sym (place_is f l x))
        ∙ value_cell (attributes R) H f (omega (arith, functions_counted R)) (x ∷ []) (subst (λ ds. Within ds (x ∷ [])) (sym (one_domain f l)) (b, tt)))
      where
        get_d_of : (vs : List Value) (k : ℕ) → get_or (map (encode 65535) vs) k (encode 65535 undefined) ≡ encode 65535 (get_or vs k undefined)
        get_d_of [] k = refl
        get_d_of (v ∷ vs) zero = refl
        get_d_of (v ∷ vs) (suc k) = get_d_of vs k

  -- A function's cells lie below where any later function's begin.
  before_next : (f n : ℕ) → Dec (f < n) → (f < n → cells_before R f + elements R f ≤ cells_before R n) → f < suc n → cells_before R f + elements R f ≤ cells_before R n + elements R n
  before_next f n (yes c) h l = omega (arith, h c)
  before_next f n (no c) h l = let e : f ≡ n = omega arith in subst (λ m. cells_before R f + elements R f ≤ cells_before R m + elements R m) e (omega arith)

  before_mono : (f n : ℕ) → f < n → cells_before R f + elements R f ≤ cells_before R n
  unfolding cells_before
  before_mono f zero l = let z : ⊥ = omega arith in absurd z
  before_mono f (suc n) l = before_next f n (dec_lt f n) (λ c. before_mono f n c) l

  cells_in_all : total_cells (attributes R) ≡ cells_before R (length R.functions)
  cells_in_all = ap (offset (attributes R)) (functions_counted R) ∙ offset_is (length R.functions) (omega arith)

  values_count : (H : Trace) → length (values_words R H) ≡ cells_before R (length R.functions)
  values_count H = memory_length (all_values (attributes R) H) ∙ (length_values (attributes R) H ∙ cells_in_all)

  values_small : (H : Trace) → WellFormedTrace R H → Small (values_words R H)
  values_small H w = memory_small R.edition.top good.proper.largest.1 (all_values (attributes R) H)
      (values_at_most (attributes R) (λ l. length (label R l)) (expressions_in_scope R good) (parameters_small R good) H (trace_small R good H w))

in_range : (ws : List ℕ) (k d d' : ℕ) → k < length ws → get_or ws k d ≡ get_or ws k d'
in_range [] k d d' l = let z : ⊥ = omega arith in absurd z
in_range (w ∷ ws) zero d d' l = refl
in_range (w ∷ ws) (suc k) d d' l = in_range ws k d d' (omega arith)

module _ (rules list table term memory spare_term spare_memory : List ℕ) (S : Sizes) (D : Demand3 rules list table term memory spare_term spare_memory S) (room : Roomy S term memory) where
  good : WellFormed D.R
  good = (admitted rules D.R D.admitted).good

  one : D.R.edition.function_parameters ≡ 1
  one = ap (λ (L : Edition). L.function_parameters) (only_edition_1 D.R.edition good.defined)

  abbrev T_list : Trace
  T_list = last_trace D.R D.h

  traced : WellFormedTrace D.R T_list
  unfolding history_run
  traced = subst (λ (c : Machine (Sem_T (attributes D.R))). WellFormedTrace D.R c.state.state) (sym (chain_run (Sem_T (attributes D.R)) D.chain))
      (history_well_formed D.R (unfold_main D.R) (numbers_in list) (main_running D.R good).form)

  abbrev wrote : List ℕ
  wrote = values_words D.R T_list

  memory_is : words_in (after rules list table term memory spare_term spare_memory S).written.memory ≡ wrote ++ words_in (drop (2 * length wrote) memory)
  memory_is = ap (λ (w : Written Ran). words_in w.memory) D.run_agrees ∙ written_words wrote memory (values_small D.R good.form one T_list traced)

  pub cell_values : CellValues D.R D.h (after rules list table term memory spare_term spare_memory S).written
  cell_values = record {
    cell = λ f l x b.
        let k = cells_before D.R f + x in
        let inside : k < length wrote = omega (arith, values_count D.R good.form one T_list, before_mono D.R good.form one f (length D.R.functions) l) in
        ap (λ ws. get_or ws k 0) memory_is ∙ (get_or-append wrote (words_in (drop (2 * length wrote) memory)) 0 k inside
        ∙ (in_range wrote k 0 (encode 65535 undefined) inside ∙ word_at D.R good.form one T_list traced f l x b));
    all_cells = omega (arith, words_counted (after rules list table term memory spare_term spare_memory S).written.memory, ap length memory_is, length-append wrote (words_in (drop (2 * length wrote) memory)), values_count D.R good.form one T_list);
    cell_count = cells_in_all D.R good.form one;
    cell_place = place_is D.R good.form one;
    domain_is = one_domain D.R good.form one;
  }
