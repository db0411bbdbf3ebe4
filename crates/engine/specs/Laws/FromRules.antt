-- The cases once more, from the rules and the term as they are given: refused as Admit is, or as the check of the given term is; else what Starting, Running,
-- Counting and Stepping say of the admitted rule set is so of the operation.
-- Document 01, "Operations".
use Rattle.std.specs.Prelude.{◌≡◌, Bool, List, ℕ, ◌≤◌, ◌<◌, length, Ok, Err, Result}
use Rattle.std.proofs.Math.Path.{refl, ap, subst}
use Rattle.std.proofs.Common.{sym, ◌∙◌}
use Rattle.std.proofs.Math.Bool.{true, false}
use Rattle.eb3.specs.Terms.{Term}
use Rattle.eb3.specs.RuleSets.{RuleSet, attributes}
use Rattle.eb3.specs.Sizes.{size}
use Rattle.eb3.specs.Unfolding.{unfold_main}
use Rattle.eb3.specs.Spelling.{words}
use Rattle.eb3.specs.Cells.{initial_cells}
use Rattle.eb3.specs.Bytes.{written, word_count}
use Rattle.eb3.specs.Memory.{cell_room, memory_words}
use Rattle.eb3.specs.Admission.{admission}
use Rattle.eb3.specs.Answers.{Answer, refused, answered, and_then, unwritten, untabled}
use Rattle.eb3.specs.Readers.{lets_through, increased}
use Rattle.eb3.specs.Operations.{cells_needed, main_reach, reader_counts, listed, writing, tabling, started_at, counted_at, stepped_from, ran_at, count, start, run}
use Rattle.given.specs.Giving.{given_in}
use Rattle.given.specs.Asking.{asked_of}
use Rattle.given.specs.declared.asking.Request.{Request}
use Rattle.runs.specs.MainProcess.{RanRight}
use Rattle.runs.specs.declared.main_process.Totals.{Totals}
use Rattle.engine.specs.Counting.{counted_as}
use Rattle.engine.specs.Starting.{started_as, Started, StartDone}
use Rattle.engine.specs.Running.{ran_as, Ran, RunDone}
use Rattle.engine.specs.Stepping.{moved_as, Done, stepped}
use Rattle.engine.specs.declared.stepping.Step.{Step}
use Rattle.engine.specs.Laws.Counting.{count_given, count_short as short_count, count_done as done_count}
use Rattle.engine.specs.Laws.Starting.{start_admitted, start_short_term as short_term, start_short_memory as short_memory, start_done as done_start}
use Rattle.engine.specs.Laws.Running.{
  run_admitted,
  run_short_term as run_term,
  run_short_memory as run_memory,
  run_short_spare_term as run_spare_term,
  run_short_spare_memory as run_spare_memory,
  run_not_through as not_through,
  run_done as done_run,
}
use Rattle.refusals.specs.declared.Refusal.{Refusal}
use Rattle.refusals.specs.declared.Refusal.TheVariants.{Space, Reader}
use Rattle.refusals.specs.Numbers.{refusal}

-- ── Count ──

module _ (rules term memory : List ℕ) where
  by_given : (a : Answer (RuleSet × Term)) → given_in rules term ≡ a → count rules term memory ≡ and_then a λ p. counted_at p.0 p.1 memory
  by_given a e = count_given rules term memory ∙ ap (λ a. and_then a λ p. counted_at p.0 p.1 memory) e

  pub count_refused : (k : ℕ) → given_in rules term ≡ refused k → Err (refusal k) ≡ counted_as (count rules term memory)
  unfolding counted_as and_then
  count_refused k e = sym (ap counted_as (by_given (refused k) e))

  module _ (R : RuleSet) (E : Term) (e : given_in rules term ≡ answered (R, E)) where
    counted_there : count rules term memory ≡ counted_at R E memory
    unfolding and_then
    counted_there = by_given (answered (R, E)) e

    pub count_short : cell_room memory < cells_needed R → Err Space ≡ counted_as (count rules term memory)
    count_short h = short_count memory R E h ∙ sym (ap counted_as counted_there)

    pub count_done : cells_needed R ≤ cell_room memory → (n : ℕ) → n ≡ length (listed R E memory) → Ok n ≡ counted_as (count rules term memory)
    count_done h n f = done_count memory R E h n f ∙ sym (ap counted_as counted_there)

-- ── Start ──

module _ (rules term memory : List ℕ) where
  pub start_refused : (k : ℕ) → admission rules ≡ refused k → StartDone rules term memory (Err (refusal k)) term memory
  unfolding started_as
  start_refused k e =
      let f : start rules term memory ≡ unwritten term memory k = start_admitted term memory rules ∙ ap (λ a. writing term memory a (started_at term memory)) e in
      subst (λ w. Started w (Err (refusal k)) term memory) (sym f) (record { answer = refl; term_after = refl; memory_after = refl })

  module _ (R : RuleSet) (e : admission rules ≡ answered R) where
    started_there : (r : Result ℕ Refusal) (term' memory' : List ℕ) → Started (started_at term memory R) r term' memory' → StartDone rules term memory r term' memory'
    started_there r term' memory' d =
        let f : start rules term memory ≡ started_at term memory R = start_admitted term memory rules ∙ ap (λ a. writing term memory a (started_at term memory)) e in
        subst (λ w. Started w r term' memory') (sym f) d

    pub start_short_term : word_count term < main_reach R → StartDone rules term memory (Err Space) term memory
    start_short_term h = started_there (Err Space) term memory (short_term term memory R h)

    pub start_short_memory : main_reach R ≤ word_count term → cell_room memory < cells_needed R → StartDone rules term memory (Err Space) term memory
    start_short_memory h k = started_there (Err Space) term memory (short_memory term memory R h k)

    pub start_done : main_reach R ≤ word_count term → cells_needed R ≤ cell_room memory → (n : ℕ) (term' memory' : List ℕ) → n ≡ size R.edition.width (unfold_main R)
        → term' ≡ written (words R.edition.width (unfold_main R)) term → memory' ≡ written (memory_words (initial_cells (attributes R))) memory → StartDone rules term memory (Ok n) term' memory'
    start_done h k n term' memory' s t m = started_there (Ok n) term' memory' (done_start term memory R h k n term' memory' s t m)

-- ── Run ──

module _ (rules list table term memory spare_term spare_memory : List ℕ) where
  abbrev Leaves : Result Totals Refusal → List ℕ → List ℕ → List ℕ → List ℕ → Type 0
  Leaves r table' term' memory' spare' = RunDone rules list table term memory spare_term spare_memory r table' term' memory' spare'

  pub run_refused : (k : ℕ) → admission rules ≡ refused k → Leaves (Err (refusal k)) table term memory spare_term
  unfolding ran_as
  run_refused k e =
      let f : run rules list table term memory spare_term spare_memory ≡ untabled table term memory k =
      run_admitted list table term memory spare_term spare_memory rules ∙ ap (λ a. tabling table term memory a (ran_at list table term memory spare_term spare_memory)) e in
      subst (λ w. Ran w spare_term (Err (refusal k)) table term memory spare_term) (sym f)
      (record { answer = refl; table_after = refl; term_after = refl; memory_after = refl; scratch_after = refl })

  module _ (R : RuleSet) (e : admission rules ≡ answered R) where
    ran_there : (r : Result Totals Refusal) (table' term' memory' spare' : List ℕ) → Ran (ran_at list table term memory spare_term spare_memory R) spare_term r table' term' memory' spare'
        → Leaves r table' term' memory' spare'
    ran_there r table' term' memory' spare' d =
        let f : run rules list table term memory spare_term spare_memory ≡ ran_at list table term memory spare_term spare_memory R =
        run_admitted list table term memory spare_term spare_memory rules ∙ ap (λ a. tabling table term memory a (ran_at list table term memory spare_term spare_memory)) e in
        subst (λ w. Ran w spare_term r table' term' memory' spare') (sym f) d

    lacking : Ran (ran_at list table term memory spare_term spare_memory R) spare_term (Err Space) table term memory spare_term → Leaves (Err Space) table term memory spare_term
    lacking d = ran_there (Err Space) table term memory spare_term d

    pub run_short_term : word_count term < main_reach R → Leaves (Err Space) table term memory spare_term
    run_short_term h = lacking (run_term list table term memory spare_term spare_memory R h)

    pub run_short_memory : main_reach R ≤ word_count term → cell_room memory < cells_needed R → Leaves (Err Space) table term memory spare_term
    run_short_memory h l = lacking (run_memory list table term memory spare_term spare_memory R h l)

    module _ (h : main_reach R ≤ word_count term) (l : cells_needed R ≤ cell_room memory) where
      pub run_short_spare_term : word_count spare_term < main_reach R → Leaves (Err Space) table term memory spare_term
      run_short_spare_term m = lacking (run_spare_term list table term memory spare_term spare_memory R h l m)

      pub run_short_spare_memory : main_reach R ≤ word_count spare_term → cell_room spare_memory < cells_needed R → Leaves (Err Space) table term memory spare_term
      run_short_spare_memory m n = lacking (run_spare_memory list table term memory spare_term spare_memory R h l m n)

      module _ (m : main_reach R ≤ word_count spare_term) (n : cells_needed R ≤ cell_room spare_memory) where
        pub run_not_through : lets_through list table ≡ false → Leaves (Err Reader) table term memory spare_term
        run_not_through f = ran_there (Err Reader) table term memory spare_term (not_through list table term memory spare_term spare_memory R h l m n f)

        pub run_done : lets_through list table ≡ true → (r : Totals) (table' term' memory' spare' by by' : List ℕ) → RanRight list term memory spare_term by R r term' memory' spare' by'
            → table' ≡ increased (reader_counts list R) table → Leaves (Ok r) table' term' memory' spare'
        run_done f r table' term' memory' spare' by by' d i =
            ran_there (Ok r) table' term' memory' spare' (done_run list table term memory spare_term spare_memory R h l m n f r table' term' memory' spare' by by' d i)

-- ── Move and Present ──

module _ (rules term memory next_term next_memory : List ℕ) (request : Request) where
  pub step_refused : (k : ℕ) → given_in rules term ≡ refused k → Done (stepped rules term memory request next_term next_memory) (Err (refusal k)) next_term next_memory
  unfolding stepped moved_as
  step_refused k e =
      let f : stepped rules term memory request next_term next_memory ≡ unwritten next_term next_memory k =
      ap (λ a. writing next_term next_memory a λ p. stepped_from p.0 p.1 memory next_term next_memory (asked_of request p.0)) e in
      subst (λ w. Done w (Err (refusal k)) next_term next_memory) (sym f) (record { answer = refl; term_after = refl; memory_after = refl })

  pub step_given : (R : RuleSet) (E : Term) → given_in rules term ≡ answered (R, E) → (r : Result Step Refusal) (term' memory' : List ℕ)
      → Done (stepped_from R E memory next_term next_memory (asked_of request R)) r term' memory' → Done (stepped rules term memory request next_term next_memory) r term' memory'
  unfolding stepped
  step_given R E e r term' memory' d =
      let f : stepped rules term memory request next_term next_memory ≡ stepped_from R E memory next_term next_memory (asked_of request R) =
      ap (λ a. writing next_term next_memory a λ p. stepped_from p.0 p.1 memory next_term next_memory (asked_of request p.0)) e in
      subst (λ w. Done w r term' memory') (sym f) d
