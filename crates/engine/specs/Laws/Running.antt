-- Run, case by case: refused as Admit is, refused for want of space in one of the four buffers, refused for a reader or the table (document 02, K1), or
-- done (document 01, "Operations").
use Rattle.std.specs.Prelude.{◌≡◌, Bool, false, ◌&&◌, List, ℕ, ◌≤◌, ◌<◌, Ok, Err, Result}
use Rattle.std.proofs.Math.Path.{refl, ap}
use Rattle.std.proofs.Common.{sym, ◌∙◌, subst, le-leb}
use Rattle.std.proofs.Math.Bool.{true}
use Rattle.std.proofs.lemmas.Bool.{lt-leb}
use Rattle.eb3.specs.Refusal
use Rattle.eb3.specs.RuleSets.{RuleSet}
use Rattle.eb3.specs.Bytes.{word_count}
use Rattle.eb3.specs.Memory.{cell_room}
use Rattle.eb3.specs.Reading.{pick}
use Rattle.eb3.specs.Admission.{admission}
use Rattle.eb3.specs.Answers.{Ran as Answer_ran, Tabled, untabled}
use Rattle.eb3.specs.Readers.{lets_through, increased}
use Rattle.eb3.specs.Operations.{cells_needed, main_reach, term_fits, memory_fits, reader_counts, ran_with, tabling, ran_at, run}
use Rattle.runs.specs.MainProcess.{RanRight}
use Rattle.runs.specs.declared.main_process.Totals.{Totals}
use Rattle.engine.specs.Running.{ran_as, Ran}
use Rattle.refusals.specs.declared.Refusal.{Refusal}
use Rattle.refusals.specs.declared.Refusal.TheVariants.{Space, Reader}
use Rattle.refusals.specs.Numbers.{refusal}

module _ (list table term memory spare_term spare_memory : List ℕ) where
  pub run_admitted : (rules : List ℕ) → run rules list table term memory spare_term spare_memory ≡ tabling table term memory (admission rules) (ran_at list table term memory spare_term spare_memory)
  unfolding run
  run_admitted rules = refl

module _ (list table term memory spare_term spare_memory : List ℕ) (R : RuleSet) where
  abbrev Leaves : Result Totals Refusal → List ℕ → List ℕ → List ℕ → List ℕ → Type 0
  Leaves r table' term' memory' spare' = Ran (ran_at list table term memory spare_term spare_memory R) spare_term r table' term' memory' spare'

  by_whole : (w : Tabled Answer_ran) (r : Result Totals Refusal) (table' term' memory' spare' : List ℕ) → ran_at list table term memory spare_term spare_memory R ≡ w
      → Ran w spare_term r table' term' memory' spare' → Leaves r table' term' memory' spare'
  by_whole w r table' term' memory' spare' e d = subst (λ v. Ran v spare_term r table' term' memory' spare') (sym e) d

  -- Refused: nothing is written.
  refused_by : (k : ℕ) → ran_at list table term memory spare_term spare_memory R ≡ untabled table term memory k → Leaves (Err (refusal k)) table term memory spare_term
  unfolding ran_as
  refused_by k e = by_whole (untabled table term memory k) (Err (refusal k)) table term memory spare_term e (record { answer = refl; table_after = refl; term_after = refl; memory_after = refl; scratch_after = refl })

  abbrev read_by : Tabled Answer_ran
  read_by = pick (lets_through list table) (ran_with list table term memory R) (untabled table term memory Refusal.reader)

  by_room : (a b c d : Bool) → term_fits (main_reach R) term ≡ a → memory_fits R memory ≡ b → term_fits (main_reach R) spare_term ≡ c → memory_fits R spare_memory ≡ d
      → ran_at list table term memory spare_term spare_memory R ≡ pick ((a && b) && (c && d)) read_by (untabled table term memory Refusal.space)
  by_room a b c d p q r s = λ i. pick ((p i && q i) && (r i && s i)) read_by (untabled table term memory Refusal.space)

  lacking : ran_at list table term memory spare_term spare_memory R ≡ untabled table term memory Refusal.space → Leaves (Err Space) table term memory spare_term
  unfolding refusal
  lacking f = refused_by Refusal.space f

  pub run_short_term : word_count term < main_reach R → Leaves (Err Space) table term memory spare_term
  run_short_term h = lacking (by_room false (memory_fits R memory) (term_fits (main_reach R) spare_term) (memory_fits R spare_memory) (lt-leb (main_reach R) (word_count term) h) refl refl refl)

  pub run_short_memory : main_reach R ≤ word_count term → cell_room memory < cells_needed R → Leaves (Err Space) table term memory spare_term
  run_short_memory h l =
      lacking (by_room true false (term_fits (main_reach R) spare_term) (memory_fits R spare_memory) (le-leb (main_reach R) (word_count term) h) (lt-leb (cells_needed R) (cell_room memory) l) refl refl)

  module _ (h : main_reach R ≤ word_count term) (l : cells_needed R ≤ cell_room memory) where
    pub run_short_spare_term : word_count spare_term < main_reach R → Leaves (Err Space) table term memory spare_term
    run_short_spare_term m =
        lacking (by_room true true false (memory_fits R spare_memory) (le-leb (main_reach R) (word_count term) h) (le-leb (cells_needed R) (cell_room memory) l) (lt-leb (main_reach R) (word_count spare_term) m) refl)

    pub run_short_spare_memory : main_reach R ≤ word_count spare_term → cell_room spare_memory < cells_needed R → Leaves (Err Space) table term memory spare_term
    run_short_spare_memory m n =
        lacking (by_room true true true false (le-leb (main_reach R) (word_count term) h) (le-leb (cells_needed R) (cell_room memory) l) (le-leb (main_reach R) (word_count spare_term) m) (lt-leb (cells_needed R) (cell_room spare_memory) n))

    module _ (m : main_reach R ≤ word_count spare_term) (n : cells_needed R ≤ cell_room spare_memory) where
      by_readers : (b : Bool) → lets_through list table ≡ b → ran_at list table term memory spare_term spare_memory R ≡ pick b (ran_with list table term memory R) (untabled table term memory Refusal.reader)
      by_readers b f =
          by_room true true true true (le-leb (main_reach R) (word_count term) h) (le-leb (cells_needed R) (cell_room memory) l) (le-leb (main_reach R) (word_count spare_term) m) (le-leb (cells_needed R) (cell_room spare_memory) n)
          ∙ ap (λ x. pick x (ran_with list table term memory R) (untabled table term memory Refusal.reader)) f

      pub run_not_through : lets_through list table ≡ false → Leaves (Err Reader) table term memory spare_term
      unfolding refusal
      run_not_through f = refused_by Refusal.reader (by_readers false f)

      pub run_done : lets_through list table ≡ true → (r : Totals) (table' term' memory' spare' by by' : List ℕ) → RanRight list term memory spare_term by R r term' memory' spare' by'
          → table' ≡ increased (reader_counts list R) table → Leaves (Ok r) table' term' memory' spare'
      unfolding ran_as
      run_done f r table' term' memory' spare' by by' d i = by_whole (ran_with list table term memory R) (Ok r) table' term' memory' spare' (by_readers true f)
          (record { answer = sym (ap ran_as d.answer); table_after = i; term_after = d.term_after; memory_after = d.memory_after; scratch_after = (d.words_only.same_length, d.words_only.odd_kept) })
