-- A case for each way that Run returns (document 01, "Operations": Run; document 02, K1).
use mathlib.Core.Path.{◌≡◌, ap, sym, ◌∙◌, subst}
use mathlib.Core.Bool.{Bool, true, false}
use mathlib.Core.List.{List}
use Prim.Native.Nat.{ℕ, ◌≤◌, ◌<◌}
use native.Mathlib.Omega.{arith}
use lib.Dec.{T}
use lib.ListN.{length}
use Rattle.eb3.specs.Bytes.{word_count}
use Rattle.eb3.specs.Memory.{cell_room}
use Rattle.eb3.specs.RuleSets.{RuleSet, attributes}
use Rattle.eb3.specs.Unfolding.{unfold_main}
use Rattle.eb3.specs.Machines.{history_outcomes}
use Rattle.eb3.specs.Readers.{numbers_in, readers_in, lets_through, increased}
use Rattle.eb3.proofs.Laws.Readers.{through_readers, through_room}
use Rattle.eb3.specs.Admission.{admission}
use Rattle.eb3.specs.Answers.{Answer, refused, answered}
use Rattle.eb3.specs.Operations.{main_reach, sizes_needed, tabling, ran_at}
use Rattle.readers.specs.Table.{counted_by}
use Rattle.readers.proofs.Laws.Counting.{zeros, counted_increases}
use Rattle.runs.specs.MainProcess.{RunsMain}
use Rattle.runs.specs.declared.main_process.Totals.{Totals}
use Rattle.measures.specs.declared.Limits.{Limits}
use Rattle.engine.specs.Running.{ran_as, Ran, RunDone}
use Rattle.engine.specs.Laws.Running.{run_admitted, run_short_term, run_short_memory, run_short_spare_term, run_short_spare_memory, run_not_through, run_done}
use Rattle.std.specs.Prelude.{Ok, Err, Result}
use Rattle.std.specs.Borrow.{Bor}
use Rattle.admission.specs.Answering.{limits}
use Rattle.runs.specs.declared.admitted.Admitted.{Admitted}
use Rattle.engine.specs.Describing.{AdmittedAs}
use Rattle.engine.specs.Enveloping.{OnAnswer, RulesCall}
use Rattle.refusals.specs.declared.Refusal.{Refusal}
use Rattle.refusals.specs.declared.Refusal.TheVariants.{Space, Reader}

-- A table that 13 lets through has room for all records.
pub table_room : (list table : List ℕ) (b : Bool) → b ≡ lets_through list table → b ≡ true → 384 ≤ length table
table_room list table b e f = through_room list table (subst T (sym (sym e ∙ f)) tt)

reach_of : {sizes : Limits} (R : RuleSet) → sizes ≡ limits (sizes_needed R) → sizes.reach ≡ main_reach R
reach_of R e = ap (λ (x : Limits). x.reach) e

module _ (rules : Admitted) (sizes : Limits) (list table term memory spare cells : List ℕ) where
  abbrev Leaves : Result Totals Refusal → List ℕ → List ℕ → List ℕ → List ℕ → Type 0
  Leaves r table' term' memory' spare' = (R : RuleSet) → AdmittedAs rules R → sizes ≡ limits (sizes_needed R) → Ran (ran_at list table term memory spare cells R) spare r table' term' memory' spare'

  pub ran_short_term : word_count term < sizes.reach → Leaves (Err Space) table term memory spare
  ran_short_term h R by e = run_short_term list table term memory spare cells R (omega (arith, reach_of R e))

  pub ran_short_memory : sizes.reach ≤ word_count term → cell_room memory < rules.functions.cells → Leaves (Err Space) table term memory spare
  ran_short_memory h i R by e = run_short_memory list table term memory spare cells R (omega (arith, reach_of R e)) (omega (arith, by.cells_are))

  module _ (h : sizes.reach ≤ word_count term) (i : rules.functions.cells ≤ cell_room memory) where
    pub ran_short_spare : word_count spare < sizes.reach → Leaves (Err Space) table term memory spare
    ran_short_spare m R by e = run_short_spare_term list table term memory spare cells R (omega (arith, reach_of R e)) (omega (arith, by.cells_are)) (omega (arith, reach_of R e))

    pub ran_short_cells : sizes.reach ≤ word_count spare → cell_room cells < rules.functions.cells → Leaves (Err Space) table term memory spare
    ran_short_cells m n R by e =
        run_short_spare_memory list table term memory spare cells R (omega (arith, reach_of R e)) (omega (arith, by.cells_are)) (omega (arith, reach_of R e)) (omega (arith, by.cells_are))

    module _ (m : sizes.reach ≤ word_count spare) (n : rules.functions.cells ≤ cell_room cells) (b : Bool) (eb : b ≡ lets_through list table) where
      pub ran_not_through : b ≡ false → Leaves (Err Reader) table term memory spare
      ran_not_through f R by e =
          run_not_through list table term memory spare cells R (omega (arith, reach_of R e)) (omega (arith, by.cells_are)) (omega (arith, reach_of R e)) (omega (arith, by.cells_are)) (sym eb ∙ f)

      pub ran_done : b ≡ true → (r : Totals) (table' term' memory' spare' by_reader by_reader' : List ℕ) → by_reader ≡ zeros
          → RunsMain list rules.functions.words.now rules.tables.now rules.functions.directory.now rules.functions.cells sizes.reach 8192 term memory spare by_reader r term' memory' spare' by_reader'
          → table' ≡ increased by_reader' table → Leaves (Ok r) table' term' memory' spare'
      ran_done f r table' term' memory' spare' by_reader by_reader' z runs added R by e =
          let os = history_outcomes (attributes R) (unfold_main R) (numbers_in list) in
          let x = reach_of R e in
          let right = runs R by.well by.directory by.cells_are x (omega (arith, x, by.well.reach_limit)) h i m in
          let counted = right.counted ∙ ap (λ ns. counted_by ns (readers_in list) os) z in
          run_done list table term memory spare cells R (omega (arith, x)) (omega (arith, by.cells_are)) (omega (arith, x)) (omega (arith, by.cells_are)) (sym eb ∙ f)
          r table' term' memory' spare' by_reader by_reader' right
          (added ∙ ap (λ ns. increased ns table) counted ∙ counted_increases (readers_in list) os (through_readers list table (subst T (sym (sym eb ∙ f)) tt)) table)

-- From the bytes. Of the closure's state, these are the table and the buffers.
pub ran_given : {F : Type 0} (calls : F → Bor Admitted → Limits → Result Totals Refusal → F → Type 0) {f f' : F} (rules : List ℕ) {r : Result Totals Refusal} → OnAnswer (RulesCall calls) f (admission rules) r f'
    → (list cells : List ℕ) (table_of term_of memory_of spare_of : F → List ℕ)
    → ((x : Bor Admitted) (l : Limits) → calls f x l r f' → (R : RuleSet) → AdmittedAs x.now R → l ≡ limits (sizes_needed R)
    → Ran (ran_at list (table_of f) (term_of f) (memory_of f) (spare_of f) cells R) (spare_of f) r (table_of f') (term_of f') (memory_of f') (spare_of f'))
    → RunDone rules list (table_of f) (term_of f) (memory_of f) (spare_of f) cells r (table_of f') (term_of f') (memory_of f') (spare_of f')
unfolding OnAnswer ran_as
ran_given calls {f} {f'} rules {r} h list cells table_of term_of memory_of spare_of says =
    subst (λ w. Ran w (spare_of f) r (table_of f') (term_of f') (memory_of f') (spare_of f')) (sym (run_admitted list (table_of f) (term_of f) (memory_of f) (spare_of f) cells rules)) (go (admission rules) h)
  where
    go : (a : Answer RuleSet) → OnAnswer (RulesCall calls) f a r f'
        → Ran (tabling (table_of f) (term_of f) (memory_of f) a (ran_at list (table_of f) (term_of f) (memory_of f) (spare_of f) cells)) (spare_of f) r (table_of f') (term_of f') (memory_of f') (spare_of f')
    go (refused k) h = record { answer = h.0; table_after = ap table_of h.1; term_after = ap term_of h.1; memory_after = ap memory_of h.1; scratch_after = ap spare_of h.1 }
    go (answered R) h = says h.rules h.sizes h.called R h.described h.sizes_are
