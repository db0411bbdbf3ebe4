-- A case for each way that Start returns (document 01, "Operations": Start).
use mathlib.Core.Path.{◌≡◌, ap, sym, subst}
use mathlib.Core.List.{List}
use Prim.Native.Nat.{ℕ, ◌≤◌, ◌<◌}
use native.Mathlib.Omega.{arith}
use lib.ListN.{length}
use Rattle.std.specs.Prelude.{Ok, Err, Result}
use Rattle.std.specs.Borrow.{Bor}
use Rattle.eb3.specs.RuleSets.{RuleSet}
use Rattle.eb3.specs.Bytes.{word_count}
use Rattle.eb3.specs.Memory.{cell_room}
use Rattle.eb3.specs.Sizes.{size}
use Rattle.eb3.specs.Spelling.{words}
use Rattle.eb3.specs.Unfolding.{unfold_main}
use Rattle.eb3.specs.Admission.{admission}
use Rattle.eb3.specs.Answers.{Answer, refused, answered}
use Rattle.eb3.specs.Operations.{main_reach, sizes_needed, writing, started_at}
use Rattle.eb3.proofs.Laws.Sizes.{size_below_reach}
use Rattle.eb3.proofs.Laws.Spelling.{words_length}
use Rattle.eb3.proofs.Laws.MainRunning.{main_running}
use Rattle.measures.specs.declared.Limits.{Limits}
use Rattle.admission.specs.Answering.{limits}
use Rattle.runs.specs.declared.admitted.Admitted.{Admitted}
use Rattle.engine.specs.Describing.{AdmittedAs}
use Rattle.engine.specs.Enveloping.{OnAnswer, RulesCall}
use Rattle.engine.specs.Memories.{Begun}
use Rattle.engine.specs.Starting.{started_as, Started, StartDone}
use Rattle.engine.specs.Laws.Starting.{start_admitted, start_short_term, start_short_memory, start_done}
use Rattle.refusals.specs.declared.Refusal.{Refusal}
use Rattle.refusals.specs.declared.Refusal.TheVariants.{Space}

module _ {rules : Admitted} {sizes : Limits} (term memory : List ℕ) where
  pub started_short_term : word_count term < sizes.reach → (R : RuleSet) → AdmittedAs rules R → sizes ≡ limits (sizes_needed R) → Started (started_at term memory R) (Err Space) term memory
  started_short_term h R by e = start_short_term term memory R (omega (arith, ap (λ (x : Limits). x.reach) e))

  pub started_short_memory : sizes.reach ≤ word_count term → cell_room memory < rules.functions.cells → (R : RuleSet) → AdmittedAs rules R → sizes ≡ limits (sizes_needed R)
      → Started (started_at term memory R) (Err Space) term memory
  started_short_memory h g R by e = start_short_memory term memory R (omega (arith, ap (λ (x : Limits). x.reach) e)) (omega (arith, by.cells_are))

  pub started_done : sizes.reach ≤ word_count term → rules.functions.cells ≤ cell_room memory → (term' memory' : List ℕ)
      → Begun rules.functions.words.now rules.tables.now rules.functions.directory.now rules.functions.cells term memory term' memory'
      → (R : RuleSet) → AdmittedAs rules R → sizes ≡ limits (sizes_needed R) → Started (started_at term memory R) (Ok sizes.size) term' memory'
  started_done h g term' memory' begun R by e =
      let run = main_running R by.well in
      let x : sizes.reach ≡ main_reach R = ap (λ (y : Limits). y.reach) e in
      let n : length (words R.edition.width (unfold_main R)) ≡ size R.edition.width (unfold_main R) = words_length R (unfold_main R) run.form in
      let s : length (words R.edition.width (unfold_main R)) ≤ word_count term = omega (arith, n, size_below_reach R.edition.width (unfold_main R), x) in
      let m : length (words R.edition.width (unfold_main R)) ≤ 65535 = omega (arith, n, size_below_reach R.edition.width (unfold_main R), by.well.reach_limit) in
      let p = begun R by.well.form by.directory by.cells_are rules.few_cells m s g in
      start_done term memory R (omega (arith, x)) (omega (arith, by.cells_are)) sizes.size term' memory' (ap (λ (y : Limits). y.size) e) p.0 p.1

-- From the bytes. Of the closure's state, these are the buffers.
pub started_given : {F : Type 0} (calls : F → Bor Admitted → Limits → Result ℕ Refusal → F → Type 0) {f f' : F} (rules : List ℕ) {r : Result ℕ Refusal} → OnAnswer (RulesCall calls) f (admission rules) r f'
    → (term_of memory_of : F → List ℕ)
    → ((x : Bor Admitted) (l : Limits) → calls f x l r f' → (R : RuleSet) → AdmittedAs x.now R → l ≡ limits (sizes_needed R) → Started (started_at (term_of f) (memory_of f) R) r (term_of f') (memory_of f'))
    → StartDone rules (term_of f) (memory_of f) r (term_of f') (memory_of f')
unfolding OnAnswer started_as
started_given calls {f} {f'} rules {r} h term_of memory_of says =
    subst (λ w. Started w r (term_of f') (memory_of f')) (sym (start_admitted (term_of f) (memory_of f) rules)) (go (admission rules) h)
  where
    go : (a : Answer RuleSet) → OnAnswer (RulesCall calls) f a r f' → Started (writing (term_of f) (memory_of f) a (started_at (term_of f) (memory_of f))) r (term_of f') (memory_of f')
    go (refused k) h = record { answer = h.0; term_after = ap term_of h.1; memory_after = ap memory_of h.1 }
    go (answered R) h = says h.rules h.sizes h.called R h.described h.sizes_are
