-- A case for each way that Move and Present return, from what was given and asked for (document 01, "Operations": Move and Present).
use mathlib.Core.Path.{◌≡◌, ap, sym, ◌∙◌}
use mathlib.Core.List.{List}
use Prim.Native.Nat.{ℕ, ◌≤◌, ◌<◌}
use native.Mathlib.Omega.{arith}
use Rattle.eb3.specs.RuleSets.{RuleSet}
use Rattle.eb3.specs.Terms.{Term}
use Rattle.eb3.specs.WellFormedness.{Form}
use Rattle.eb3.specs.Bytes.{word_count}
use Rattle.eb3.specs.Memory.{cell_room}
use Rattle.eb3.specs.Answers.{Answer, refused, answered, Moved as Answer_moved, Written}
use Rattle.eb3.specs.Operations.{writing, stepped_from}
use Rattle.engine.specs.Enveloping.{OnAnswer, TermCall}
use Rattle.std.specs.Borrow.{Bor}
use Rattle.declarations.specs.Declaring.{Declares}
use Rattle.runs.specs.declared.admitted.Admitted.{Admitted}
use Rattle.given.specs.Giving.{given_in}
use Rattle.given.specs.declared.asking.Request.{Request}
use Rattle.given.specs.declared.asking.Wanted.{Wanted}
use Rattle.given.specs.Asking.{asked_of, asked_as}
use Rattle.engine.specs.Describing.{DescribedBy}
use Rattle.engine.specs.Stepping.{moved_as, Done, stepped, SteppedAt, Steps}
use Rattle.engine.specs.Laws.Stepping.{asked_stranger, Choosing, asked_wanted, stranger_done, short_term, short_memory, short_next_memory, with_room}
use Rattle.std.specs.Prelude.{Err, Result, Some, None, Option}
use Rattle.refusals.specs.declared.Refusal.{Refusal}
use Rattle.refusals.specs.declared.Refusal.TheVariants.{Space, Stranger}
use Rattle.engine.specs.declared.stepping.Step.{Step}

-- ── what a buffer holds that was lent on and given back ──

pub done_there : {w : Written Answer_moved} {r : Result Step Refusal} {B C B' C' : List ℕ} → B' ≡ B → C' ≡ C → Done w r B C → Done w r B' C'
done_there e f d = record { answer = d.answer; term_after = e ∙ d.term_after; memory_after = f ∙ d.memory_after }

-- ── a rule set and a term given ──

module _ {rules : Admitted} {s : List ℕ} (memory next_term next_memory : List ℕ) (request : Request) where
  module _ (a : Option Wanted) (asks : (R : RuleSet) → Form R → Declares rules.tables.now R → a ≡ asked_as request R) where
    pub steps_stranger : {g : ℕ} → a ≡ None → Steps rules s g memory request next_term next_memory (Err Stranger) next_term next_memory
    steps_stranger f R E by eg =
        let d = by.described in
        stranger_done R E memory next_term next_memory request (asked_stranger R d.form request (sym f ∙ asks R d.form d.directory.declares))

    module _ (x : Wanted) (f : a ≡ Some x) where
      choosing : (R : RuleSet) (E : Term) (by : DescribedBy rules R E s) → Choosing R by.described.form request x
      choosing R E by = let d = by.described in asked_wanted R d.form request x (sym f ∙ asks R d.form d.directory.declares)

      pub steps_short_term : {g : ℕ} → word_count next_term < g → Steps rules s g memory request next_term next_memory (Err Space) next_term next_memory
      steps_short_term h R E by eg =
          let y = choosing R E by in
          short_term R E memory next_term next_memory request y.choose y.asked_so (omega (arith, eg))

      pub steps_short_memory : {g : ℕ} → g ≤ word_count next_term → cell_room memory < rules.functions.cells → Steps rules s g memory request next_term next_memory (Err Space) next_term next_memory
      steps_short_memory h l R E by eg =
          let y = choosing R E by in
          short_memory R E memory next_term next_memory request y.choose y.asked_so (omega (arith, eg)) (omega (arith, by.cells_are))

      pub steps_short_next : {g : ℕ} → g ≤ word_count next_term → rules.functions.cells ≤ cell_room memory → cell_room next_memory < rules.functions.cells → Steps rules s g memory request next_term next_memory (Err Space) next_term next_memory
      steps_short_next h l m R E by eg =
          let y = choosing R E by in
          short_next_memory R E memory next_term next_memory request y.choose y.asked_so (omega (arith, eg)) (omega (arith, by.cells_are)) (omega (arith, by.cells_are))

      pub steps_done : {g : ℕ} → g ≤ word_count next_term → rules.functions.cells ≤ cell_room memory → rules.functions.cells ≤ cell_room next_memory → (r : Result Step Refusal) (term' memory' : List ℕ)
          → SteppedAt rules s memory x next_term next_memory r term' memory' → Steps rules s g memory request next_term next_memory r term' memory'
      steps_done h l m r term' memory' step R E by eg =
          let y = choosing R E by in
          with_room R E memory next_term next_memory request y.choose y.asked_so (omega (arith, eg)) (omega (arith, by.cells_are)) (omega (arith, by.cells_are)) r term' memory'
          (step R E y.choose by l (omega (arith, eg)) m y.chooses)

-- ── from the bytes ──

-- Of the closure's state, these are the buffers.
pub stepped_given : {F : Type 0} (calls : F → Bor Admitted → Bor (List ℕ) → ℕ → Result Step Refusal → F → Type 0) {f f' : F} (rules term : List ℕ) {r : Result Step Refusal} → OnAnswer (TermCall calls) f (given_in rules term) r f'
    → (memory : List ℕ) (request : Request) (term_of memory_of : F → List ℕ)
    → ((x : Bor Admitted) (s : Bor (List ℕ)) (g : ℕ) → calls f x s g r f' → Steps x.now s.now g memory request (term_of f) (memory_of f) r (term_of f') (memory_of f'))
    → Done (stepped rules term memory request (term_of f) (memory_of f)) r (term_of f') (memory_of f')
unfolding OnAnswer stepped moved_as
stepped_given calls {f} {f'} rules term {r} h memory request term_of memory_of says = go (given_in rules term) h
  where
    go : (a : Answer (RuleSet × Term)) → OnAnswer (TermCall calls) f a r f' → Done (writing (term_of f) (memory_of f) a λ p. stepped_from p.0 p.1 memory (term_of f) (memory_of f) (asked_of request p.0)) r (term_of f') (memory_of f')
    go (refused k) h = record { answer = h.0; term_after = ap term_of h.1; memory_after = ap memory_of h.1 }
    go (answered p) h = says h.rules h.words h.most h.called p.0 p.1 h.described h.most_is
