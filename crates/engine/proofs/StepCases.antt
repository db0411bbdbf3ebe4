-- A case for each way that a step from given cells returns (document 01, "Operations": Move and Present).
use mathlib.Core.Path.{◌≡◌, refl, ap, sym, ◌∙◌, subst}
use mathlib.Core.List.{List}
use mathlib.Core.Option.{Option as Maybe, none, some}
use Prim.Native.Nat.{ℕ, ◌+◌, ◌%◌, ◌≤◌}
use native.Mathlib.Omega.{arith}
use lib.ListN.{length, get_or, get_elem?}
use Rattle.eb3.specs.Refusal
use Rattle.eb3.specs.Values.{Value}
use Rattle.eb3.specs.Terms.{Term, VisibleAction, Action, internal, visible}
use Rattle.eb3.specs.Scopes.{Scope, guard_scope}
use Rattle.eb3.specs.Moves.{Move, moves, first_with}
use Rattle.eb3.specs.RuleSets.{RuleSet, attributes}
use Rattle.eb3.specs.Derivations.{state_after}
use Rattle.eb3.specs.Semantics.{Sem_M}
use Rattle.eb3.specs.Sizes.{size, reach}
use Rattle.eb3.specs.Spelling.{words}
use Rattle.eb3.specs.Bytes.{word_count, written}
use Rattle.eb3.specs.Memory.{cell_room}
use Rattle.eb3.specs.WellFormedness.{WellFormedAction}
use Rattle.eb3.proofs.Laws.Sizes.{size_below_reach, move_size}
use Rattle.eb3.proofs.Laws.Running.{move_running, move_action}
use Rattle.eb3.specs.Operations.{cells_needed, cells_given, listed, numbered, writing, moved, moved_from}
use Rattle.eb3.specs.Answers.{or_refused}
use Rattle.expressions.specs.Stores.{now_place}
use Rattle.actions.specs.Codes.{action_code, Small}
use Rattle.actions.specs.Laws.Codes.{visible_positive}
use Rattle.actions.specs.Laws.Actions.{action_small}
use Rattle.listing.specs.Listing.{holding}
use Rattle.cells.specs.Preparing.{Saved}
use Rattle.cells.specs.Laws.Memory.{held_words}
use Rattle.steps.specs.declared.moving.Taken.{Taken}
use Rattle.steps.specs.Counting.{Whole, found_at}
use Rattle.listing.specs.Laws.Fits.{fits_length}
use Rattle.steps.specs.Storing.{Ruled, Stored, StoreRenewed}
use Rattle.steps.specs.Laws.Judging.{fits, whole, moves_judged}
use Rattle.steps.specs.Taking.{taken_as, built_over, SuccessorFits, Took, MoveTaken}
use Rattle.engine.specs.declared.stepping.Step.{Step}
use Rattle.runs.specs.declared.admitted.Admitted.{Admitted}
use Rattle.given.specs.Giving.{Described}
use Rattle.engine.specs.Describing.{DescribedBy}
use Rattle.engine.specs.Laws.Describing.{described_by_ruled}
use Rattle.given.specs.declared.asking.Wanted.{Wanted}
use Rattle.given.specs.declared.asking.Wanted.TheVariants.{Action as Action_of}
use Rattle.given.specs.Asking.{Chooses}
use Rattle.engine.specs.Stepping.{move_at, step_as, moved_as, Done, SteppedFrom, SteppedAt}
use Rattle.std.specs.Prelude.{Ok, Err, Result, Some, None, Option}
use Rattle.refusals.specs.declared.Refusal.{Refusal}
use Rattle.refusals.specs.declared.Refusal.TheVariants.{NotOffered}
use Rattle.refusals.specs.Numbers.{refusal}

-- ── the answer ──

pub told_internal : (code y n : ℕ) → code ≡ 0 → y ≡ n → (ρ : Action) → Small ρ → code ≡ action_code ρ
    → ◌≡◌ {A = Step} (record { size = y; action = None }) (step_as ρ n)
unfolding step_as
told_internal code y n z e internal h f = λ i. record { size = e i; action = None }
told_internal code y n z e (visible a) h f = absurd (visible_positive a (sym f ∙ z))

-- By what a number other than 0 says of an action.
pub told_visible : (code y n l k x₀ x₁ : ℕ) → (code ≡ 0 → ⊥) → y ≡ n
    → ((a : VisibleAction) → Small (visible a) → code ≡ action_code (visible a) → l ≡ a.label)
    → ((a : VisibleAction) → Small (visible a) → code ≡ action_code (visible a) → k ≡ length a.arguments)
    → ((a : VisibleAction) → Small (visible a) → code ≡ action_code (visible a) → x₀ ≡ get_or a.arguments 0 0)
    → ((a : VisibleAction) → Small (visible a) → code ≡ action_code (visible a) → x₁ ≡ get_or a.arguments 1 0)
    → (ρ : Action) → Small ρ → code ≡ action_code ρ
    → ◌≡◌ {A = Step} (record { size = y; action = Some (record { label = l; arguments = k; first = x₀; second = x₁ }) }) (step_as ρ n)
unfolding step_as action_code
told_visible code y n l k x₀ x₁ z e el ek e₀ e₁ internal h f = absurd (z f)
told_visible code y n l k x₀ x₁ z e el ek e₀ e₁ (visible a) h f =
    λ i. record { size = e i; action = Some (record { label = el a h f i; arguments = ek a h f i; first = e₀ a h f i; second = e₁ a h f i }) }

-- ── the wanted move ──

at_found : (xs : List Move) (o : Maybe ℕ) (r : Option ℕ) → r ≡ found_at o → move_at xs r ≡ numbered xs o
unfolding found_at
at_found xs none r e = ap (move_at xs) e
at_found xs (some k) r e = ap (move_at xs) e

module _ (s M : List ℕ) (wanted : Wanted) where
  -- What is said of the number found, whichever term the words are of.
  abbrev Finds : Option ℕ → Type 0
  Finds r = (P : Scope) (E : Term) (choose : List Move → Maybe Move) → Whole s P E → Chooses wanted choose → move_at (moves (holding M) E) r ≡ choose (moves (holding M) E)

  pub action_found : (code : ℕ) (r : Option ℕ) → wanted ≡ Action_of code
      → ((P : Scope) (E : Term) → Whole s P E → (ρ : Action) → Small ρ → code ≡ action_code ρ → r ≡ found_at (first_with ρ (moves (holding M) E)))
      → Finds r
  action_found code r ew first P E choose w h = go (subst (λ x. Chooses x choose) ew h)
    where
      go : Chooses (Action_of code) choose → move_at (moves (holding M) E) r ≡ choose (moves (holding M) E)
      go (ρ, small, ex, ec) =
          let xs : List Move = moves (holding M) E in
          at_found xs (first_with ρ xs) r (first P E w ρ small ex) ∙ ap (λ f. f xs) (sym ec)

-- ── the step ──

-- What a store that holds the cells says of a described term.
module _ (R : RuleSet) (E : Term) (cells : List Value) (t T D s M : List ℕ) (d : Described R E t T D s) (stored : Stored R cells M) where
  entry_judged : (k : ℕ) → get_elem? (moves (holding M) E) k ≡ get_elem? (moves ((Sem_M (attributes R)).satisfies cells) E) k
  entry_judged k = ap (λ xs. get_elem? xs k) (moves_judged R d.form T d.directory.declares E d.term.running.form cells M stored)

  short : size R.edition.width E ≤ 8192
  short = omega (arith, size_below_reach R.edition.width E, d.term.running.reach_limit)

  -- The successor's words, and the room for them.
  module _ (k : ℕ) (x : Move) (e : get_elem? (moves (holding M) E) k ≡ some x) where
    spelled_size : length (words R.edition.width x.successor) ≡ size R.edition.width x.successor
    spelled_size =
        fits_length (guard_scope (attributes R) 0) x.successor (fits R d.form x.successor (move_running R (holding M) E k x e d.term.running).form)

    acted : WellFormedAction R x.action
    acted = move_action R (holding M) E k x e d.term.running.form

    within : reach R.edition.width E ≤ 8192
    within = d.term.running.reach_limit

    size_low : length (words R.edition.width x.successor) % 4294967296 ≡ size R.edition.width x.successor
    size_low = omega (arith, spelled_size, within, move_size R.edition.width (holding M) E k x e)

  successor_fits : (B : List ℕ) → reach R.edition.width E ≤ word_count B → (k : ℕ) (o : Maybe Move) → get_elem? (moves (holding M) E) k ≡ o → SuccessorFits R.edition.width o B
  successor_fits B h k none e = tt
  successor_fits B h k (some x) e = omega (arith, spelled_size k x e, move_size R.edition.width (holding M) E k x e)

-- Move k as take_move answers it: r, with the successor in the buffer B, which is B' afterwards.
abbrev pub made : ℕ → ℕ → Option Taken
made a z = Some (record { action = a; size = z })

module _ (R : RuleSet) (E : Term) (cells : List Value) (t T D s M : List ℕ) (d : Described R E t T D s) (stored : Stored R cells M) (k : ℕ) (B B' C : List ℕ) (r : Option Taken) where
  -- What was taken, at the move that there is or is not.
  taken_so : MoveTaken s M k 8192 B B' r → reach R.edition.width E ≤ word_count B → Took R.edition.width (get_elem? (moves (holding M) E) k) B B' r
  taken_so taken h =
      taken (guard_scope (attributes R) 0) E (whole R d.form T d.directory.declares E d.term.running s d.term.words_are) (short R E cells t T D s M d stored)
      (successor_fits R E cells t T D s M d stored B h k (get_elem? (moves (holding M) E) k) refl)

  -- By the store's moves the step is as by those of the cells.
  by_store : (z : Result Step Refusal) (C' : List ℕ) → Done (writing B C (or_refused Refusal.not_offered (get_elem? (moves (holding M) E) k)) (moved_from R cells B C)) z B' C'
      → Done (writing B C (or_refused Refusal.not_offered (get_elem? (moves ((Sem_M (attributes R)).satisfies cells) E) k)) (moved_from R cells B C)) z B' C'
  by_store z C' = subst (λ o. Done (writing B C (or_refused Refusal.not_offered o) (moved_from R cells B C)) z B' C') (entry_judged R E cells t T D s M d stored k)

  -- no such move
  refused_so : (o : Maybe Move) → Took R.edition.width o B B' r → r ≡ None → Done (writing B C (or_refused Refusal.not_offered o) (moved_from R cells B C)) (Err NotOffered) B' C
  unfolding taken_as built_over moved_as refusal
  refused_so none took e = record { answer = refl; term_after = took.buffer; memory_after = refl }
  refused_so (some x) took e = let f : None ≡ taken_as R.edition.width (some x) = sym e ∙ took.answer in absurd (let z : ◌≡◌ {A = ℕ} 0 1 = cc in omega arith)

  -- the successor written, and the renewed cells saved
  made_so : (M' C' : List ℕ) (w n c a z : ℕ) (y : Step) → Ruled R t T D w n c → c ≤ cell_room C → r ≡ made a z → length M' ≡ length M → StoreRenewed t D M M' w n c a → Saved M' C C' c
      → ((ρ : Action) → Small ρ → a ≡ action_code ρ → y ≡ step_as ρ (z % 4294967296))
      → (o : Maybe Move) → get_elem? (moves (holding M) E) k ≡ o → Took R.edition.width o B B' r → Done (writing B C (or_refused Refusal.not_offered o) (moved_from R cells B C)) (Ok y) B' C'
  unfolding taken_as built_over moved_as
  made_so M' C' w n c a z y ruled fits er l renewed saved tells none e took = let f : made a z ≡ taken_as R.edition.width none = sym er ∙ took.answer in absurd (let q : ◌≡◌ {A = ℕ} 0 1 = cc in omega arith)
  made_so M' C' w n c a z y ruled fits er l renewed saved tells (some x) e took =
      let f : made a z ≡ made (action_code x.action) (length (words R.edition.width x.successor)) = sym er ∙ took.answer in
      let fs : ◌≡◌ {A = Taken} (record { action = a; size = z }) (record { action = action_code x.action; size = length (words R.edition.width x.successor) }) = cc in
      let ea : a ≡ action_code x.action = ap (λ v. v.action) fs in
      let ez : z ≡ length (words R.edition.width x.successor) = ap (λ v. v.size) fs in
      let good : WellFormedAction R x.action = acted R E cells t T D s M d stored k x e in
      let after : List Value = state_after (Sem_M (attributes R)) cells x.action in
      let st : Stored R after M' = renewed R T ruled x.action good ea cells stored in
      let ec : c ≡ cells_needed R = ruled.cells_are in
      let room : now_place + c ≤ length M' = omega (arith, l, ec, stored.room) in
      let ey : y ≡ step_as x.action (size R.edition.width x.successor) =
      tells x.action (action_small R d.form x.action good) ea ∙ ap (step_as x.action) (ap (λ u. u % 4294967296) ez ∙ size_low R E cells t T D s M d stored k x e) in
      record {
        answer = ap Ok ey;
        term_after = took.buffer;
        memory_after = saved.right room (omega arith) ∙ ap (λ u. written u C) (held_words M' after c (st.counted ∙ sym ec) room st.holds);
      }

pub step_refused : (rules : Admitted) (s M : List ℕ) (k : ℕ) (B B' C : List ℕ) (r : Option Taken) → MoveTaken s M k 8192 B B' r → r ≡ None → SteppedFrom rules s M k B C (Err NotOffered) B' C
step_refused rules s M k B B' C r taken e R E cells by stored h g =
    let d = by.described in
    by_store R E cells _ _ _ s M d stored k B B' C r (Err NotOffered) C
    (refused_so R E cells _ _ _ s M d stored k B B' C r (get_elem? (moves (holding M) E) k) (taken_so R E cells _ _ _ s M d stored k B B' C r taken h) e)

pub step_made : (rules : Admitted) (s M M' : List ℕ) (k : ℕ) (B B' C C' : List ℕ) (r : Option Taken) (a z : ℕ) (y : Step) → MoveTaken s M k 8192 B B' r → r ≡ made a z
    → length M' ≡ length M → StoreRenewed rules.functions.words.now rules.functions.directory.now M M' rules.functions.width rules.functions.count rules.functions.cells a → Saved M' C C' rules.functions.cells
    → ((ρ : Action) → Small ρ → a ≡ action_code ρ → y ≡ step_as ρ (z % 4294967296)) → SteppedFrom rules s M k B C (Ok y) B' C'
step_made rules s M M' k B B' C C' r a z y taken e l renewed saved tells R E cells by stored h g =
    let d = by.described in
    by_store R E cells _ _ _ s M d stored k B B' C r (Ok y) C'
    (made_so R E cells _ _ _ s M d stored k B B' C r M' C' _ _ _ a z y (described_by_ruled rules R E s by) g e l renewed saved tells (get_elem? (moves (holding M) E) k) refl
    (taken_so R E cells _ _ _ s M d stored k B B' C r taken h))

-- ── from a memory ──

-- From the store that was loaded: by the move that was wanted there, or where none is.
module _ (rules : Admitted) (s M memory : List ℕ) (x : Wanted) (q : Option ℕ)
    (loaded : (R : RuleSet) (t T : List ℕ) → Ruled R t T rules.functions.directory.now rules.functions.width rules.functions.count rules.functions.cells → rules.functions.cells ≤ cell_room memory → Stored R (cells_given R memory) M)
    (wanted : (P : Scope) (E : Term) (choose : List Move → Maybe Move) → Whole s P E → Chooses x choose → move_at (moves (holding M) E) q ≡ choose (moves (holding M) E))
  where
    chosen_move : (R : RuleSet) (E : Term) (choose : List Move → Maybe Move) → DescribedBy rules R E s → rules.functions.cells ≤ cell_room memory → Chooses x choose
        → Stored R (cells_given R memory) M × (move_at (listed R E memory) q ≡ choose (listed R E memory))
    chosen_move R E choose by enough asks =
        let d = by.described in
        let cells : List Value = cells_given R memory in
        let st : Stored R cells M = loaded R _ _ (described_by_ruled rules R E s by) enough in
        let judged : moves (holding M) E ≡ listed R E memory = moves_judged R d.form rules.tables.now d.directory.declares E d.term.running.form cells M st in
        (st, subst (λ xs. move_at xs q ≡ choose xs) judged (wanted (guard_scope (attributes R) 0) E choose (whole R d.form rules.tables.now d.directory.declares E d.term.running s d.term.words_are) asks))

    pub step_loaded : (k : ℕ) (B C B' C' : List ℕ) (r : Result Step Refusal) → q ≡ Some k → SteppedFrom rules s M k B C r B' C' → SteppedAt rules s memory x B C r B' C'
    step_loaded k B C B' C' r eq stepped R E choose by enough h g asks =
        let m = chosen_move R E choose by enough asks in
        let cells : List Value = cells_given R memory in
        let o : get_elem? (listed R E memory) k ≡ choose (listed R E memory) = ap (move_at (listed R E memory)) (sym eq) ∙ m.1 in
        subst (λ p. Done (writing B C (or_refused Refusal.not_offered p) (moved_from R cells B C)) r B' C') o (stepped R E cells by m.0 h g)

    pub step_unwanted : (B C : List ℕ) → q ≡ None → SteppedAt rules s memory x B C (Err NotOffered) B C
    unfolding moved_as refusal
    step_unwanted B C eq R E choose by enough h g asks =
        let m = chosen_move R E choose by enough asks in
        let o : none ≡ choose (listed R E memory) = ap (move_at (listed R E memory)) (sym eq) ∙ m.1 in
        subst (λ p. Done (writing B C (or_refused Refusal.not_offered p) (moved R memory B C)) (Err NotOffered) B C) o (record { answer = refl; term_after = refl; memory_after = refl })
