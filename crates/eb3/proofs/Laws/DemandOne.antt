-- Demand 1 is met: every refusal has its number and writes nothing (`refusals`); in buffers of the reported sizes space never lacks (`space`).
use Rattle.std.specs.Prelude.{◌≡◌, refl, false, ◌&&◌, List, [], ◌∷◌, ℕ, ◌≤◌, length}
use Rattle.std.proofs.Math.Path.{ap, subst}
use Rattle.std.proofs.Common.{sym, ◌∙◌, arith, le→leb}
use Rattle.std.proofs.Math.Option.{Option, none, some}
use Rattle.std.proofs.Math.Dec.{T}
use Rattle.std.proofs.Math.ListN.{get_elem?}
use Rattle.eb3.specs.Generic.Booleans.{T_and}
use Rattle.eb3.specs.Generic.Lists.{one_of, all_of, one_of_more}
use Rattle.eb3.specs.Refusal
use Rattle.eb3.specs.Terms.{Term, Action}
use Rattle.eb3.specs.Moves.{Move}
use Rattle.eb3.specs.Sizes.{reach}
use Rattle.eb3.proofs.Laws.Sizes.{size_below_reach}
use Rattle.eb3.proofs.Laws.CellCounts.{one_parameter_each, cells_below}
use Rattle.eb3.specs.Editions.{Edition}
use Rattle.eb3.proofs.Laws.Editions.{only_edition_1}
use Rattle.eb3.specs.RuleSets.{RuleSet}
use Rattle.eb3.specs.Unfolding.{unfold_main}
use Rattle.eb3.specs.WellFormedness.{WellFormed}
use Rattle.eb3.specs.Reading.{pick}
use Rattle.eb3.proofs.Laws.Reading.{pick_true, picked}
use Rattle.eb3.specs.TermReading.{given_term, given_event}
use Rattle.eb3.specs.Bytes.{words_in, word_count}
use Rattle.eb3.specs.Memory.{cell_room}
use Rattle.eb3.specs.Answers.{Answer, refused, answered, and_then, Sizes, Ran, Moved, Written, unwritten, or_refused, Tabled, untabled}
use Rattle.eb3.proofs.Laws.Answers.{not_both, answered_injective, refused_injective}
use Rattle.eb3.proofs.Laws.Refusals.{Within, and_then_within, or_refused_within, admission_within, refused_within}
use Rattle.eb3.specs.Admission.{admission}
use Rattle.eb3.proofs.Laws.Admission.{admitted}
use Rattle.eb3.specs.Operations.{cells_needed, main_reach, sizes_needed, term_fits, memory_fits, even, term_in, event_in, listed, writing, started, started_at, counted_at, stepped_from, choice_by_event, moved, chosen, at_first, ran, admit, start, count, move, present, run, ran_with, tabling, run_fits}
use Rattle.eb3.specs.Demands.{Roomy, RefusedAs, RefusalsHold, SpaceHolds}
use Rattle.eb3.proofs.Laws.DemandThree.{admit_reports, fits, run_judged}
use Rattle.eb3.specs.Readers.{numbers_in, lets_through}

-- ── refusals ──

within_more : {X : Type 0} (ms ns : List ℕ) → T (all_of ms ns) → (a : Answer X) → Within ns a → Within ms a
within_more ms ns h (refused k) w = one_of_more ms ns h k w
within_more ms ns h (answered x) w = tt

module _ (ks : List ℕ) (term memory : List ℕ) {X : Type 0} where
  done_as : (w : Written X) (x : X) → w.answer ≡ answered x → RefusedAs ks term memory w
  done_as w x e = record { number = λ k f. absurd (not_both k x (sym f ∙ e)); nothing_written = λ k f. absurd (not_both k x (sym f ∙ e)) }

  refused_as : (k : ℕ) → T (one_of ks k) → RefusedAs {X = X} ks term memory (unwritten term memory k)
  refused_as k h = record { number = λ j e. subst (λ n. T (one_of ks n)) (refused_injective {X = X} k j e) h; nothing_written = λ j e. (refl, refl) }

  writing_as : {Y : Type 0} (a : Answer Y) (f : Y → Written X) → Within ks a → ((y : Y) → RefusedAs ks term memory (f y)) → RefusedAs ks term memory (writing term memory a f)
  writing_as (refused k) f w h = refused_as k w
  writing_as (answered y) f w h = h y

-- A given term is refused 10, an event 11.
abbrev of_term : List ℕ
of_term = Refusal.term ∷ []

abbrev of_event : List ℕ
of_event = Refusal.stranger ∷ []

term_within : (R : RuleSet) (term : List ℕ) → Within of_term (term_in R term)
unfolding one_of
term_within R term = picked (Within of_term) (even term) _ _ (λ t. or_refused_within of_term Refusal.term (given_term R (words_in term)) tt) tt

event_within : (R : RuleSet) (event : List ℕ) → Within of_event (event_in R event)
unfolding one_of
event_within R event = picked (Within of_event) (even event) _ _ (λ t. or_refused_within of_event Refusal.stranger (given_event R (words_in event)) tt) tt

module _ (ks : List ℕ) (space : T (one_of ks Refusal.space)) (offer : T (one_of ks Refusal.not_offered)) (R : RuleSet) (E : Term) (memory next_term next_memory : List ℕ) (choose : List Move → Option Move) where
  chosen_as : RefusedAs ks next_term next_memory (chosen R E memory next_term next_memory choose)
  chosen_as = picked (RefusedAs ks next_term next_memory) (term_fits (reach R.edition.width E) next_term && (memory_fits R memory && memory_fits R next_memory)) _ _
      (λ t. writing_as ks next_term next_memory (or_refused Refusal.not_offered (choose (listed R E memory))) (moved R memory next_term next_memory)
      (or_refused_within ks Refusal.not_offered (choose (listed R E memory)) offer) (λ x. done_as ks next_term next_memory _ _ refl))
      (refused_as ks next_term next_memory Refusal.space space)

module _ (rules : List ℕ) where
  admitted_within : (ks : List ℕ) → T (all_of ks Refusal.of_admission) → Within ks (admission rules)
  admitted_within ks h = within_more ks Refusal.of_admission h (admission rules) (admission_within rules)

  admit_within : Within Refusal.of_admission (admit rules)
  unfolding admit
  admit_within = and_then_within Refusal.of_admission (admission rules) _ (admission_within rules) (λ R. tt)

  start_as : (term memory : List ℕ) → RefusedAs Refusal.of_start term memory (start rules term memory)
  unfolding start one_of all_of
  start_as term memory = writing_as Refusal.of_start term memory (admission rules) _ (admitted_within Refusal.of_start tt) (λ R. picked (RefusedAs Refusal.of_start term memory) (term_fits (main_reach R) term && memory_fits R memory) _ _
      (λ t. done_as Refusal.of_start term memory (started term memory R) _ refl) (refused_as Refusal.of_start term memory Refusal.space tt))

  count_within : (term memory : List ℕ) → Within Refusal.of_count (count rules term memory)
  unfolding count one_of all_of
  count_within term memory = and_then_within Refusal.of_count (admission rules) _ (admitted_within Refusal.of_count tt) (λ R.
      and_then_within Refusal.of_count (term_in R term) _ (within_more Refusal.of_count of_term tt (term_in R term) (term_within R term)) (λ E.
      picked (Within Refusal.of_count) (memory_fits R memory) _ _ (λ t. tt) tt))

  move_as : (term memory : List ℕ) (k : ℕ) (next_term next_memory : List ℕ) → RefusedAs Refusal.of_move next_term next_memory (move rules term memory k next_term next_memory)
  unfolding move one_of all_of
  move_as term memory k next_term next_memory = writing_as Refusal.of_move next_term next_memory (admission rules) _ (admitted_within Refusal.of_move tt) (λ R.
      writing_as Refusal.of_move next_term next_memory (term_in R term) _ (within_more Refusal.of_move of_term tt (term_in R term) (term_within R term)) (λ E.
      chosen_as Refusal.of_move tt tt R E memory next_term next_memory (λ xs. get_elem? xs k)))

  present_as : (term memory event next_term next_memory : List ℕ) → RefusedAs Refusal.of_present next_term next_memory (present rules term memory event next_term next_memory)
  unfolding present one_of all_of
  present_as term memory event next_term next_memory = writing_as Refusal.of_present next_term next_memory (admission rules) _ (admitted_within Refusal.of_present tt) (λ R.
      writing_as Refusal.of_present next_term next_memory (term_in R term) _ (within_more Refusal.of_present of_term tt (term_in R term) (term_within R term)) (λ E.
      writing_as Refusal.of_present next_term next_memory (choice_by_event R event) _
      (and_then_within Refusal.of_present (event_in R event) _ (within_more Refusal.of_present of_event tt (event_in R event) (event_within R event)) (λ ρ. tt))
      (chosen_as Refusal.of_present tt tt R E memory next_term next_memory)))

  -- Run: what it leaves of the buffers and of the table, where it is refused.
  module _ (list table term memory spare_term spare_memory : List ℕ) where
    abbrev RunRefused : Tabled Ran → Type 0
    RunRefused w = RefusedAs Refusal.of_run term memory w.written × ((j : ℕ) → w.written.answer ≡ refused j → w.table ≡ table)

    run_refused : (k : ℕ) → T (one_of Refusal.of_run k) → RunRefused (untabled table term memory k)
    run_refused k h = (refused_as Refusal.of_run term memory k h, λ j e. refl)

    run_done : (R : RuleSet) → RunRefused (ran_with list table term memory R)
    run_done R = (done_as Refusal.of_run term memory (ran (numbers_in list) term memory R) _ refl, λ j e. absurd (not_both j _ (sym e)))

    tabling_as : {Y : Type 0} (a : Answer Y) (f : Y → Tabled Ran) → Within Refusal.of_run a → ((y : Y) → RunRefused (f y)) → RunRefused (tabling table term memory a f)
    tabling_as (refused k) f w h = run_refused k w
    tabling_as (answered y) f w h = h y

    run_as : RunRefused (run rules list table term memory spare_term spare_memory)
    unfolding run one_of all_of
    run_as = tabling_as (admission rules) _ (admitted_within Refusal.of_run tt) (λ R.
        picked RunRefused (run_fits R term memory spare_term spare_memory) _ _
        (λ t. picked RunRefused (lets_through list table) _ _ (λ u. run_done R) (run_refused Refusal.reader tt)) (run_refused Refusal.space tt))

pub refusals : RefusalsHold
refusals rules list table term memory event next_term next_memory spare_term spare_memory k = record {
  admit_refused = refused_within Refusal.of_admission (admit rules) (admit_within rules);
  start_refused = start_as rules term memory;
  count_refused = refused_within Refusal.of_count (count rules term memory) (count_within rules term memory);
  move_refused = move_as rules term memory k next_term next_memory;
  present_refused = present_as rules term memory event next_term next_memory;
  run_refused = (run_as rules list table term memory spare_term spare_memory).0;
  run_table_kept = (run_as rules list table term memory spare_term spare_memory).1;
}

-- ── space ──

-- What Start writes, where it has room.
pub start_writes : (rules : List ℕ) (S : Sizes) (R : RuleSet) → admission rules ≡ answered R → sizes_needed R ≡ S → (term memory : List ℕ) → Roomy S term memory → start rules term memory ≡ started term memory R
unfolding start
start_writes rules S R a s term memory room =
    let f = fits S R s term memory room (main_reach R) (omega arith) in
    ap (λ x. writing term memory x λ R. started_at term memory R) a
    ∙ pick_true _ _ (term_fits (main_reach R) term && memory_fits R memory) (T_and (term_fits (main_reach R) term) (memory_fits R memory) f.0 f.1)

module _ (rules : List ℕ) (S : Sizes) (R : RuleSet) (a : admission rules ≡ answered R) (s : sizes_needed R ≡ S) where
  memory_roomy : (memory : List ℕ) → S.cells ≤ cell_room memory → T (memory_fits R memory)
  memory_roomy memory room = let c : cells_needed R ≡ S.cells = ap (λ (x : Sizes). x.cells) s in le→leb (cells_needed R) (cell_room memory) (omega arith)

  start_roomy : (term memory : List ℕ) → Roomy S term memory → (start rules term memory).answer ≡ answered S.size
  start_roomy term memory room = ap (λ (w : Written ℕ). w.answer) (start_writes rules S R a s term memory room) ∙ ap (λ (x : Sizes). answered x.size) s

  module _ (list table term memory spare_term spare_memory : List ℕ) (room : Roomy S term memory) (spare : Roomy S spare_term spare_memory) where
    run_roomy : T (lets_through list table) → (r : Ran) × ((run rules list table term memory spare_term spare_memory).written.answer ≡ answered r)
    run_roomy through = (_, ap (λ (w : Tabled Ran). w.written.answer) (run_judged rules S R a s list table term memory spare_term spare_memory room spare ∙ pick_true _ _ (lets_through list table) through))

    run_unread : lets_through list table ≡ false → run rules list table term memory spare_term spare_memory ≡ untabled table term memory Refusal.reader
    run_unread e = run_judged rules S R a s list table term memory spare_term spare_memory room spare ∙ ap (λ b. pick b (ran_with list table term memory R) (untabled table term memory Refusal.reader)) e

  -- Ten is not nine, and neither is twelve.
  not_space : {X : Type 0} (k : ℕ) → (k ≡ Refusal.space → ⊥) → ◌≡◌ {A = Answer X} (refused k) (refused Refusal.space) → ⊥
  not_space {X} k n e = n (refused_injective {X = X} k Refusal.space e)

  count_roomy : (term memory : List ℕ) → S.cells ≤ cell_room memory → count rules term memory ≡ refused Refusal.space → ⊥
  unfolding count and_then one_of
  count_roomy term memory room e = go (term_in R term) (term_within R term)
      (sym (ap (λ x. and_then x λ R. and_then (term_in R term) λ E. counted_at R E memory) a) ∙ e)
    where
      go : (x : Answer Term) → Within of_term x → and_then x (λ E. counted_at R E memory) ≡ refused Refusal.space → ⊥
      go (refused k) w f = not_space {X = ℕ} k (λ p. subst (λ n. T (one_of of_term n)) p w) f
      go (answered E) w f = not_both Refusal.space (length (listed R E memory)) (sym f ∙ pick_true _ _ (memory_fits R memory) (memory_roomy memory room))

  offered : (next_term next_memory : List ℕ) (o : Option Move) (f : Move → Written Moved) → ((x : Move) (k : ℕ) → (f x).answer ≡ refused k → ⊥)
      → (writing next_term next_memory (or_refused Refusal.not_offered o) f).answer ≡ refused Refusal.space → ⊥
  offered next_term next_memory none f h e = not_space {X = Moved} Refusal.not_offered (λ p. omega arith) e
  offered next_term next_memory (some x) f h e = h x Refusal.space e

  -- Where there is room, a choice among the moves is refused 12 or not at all.
  chosen_roomy : (E : Term) (memory next_term next_memory : List ℕ) (choose : List Move → Option Move) → reach R.edition.width E ≤ word_count next_term
      → S.cells ≤ cell_room memory → S.cells ≤ cell_room next_memory → (chosen R E memory next_term next_memory choose).answer ≡ refused Refusal.space → ⊥
  chosen_roomy E memory next_term next_memory choose room₁ room₂ room₃ e =
      let p : chosen R E memory next_term next_memory choose ≡ writing next_term next_memory (or_refused Refusal.not_offered (choose (listed R E memory))) (moved R memory next_term next_memory) =
      pick_true _ _ (term_fits (reach R.edition.width E) next_term && (memory_fits R memory && memory_fits R next_memory))
      (T_and (term_fits (reach R.edition.width E) next_term) (memory_fits R memory && memory_fits R next_memory) (le→leb (reach R.edition.width E) (word_count next_term) room₁)
      (T_and (memory_fits R memory) (memory_fits R next_memory) (memory_roomy memory room₂) (memory_roomy next_memory room₃))) in
      offered next_term next_memory (choose (listed R E memory)) (moved R memory next_term next_memory) (λ x j f. not_both j _ (sym f))
      (ap (λ (w : Written Moved). w.answer) (sym p) ∙ e)

  module _ (E : Term) (term memory next_term next_memory : List ℕ) (given : term_in R term ≡ answered E) (room₁ : reach R.edition.width E ≤ word_count next_term)
      (room₂ : S.cells ≤ cell_room memory) (room₃ : S.cells ≤ cell_room next_memory) where
    move_roomy : (k : ℕ) → (move rules term memory k next_term next_memory).answer ≡ refused Refusal.space → ⊥
    unfolding move
    move_roomy k e =
        let p : move rules term memory k next_term next_memory ≡ chosen R E memory next_term next_memory (λ xs. get_elem? xs k) =
        ap (λ x. writing next_term next_memory x λ R. writing next_term next_memory (term_in R term) λ E. chosen R E memory next_term next_memory λ xs. get_elem? xs k) a
        ∙ ap (λ x. writing next_term next_memory x λ E. chosen R E memory next_term next_memory λ xs. get_elem? xs k) given in
        chosen_roomy E memory next_term next_memory (λ xs. get_elem? xs k) room₁ room₂ room₃ (ap (λ (w : Written Moved). w.answer) (sym p) ∙ e)

    present_roomy : (event : List ℕ) → (present rules term memory event next_term next_memory).answer ≡ refused Refusal.space → ⊥
    unfolding present one_of and_then
    present_roomy event e =
        let p : present rules term memory event next_term next_memory ≡ stepped_from R E memory next_term next_memory (choice_by_event R event) =
        ap (λ x. writing next_term next_memory x λ R. writing next_term next_memory (term_in R term) λ E. stepped_from R E memory next_term next_memory (choice_by_event R event)) a
        ∙ ap (λ x. writing next_term next_memory x λ E. stepped_from R E memory next_term next_memory (choice_by_event R event)) given in
        go (event_in R event) (event_within R event) (ap (λ (w : Written Moved). w.answer) (sym p) ∙ e)
      where
        go : (x : Answer Action) → Within of_event x → (stepped_from R E memory next_term next_memory (and_then x λ ρ. answered (at_first ρ))).answer ≡ refused Refusal.space → ⊥
        go (refused k) w f = not_space {X = Moved} k (λ p. subst (λ n. T (one_of of_event n)) p w) f
        go (answered ρ) w f = chosen_roomy E memory next_term next_memory (at_first ρ) room₁ room₂ room₃ f

  limits_reported : (S.reach ≤ 8192) × (S.breadth ≤ 65535) × (S.size ≤ S.reach) × (S.cells ≤ 1024)
  limits_reported = let w : WellFormed R = (admitted rules R a).good in
      let one : R.edition.function_parameters ≡ 1 = ap (λ (L : Edition). L.function_parameters) (only_edition_1 R.edition w.defined) in
      subst (λ (x : Sizes). (x.reach ≤ 8192) × (x.breadth ≤ 65535) × (x.size ≤ x.reach) × (x.cells ≤ 1024)) s (w.reach_limit, w.breadth_limit, size_below_reach R.edition.width (unfold_main R), cells_below R w.form (one_parameter_each R w.form one))

pub space : SpaceHolds
space rules S e =
    let p = admit_reports rules S e in
    record {
      start_has_room = start_roomy rules S p.0 p.1 p.2;
      run_has_room = run_roomy rules S p.0 p.1 p.2;
      run_readers = run_unread rules S p.0 p.1 p.2;
      count_has_room = count_roomy rules S p.0 p.1 p.2;
      move_has_room = λ R a E term memory next_term next_memory k t i j l. move_roomy rules S R a (reported R a p.0 p.1 p.2) E term memory next_term next_memory t i j l k;
      present_has_room = λ R a E term memory event next_term next_memory t i j l. present_roomy rules S R a (reported R a p.0 p.1 p.2) E term memory next_term next_memory t i j l event;
      limits_kept = limits_reported rules S p.0 p.1 p.2;
    }
  where
    reported : (R : RuleSet) → admission rules ≡ answered R → (Q : RuleSet) → admission rules ≡ answered Q → sizes_needed Q ≡ S → sizes_needed R ≡ S
    reported R a Q b s = ap sizes_needed (answered_injective R Q (sym a ∙ b)) ∙ s
