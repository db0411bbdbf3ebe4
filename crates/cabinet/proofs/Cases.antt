-- From the engine's answer to the numbers that C gets (document 01, "Operations"; host/eb3.h).
use mathlib.Core.Path.{◌≡◌, refl, ap, sym, ◌∙◌}
use Prim.Native.Nat.{ℕ}
use mathlib.Core.List.{List, []}
use Rattle.std.specs.Prelude.{T, Result, Ok, Err}
use Rattle.eb3.specs.Refusal
use Rattle.eb3.specs.Generic.Lists.{one_of, all_of, one_of_more}
use Rattle.eb3.proofs.Laws.DemandOne.{refusals}
use Rattle.refusals.specs.declared.Refusal.{Refusal as Why}
use Rattle.refusals.specs.Numbers.{number}
use Rattle.refusals.specs.Laws.Numbers.{number_refusal}
use Rattle.eb3.specs.Terms.{Action, internal, visible}
use Rattle.eb3.specs.Answers.{Answer, refused, answered, Sizes, Moved, Ran, Written, Tabled}
use Rattle.measures.specs.declared.Limits.{Limits}
use Rattle.admission.specs.Answering.{admitted}
use Rattle.cabinet.specs.declared.Sizes.{Sizes as CSizes}
use Rattle.engine.specs.Starting.{started_as}
use Rattle.cabinet.specs.declared.Started.{Started as CStarted}
use Rattle.engine.specs.Counting.{counted_as}
use Rattle.cabinet.specs.declared.Counted.{Counted as CCounted}
use Rattle.engine.specs.declared.stepping.Step.{Step}
use Rattle.engine.specs.Stepping.{step_as, moved_as, Done}
use Rattle.cabinet.specs.declared.Moved.{Moved as CMoved}
use Rattle.runs.specs.declared.main_process.Totals.{Totals}
use Rattle.engine.specs.Running.{ran_as, RunDone}
use Rattle.eb3.specs.Operations.{admit, start, count, move, present, run, ScratchAfter}
use Rattle.cabinet.specs.declared.Ran.{Ran as CRan}
use Rattle.cabinet.specs.Exported.{sizes, started, counted, moved_by, moved, exported_action, exported_step, ran}

-- An answer refuses by numbers of refusals only.
abbrev Numbered : {A : Type 0} → Answer A → Type 0
Numbered a = (k : ℕ) → a ≡ refused k → T (one_of Refusal.of_any k)

numbered : {A : Type 0} (ks : List ℕ) → T (all_of Refusal.of_any ks) → (a : Answer A) → ((k : ℕ) → a ≡ refused k → T (one_of ks k)) → Numbered a
numbered ks t a h k e = one_of_more Refusal.of_any ks t k (h k e)

admission_among : T (all_of Refusal.of_any Refusal.of_admission)
unfolding one_of all_of
admission_among = tt

start_among : T (all_of Refusal.of_any Refusal.of_start)
unfolding one_of all_of
start_among = tt

count_among : T (all_of Refusal.of_any Refusal.of_count)
unfolding one_of all_of
count_among = tt

move_among : T (all_of Refusal.of_any Refusal.of_move)
unfolding one_of all_of
move_among = tt

present_among : T (all_of Refusal.of_any Refusal.of_present)
unfolding one_of all_of
present_among = tt

run_among : T (all_of Refusal.of_any Refusal.of_run)
unfolding one_of all_of
run_among = tt

abbrev given : Limits → CSizes
given l = record { refusal = 0; cells = l.cells; reach = l.reach; breadth = l.breadth; size = l.size }

abbrev only : ℕ → CSizes
only k = record { refusal = k; cells = 0; reach = 0; breadth = 0; size = 0 }

abbrev exported : Result Limits Why → CSizes
exported (Ok l) = given l
exported (Err k) = only (number k)

same : (a : Answer Sizes) → Numbered a → exported (admitted a) ≡ sizes a
unfolding admitted sizes
same (refused k) n = ap only (number_refusal k (n k refl))
same (answered S) n = refl

module _ (rules : List ℕ) (p : Result Limits Why) (e : p ≡ admitted (admit rules)) where
  told_admit : exported (admitted (admit rules)) ≡ sizes (admit rules)
  told_admit = same (admit rules) (numbered Refusal.of_admission admission_among (admit rules) (refusals rules [] [] [] [] [] [] [] [] [] 0).admit_refused)

  pub admit_gives : (l : Limits) → p ≡ Ok l → given l ≡ sizes (admit rules)
  admit_gives l f = sym (ap exported f) ∙ (ap exported e ∙ told_admit)

  pub admit_refuses : (k : Why) (j : ℕ) (z : CSizes) → p ≡ Err k → j ≡ number k → (z.refusal ≡ 0) × ((z.cells ≡ 0) × ((z.reach ≡ 0) × ((z.breadth ≡ 0) × (z.size ≡ 0)))) → record { refusal = j; cells = z.cells; reach = z.reach; breadth = z.breadth; size = z.size } ≡ sizes (admit rules)
  admit_refuses k j z f g h = (λ i. record { refusal = g i; cells = (h.1.0) i; reach = (h.1.1.0) i; breadth = (h.1.1.1.0) i; size = (h.1.1.1.1) i }) ∙ (sym (ap exported f) ∙ (ap exported e ∙ told_admit))

-- ── Start ──

abbrev begun : ℕ → CStarted
begun n = record { refusal = 0; size = n }

abbrev unbegun : ℕ → CStarted
unbegun k = record { refusal = k; size = 0 }

abbrev exported_start : Result ℕ Why → CStarted
exported_start (Ok n) = begun n
exported_start (Err k) = unbegun (number k)

same_start : (a : Answer ℕ) → Numbered a → exported_start (started_as a) ≡ started a
unfolding started_as started
same_start (refused k) n = ap unbegun (number_refusal k (n k refl))
same_start (answered m) n = refl

module _ (rules term memory : List ℕ) (p : Result ℕ Why) (e : p ≡ started_as (start rules term memory).answer) where
  told_start : exported_start (started_as (start rules term memory).answer) ≡ started (start rules term memory).answer
  told_start = same_start _ (numbered Refusal.of_start start_among _ (refusals rules [] [] term memory [] [] [] [] [] 0).start_refused.number)

  pub start_gives : (n : ℕ) → p ≡ Ok n → begun n ≡ started (start rules term memory).answer
  start_gives n f = sym (ap exported_start f) ∙ (ap exported_start e ∙ told_start)

  pub start_refuses : (k : Why) (j : ℕ) (z : CStarted) → p ≡ Err k → j ≡ number k → (z.refusal ≡ 0) × (z.size ≡ 0) → record { refusal = j; size = z.size } ≡ started (start rules term memory).answer
  start_refuses k j z f g h = (λ i. record { refusal = g i; size = (h.1) i }) ∙ (sym (ap exported_start f) ∙ (ap exported_start e ∙ told_start))

-- ── Count ──

abbrev listed : ℕ → CCounted
listed n = record { refusal = 0; moves = n }

abbrev unlisted : ℕ → CCounted
unlisted k = record { refusal = k; moves = 0 }

abbrev exported_count : Result ℕ Why → CCounted
exported_count (Ok n) = listed n
exported_count (Err k) = unlisted (number k)

same_count : (a : Answer ℕ) → Numbered a → exported_count (counted_as a) ≡ counted a
unfolding counted_as counted
same_count (refused k) n = ap unlisted (number_refusal k (n k refl))
same_count (answered m) n = refl

module _ (rules term memory : List ℕ) (p : Result ℕ Why) (e : p ≡ counted_as (count rules term memory)) where
  told_count : exported_count (counted_as (count rules term memory)) ≡ counted (count rules term memory)
  told_count = same_count _ (numbered Refusal.of_count count_among _ (refusals rules [] [] term memory [] [] [] [] [] 0).count_refused)

  pub count_gives : (n : ℕ) → p ≡ Ok n → listed n ≡ counted (count rules term memory)
  count_gives n f = sym (ap exported_count f) ∙ (ap exported_count e ∙ told_count)

  pub count_refuses : (k : Why) (j : ℕ) (z : CCounted) → p ≡ Err k → j ≡ number k → (z.refusal ≡ 0) × (z.moves ≡ 0) → record { refusal = j; moves = z.moves } ≡ counted (count rules term memory)
  count_refuses k j z f g h = (λ i. record { refusal = g i; moves = (h.1) i }) ∙ (sym (ap exported_count f) ∙ (ap exported_count e ∙ told_count))

-- ── Move, Present ──

same_step : (a : Answer Moved) → Numbered a → exported_step (moved_as a) ≡ moved a
unfolding moved_as exported_step moved moved_by step_as
same_step (refused k) n = ap (λ j. record { refusal = j; size = 0; visible = 0; label = 0; arguments = 0; first = 0; second = 0 }) (number_refusal k (n k refl))
same_step (answered m) n = go m.action
  where
    go : (ρ : Action) → exported_step (Ok (step_as ρ m.size)) ≡ moved_by ρ m.size
    go internal = refl
    go (visible a) = refl

step_told : (w : Written Moved) → Numbered w.answer → (r : Result Step Why) (term' memory' : List ℕ) (m : CMoved) → Done w r term' memory' → m ≡ exported_step r
    → (m ≡ moved w.answer) × (term' ≡ w.term) × (memory' ≡ w.memory)
step_told w n r term' memory' m d e = (e ∙ ap exported_step d.answer ∙ same_step w.answer n, d.term_after, d.memory_after)

module _ (rules term memory next_term next_memory : List ℕ) (r : Result Step Why) (term' memory' : List ℕ) (m : CMoved) (e : m ≡ exported_step r) where
  pub move_told : (k : ℕ) → Done (move rules term memory k next_term next_memory) r term' memory' → (m ≡ moved (move rules term memory k next_term next_memory).answer)
      × (term' ≡ (move rules term memory k next_term next_memory).term) × (memory' ≡ (move rules term memory k next_term next_memory).memory)
  move_told k d = step_told _ (numbered Refusal.of_move move_among _ (refusals rules [] [] term memory [] next_term next_memory [] [] k).move_refused.number) r term' memory' m d e

  pub present_told : (event : List ℕ) → Done (present rules term memory event next_term next_memory) r term' memory' → (m ≡ moved (present rules term memory event next_term next_memory).answer)
      × (term' ≡ (present rules term memory event next_term next_memory).term) × (memory' ≡ (present rules term memory event next_term next_memory).memory)
  present_told event d = step_told _ (numbered Refusal.of_present present_among _ (refusals rules [] [] term memory event next_term next_memory [] [] 0).present_refused.number) r term' memory' m d e

-- What an answer gives, by its case.
pub step_gives : (r : Result Step Why) (s : Step) → r ≡ Ok s → exported_action s.size s.action ≡ exported_step r
unfolding exported_step
step_gives r s f = sym (ap exported_step f)

pub step_refuses : (r : Result Step Why) (k : Why) (j : ℕ) (z : CMoved) → r ≡ Err k → j ≡ number k → (z.refusal ≡ 0) × ((z.size ≡ 0) × ((z.visible ≡ 0) × ((z.label ≡ 0) × ((z.arguments ≡ 0) × ((z.first ≡ 0) × (z.second ≡ 0)))))) → record { refusal = j; size = z.size; visible = z.visible; label = z.label; arguments = z.arguments; first = z.first; second = z.second } ≡ exported_step r
unfolding exported_step
step_refuses r k j z f g h = (λ i. record { refusal = g i; size = (h.1.0) i; visible = (h.1.1.0) i; label = (h.1.1.1.0) i; arguments = (h.1.1.1.1.0) i; first = (h.1.1.1.1.1.0) i; second = (h.1.1.1.1.1.1) i }) ∙ sym (ap exported_step f)

-- ── Run ──

abbrev ended : Totals → CRan
ended t = record { refusal = 0; size = t.size; visible = t.visible; internal = t.internal; refused = t.refused }

abbrev unended : ℕ → CRan
unended k = record { refusal = k; size = 0; visible = 0; internal = 0; refused = 0 }

abbrev exported_run : Result Totals Why → CRan
exported_run (Ok t) = ended t
exported_run (Err k) = unended (number k)

same_run : (a : Answer Ran) → Numbered a → exported_run (ran_as a) ≡ ran a
unfolding ran_as ran
same_run (refused k) n = ap unended (number_refusal k (n k refl))
same_run (answered m) n = refl

module _ (rules list table term memory spare cells : List ℕ) (p : Result Totals Why) (table' term' memory' spare' : List ℕ) (d : RunDone rules list table term memory spare cells p table' term' memory' spare') where
  abbrev left : Tabled Ran
  left = run rules list table term memory spare cells

  abbrev Gives : CRan → Type 0
  Gives r = (r ≡ ran left.written.answer) × (table' ≡ left.table) × (term' ≡ left.written.term) × (memory' ≡ left.written.memory) × ScratchAfter left.written.answer spare spare'

  told_run : exported_run (ran_as left.written.answer) ≡ ran left.written.answer
  told_run = same_run _ (numbered Refusal.of_run run_among _ (refusals rules list table term memory [] [] [] spare cells 0).run_refused.number)

  pub run_gives : (t : Totals) (n : ℕ) → p ≡ Ok t → n ≡ t.size → Gives (record { refusal = 0; size = n; visible = t.visible; internal = t.internal; refused = t.refused })
  run_gives t n f e =
      ((λ i. record { refusal = 0; size = e i; visible = t.visible; internal = t.internal; refused = t.refused }) ∙ (sym (ap exported_run f) ∙ (ap exported_run d.answer ∙ told_run)), d.table_after, d.term_after, d.memory_after, d.scratch_after)

  pub run_refuses : (k : Why) (j : ℕ) (z : CRan) → p ≡ Err k → j ≡ number k → (z.refusal ≡ 0) × ((z.size ≡ 0) × ((z.visible ≡ 0) × ((z.internal ≡ 0) × (z.refused ≡ 0)))) → Gives (record { refusal = j; size = z.size; visible = z.visible; internal = z.internal; refused = z.refused })
  run_refuses k j z f g h =
      ((λ i. record { refusal = g i; size = (h.1.0) i; visible = (h.1.1.0) i; internal = (h.1.1.1.0) i; refused = (h.1.1.1.1) i }) ∙ (sym (ap exported_run f) ∙ (ap exported_run d.answer ∙ told_run)), d.table_after, d.term_after, d.memory_after, d.scratch_after)
