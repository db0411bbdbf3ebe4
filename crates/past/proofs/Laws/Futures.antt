-- Equal values of all functions are equal cells, and the reverse; so two histories with the same end have the same moves, values and outcomes after every
-- further list of numbers (request K10 of document 02; `future`, `begins`).
use Rattle.std.specs.Prelude.{◌≡◌, length, get_or, take}
use Rattle.std.proofs.Math.Path.{refl, ap, sym}
use Rattle.std.proofs.Common.{◌∙◌, subst, arith, take_at}
use mathlib.Core.List.{List, [], ◌∷◌, ◌++◌}
use Prim.Native.Nat.{ℕ, zero, suc, ◌+◌, ◌<◌}
use Rattle.eb3.specs.Generic.Lists.{Within}
use Rattle.eb3.specs.Values.{Value, undefined}
use Rattle.eb3.specs.Attributes.{Attributes, number_of_functions, domain, attribute_value, Trace}
use Rattle.eb3.specs.Cells.{cell_index, offset, concat_tabulate, tabulate, values_up_to}
use Rattle.eb3.proofs.Laws.Cells.{value_cell}
use Rattle.eb3.specs.TransitionSystems.{TransitionSystem, Configuration, initial, reply, step, run as machine_run, tally, visible?, internal?, refused?}
use Rattle.eb3.proofs.Laws.TransitionSystems.{step_state, run_tallied}
use Rattle.eb3.specs.Semantics.{Sem_T, Sem_M, Situation, situation, system}
use Rattle.eb3.specs.Machines.{Machine, history_start, cells_of}
use Rattle.eb3.proofs.Laws.Machines.{memory_of_trace, run_chain, chain_run, past_in_cells, past_outcomes, past_moves}
use Rattle.eb3.specs.RuleSets.{RuleSet, attributes}
use Rattle.eb3.specs.Unfolding.{unfold_main}
use Rattle.past.specs.PastInCells.{SameEnd, EndsWith, SameAfter, SameFuture}

-- ── equal values of all functions are equal cells, and the reverse ──

concat_cong : (n : ℕ) (h k : ℕ → List Value) → ((x : ℕ) → x < n → h x ≡ k x) → concat_tabulate n h ≡ concat_tabulate n k
unfolding concat_tabulate
concat_cong zero h k e = refl
concat_cong (suc n) h k e = λ i. e zero (omega arith) i ++ concat_cong n (λ x. h (suc x)) (λ x. k (suc x)) (λ x l. e (suc x) (omega arith)) i

tabulate_cong : (ns : List ℕ) (h k : List ℕ → Value) → ((xs : List ℕ) → Within ns xs → h xs ≡ k xs) → tabulate ns h ≡ tabulate ns k
unfolding tabulate
tabulate_cong [] h k e = λ i. e [] tt i ∷ []
tabulate_cong (n ∷ ns) h k e = concat_cong n _ _ (λ x l. tabulate_cong ns (λ xs. h (x ∷ xs)) (λ xs. k (x ∷ xs)) (λ xs w. e (x ∷ xs) (l, w)))

module _ (A : Attributes) where
  values_same : (H H' : Trace) (i : ℕ) → ((f : ℕ) → f < i → (xs : List ℕ) → Within (domain A f) xs → attribute_value A H f xs ≡ attribute_value A H' f xs) → values_up_to A H i ≡ values_up_to A H' i
  unfolding values_up_to
  values_same H H' zero e = refl
  values_same H H' (suc i) e =
      λ j. values_same H H' i (λ f l. e f (omega arith)) j ++ tabulate_cong (domain A i) (attribute_value A H i) (attribute_value A H' i) (e i (omega arith)) j

  same_cells : (s s' : Situation (Sem_T A)) → SameEnd A s s' → cells_of A s ≡ cells_of A s'
  same_cells s s' e = λ i. situation (e.same_term i) (values_same s.state s'.state (number_of_functions A) e.same_values i)

  pub same_end : (s s' : Situation (Sem_T A)) → cells_of A s ≡ cells_of A s' → SameEnd A s s'
  same_end s s' e = record {
    same_term = ap (λ (t : Situation (Sem_M A)). t.term) e;
    same_values = λ f l xs w. sym (value_cell A s.state f l xs w)
        ∙ (ap (λ (t : Situation (Sem_M A)). get_or t.state (offset A f + cell_index (domain A f) xs) undefined) e ∙ value_cell A s'.state f l xs w);
  }

-- ── a run over two lists in a row, and its states without its counts ──

module _ (L : TransitionSystem) where
  run_append : (c : Configuration L) (ks js : List ℕ) → machine_run L c (ks ++ js) ≡ machine_run L (machine_run L c ks) js
  unfolding machine_run
  run_append c [] js = refl
  run_append c (k ∷ ks) js = run_append (step L c k) ks js

  run_states : (c d : Configuration L) (ks : List ℕ) → c.state ≡ d.state → (machine_run L c ks).state ≡ (machine_run L d ks).state
  unfolding machine_run
  run_states c d [] e = e
  run_states c d (k ∷ ks) e = run_states (step L c k) (step L d k) ks (step_state L c k ∙ (ap (λ s. (reply L s k).1) e ∙ sym (step_state L d k)))

-- Two counts that grow by the same.
added : {m t m' t' : ℕ} (n n' : ℕ) → m ≡ n + t → m' ≡ n' + t' → t ≡ t' → m + n' ≡ m' + n
added n n' e e' s = omega arith

-- ── the machines ──

module _ (R : RuleSet) where
  abbrev A : Attributes
  A = attributes R

  abbrev start : Machine (Sem_T A)
  start = history_start A (unfold_main R)

  abbrev pub on : Machine (Sem_T A) → List ℕ → Machine (Sem_T A)
  on h further = machine_run (system (Sem_T A)) h further

  -- On from where a first list ended.
  pub goes_on : (ks further : List ℕ) (h : Machine (Sem_T A)) → EndsWith R ks h → EndsWith R (ks ++ further) (on h further)
  goes_on ks further h c = subst (λ g. EndsWith R (ks ++ further) g)
      (run_append (system (Sem_T A)) start ks further ∙ ap (λ g. on g further) (sym (chain_run (Sem_T A) c))) (run_chain (Sem_T A) start (ks ++ further))

  module _ (ks ks' : List ℕ) (h h' : Machine (Sem_T A)) (c : EndsWith R ks h) (c' : EndsWith R ks' h') (same : SameEnd A h.state h'.state) where
    pub further_cells : (further : List ℕ) → cells_of A (on h further).state ≡ cells_of A (on h' further).state
    unfolding memory_of_trace
    further_cells further =
        ap (cells_of A) (run_states (system (Sem_T A)) h (initial (system (Sem_T A)) h.state) further refl)
        ∙ (ap (λ (m : Machine (Sem_M A)). m.state) (past_in_cells A h.state h'.state (same_cells A h.state h'.state same) further)
        ∙ sym (ap (cells_of A) (run_states (system (Sem_T A)) h' (initial (system (Sem_T A)) h'.state) further refl)))

    after : (more : List ℕ) → SameAfter R ks ks' more
    after more = record {
      g = on h more;
      g' = on h' more;
      goes_on = goes_on ks more h c;
      goes_on' = goes_on ks' more h' c';
      same_end = same_end A (on h more).state (on h' more).state (further_cells more);
      same_moves = past_moves A (on h more).state (on h' more).state (further_cells more) [];
    }

    pub future : (further : List ℕ) → SameFuture R ks ks' h h' further
    future further = record {
      at_each_step = λ n. after (take n further);
      same_outcomes = past_outcomes A h.state h'.state (same_cells A h.state h'.state same) further;
    }

    -- What a further list adds to the counts.
    pub visible_added : (further : List ℕ) → (on h further).visible_count + h'.visible_count ≡ (on h' further).visible_count + h.visible_count
    visible_added further =
        added h.visible_count h'.visible_count (run_tallied (system (Sem_T A)) h further).visible_tally (run_tallied (system (Sem_T A)) h' further).visible_tally
        (ap (tally visible?) (future further).same_outcomes)

    pub internal_added : (further : List ℕ) → (on h further).internal_count + h'.internal_count ≡ (on h' further).internal_count + h.internal_count
    internal_added further =
        added h.internal_count h'.internal_count (run_tallied (system (Sem_T A)) h further).internal_tally (run_tallied (system (Sem_T A)) h' further).internal_tally
        (ap (tally internal?) (future further).same_outcomes)

    pub refusals_added : (further : List ℕ) → (on h further).refused_count + h'.refused_count ≡ (on h' further).refused_count + h.refused_count
    refusals_added further =
        added h.refused_count h'.refused_count (run_tallied (system (Sem_T A)) h further).refused_tally (run_tallied (system (Sem_T A)) h' further).refused_tally
        (ap (tally refused?) (future further).same_outcomes)

-- What is said of a list is said of every list that begins it.
pub begins : (R : RuleSet) (ks ks' : List ℕ) (h h' : Machine (Sem_T (attributes R))) (first rest : List ℕ) → SameFuture R ks ks' h h' (first ++ rest) → SameAfter R ks ks' first
begins R ks ks' h h' first rest f = subst (λ more. SameAfter R ks ks' more) (take_at first rest (length first) refl) (f.at_each_step (length first))
