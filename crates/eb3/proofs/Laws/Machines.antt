-- The machines' laws: a run is the one chain of derivations, the cells are a homomorphic image of the trace, hence the machines agree;
-- Corollary 1 of source 000 (bisimulation); request K10 (the past is in the cells); a step's invariants are a run's.
use Rattle.std.specs.Prelude.{◌≡◌}
use Rattle.std.proofs.Math.Path.{refl, ap, sym, subst, fun_ext}
use Rattle.std.proofs.Common.{◌∙◌, arith}
use mathlib.Core.List.{List, [], ◌∷◌, map}
use Rattle.std.proofs.Math.Option.{Option, none, some}
use Prim.Native.Nat.{ℕ, suc}
use Rattle.std.proofs.Math.ListN.{length, get_elem?}
use Rattle.std.proofs.lemmas.List.{length-map}
use Rattle.eb3.specs.Values.{Value}
use Rattle.eb3.specs.Terms.{Term, Action, internal, visible}
use Rattle.eb3.specs.Moves.{Move, moves}
use Rattle.eb3.specs.Generic.PositionsLaws.{none_beyond, beyond_none}
use Rattle.eb3.specs.Derivations.{DataState, Step, derivation, state_after}
use Rattle.eb3.proofs.Laws.Derivations.{state_is}
use Rattle.eb3.specs.Attributes.{Attributes, Trace, guard_holds}
use Rattle.eb3.specs.Cells.{all_values}
use Rattle.eb3.proofs.Laws.Cells.{cell_at_values, initial_values, renew_values}
use Rattle.eb3.specs.TransitionSystems.{Transition, taken, initial, count, respond, step, run, outcomes, on_target, Homomorphism, configuration_image}
use Rattle.eb3.proofs.Laws.TransitionSystems.{run_total, run_keeps, run_image, outcomes_image, getElem?_map, getElem?_unmap}
use Rattle.eb3.specs.Semantics.{Sem_T, Sem_M, Situation, situation, transition, system, concluded}
use Rattle.eb3.proofs.Laws.Semantics.{demand_2, transition_derived, number_of}
use Rattle.eb3.specs.Machines.{Machine, count_of_moves, Chain, ends, takes, refuses, history_start, history_run, memory_run, cells_of, Agreement}

-- A run is a chain,
module _ (S : DataState) where
  length_transitions : (s : Situation S) → length ((system S).transitions s) ≡ count_of_moves s
  length_transitions s = length-map (moves (S.satisfies s.state) s.term) (transition S s.state)

  link : (c c' : Machine S) (k : ℕ) (ks : List ℕ) (o : Option (Transition (Situation S))) → get_elem? ((system S).transitions c.state) k ≡ o
      → Chain S (count (system S) c (respond (system S) c.state o).0 (respond (system S) c.state o).1) ks c' → Chain S c (k ∷ ks) c'
  link c c' k ks none e h = refuses {c = c} {k = k} (omega (arith, none_beyond ((system S).transitions c.state) k e, length_transitions c.state)) h
  link c c' k ks (some x) e h =
      let w = transition_derived S c.state k x e in
      subst (λ n. Chain S c (n ∷ ks) c') w.2
      (takes (demand_2 S c.state) w.0 (subst (λ (y : Transition (Situation S)). Chain S (count (system S) c (taken y.action) y.target) ks c') (sym w.1) h))

  pub run_chain : (c : Machine S) (ks : List ℕ) → Chain S c ks (run (system S) c ks)
  unfolding run step
  run_chain c [] = ends
  run_chain c (k ∷ ks) = link c (run (system S) (step (system S) c k) ks) k ks (get_elem? ((system S).transitions c.state) k) refl (run_chain (step (system S) c k) ks)

  -- and the only one.
  pub chain_run : {c c' : Machine S} {ks : List ℕ} → Chain S c ks c' → c' ≡ run (system S) c ks
  unfolding run step
  chain_run ends = refl
  chain_run (takes {c = c} {ks = ks} n d h) =
      chain_run h ∙ sym (ap (λ o. run (system S) (count (system S) c (respond (system S) c.state o).0 (respond (system S) c.state o).1) ks) (n.entry d))
  chain_run (refuses {c = c} {k = k} {ks = ks} l h) =
      chain_run h ∙ sym (ap (λ o. run (system S) (count (system S) c (respond (system S) c.state o).0 (respond (system S) c.state o).1) ks)
      (beyond_none ((system S).transitions c.state) k (omega (arith, length_transitions c.state))))

  -- What every derivation keeps of a term, every run keeps.
  pub steps_keep : (P : Term → Type 0) → ((M M' : S.State) (E E' : Term) (ρ : Action) → Step S M E ρ E' M' → P E → P E')
      → (c : Machine S) (ks : List ℕ) → P c.state.term → P (run (system S) c ks).state.term
  steps_keep P kept c ks p = run_keeps (system S) (λ s. P s.term)
      (λ s k x e q. let w = transition_derived S s k x e in subst (λ (y : Transition (Situation S)). P y.target.term) w.1 (kept s.state w.0.state s.term w.0.successor w.0.action w.0.step q)) c ks p

-- The cells are an image of the trace.
module _ (A : Attributes) where
  pub new_cells : (H : Trace) (ρ : Action) → state_after (Sem_M A) (all_values A H) ρ ≡ all_values A (state_after (Sem_T A) H ρ)
  unfolding state_after
  new_cells H internal = refl
  new_cells H (visible a) = renew_values A H a

  pub guards_alike : (H : Trace) → (Sem_M A).satisfies (all_values A H) ≡ (Sem_T A).satisfies H
  guards_alike H = ap (guard_holds A) (fun_ext λ f. fun_ext λ vs. cell_at_values A H f vs)

  pub transitions_alike : (H : Trace) (l : List Move) → map (transition (Sem_M A) (all_values A H)) l ≡ map (on_target (cells_of A)) (map (transition (Sem_T A) H) l)
  transitions_alike H [] = refl
  transitions_alike H (x ∷ l) = λ i. record { action = x.action; target = situation x.successor (new_cells H x.action i) } ∷ transitions_alike H l i

  unfoldable pub memory_of_trace : Homomorphism (system (Sem_T A)) (system (Sem_M A))
  memory_of_trace = record {
    image = cells_of A;
    image_transitions = λ s. ap (λ g. map (transition (Sem_M A) (all_values A s.state)) (moves g s.term)) (guards_alike s.state)
        ∙ transitions_alike s.state (moves ((Sem_T A).satisfies s.state) s.term);
  }

-- The machines agree.
module _ (A : Attributes) (E : Term) (ks : List ℕ) where
  pub runs_agree : memory_run A E ks ≡ configuration_image (memory_of_trace A) (history_run A E ks)
  unfolding memory_run history_run memory_of_trace
  runs_agree = (λ i. run (system (Sem_M A)) (initial (system (Sem_M A)) (situation E (initial_values A i))) ks) ∙ run_image (memory_of_trace A) (history_start A E) ks

  pub history_chain : Chain (Sem_T A) (history_start A E) ks (history_run A E ks)
  unfolding history_run
  history_chain = run_chain (Sem_T A) (history_start A E) ks

  -- The visible count is the list's length.
  moved_grown : (c : Machine (Sem_T A)) (ρ : Action) (F : Term) (H : Trace) → H ≡ state_after (Sem_T A) c.state.state ρ → c.visible_count ≡ length c.state.state
      → (count (system (Sem_T A)) c (taken ρ) (situation F H)).visible_count ≡ length (count (system (Sem_T A)) c (taken ρ) (situation F H)).state.state
  unfolding state_after
  moved_grown c internal F H p e = e ∙ ap length (sym p)
  moved_grown c (visible a) F H p e = ap suc e ∙ ap length (sym p)

  grown : {c c' : Machine (Sem_T A)} {ns : List ℕ} → Chain (Sem_T A) c ns c' → c.visible_count ≡ length c.state.state → c'.visible_count ≡ length c'.state.state
  grown ends e = e
  grown (takes {c = c} n d h) e = grown h (moved_grown c d.action d.successor d.state (state_is d.step) e)
  grown (refuses l h) e = grown h e

  agreement_image : Agreement A E ks (configuration_image (memory_of_trace A) (history_run A E ks)) (history_run A E ks)
  unfolding memory_of_trace history_run
  agreement_image = record {
    history = history_chain;
    same_term = refl;
    cells_are_values = refl;
    same_visible = refl;
    same_internal = refl;
    same_refused = refl;
    all_counted = omega (arith, run_total (system (Sem_T A)) (history_start A E) ks);
    visible_in_trace = grown history_chain refl;
    same_moves = ap (λ g. moves g (history_run A E ks).state.term) (guards_alike A (history_run A E ks).state.state);
    same_transitions = (memory_of_trace A).image_transitions (history_run A E ks).state;
    same_outcomes = (λ i. outcomes (system (Sem_M A)) (situation E (initial_values A i)) ks) ∙ outcomes_image (memory_of_trace A) (situation E []) ks;
  }

  pub machines_agree : Agreement A E ks (memory_run A E ks) (history_run A E ks)
  machines_agree = subst (λ m. Agreement A E ks m (history_run A E ks)) (sym runs_agree) agreement_image

-- Corollary 1 of source 000: the relation between (E, T) and (E, values over T) is a bisimulation of Sem_T and Sem_M.
module _ (A : Attributes) (H : Trace) where
  pub forth : {E E' : Term} {ρ : Action} {H' : Trace} → Step (Sem_T A) H E ρ E' H' → Step (Sem_M A) (all_values A H) E ρ E' (all_values A H')
  unfolding memory_of_trace
  forth {E} {E'} {ρ} {H'} s =
      let d = derivation s in
      let k = number_of (Sem_T A) (situation E H) d in
      let x = on_target (cells_of A) (concluded d) in
      let e : get_elem? ((system (Sem_M A)).transitions (situation E (all_values A H))) k ≡ some x =
      subst (λ l. get_elem? l k ≡ some x) (sym ((memory_of_trace A).image_transitions (situation E H)))
      (getElem?_map (on_target (cells_of A)) ((system (Sem_T A)).transitions (situation E H)) k (concluded d) ((demand_2 (Sem_T A) (situation E H)).entry d)) in
      let w = transition_derived (Sem_M A) (situation E (all_values A H)) k x e in
      subst (λ (y : Transition (Situation (Sem_M A))). Step (Sem_M A) (all_values A H) E y.action y.target.term y.target.state) w.1 w.0.step

  pub back : {E E' : Term} {ρ : Action} {M' : List Value} → Step (Sem_M A) (all_values A H) E ρ E' M'
      → (H' : Trace) × Step (Sem_T A) H E ρ E' H' × (all_values A H' ≡ M')
  unfolding memory_of_trace
  back {E} {E'} {ρ} {M'} s =
      let d = derivation s in
      let k = number_of (Sem_M A) (situation E (all_values A H)) d in
      let u = getElem?_unmap (on_target (cells_of A)) ((system (Sem_T A)).transitions (situation E H)) k (concluded d)
      (subst (λ l. get_elem? l k ≡ some (concluded d)) ((memory_of_trace A).image_transitions (situation E H)) ((demand_2 (Sem_M A) (situation E (all_values A H))).entry d)) in
      let w = transition_derived (Sem_T A) (situation E H) k u.0 u.1 in
      subst (λ (y : Transition (Situation (Sem_M A))). (H' : Trace) × Step (Sem_T A) H E y.action y.target.term H' × (all_values A H' ≡ y.target.state))
      (ap (on_target (cells_of A)) w.1 ∙ u.2) (w.0.state, w.0.step, refl)

-- K10: histories that end with equal terms and equal values get equal moves, equal refusals and equal values from every further list of numbers.
module _ (A : Attributes) (s s' : Situation (Sem_T A)) (same : cells_of A s ≡ cells_of A s') (ks : List ℕ) where
  pub past_in_cells : configuration_image (memory_of_trace A) (run (system (Sem_T A)) (initial (system (Sem_T A)) s) ks)
      ≡ configuration_image (memory_of_trace A) (run (system (Sem_T A)) (initial (system (Sem_T A)) s') ks)
  unfolding memory_of_trace
  past_in_cells = sym (run_image (memory_of_trace A) (initial (system (Sem_T A)) s) ks)
      ∙ (ap (λ t. run (system (Sem_M A)) (initial (system (Sem_M A)) t) ks) same ∙ run_image (memory_of_trace A) (initial (system (Sem_T A)) s') ks)

  pub past_outcomes : outcomes (system (Sem_T A)) s ks ≡ outcomes (system (Sem_T A)) s' ks
  unfolding memory_of_trace
  past_outcomes = sym (outcomes_image (memory_of_trace A) s ks) ∙ (ap (λ t. outcomes (system (Sem_M A)) t ks) same ∙ outcomes_image (memory_of_trace A) s' ks)

  pub past_moves : moves ((Sem_T A).satisfies s.state) s.term ≡ moves ((Sem_T A).satisfies s'.state) s'.term
  past_moves = ap (λ g. moves g s.term) (sym (guards_alike A s.state))
      ∙ (ap (λ (t : Situation (Sem_M A)). moves ((Sem_M A).satisfies t.state) t.term) same ∙ ap (λ g. moves g s'.term) (guards_alike A s'.state))
