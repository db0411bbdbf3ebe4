-- The history machine of Demanded is that of eb3 (Machines): from every list of numbers it comes to an end, and to one only (document 01, "Memory and the
-- history machine"), and every number does what it does there (document 02, K1).
use Rattle.std.specs.Prelude.{◌≡◌, ◌⊎◌, length}
use Rattle.std.proofs.Math.Path.{refl, ap, sym, subst}
use Rattle.std.proofs.Common.{◌∙◌, inl, inr}
use mathlib.Core.List.{List, [], ◌∷◌}
use Rattle.std.proofs.Math.Option.{Option, some}
use Prim.Native.Nat.{ℕ, suc, ◌+◌, ◌≤◌, ◌<◌}
use native.Mathlib.Omega.{arith}
use Rattle.std.proofs.Math.ListN.{get_elem?, length-map}
use Rattle.eb3.specs.Terms.{Term, Action, internal, visible, VisibleAction}
use Rattle.eb3.specs.Moves.{moves}
use Rattle.eb3.specs.Derivations.{Step, Derivation, derivation, Earlier}
use Rattle.eb3.specs.Attributes.{Trace}
use Rattle.eb3.specs.TransitionSystems.{Transition, Outcome, took_visible, took_internal, refused as passed_over, respond, outcomes, visible?, internal?, refused?, tally}
use Rattle.eb3.specs.Semantics.{Sem_T, Situation, situation, transition, system, concluded}
use Rattle.eb3.proofs.Laws.Semantics.{demand_2}
use Rattle.eb3.proofs.Laws.Meanings.{step_states}
use Rattle.eb3.specs.Machines.{Machine, Chain, ends, takes, refuses, count_of_moves}
use Rattle.eb3.specs.RuleSets.{RuleSet, attributes}
use Rattle.eb3.specs.Generic.Positions.{Enumeration}
use Rattle.demanded.proofs.Laws.Verdicts.{at_most_or}
use Rattle.demanded.proofs.Laws.Numberings.{numbered_there}
use Rattle.eb3.specs.Generic.PositionsLaws.{beyond_none}
use Rattle.eb3.specs.Generic.PositionsUnique.{same_number, list_unique}
use Rattle.demanded.specs.Demanded.{HistoryRun}

module _ (R : RuleSet) where
  abbrev pub at : Term → Trace → ℕ → ℕ → ℕ → Machine (Sem_T (attributes R))
  at E T v i r = record { state = situation E T; visible_count = v; internal_count = i; refused_count = r }

  abbrev Numbered : Term → Trace → List (Transition (Situation (Sem_T (attributes R)))) → Type 0
  Numbered E T l = Enumeration (Derivation (Sem_T (attributes R)) T E) Earlier concluded l

  abbrev there : Term → Trace → List (Transition (Situation (Sem_T (attributes R))))
  there E T = (system (Sem_T (attributes R))).transitions (situation E T)

  the_number : {E E' : Term} {T T' : Trace} {ρ : Action} (l : List (Transition (Situation (Sem_T (attributes R))))) (n : Numbered E T l) (s : Step (Sem_T (attributes R)) T E ρ E' T')
      → ((demand_2 (Sem_T (attributes R)) (situation E T)).numbers.fun (derivation s)).0 ≡ (n.numbers.fun (derivation s)).0
  the_number {E} {T = T} l n s = same_number (demand_2 (Sem_T (attributes R)) (situation E T)) n (derivation s)

  -- No derivation has a number past the count.
  none_there : {E : Term} {T : Trace} {k : ℕ} (l : List (Transition (Situation (Sem_T (attributes R))))) → Numbered E T l → length l ≤ k → length (there E T) ≤ k
  none_there {E} {T} {k} l n h = omega (arith, h, ap length (list_unique (there E T) l (demand_2 (Sem_T (attributes R)) (situation E T)) n))

  pub history_run_chain : {E F : Term} {T U : Trace} {ns : List ℕ} {os : List Outcome} → HistoryRun R E T ns F U os
      → (x y z : ℕ) → Chain (Sem_T (attributes R)) (at E T x y z) ns (at F U (x + tally visible? os) (y + tally internal? os) (z + tally refused? os))
  unfolding tally
  history_run_chain (HistoryRun.ends {E} {T}) x y z =
      let p : x ≡ x + 0 = omega arith in
      let q : y ≡ y + 0 = omega arith in
      let s : z ≡ z + 0 = omega arith in
      subst (λ (m : Machine (Sem_T (attributes R))). Chain (Sem_T (attributes R)) (at E T x y z) [] m) (λ j. at E T (p j) (q j) (s j)) ends
  history_run_chain (HistoryRun.takes_visible {E} {E'} {F} {T} {U} {ns} {os} {a} l n s f) x y z =
      let e : suc x + tally visible? os ≡ x + suc (tally visible? os) = omega arith in
      subst (λ k. Chain (Sem_T (attributes R)) (at E T x y z) (k ∷ ns) (at F U (x + suc (tally visible? os)) (y + tally internal? os) (z + tally refused? os))) (the_number l n s)
      (takes (demand_2 (Sem_T (attributes R)) (situation E T)) (derivation s) (subst (λ m. Chain (Sem_T (attributes R)) (at E' (a ∷ T) (suc x) y z) ns (at F U m (y + tally internal? os) (z + tally refused? os))) e (history_run_chain f (suc x) y z)))
  history_run_chain (HistoryRun.takes_internal {E} {E'} {F} {T} {U} {ns} {os} l n s f) x y z =
      let e : suc y + tally internal? os ≡ y + suc (tally internal? os) = omega arith in
      subst (λ k. Chain (Sem_T (attributes R)) (at E T x y z) (k ∷ ns) (at F U (x + tally visible? os) (y + suc (tally internal? os)) (z + tally refused? os))) (the_number l n s)
      (takes (demand_2 (Sem_T (attributes R)) (situation E T)) (derivation s) (subst (λ m. Chain (Sem_T (attributes R)) (at E' T x (suc y) z) ns (at F U (x + tally visible? os) m (z + tally refused? os))) e (history_run_chain f x (suc y) z)))
  history_run_chain (HistoryRun.refuses {E} {F} {T} {U} {ns} {os} {k} l n h f) x y z =
      let e : suc z + tally refused? os ≡ z + suc (tally refused? os) = omega arith in
      let q : count_of_moves {S = Sem_T (attributes R)} (situation {S = Sem_T (attributes R)} E T) ≤ k = omega (arith, none_there l n h, length-map (moves ((Sem_T (attributes R)).satisfies T) E) (transition (Sem_T (attributes R)) T)) in
      refuses {c = at E T x y z} {k = k} q (subst (λ m. Chain (Sem_T (attributes R)) (at E T x y (suc z)) ns (at F U (x + tally visible? os) (y + tally internal? os) m)) e (history_run_chain f x y (suc z)))

  -- What each number did is what eb3's outcomes say (document 02, K1).
  abbrev outcomes_by : Term → Trace → List ℕ → Option (Transition (Situation (Sem_T (attributes R)))) → List Outcome
  outcomes_by E T ns o = let r = respond (system (Sem_T (attributes R))) (situation E T) o in r.0 ∷ outcomes (system (Sem_T (attributes R))) r.1 ns

  entry_there : {E E' : Term} {T T' : Trace} {ρ : Action} (l : List (Transition (Situation (Sem_T (attributes R))))) (n : Numbered E T l) (s : Step (Sem_T (attributes R)) T E ρ E' T')
      → get_elem? (there E T) (n.numbers.fun (derivation s)).0 ≡ some (concluded (derivation s))
  entry_there {E} {T = T} l n s = ap (get_elem? (there E T)) (sym (the_number l n s)) ∙ (demand_2 (Sem_T (attributes R)) (situation E T)).entry (derivation s)

  pub history_run_outcomes : {E F : Term} {T U : Trace} {ns : List ℕ} {os : List Outcome} → HistoryRun R E T ns F U os
      → os ≡ outcomes (system (Sem_T (attributes R))) (situation E T) ns
  unfolding outcomes
  history_run_outcomes HistoryRun.ends = refl
  history_run_outcomes (HistoryRun.takes_visible {E} {T = T} {ns = ns} l n s f) = ap (λ os. took_visible ∷ os) (history_run_outcomes f) ∙ sym (ap (outcomes_by E T ns) (entry_there l n s))
  history_run_outcomes (HistoryRun.takes_internal {E} {T = T} {ns = ns} l n s f) = ap (λ os. took_internal ∷ os) (history_run_outcomes f) ∙ sym (ap (outcomes_by E T ns) (entry_there l n s))
  history_run_outcomes (HistoryRun.refuses {E} {T = T} {ns = ns} {k = k} l n h f) = ap (λ os. passed_over ∷ os) (history_run_outcomes f) ∙ sym (ap (outcomes_by E T ns) (beyond_none (there E T) k (none_there l n h)))

  -- Where it comes to.
  pub record End (E : Term) (T : Trace) (ns : List ℕ) : Type 0 where
    pub term : Term
    pub trace : Trace
    pub did : List Outcome
    pub path : HistoryRun R E T ns term trace did

  -- The list after a move is what its action says, so the move is one of the two kinds.
  Taken : Term → Trace → Action → Term → List ℕ → Trace → Type 0
  Taken E T ρ E' ns T' = (s : Step (Sem_T (attributes R)) T E ρ E' T') → End E' T' ns → End E T (((demand_2 (Sem_T (attributes R)) (situation E T)).numbers.fun (derivation s)).0 ∷ ns)

  with_visible : (E E' : Term) (T : Trace) (a : VisibleAction) (ns : List ℕ) → Taken E T (visible a) E' ns (a ∷ T)
  unfolding Taken
  with_visible E E' T a ns s x = record {
    term = x.term;
    trace = x.trace;
    did = took_visible ∷ x.did;
    path = HistoryRun.takes_visible (there E T) (demand_2 (Sem_T (attributes R)) (situation E T)) s x.path;
  }

  with_internal : (E E' : Term) (T : Trace) (ns : List ℕ) → Taken E T internal E' ns T
  unfolding Taken
  with_internal E E' T ns s x = record {
    term = x.term;
    trace = x.trace;
    did = took_internal ∷ x.did;
    path = HistoryRun.takes_internal (there E T) (demand_2 (Sem_T (attributes R)) (situation E T)) s x.path;
  }

  took : {E E' : Term} {T T' : Trace} (ρ : Action) (s : Step (Sem_T (attributes R)) T E ρ E' T') (ns : List ℕ) → End E' T' ns → End E T (((demand_2 (Sem_T (attributes R)) (situation E T)).numbers.fun (derivation s)).0 ∷ ns)
  unfolding Taken
  took {E} {E'} {T} internal s ns x = subst (Taken E T internal E' ns) (sym ((step_states (Sem_T (attributes R)) T _ E E').internal_keeps s)) (with_internal E E' T ns) s x
  took {E} {E'} {T} (visible a) s ns x = subst (Taken E T (visible a) E' ns) (sym ((step_states (Sem_T (attributes R)) T _ E E').visible_updates a s)) (with_visible E E' T a ns) s x

  one_number : (E : Term) (T : Trace) (k : ℕ) (ns : List ℕ) → ((E' : Term) (T' : Trace) → End E' T' ns) → (length (there E T) ≤ k) ⊎ (k < length (there E T)) → End E T (k ∷ ns)
  one_number E T k ns go (inl h) = let x = go E T in record {
    term = x.term;
    trace = x.trace;
    did = passed_over ∷ x.did;
    path = HistoryRun.refuses (there E T) (demand_2 (Sem_T (attributes R)) (situation E T)) h x.path;
  }
  one_number E T k ns go (inr h) =
      let d = numbered_there (there E T) (demand_2 (Sem_T (attributes R)) (situation E T)) k h in
      subst (λ j. End E T (j ∷ ns)) d.1 (took d.0.action d.0.step ns (go d.0.successor d.0.state))

  pub history_run_there : (ns : List ℕ) (E : Term) (T : Trace) → End E T ns
  history_run_there [] E T = record { term = E; trace = T; did = []; path = HistoryRun.ends }
  history_run_there (k ∷ ns) E T = one_number E T k ns (λ E' T'. history_run_there ns E' T') (at_most_or (length (there E T)) k)
