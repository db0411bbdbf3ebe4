-- What holds at every state of a run of a well-formed rule set: the term is a running term within the limits, the actions are well-formed,
-- and the cells hold values at most the largest number, so that their words are faithful.
use Rattle.std.specs.Prelude.{◌≡◌, Bool, List, [], ◌∷◌, ℕ, zero, ◌<◌, length, get_or}
use Rattle.std.proofs.Common.{sym, subst, arith}
use Rattle.std.proofs.Math.Option.{some}
use Rattle.std.proofs.Math.Decide.{dec_lt}
use Rattle.std.proofs.Math.ListN.{get_elem?, get_or-eq_default}
use Rattle.eb3.specs.Generic.Lists.{Within}
use Rattle.eb3.specs.Expressions.{Undefined, Cond}
use Rattle.eb3.specs.Terms.{Term, Action, internal, visible}
use Rattle.eb3.specs.Moves.{Move, moves}
use Rattle.eb3.specs.Derivations.{DataState, Step, S_1, S_1', S_2, S_3, S_4_left, S_4_right, S_5, S_6, S_7, S_8, S_9_left, S_9_right, S_10, state_after}
use Rattle.eb3.proofs.Laws.Derivations.{state_is}
use Rattle.eb3.specs.Attributes.{AttributeFunction, Trace, function, domain, number_of_functions}
use Rattle.eb3.proofs.Laws.Attributes.{AllAtMost, TraceAtMost, no_domain_beyond}
use Rattle.eb3.proofs.Laws.Cells.{values_at_most}
use Rattle.eb3.specs.Values.{ValuesAtMost}
use Rattle.eb3.specs.Scopes.{DataInScope, start_scope, label_scope, ExpressionsInScope}
use Rattle.eb3.specs.TransitionSystems.{Transition, run}
use Rattle.eb3.proofs.Laws.TransitionSystems.{run_keeps}
use Rattle.eb3.specs.Semantics.{Sem_T, Situation, system}
use Rattle.eb3.proofs.Laws.Semantics.{transition_derived, move_stepped}
use Rattle.eb3.specs.Machines.{Machine, history_run, memory_run}
use Rattle.eb3.proofs.Laws.Machines.{steps_keep, machines_agree}
use Rattle.eb3.proofs.Laws.Sizes.{reach_nonincreasing, breadth_nonincreasing}
use Rattle.eb3.specs.RuleSets.{RuleSet, sizes_of, label, function_rule, attributes}
use Rattle.eb3.proofs.Laws.RuleSets.{functions_counted, function_is, domain_is}
use Rattle.eb3.specs.WellFormedness.{WellFormedTerm, WellFormedAction, WellFormedTrace, Running, Form}
use Rattle.eb3.proofs.Laws.MainRunning.{small_domains}

-- Steps keep the form, and their actions have it.
module _ (R : RuleSet) {S : DataState} {M : S.State} where
  pub step_well_formed : {M' : S.State} {E E' : Term} {ρ : Action} → Step S M E ρ E' M' → WellFormedTerm R E → WellFormedTerm R E'
  step_well_formed S_1 w = tt
  step_well_formed S_1' w = tt
  step_well_formed (S_2 d) w = (step_well_formed d w.0, w.1)
  step_well_formed (S_3 d) w = step_well_formed d w.1
  step_well_formed (S_4_left d) w = step_well_formed d w.0
  step_well_formed (S_4_right d) w = step_well_formed d w.1
  step_well_formed S_5 w = tt
  step_well_formed (S_6 d) w = (step_well_formed d w, w)
  step_well_formed S_7 w = tt
  step_well_formed (S_8 h d e) w = (w.0, step_well_formed d w.1, step_well_formed e w.2)
  step_well_formed (S_9_left h d) w = (w.0, step_well_formed d w.1, w.2)
  step_well_formed (S_9_right h d) w = (w.0, w.1, step_well_formed d w.2)
  step_well_formed (S_10 h d) w = step_well_formed d w.1

  pub step_action : {M' : S.State} {E E' : Term} {ρ : Action} → Step S M E ρ E' M' → WellFormedTerm R E → WellFormedAction R ρ
  step_action S_1 w = w
  step_action S_1' w = tt
  step_action (S_2 d) w = step_action d w.0
  step_action (S_3 d) w = step_action d w.1
  step_action (S_4_left d) w = step_action d w.0
  step_action (S_4_right d) w = step_action d w.1
  step_action S_5 w = tt
  step_action (S_6 d) w = step_action d w
  step_action S_7 w = tt
  step_action (S_8 h d e) w = step_action d w.1
  step_action (S_9_left h d) w = step_action d w.1
  step_action (S_9_right h d) w = step_action d w.2
  step_action (S_10 h d) w = step_action d w.1

module _ (R : RuleSet) where
  pub step_running : {S : DataState} {M M' : S.State} {E E' : Term} {ρ : Action} → Step S M E ρ E' M' → Running R E → Running R E'
  step_running d w = record {
    form = step_well_formed R d w.form;
    reach_limit = omega (arith, reach_nonincreasing R.edition.width d, w.reach_limit);
    breadth_limit = omega (arith, breadth_nonincreasing d, w.breadth_limit);
  }

  -- Of every entry of the list of moves,
  pub move_running : (g : Cond → Bool) (E : Term) (k : ℕ) (x : Move) → get_elem? (moves g E) k ≡ some x → Running R E → Running R x.successor
  move_running g E k x e w = step_running (move_stepped g E k x e) w

  pub move_action : (g : Cond → Bool) (E : Term) (k : ℕ) (x : Move) → get_elem? (moves g E) k ≡ some x → WellFormedTerm R E → WellFormedAction R x.action
  move_action g E k x e w = step_action R (move_stepped g E k x e) w

  -- and of the last term of every run.
  pub run_running : (S : DataState) (c : Machine S) (ks : List ℕ) → Running R c.state.term → Running R (run (system S) c ks).state.term
  run_running S c ks w = steps_keep S (Running R) (λ M M' E E' ρ d h. step_running d h) c ks w

-- The trace of a run has well-formed actions.
module _ (R : RuleSet) where
  entered : (H : Trace) (ρ : Action) → WellFormedAction R ρ → WellFormedTrace R H → WellFormedTrace R (state_after (Sem_T (attributes R)) H ρ)
  unfolding state_after
  entered H internal p h = h
  entered H (visible a) p h = (p, h)

  abbrev Good : Situation (Sem_T (attributes R)) → Type 0
  Good s = WellFormedTerm R s.term × WellFormedTrace R s.state

  kept : (s : Situation (Sem_T (attributes R))) (k : ℕ) (x : Transition (Situation (Sem_T (attributes R))))
      → get_elem? ((system (Sem_T (attributes R))).transitions s) k ≡ some x → Good s → Good x.target
  kept s k x e g =
      let w = transition_derived (Sem_T (attributes R)) s k x e in
      let d = w.0 in
      subst (λ (y : Transition (Situation (Sem_T (attributes R)))). Good y.target) w.1
      (step_well_formed R d.step g.0, subst (WellFormedTrace R) (sym (state_is d.step)) (entered s.state d.action (step_action R d.step g.0) g.1))

  pub history_well_formed : (E : Term) (ks : List ℕ) → WellFormedTerm R E → WellFormedTrace R (history_run (attributes R) E ks).state.state
  unfolding history_run
  history_well_formed E ks w = (run_keeps (system (Sem_T (attributes R))) Good kept _ ks (w, tt)).1

-- A well-formed rule set's expressions are in their scopes: so `value_empty` and `value_last` hold of it.
module _ (R : RuleSet) (good : Form R) where
  pub expressions_in_scope : ExpressionsInScope (attributes R) (λ l. length (label R l))
  expressions_in_scope = record {
    at_start = λ f d. let h = there f d in
        subst (λ (F : AttributeFunction). DataInScope F.at_start (start_scope (attributes R) f)) (sym (function_is R f h)) (good.function_forms f h).at_start;
    at_label = λ f l d. go f l d (dec_lt l (length R.labels));
  }
    where
      there : (f : ℕ) → f < number_of_functions (attributes R) → f < length R.functions
      there f d = omega (arith, functions_counted R)

      go : (f l : ℕ) → f < number_of_functions (attributes R) → Dec (l < length R.labels)
          → DataInScope (get_or (function (attributes R) f).at_label l Undefined) (label_scope (attributes R) f (length (label R l)))
      go f l d (yes h) = subst (λ (F : AttributeFunction). DataInScope (get_or F.at_label l Undefined) (label_scope (attributes R) f (length (label R l))))
          (sym (function_is R f (there f d))) ((good.function_forms f (there f d)).at_label l h)
      go f l d (no h) = subst (λ (F : AttributeFunction). DataInScope (get_or F.at_label l Undefined) (label_scope (attributes R) f (length (label R l))))
          (sym (function_is R f (there f d)))
          (subst (λ a. DataInScope a (label_scope (attributes R) f (length (label R l))))
          (sym (get_or-eq_default (function_rule R f).at_label Undefined (omega (arith, (good.function_forms f (there f d)).label_count)))) tt)

  pub elements_small : (ds xs : List ℕ) → Within (sizes_of R ds) xs → AllAtMost R.edition.top xs
  elements_small [] [] w = tt
  elements_small [] (x ∷ xs) w = absurd w
  elements_small (d ∷ ds) [] w = absurd w
  elements_small (d ∷ ds) (x ∷ xs) w = (omega (arith, small_domains R good d, w.0), elements_small ds xs w.1)

  pub parameters_small : (f : ℕ) (xs : List ℕ) → Within (domain (attributes R) f) xs → AllAtMost R.edition.top xs
  parameters_small f xs w = go (dec_lt f (number_of_functions (attributes R)))
    where
      none_there : (ys : List ℕ) → Within (zero ∷ []) ys → AllAtMost R.edition.top ys
      none_there [] v = absurd v
      none_there (y ∷ ys) v = let z : ⊥ = omega (arith, v.0) in absurd z

      go : Dec (f < number_of_functions (attributes R)) → AllAtMost R.edition.top xs
      go (yes d) = elements_small (function_rule R f).parameters xs (subst (λ ns. Within ns xs) (domain_is R f (omega (arith, functions_counted R))) w)
      go (no d) = none_there xs (subst (λ ns. Within ns xs) (no_domain_beyond (attributes R) f (omega arith)) w)

  pub trace_small : (H : Trace) → WellFormedTrace R H → TraceAtMost R.edition.top H
  trace_small [] h = tt
  trace_small (a ∷ H) h = (elements_small (label R a.label) a.arguments h.0.1, trace_small H h.1)

  -- Every cell of every run is at most the largest number.
  pub run_cells_small : (E : Term) (ks : List ℕ) → WellFormedTerm R E → ValuesAtMost R.edition.top (memory_run (attributes R) E ks).state.state
  run_cells_small E ks w =
      let H : Trace = (history_run (attributes R) E ks).state.state in
      subst (ValuesAtMost R.edition.top) (sym (machines_agree (attributes R) E ks).cells_are_values)
      (values_at_most (attributes R) (λ l. length (label R l)) expressions_in_scope parameters_small H (trace_small H (history_well_formed R E ks w)))
