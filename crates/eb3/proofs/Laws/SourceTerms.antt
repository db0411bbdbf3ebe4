-- Source terms against their unfoldings: a call unfolds as its body does (`unfold_call`), and every source step is a step of the unfoldings
-- (`source_forth`). That no other is: Laws/SourceDerivations.
use Rattle.std.specs.Prelude.{◌≡◌, List, [], ◌∷◌, ◌++◌, map, length}
use Rattle.std.proofs.Math.Path.{refl, sym, subst}
use Rattle.std.proofs.Common.{◌∙◌}
use Rattle.std.proofs.Math.Bool.{not}
use Prim.Native.Nat.{ℕ, zero, suc, ◌≤◌, ◌<◌}
use native.Mathlib.Omega.{arith}
use Rattle.std.proofs.Math.Dec.{T}
use Rattle.eb3.specs.Terms.{Term, Done, Sequence, Choice, Star, Parallel, Guard, Action, done?}
use Rattle.eb3.specs.Derivations.{DataState, Step, S_1, S_1', S_2, S_3, S_4_left, S_4_right, S_5, S_6, S_7, S_8, S_9_left, S_9_right, S_10}
use Rattle.eb3.specs.RuleSets.{RuleTerm, rule_internal, rule_perform, rule_sequence, rule_choice, rule_star, rule_parallel, rule_guard, choice_over, parallel_over, call, RuleSet, domain_size, process}
use Rattle.eb3.specs.Unfolding.{Valuation, argument_value, instantiate_cond, right_nest, unfold_term, unfold_below, unfold_in}
use Rattle.eb3.proofs.Laws.Unfolding.{below_is, right_nest_map, right_nest_keeps}
use Rattle.eb3.specs.WellFormedness.{Allowed, Form}
use Rattle.eb3.specs.SourceTerms.{Source, s_done, s_internal, s_perform, s_sequence, s_choice, s_star, s_parallel, s_guard, s_call, substituted, SourceStep, R_1, R_1', R_2, R_3, R_4_left, R_4_right, R_5, R_6, R_7, R_8, R_9_left, R_9_right, R_10, R_11, unfold_source, CallsBelow}

-- What is used of a rule set: in process i calls name processes below i, and quantified domains have elements.
abbrev pub LowerCalls : RuleSet → ℕ → RuleTerm → Type 0
LowerCalls R i rule_internal = Unit
LowerCalls R i (rule_perform l rs) = Unit
LowerCalls R i (rule_sequence E F) = LowerCalls R i E × LowerCalls R i F
LowerCalls R i (rule_choice E F) = LowerCalls R i E × LowerCalls R i F
LowerCalls R i (rule_star E) = LowerCalls R i E
LowerCalls R i (rule_parallel Δ E F) = LowerCalls R i E × LowerCalls R i F
LowerCalls R i (rule_guard C E) = LowerCalls R i E
LowerCalls R i (choice_over d E) = (1 ≤ domain_size R d) × LowerCalls R i E
LowerCalls R i (parallel_over d Δ E) = (1 ≤ domain_size R d) × LowerCalls R i E
LowerCalls R i (call p rs) = p < i

abbrev pub Lower : RuleSet → Type 0
Lower R = (p : ℕ) → p < length R.processes → LowerCalls R p (process R p).term

pub allowed_lower : (R : RuleSet) → ((d : ℕ) → d < length R.domains → 1 ≤ domain_size R d) → (i : ℕ) (Γ : List ℕ) (E : RuleTerm) → Allowed R i Γ E → LowerCalls R i E
allowed_lower R h i Γ rule_internal a = tt
allowed_lower R h i Γ (rule_perform l rs) a = tt
allowed_lower R h i Γ (rule_sequence E F) a = (allowed_lower R h i Γ E a.0, allowed_lower R h i Γ F a.1)
allowed_lower R h i Γ (rule_choice E F) a = (allowed_lower R h i Γ E a.0, allowed_lower R h i Γ F a.1)
allowed_lower R h i Γ (rule_star E) a = allowed_lower R h i Γ E a
allowed_lower R h i Γ (rule_parallel Δ E F) a = (allowed_lower R h i Γ E a.1, allowed_lower R h i Γ F a.2)
allowed_lower R h i Γ (rule_guard C E) a = allowed_lower R h i Γ E a.1
allowed_lower R h i Γ (choice_over d E) a = (h d a.0, allowed_lower R h i (Γ ++ (d ∷ [])) E a.2)
allowed_lower R h i Γ (parallel_over d Δ E) a = (h d a.0, allowed_lower R h i (Γ ++ (d ∷ [])) E a.3)
allowed_lower R h i Γ (call p rs) a = a.0

pub well_formed_lower : (R : RuleSet) → Form R → Lower R
well_formed_lower R w p l = allowed_lower R (λ d h. (w.domain_sizes d h).0) p (process R p).parameters (process R p).term (w.process_terms p l)

-- An unfolding is not done.
nest_not_done : (join : Term → Term → Term) → ((E F : Term) → T (not (done? (join E F)))) → (n : ℕ) (copy : ℕ → Term) → 1 ≤ n → ((x : ℕ) → T (not (done? (copy x)))) → T (not (done? (right_nest Done join n copy)))
unfolding right_nest
nest_not_done join j zero copy h c = let z : ⊥ = omega arith in absurd z
nest_not_done join j (suc zero) copy h c = c zero
nest_not_done join j (suc (suc n)) copy h c = j _ _

module _ (R : RuleSet) (i : ℕ) (callee : ℕ → Valuation → Term) (callee_not_done : (p : ℕ) → p < i → (ts : Valuation) → T (not (done? (callee p ts)))) where
  term_not_done : (E : RuleTerm) → LowerCalls R i E → (σ : Valuation) → T (not (done? (unfold_term R callee E σ)))
  unfolding unfold_term done?
  term_not_done rule_internal l σ = tt
  term_not_done (rule_perform a rs) l σ = tt
  term_not_done (rule_sequence E F) l σ = tt
  term_not_done (rule_choice E F) l σ = tt
  term_not_done (rule_star E) l σ = tt
  term_not_done (rule_parallel Δ E F) l σ = tt
  term_not_done (rule_guard C E) l σ = tt
  term_not_done (choice_over d E) l σ = nest_not_done Choice (λ E F. tt) (domain_size R d) _ l.0 (λ x. term_not_done E l.1 (σ ++ (x ∷ [])))
  term_not_done (parallel_over d Δ E) l σ = nest_not_done (Parallel Δ) (λ E F. tt) (domain_size R d) _ l.0 (λ x. term_not_done E l.1 (σ ++ (x ∷ [])))
  term_not_done (call p rs) l σ = callee_not_done p l (map (argument_value σ) rs)

module _ (R : RuleSet) (low : Lower R) where
  abbrev n : ℕ
  n = length R.processes

  pub below_not_done : (i : ℕ) → i ≤ n → (p : ℕ) → p < i → (ts : Valuation) → T (not (done? (unfold_below R i p ts)))
  below_not_done zero h p l ts = let z : ⊥ = omega arith in absurd z
  below_not_done (suc i) h p l ts =
      subst (λ E. T (not (done? E))) (sym (below_is R (suc i) p l ts))
      (term_not_done R p (unfold_below R p) (λ q k us. subst (λ E. T (not (done? E))) (below_is R i q (omega arith) us ∙ sym (below_is R p q k us)) (below_not_done i (omega arith) q (omega arith) us))
      (process R p).term (low p (omega arith)) ts)

  -- Unfolding a substituted body is the unfolding.
  unfold_substituted : (i : ℕ) → i ≤ n → (E : RuleTerm) → LowerCalls R i E → (σ : Valuation) → unfold_source R (substituted R E σ) ≡ unfold_in R i E σ
  unfolding substituted unfold_term
  unfold_substituted i h rule_internal l σ = refl
  unfold_substituted i h (rule_perform a rs) l σ = refl
  unfold_substituted i h (rule_sequence E F) l σ = λ j. Sequence (unfold_substituted i h E l.0 σ j) (unfold_substituted i h F l.1 σ j)
  unfold_substituted i h (rule_choice E F) l σ = λ j. Choice (unfold_substituted i h E l.0 σ j) (unfold_substituted i h F l.1 σ j)
  unfold_substituted i h (rule_star E) l σ = λ j. Star (unfold_substituted i h E l σ j)
  unfold_substituted i h (rule_parallel Δ E F) l σ = λ j. Parallel Δ (unfold_substituted i h E l.0 σ j) (unfold_substituted i h F l.1 σ j)
  unfold_substituted i h (rule_guard C E) l σ = λ j. Guard (instantiate_cond C σ) (unfold_substituted i h E l σ j)
  unfold_substituted i h (choice_over d E) l σ =
      right_nest_map (unfold_source R) s_done Done s_choice Choice refl (λ s t. refl) (domain_size R d) _ _ (λ x. unfold_substituted i h E l.1 (σ ++ (x ∷ [])))
  unfold_substituted i h (parallel_over d Δ E) l σ =
      right_nest_map (unfold_source R) s_done Done (s_parallel Δ) (Parallel Δ) refl (λ s t. refl) (domain_size R d) _ _ (λ x. unfold_substituted i h E l.1 (σ ++ (x ∷ [])))
  unfold_substituted i h (call p rs) l σ = below_is R n p (omega arith) (map (argument_value σ) rs) ∙ sym (below_is R i p l (map (argument_value σ) rs))

  -- A call unfolds as its body does.
  pub unfold_call : (p : ℕ) → p < n → (ts : Valuation) → unfold_source R (substituted R (process R p).term ts) ≡ unfold_source R (s_call p ts)
  unfold_call p h ts = unfold_substituted p (omega arith) (process R p).term (low p h) ts ∙ sym (below_is R n p h ts)

  pub substituted_below : (i : ℕ) (E : RuleTerm) → LowerCalls R i E → (σ : Valuation) → CallsBelow i (substituted R E σ)
  unfolding substituted
  substituted_below i rule_internal l σ = tt
  substituted_below i (rule_perform a rs) l σ = tt
  substituted_below i (rule_sequence E F) l σ = (substituted_below i E l.0 σ, substituted_below i F l.1 σ)
  substituted_below i (rule_choice E F) l σ = (substituted_below i E l.0 σ, substituted_below i F l.1 σ)
  substituted_below i (rule_star E) l σ = substituted_below i E l σ
  substituted_below i (rule_parallel Δ E F) l σ = (substituted_below i E l.0 σ, substituted_below i F l.1 σ)
  substituted_below i (rule_guard C E) l σ = substituted_below i E l σ
  substituted_below i (choice_over d E) l σ = right_nest_keeps (CallsBelow i) s_done s_choice tt (λ s t p q. (p, q)) (domain_size R d) _ (λ x h. substituted_below i E l.1 (σ ++ (x ∷ [])))
  substituted_below i (parallel_over d Δ E) l σ = right_nest_keeps (CallsBelow i) s_done (s_parallel Δ) tt (λ s t p q. (p, q)) (domain_size R d) _ (λ x h. substituted_below i E l.1 (σ ++ (x ∷ [])))
  substituted_below i (call p rs) l σ = l

  pub calls_weaken : (i j : ℕ) → i ≤ j → (s : Source) → CallsBelow i s → CallsBelow j s
  calls_weaken i j h s_done b = tt
  calls_weaken i j h s_internal b = tt
  calls_weaken i j h (s_perform a) b = tt
  calls_weaken i j h (s_sequence s t) b = (calls_weaken i j h s b.0, calls_weaken i j h t b.1)
  calls_weaken i j h (s_choice s t) b = (calls_weaken i j h s b.0, calls_weaken i j h t b.1)
  calls_weaken i j h (s_star s) b = calls_weaken i j h s b
  calls_weaken i j h (s_parallel Δ s t) b = (calls_weaken i j h s b.0, calls_weaken i j h t b.1)
  calls_weaken i j h (s_guard C s) b = calls_weaken i j h s b
  calls_weaken i j h (s_call p ts) b = omega arith

  module _ (S : DataState) (M : S.State) where
    -- Every source step is a step of the unfoldings, with the same action and new state;
    unfoldable pub source_forth : {s s' : Source} {ρ : Action} {M' : S.State} → SourceStep R S M s ρ s' M' → Step S M (unfold_source R s) ρ (unfold_source R s') M'
    source_forth R_1 = S_1
    source_forth R_1' = S_1'
    source_forth (R_2 d) = S_2 (source_forth d)
    source_forth (R_3 d) = S_3 (source_forth d)
    source_forth (R_4_left d) = S_4_left (source_forth d)
    source_forth (R_4_right d) = S_4_right (source_forth d)
    source_forth R_5 = S_5
    source_forth (R_6 d) = S_6 (source_forth d)
    source_forth R_7 = S_7
    source_forth (R_8 h d e) = S_8 h (source_forth d) (source_forth e)
    source_forth (R_9_left h d) = S_9_left h (source_forth d)
    source_forth (R_9_right h d) = S_9_right h (source_forth d)
    source_forth (R_10 h d) = S_10 h (source_forth d)
    source_forth (R_11 {p = p} {ts = ts} {s' = s'} {ρ = ρ} {M' = M'} h d) = subst (λ E. Step S M E ρ (unfold_source R s') M') (unfold_call p h ts) (source_forth d)

    -- and its successor's calls are calls of the rule set.
    pub source_calls : {s s' : Source} {ρ : Action} {M' : S.State} → SourceStep R S M s ρ s' M' → CallsBelow n s → CallsBelow n s'
    source_calls R_1 b = tt
    source_calls R_1' b = tt
    source_calls (R_2 d) b = (source_calls d b.0, b.1)
    source_calls (R_3 d) b = source_calls d b.1
    source_calls (R_4_left d) b = source_calls d b.0
    source_calls (R_4_right d) b = source_calls d b.1
    source_calls R_5 b = tt
    source_calls (R_6 d) b = (source_calls d b, b)
    source_calls R_7 b = tt
    source_calls (R_8 h d e) b = (source_calls d b.0, source_calls e b.1)
    source_calls (R_9_left h d) b = (source_calls d b.0, b.1)
    source_calls (R_9_right h d) b = (b.0, source_calls d b.1)
    source_calls (R_10 h d) b = source_calls d b
    source_calls (R_11 {p = p} {ts = ts} h d) b = source_calls d (calls_weaken p n (omega arith) (substituted R (process R p).term ts) (substituted_below p (process R p).term (low p h) ts))
