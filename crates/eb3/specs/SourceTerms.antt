-- Source terms and their rules, call included: source 000, figure 6 with S_M-11, before any unfolding.
-- A quantification means its copies, as the source says; calls stay calls until rule 11 opens them.
use Rattle.std.specs.Prelude.{◌≡◌, not, ◌⊎◌, [], ◌∷◌, ◌++◌, map, ℕ, ◌<◌, T, length}
use Rattle.eb3.specs.Expressions.{Cond}
use Rattle.eb3.specs.Terms.{Term, Done, Internal, Perform, Sequence, Choice, Star, Parallel, Guard, Action, internal, visible, VisibleAction, Mask, in_mask}
use Rattle.eb3.specs.Derivations.{DataState}
use Rattle.eb3.specs.RuleSets.{RuleTerm, rule_internal, rule_perform, rule_sequence, rule_choice, rule_star, rule_parallel, rule_guard, choice_over, parallel_over, call, RuleSet, domain_size, process}
use Rattle.eb3.specs.Unfolding.{Valuation, argument_value, instantiate_cond, right_nest, unfold_below}

-- Figure 4's E without free variables: P(t̄) is `s_call`.
pub data Source : Type 0 where
  s_done : Source
  s_internal : Source
  s_perform : VisibleAction → Source
  s_sequence : Source → Source → Source
  s_choice : Source → Source → Source
  s_star : Source → Source
  s_parallel : Mask → Source → Source → Source
  s_guard : Cond → Source → Source
  s_call : ℕ → Valuation → Source

-- E[x̄ := t̄].
unfoldable pub substituted : RuleSet → RuleTerm → Valuation → Source
substituted R rule_internal σ = s_internal
substituted R (rule_perform l rs) σ = s_perform (record { label = l; arguments = map (argument_value σ) rs })
substituted R (rule_sequence E F) σ = s_sequence (substituted R E σ) (substituted R F σ)
substituted R (rule_choice E F) σ = s_choice (substituted R E σ) (substituted R F σ)
substituted R (rule_star E) σ = s_star (substituted R E σ)
substituted R (rule_parallel Δ E F) σ = s_parallel Δ (substituted R E σ) (substituted R F σ)
substituted R (rule_guard C E) σ = s_guard (instantiate_cond C σ) (substituted R E σ)
substituted R (choice_over d E) σ = right_nest s_done s_choice (domain_size R d) (λ x. substituted R E (σ ++ (x ∷ [])))
substituted R (parallel_over d Δ E) σ = right_nest s_done (s_parallel Δ) (domain_size R d) (λ x. substituted R E (σ ++ (x ∷ [])))
substituted R (call p rs) σ = s_call p (map (argument_value σ) rs)

-- S_M-1 to S_M-11.
pub data SourceStep (R : RuleSet) (S : DataState) (M : S.State) : Source → Action → Source → S.State → Type 0 where
  R_1 : {a : VisibleAction} → SourceStep R S M (s_perform a) (visible a) s_done (S.update M a)
  R_1' : SourceStep R S M s_internal internal s_done M
  R_2 : {s₁ s₂ s₁' : Source} {ρ : Action} {M' : S.State} → SourceStep R S M s₁ ρ s₁' M' → SourceStep R S M (s_sequence s₁ s₂) ρ (s_sequence s₁' s₂) M'
  R_3 : {s s' : Source} {ρ : Action} {M' : S.State} → SourceStep R S M s ρ s' M' → SourceStep R S M (s_sequence s_done s) ρ s' M'
  R_4_left : {s₁ s₂ s₁' : Source} {ρ : Action} {M' : S.State} → SourceStep R S M s₁ ρ s₁' M' → SourceStep R S M (s_choice s₁ s₂) ρ s₁' M'
  R_4_right : {s₁ s₂ s₂' : Source} {ρ : Action} {M' : S.State} → SourceStep R S M s₂ ρ s₂' M' → SourceStep R S M (s_choice s₁ s₂) ρ s₂' M'
  R_5 : {s : Source} → SourceStep R S M (s_star s) internal s_done M
  R_6 : {s s' : Source} {ρ : Action} {M' : S.State} → SourceStep R S M s ρ s' M' → SourceStep R S M (s_star s) ρ (s_sequence s' (s_star s)) M'
  R_7 : {Δ : Mask} → SourceStep R S M (s_parallel Δ s_done s_done) internal s_done M
  R_8 : {Δ : Mask} {s₁ s₂ s₁' s₂' : Source} {ρ : Action} {M' : S.State} → T (in_mask Δ ρ)
      → SourceStep R S M s₁ ρ s₁' M' → SourceStep R S M s₂ ρ s₂' M' → SourceStep R S M (s_parallel Δ s₁ s₂) ρ (s_parallel Δ s₁' s₂') M'
  R_9_left : {Δ : Mask} {s₁ s₂ s₁' : Source} {ρ : Action} {M' : S.State} → T (not (in_mask Δ ρ))
      → SourceStep R S M s₁ ρ s₁' M' → SourceStep R S M (s_parallel Δ s₁ s₂) ρ (s_parallel Δ s₁' s₂) M'
  R_9_right : {Δ : Mask} {s₁ s₂ s₂' : Source} {ρ : Action} {M' : S.State} → T (not (in_mask Δ ρ))
      → SourceStep R S M s₂ ρ s₂' M' → SourceStep R S M (s_parallel Δ s₁ s₂) ρ (s_parallel Δ s₁ s₂') M'
  R_10 : {C : Cond} {s s' : Source} {ρ : Action} {M' : S.State} → T (S.satisfies M C) → SourceStep R S M s ρ s' M' → SourceStep R S M (s_guard C s) ρ s' M'
  R_11 : {p : ℕ} {ts : Valuation} {s' : Source} {ρ : Action} {M' : S.State} → p < length R.processes
      → SourceStep R S M (substituted R (process R p).term ts) ρ s' M' → SourceStep R S M (s_call p ts) ρ s' M'

-- A derivation from (s, M), with its outcome.
pub record SourceDerivation (R : RuleSet) (S : DataState) (M : S.State) (s : Source) : Type 0 where
  pub action : Action
  pub successor : Source
  pub state : S.State
  pub step : SourceStep R S M s action successor state

-- The order of derivations, as that of Derivations: of a choice the left ones first; of a star the end first; of a parallel the left ones, the
-- right ones, then the joint ones by the left, then the right; of a call as of its body.
module _ {R : RuleSet} {S : DataState} {M : S.State} where
  abbrev pub source_derivation : {s s' : Source} {ρ : Action} {M' : S.State} → SourceStep R S M s ρ s' M' → SourceDerivation R S M s
  source_derivation {s' = s'} {ρ = ρ} {M' = M'} d = record { action = ρ; successor = s'; state = M'; step = d }

  unfoldable pub EarlierSourceStep : {s s' s'' : Source} {ρ σ : Action} {M' M'' : S.State} → SourceStep R S M s ρ s' M' → SourceStep R S M s σ s'' M'' → Type 0
  EarlierSourceStep R_1 R_1 = ⊥
  EarlierSourceStep R_1' R_1' = ⊥
  EarlierSourceStep (R_2 d) (R_2 e) = EarlierSourceStep d e
  EarlierSourceStep (R_2 d) (R_3 e) = ⊥
  EarlierSourceStep (R_3 d) (R_2 e) = ⊥
  EarlierSourceStep (R_3 d) (R_3 e) = EarlierSourceStep d e
  EarlierSourceStep (R_4_left d) (R_4_left e) = EarlierSourceStep d e
  EarlierSourceStep (R_4_left d) (R_4_right e) = Unit
  EarlierSourceStep (R_4_right d) (R_4_left e) = ⊥
  EarlierSourceStep (R_4_right d) (R_4_right e) = EarlierSourceStep d e
  EarlierSourceStep R_5 R_5 = ⊥
  EarlierSourceStep R_5 (R_6 e) = Unit
  EarlierSourceStep (R_6 d) R_5 = ⊥
  EarlierSourceStep (R_6 d) (R_6 e) = EarlierSourceStep d e
  EarlierSourceStep R_7 R_7 = ⊥
  EarlierSourceStep R_7 (R_8 h d e) = ⊥
  EarlierSourceStep R_7 (R_9_left h d) = ⊥
  EarlierSourceStep R_7 (R_9_right h d) = ⊥
  EarlierSourceStep (R_8 h d e) R_7 = ⊥
  EarlierSourceStep (R_8 h d e) (R_8 h' d' e') = EarlierSourceStep d d' ⊎ ((source_derivation d ≡ source_derivation d') × EarlierSourceStep e e')
  EarlierSourceStep (R_8 h d e) (R_9_left h' d') = ⊥
  EarlierSourceStep (R_8 h d e) (R_9_right h' d') = ⊥
  EarlierSourceStep (R_9_left h d) R_7 = ⊥
  EarlierSourceStep (R_9_left h d) (R_8 h' d' e') = Unit
  EarlierSourceStep (R_9_left h d) (R_9_left h' d') = EarlierSourceStep d d'
  EarlierSourceStep (R_9_left h d) (R_9_right h' d') = Unit
  EarlierSourceStep (R_9_right h d) R_7 = ⊥
  EarlierSourceStep (R_9_right h d) (R_8 h' d' e') = Unit
  EarlierSourceStep (R_9_right h d) (R_9_left h' d') = ⊥
  EarlierSourceStep (R_9_right h d) (R_9_right h' d') = EarlierSourceStep d d'
  EarlierSourceStep (R_10 h d) (R_10 h' d') = EarlierSourceStep d d'
  EarlierSourceStep (R_11 h d) (R_11 h' d') = EarlierSourceStep d d'

  abbrev pub SourceEarlier : {s : Source} → SourceDerivation R S M s → SourceDerivation R S M s → Type 0
  SourceEarlier x y = EarlierSourceStep x.step y.step

-- The running term that a source term unfolds to.
abbrev pub unfold_source : RuleSet → Source → Term
unfold_source R s_done = Done
unfold_source R s_internal = Internal
unfold_source R (s_perform a) = Perform a
unfold_source R (s_sequence s t) = Sequence (unfold_source R s) (unfold_source R t)
unfold_source R (s_choice s t) = Choice (unfold_source R s) (unfold_source R t)
unfold_source R (s_star s) = Star (unfold_source R s)
unfold_source R (s_parallel Δ s t) = Parallel Δ (unfold_source R s) (unfold_source R t)
unfold_source R (s_guard C s) = Guard C (unfold_source R s)
unfold_source R (s_call p ts) = unfold_below R (length R.processes) p ts

-- Calls name processes below i.
abbrev pub CallsBelow : ℕ → Source → Type 0
CallsBelow i s_done = Unit
CallsBelow i s_internal = Unit
CallsBelow i (s_perform a) = Unit
CallsBelow i (s_sequence s t) = CallsBelow i s × CallsBelow i t
CallsBelow i (s_choice s t) = CallsBelow i s × CallsBelow i t
CallsBelow i (s_star s) = CallsBelow i s
CallsBelow i (s_parallel Δ s t) = CallsBelow i s × CallsBelow i t
CallsBelow i (s_guard C s) = CallsBelow i s
CallsBelow i (s_call p ts) = p < i
