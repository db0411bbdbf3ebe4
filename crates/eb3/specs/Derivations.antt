-- The move rules as an inductive relation: source 000, figure 6 (Sem_M) and, at another data state, figure 4 (Sem_T).
-- Rule 11, the call, is dissolved by unfolding (Laws/Unfolding).
use Rattle.std.specs.Prelude.{◌≡◌, Bool, not, ◌⊎◌, T}
use Rattle.eb3.specs.Expressions.{Cond}
use Rattle.eb3.specs.Terms.{Term, Done, Internal, Perform, Sequence, Choice, Star, Parallel, Guard, Action, internal, visible, VisibleAction, Mask, in_mask}
use Rattle.eb3.specs.Moves.{Move, move}

-- What the rules carry beside the term: a memory M in figure 6, a trace T in figure 4.
pub record DataState : Type 1 where
  pub State : Type 0
  pub State_set : IsSet State
  pub update : State → VisibleAction → State
  pub satisfies : State → Cond → Bool

-- `Step S M E ρ E' M'` is a derivation of (E, M) —ρ→ (E', M').
pub data Step (S : DataState) (M : S.State) : Term → Action → Term → S.State → Type 0 where
  S_1 : {a : VisibleAction} → Step S M (Perform a) (visible a) Done (S.update M a)
  S_1' : Step S M Internal internal Done M
  S_2 : {E₁ E₂ E₁' : Term} {ρ : Action} {M' : S.State} → Step S M E₁ ρ E₁' M' → Step S M (Sequence E₁ E₂) ρ (Sequence E₁' E₂) M'
  S_3 : {E E' : Term} {ρ : Action} {M' : S.State} → Step S M E ρ E' M' → Step S M (Sequence Done E) ρ E' M'
  S_4_left : {E₁ E₂ E₁' : Term} {ρ : Action} {M' : S.State} → Step S M E₁ ρ E₁' M' → Step S M (Choice E₁ E₂) ρ E₁' M'
  S_4_right : {E₁ E₂ E₂' : Term} {ρ : Action} {M' : S.State} → Step S M E₂ ρ E₂' M' → Step S M (Choice E₁ E₂) ρ E₂' M'
  S_5 : {E : Term} → Step S M (Star E) internal Done M
  S_6 : {E E' : Term} {ρ : Action} {M' : S.State} → Step S M E ρ E' M' → Step S M (Star E) ρ (Sequence E' (Star E)) M'
  S_7 : {Δ : Mask} → Step S M (Parallel Δ Done Done) internal Done M
  S_8 : {Δ : Mask} {E₁ E₂ E₁' E₂' : Term} {ρ : Action} {M' : S.State} → T (in_mask Δ ρ)
      → Step S M E₁ ρ E₁' M' → Step S M E₂ ρ E₂' M' → Step S M (Parallel Δ E₁ E₂) ρ (Parallel Δ E₁' E₂') M'
  S_9_left : {Δ : Mask} {E₁ E₂ E₁' : Term} {ρ : Action} {M' : S.State} → T (not (in_mask Δ ρ))
      → Step S M E₁ ρ E₁' M' → Step S M (Parallel Δ E₁ E₂) ρ (Parallel Δ E₁' E₂) M'
  S_9_right : {Δ : Mask} {E₁ E₂ E₂' : Term} {ρ : Action} {M' : S.State} → T (not (in_mask Δ ρ))
      → Step S M E₂ ρ E₂' M' → Step S M (Parallel Δ E₁ E₂) ρ (Parallel Δ E₁ E₂') M'
  S_10 : {C : Cond} {E E' : Term} {ρ : Action} {M' : S.State} → T (S.satisfies M C) → Step S M E ρ E' M' → Step S M (Guard C E) ρ E' M'

-- A derivation from (E, M), with its outcome.
pub record Derivation (S : DataState) (M : S.State) (E : Term) : Type 0 where
  pub action : Action
  pub successor : Term
  pub state : S.State
  pub step : Step S M E action successor state

-- The state after an action: an internal one changes nothing.
unfoldable pub state_after : (S : DataState) → S.State → Action → S.State
state_after S M internal = M
state_after S M (visible a) = S.update M a

module _ {S : DataState} {M : S.State} where
  abbrev pub move_of : {E : Term} → Derivation S M E → Move
  move_of d = move d.action d.successor

  abbrev pub derivation : {E E' : Term} {ρ : Action} {M' : S.State} → Step S M E ρ E' M' → Derivation S M E
  derivation {E' = E'} {ρ = ρ} {M' = M'} d = record { action = ρ; successor = E'; state = M'; step = d }

  -- The order of derivations: of a choice the left ones first; of a star the end first; of a parallel the left ones, the right ones,
  -- then the joint ones by the left, then the right.
  unfoldable pub EarlierStep : {E E' E'' : Term} {ρ σ : Action} {M' M'' : S.State} → Step S M E ρ E' M' → Step S M E σ E'' M'' → Type 0
  EarlierStep S_1 S_1 = ⊥
  EarlierStep S_1' S_1' = ⊥
  EarlierStep (S_2 d) (S_2 e) = EarlierStep d e
  EarlierStep (S_2 d) (S_3 e) = ⊥
  EarlierStep (S_3 d) (S_2 e) = ⊥
  EarlierStep (S_3 d) (S_3 e) = EarlierStep d e
  EarlierStep (S_4_left d) (S_4_left e) = EarlierStep d e
  EarlierStep (S_4_left d) (S_4_right e) = Unit
  EarlierStep (S_4_right d) (S_4_left e) = ⊥
  EarlierStep (S_4_right d) (S_4_right e) = EarlierStep d e
  EarlierStep S_5 S_5 = ⊥
  EarlierStep S_5 (S_6 e) = Unit
  EarlierStep (S_6 d) S_5 = ⊥
  EarlierStep (S_6 d) (S_6 e) = EarlierStep d e
  EarlierStep S_7 S_7 = ⊥
  EarlierStep S_7 (S_8 h d e) = ⊥
  EarlierStep S_7 (S_9_left h d) = ⊥
  EarlierStep S_7 (S_9_right h d) = ⊥
  EarlierStep (S_8 h d e) S_7 = ⊥
  EarlierStep (S_8 h d e) (S_8 h' d' e') = EarlierStep d d' ⊎ ((derivation d ≡ derivation d') × EarlierStep e e')
  EarlierStep (S_8 h d e) (S_9_left h' d') = ⊥
  EarlierStep (S_8 h d e) (S_9_right h' d') = ⊥
  EarlierStep (S_9_left h d) S_7 = ⊥
  EarlierStep (S_9_left h d) (S_8 h' d' e') = Unit
  EarlierStep (S_9_left h d) (S_9_left h' d') = EarlierStep d d'
  EarlierStep (S_9_left h d) (S_9_right h' d') = Unit
  EarlierStep (S_9_right h d) S_7 = ⊥
  EarlierStep (S_9_right h d) (S_8 h' d' e') = Unit
  EarlierStep (S_9_right h d) (S_9_left h' d') = ⊥
  EarlierStep (S_9_right h d) (S_9_right h' d') = EarlierStep d d'
  EarlierStep (S_10 h d) (S_10 h' d') = EarlierStep d d'

  abbrev pub Earlier : {E : Term} → Derivation S M E → Derivation S M E → Type 0
  Earlier d e = EarlierStep d.step e.step
