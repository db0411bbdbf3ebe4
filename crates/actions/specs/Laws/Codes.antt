-- Laws of actions' numbers: equal numbers are equal actions, and the label and the arguments can be computed from a number.
-- Document 01, "Moves, in order": equal actions, label and arguments.
use Rattle.std.specs.Prelude.{◌≡◌, refl, Bool, true, false, cond, List, [], ◌∷◌, ℕ, ◌-◌, ◌/◌, ◌%◌, ◌^◌, ◌≤◌, ◌<◌, T, eqb, length, take}
use Rattle.std.proofs.Common.{ap, ◌∙◌, subst, arith, eqb→eq, get_or-take, ne_eqb}
use Rattle.std.proofs.Math.Dec.{eqb_refl}
use Rattle.eb3.specs.Generic.AllLists.{All}
use Rattle.eb3.specs.Terms.{VisibleAction, Action, internal, visible, Mask, bit, in_mask, same_action}
use Rattle.eb3.proofs.Laws.Terms.{same_action→eq, same_action_refl}
use Rattle.actions.specs.Codes.{arguments_code, action_code, label_in, masked_code, Small}

-- ── a number taken apart ──

module _ (a : VisibleAction) (small : Small (visible a)) where
  pub label_back : label_in (action_code (visible a)) ≡ a.label
  unfolding label_in action_code
  label_back = omega (arith, small.0)

  pub arguments_back : (action_code (visible a) - 1) / 64 ≡ arguments_code a.arguments
  unfolding action_code
  arguments_back = omega (arith, small.0)

-- Two arguments below 64 have a number of at most 4,224.
pub few_arguments : (xs : List ℕ) → length xs ≤ 2 → All (λ x. x < 64) xs → arguments_code xs ≤ 4224
unfolding arguments_code
few_arguments [] l h = omega arith
few_arguments (x ∷ []) l h = omega (arith, h.0)
few_arguments (x ∷ y ∷ []) l h = omega (arith, h.0, h.1.0)
few_arguments (x ∷ y ∷ z ∷ xs) l h = absurd (omega arith)

pub visible_positive : (a : VisibleAction) → action_code (visible a) ≡ 0 → ⊥
unfolding action_code
visible_positive a e = omega arith

-- ── equal numbers ──

pub arguments_same : (xs ys : List ℕ) → All (λ x. x < 64) xs → All (λ x. x < 64) ys → arguments_code xs ≡ arguments_code ys → xs ≡ ys
unfolding arguments_code
arguments_same [] [] h k e = refl
arguments_same [] (y ∷ ys) h k e = absurd (omega arith)
arguments_same (x ∷ xs) [] h k e = absurd (omega arith)
arguments_same (x ∷ xs) (y ∷ ys) h k e =
    let p : x ≡ y = omega (arith, h.0, k.0) in
    let q : arguments_code xs ≡ arguments_code ys = omega (arith, h.0, k.0) in
    λ i. p i ∷ arguments_same xs ys h.1 k.1 q i

pub codes_same : (ρ σ : Action) → Small ρ → Small σ → action_code ρ ≡ action_code σ → ρ ≡ σ
unfolding action_code
codes_same internal internal h k e = refl
codes_same internal (visible b) h k e = absurd (omega arith)
codes_same (visible a) internal h k e = absurd (omega arith)
codes_same (visible a) (visible b) h k e =
    let p : a.label ≡ b.label = omega (arith, h.0, k.0) in
    let q : arguments_code a.arguments ≡ arguments_code b.arguments = omega (arith, h.0, k.0) in
    λ i. visible (record { label = p i; arguments = arguments_same a.arguments b.arguments h.2 k.2 q i })

-- Two tests are equal where each passes if the other does.
pub same_test : (b c : Bool) → (T b → T c) → (T c → T b) → b ≡ c
same_test true true f g = refl
same_test true false f g = absurd (f tt)
same_test false true f g = absurd (g tt)
same_test false false f g = refl

pub same_code : (ρ σ : Action) → Small ρ → Small σ → same_action ρ σ ≡ eqb (action_code ρ) (action_code σ)
same_code ρ σ h k = same_test (same_action ρ σ) (eqb (action_code ρ) (action_code σ))
    (λ t. subst (λ τ. T (eqb (action_code ρ) (action_code τ))) (same_action→eq ρ σ t) (eqb_refl (action_code ρ)))
    (λ t. subst (λ τ. T (same_action ρ τ)) (codes_same ρ σ h k (eqb→eq (action_code ρ) (action_code σ) t)) (same_action_refl ρ))

-- ── masks ──

-- A label below 64 has its bit in the first four words.
bit_front : (Δ : Mask) (label : ℕ) → label < 64 → bit (take 4 Δ) label ≡ bit Δ label
unfolding bit
bit_front Δ label h = ap (λ w. eqb (w / 2 ^ (label % 16) % 2) 1) (get_or-take 4 Δ (label / 16) 0 (omega arith))

-- Only the first four words count, of any number.
pub masked_front : (Δ : Mask) (code : ℕ) → masked_code (take 4 Δ) code ≡ masked_code Δ code
unfolding masked_code label_in
masked_front Δ code = ap (cond (eqb code 0) false) (bit_front Δ ((code - 1) % 64) (omega arith))

pub masked_is : (Δ : Mask) (ρ : Action) → Small ρ → masked_code Δ (action_code ρ) ≡ in_mask Δ ρ
unfolding masked_code action_code in_mask
masked_is Δ internal h = refl
masked_is Δ (visible a) h =
    ap (λ b. cond b false (bit Δ (label_in (action_code (visible a))))) (ne_eqb (action_code (visible a)) 0 (visible_positive a)) ∙ ap (bit Δ) (label_back a h)
