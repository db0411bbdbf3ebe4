-- The answers of the search in a shared term: which are the same, and their bounds (document 01, "Moves, in order").
use mathlib.Core.Path.{◌≡◌, sym, ap, ◌∙◌, subst}
use Prim.Native.Nat.{ℕ, ◌≤◌}
use native.Mathlib.Omega.{arith}
use Rattle.sharing.specs.Walking.{Spot, spot_at, spot_behind, no_spot}
use Rattle.sharing.specs.Finding.{Spotted}

-- ── which are the same ──

abbrev first_of : Spot → ℕ
first_of (spot_at a i) = a
first_of (spot_behind j a) = j
first_of no_spot = 0

abbrev second_of : Spot → ℕ
second_of (spot_at a i) = i
second_of (spot_behind j a) = a
second_of no_spot = 0

abbrev IsPlace : Spot → Type 0
IsPlace (spot_at a i) = Unit
IsPlace (spot_behind j a) = ⊥
IsPlace no_spot = ⊥

abbrev IsRest : Spot → Type 0
IsRest (spot_at a i) = ⊥
IsRest (spot_behind j a) = Unit
IsRest no_spot = ⊥

pub same_spot : {a b i j : ℕ} → spot_at a i ≡ spot_at b j → (a ≡ b) × (i ≡ j)
same_spot e = (ap first_of e, ap second_of e)

pub same_behind : {a b i j : ℕ} → spot_behind i a ≡ spot_behind j b → (i ≡ j) × (a ≡ b)
same_behind e = (ap first_of e, ap second_of e)

pub rest_no_place : {A : Type 0} {a b i j : ℕ} → spot_behind j b ≡ spot_at a i → A
rest_no_place e = absurd (subst IsPlace (sym e) tt)

pub lost_no_place : {A : Type 0} {a i : ℕ} → no_spot ≡ spot_at a i → A
lost_no_place e = absurd (subst IsPlace (sym e) tt)

pub lost_no_rest : {A : Type 0} {a j : ℕ} → no_spot ≡ spot_behind j a → A
lost_no_rest e = absurd (subst IsRest (sym e) tt)

-- ── their bounds ──

pub spotted_lost : (here left k l : ℕ) → Spotted here left k l no_spot
spotted_lost here left k l = record { place = λ a i e. lost_no_place e; rest = λ j a e. lost_no_rest e }

pub spotted_at : (here left k l a i : ℕ) (r : Spot) → r ≡ spot_at a i → a ≤ here → i ≤ l → Spotted here left k l r
spotted_at here left k l a i r e b c = record {
  place = λ d j f. let w = same_spot (sym e ∙ f) in (omega (arith, w.0), omega (arith, w.1));
  rest = λ j d f. rest_no_place (sym f ∙ e);
}

-- where move k is passed
pub spotted_passed : (here left k l j a : ℕ) (r : Spot) → r ≡ spot_behind j a → j ≤ k → a ≤ left → Spotted here left k l r
spotted_passed here left k l j a r e b c = record {
  place = λ d i f. rest_no_place (sym e ∙ f);
  rest = λ i d f. let w = same_behind (sym e ∙ f) in (omega (arith, w.0), omega (arith, w.1));
}

pub spotted_more : {here left k l : ℕ} {r : Spot} (m n j o : ℕ) → Spotted here left k l r → here ≤ m → left ≤ n → k ≤ j → l ≤ o → Spotted m n j o r
spotted_more m n j o h a b c d = record {
  place = λ x i e. let w = h.place x i e in (omega (arith, w.0), omega (arith, w.1));
  rest = λ i x e. let w = h.rest i x e in (omega (arith, w.0), omega (arith, w.1));
}
