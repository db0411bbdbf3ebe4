-- The first move with a given action: it is there, none before it has the action, and where none is found no move has it.
use Rattle.std.specs.Prelude.{◌≡◌, refl, Bool, true, false, cond, List, [], ◌∷◌, ℕ, zero, suc, ◌<◌, T}
use Rattle.std.proofs.Common.{ap, ◌∙◌, subst, arith}
use Rattle.std.proofs.Math.Option.{Option, none, some, some-injective, none-ne-some}
use Rattle.std.proofs.Math.ListN.{get_elem?}
use Rattle.eb3.specs.Terms.{Action, same_action}
use Rattle.eb3.proofs.Laws.Terms.{same_action→eq, same_action_refl}
use Rattle.eb3.specs.Moves.{Move, later, first_with}

-- What an answer of the search says of a list.
abbrev pub First : Action → List Move → Option ℕ → Type 0
First ρ l none = (k : ℕ) (x : Move) → get_elem? l k ≡ some x → x.action ≡ ρ → ⊥
First ρ l (some k) = ((x : Move) × (get_elem? l k ≡ some x) × (x.action ≡ ρ)) × ((j : ℕ) (x : Move) → j < k → get_elem? l j ≡ some x → x.action ≡ ρ → ⊥)

module _ (ρ : Action) (y : Move) (l : List Move) where
  skipped : (T (same_action y.action ρ) → ⊥) → (x : Move) → get_elem? (y ∷ l) zero ≡ some x → x.action ≡ ρ → ⊥
  skipped n x e a = n (subst (λ σ. T (same_action y.action σ)) (ap (λ (z : Move). z.action) (some-injective y x e) ∙ a) (same_action_refl y.action))

  first_later : (T (same_action y.action ρ) → ⊥) → (o : Option ℕ) → First ρ l o → First ρ (y ∷ l) (later o)
  first_later n none h = nowhere
    where
      nowhere : (k : ℕ) (x : Move) → get_elem? (y ∷ l) k ≡ some x → x.action ≡ ρ → ⊥
      nowhere zero x e a = skipped n x e a
      nowhere (suc k) x e a = h k x e a
  first_later n (some k) h = (h.0, before)
    where
      before : (j : ℕ) (x : Move) → j < suc k → get_elem? (y ∷ l) j ≡ some x → x.action ≡ ρ → ⊥
      before zero x i e a = skipped n x e a
      before (suc j) x i e a = h.1 j x (omega arith) e a

  first_cons : (b : Bool) → (T b → y.action ≡ ρ) → ((T b → ⊥) → T (same_action y.action ρ) → ⊥) → (o : Option ℕ) → First ρ l o → First ρ (y ∷ l) (cond b (some zero) (later o))
  first_cons true p n o h = ((y, refl, p tt), λ j x i e a. let z : ⊥ = omega arith in z)
  first_cons false p n o h = first_later (n (λ t. t)) o h

pub first_exact : (ρ : Action) (l : List Move) → First ρ l (first_with ρ l)
unfolding first_with
first_exact ρ [] = λ k x e a. none-ne-some x e
first_exact ρ (y ∷ l) = first_cons ρ y l (same_action y.action ρ) (same_action→eq y.action ρ) (λ n. n) (first_with ρ l) (first_exact ρ l)
