-- Positions and numbers: an order isomorphism is an enumeration. Generic.
use Rattle.std.specs.Prelude.{◌≡◌, refl, List, [], ◌∷◌, ℕ, zero, suc, ◌≤◌, ◌<◌, length}
use Rattle.std.proofs.Common.{ap, sym, ◌∙◌, suc-le-suc, le_of_suc-le-suc, not-suc-le-zero, arith}
use Rattle.std.proofs.Math.Option.{Option, none, some, some-injective, none-ne-some}
use mathlib.Core.HLevel.{Σ_prop_path}
use Rattle.std.proofs.Math.Bridge.{le_prop}
use Rattle.std.proofs.Math.ListN.{get_elem?}
use Rattle.eb3.specs.Generic.Positions.{Position, at, index, Enumeration, OrderIsomorphism}

module _ {X : Type 0} where
  pub index_below : (l : List X) (p : Position l) → index l p < length l
  index_below [] p = absurd p
  index_below (x ∷ l) none = omega arith
  index_below (x ∷ l) (some p) = suc-le-suc (index_below l p)

  pub index_entry : (l : List X) (p : Position l) → get_elem? l (index l p) ≡ some (at l p)
  index_entry [] p = absurd p
  index_entry (x ∷ l) none = refl
  index_entry (x ∷ l) (some p) = index_entry l p

  -- The position of an entry that is there, and the length where none is.
  pub position_at : (l : List X) (k : ℕ) (x : X) → get_elem? l k ≡ some x → (p : Position l) × (at l p ≡ x) × (index l p ≡ k)
  position_at [] k x e = absurd (none-ne-some x e)
  position_at (y ∷ l) zero x e = (none, some-injective y x e, refl)
  position_at (y ∷ l) (suc k) x e = let h = position_at l k x e in (some h.0, h.1, ap suc h.2)

  pub none_beyond : (l : List X) (k : ℕ) → get_elem? l k ≡ none → length l ≤ k
  none_beyond [] k e = omega arith
  none_beyond (y ∷ l) zero e = absurd (none-ne-some y (sym e))
  none_beyond (y ∷ l) (suc k) e = let h = none_beyond l k e in omega (arith, h)

  pub beyond_none : (l : List X) (k : ℕ) → length l ≤ k → get_elem? l k ≡ none
  beyond_none [] k h = refl
  beyond_none (y ∷ l) zero h = absurd (not-suc-le-zero h)
  beyond_none (y ∷ l) (suc k) h = beyond_none l k (le_of_suc-le-suc h)

  abbrev pub of_index : (l : List X) (k : ℕ) → k < length l → Position l
  of_index [] k h = absurd (not-suc-le-zero h)
  of_index (x ∷ l) zero h = none
  of_index (x ∷ l) (suc k) h = some (of_index l k (le_of_suc-le-suc h))

  pub index_of : (l : List X) (k : ℕ) (h : k < length l) → index l (of_index l k h) ≡ k
  index_of [] k h = absurd (not-suc-le-zero h)
  index_of (x ∷ l) zero h = refl
  index_of (x ∷ l) (suc k) h = ap suc (index_of l k (le_of_suc-le-suc h))

  pub of_of : (l : List X) (p : Position l) (h : index l p < length l) → of_index l (index l p) h ≡ p
  of_of [] p h = absurd p
  of_of (x ∷ l) none h = refl
  of_of (x ∷ l) (some p) h = ap {B = Option (Position l)} some (of_of l p (le_of_suc-le-suc h))

  unfoldable pub enumeration : {D : Type 0} {R : D → D → Type 0} {f : D → X} {l : List X} → OrderIsomorphism D R f l → Enumeration D R f l
  enumeration {l = l} o = record {
    numbers = record {
      fun = λ d. (index l (o.position d), index_below l (o.position d));
      inv = λ k. o.inverse (of_index l k.0 k.1);
      rinv = λ k. Σ_prop_path (λ n. le_prop) (ap (index l) (o.right_inverse (of_index l k.0 k.1)) ∙ index_of l k.0 k.1);
      linv = λ d. ap o.inverse (of_of l (o.position d) (index_below l (o.position d))) ∙ o.left_inverse d;
    };
    entry = λ d. index_entry l (o.position d) ∙ ap {B = Option X} some (o.entry d);
    order = λ d e. (o.preserves d e, o.reflects d e);
  }
