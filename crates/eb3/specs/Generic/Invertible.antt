-- Functions with an inverse, and how they compose over sums, options and pairs. Generic.
use Rattle.std.specs.Prelude.{◌≡◌, Bool, T}
use Rattle.std.proofs.Common.{ap, sym, ◌∙◌, subst}
use mathlib.Core.HLevel.{is_prop→PathP}
use mathlib.Core.Equiv.{Iso}
use Rattle.std.proofs.Math.Dec.{T_prop}
use Rattle.eb3.specs.Generic.PositionsAppend.{optional, optional_id, on_both, on_both_id}

-- A function with an inverse.
pub record Invertible {X Y : Type 0} (f : X → Y) : Type 0 where
  pub inverse : Y → X
  pub left : (x : X) → inverse (f x) ≡ x
  pub right : (y : Y) → f (inverse y) ≡ y

-- A square with isomorphisms at its sides.
pub square : {X Y X' Y' : Type 0} (α : Iso X X') (β : Iso Y Y') (f : X → Y) (f' : X' → Y') → ((x : X) → β.fun (f x) ≡ f' (α.fun x)) → Invertible f' → Invertible f
square α β f f' c i = record {
  inverse = λ y. α.inv (i.inverse (β.fun y));
  left = λ x. ap (λ z. α.inv (i.inverse z)) (c x) ∙ (ap α.inv (i.left (α.fun x)) ∙ α.linv x);
  right = λ y.
      let x = α.inv (i.inverse (β.fun y)) in
      sym (β.linv (f x)) ∙ (ap β.inv (c x ∙ (ap f' (α.rinv (i.inverse (β.fun y))) ∙ i.right (β.fun y))) ∙ β.linv y);
}

module _ {X Y : Type 0} (f : X → Y) (i : Invertible f) where
  -- Of optional things, of things with a property, of pairs with a property.
  pub optional_invertible : Invertible (optional f)
  optional_invertible = record { inverse = optional i.inverse; left = optional_id f i.inverse i.left; right = optional_id i.inverse f i.right }

  module _ (P : Y → Bool) where
    with_path : {y y' : Y} (e : y ≡ y') (t : T (P y)) (u : T (P y')) → Path ((y : Y) × T (P y)) (y, t) (y', u)
    with_path e t u = λ j. (e j, is_prop→PathP (λ k. T (P (e k))) (λ k. T_prop (P (e k))) t u j)

    over_path : {x x' : X} (e : x ≡ x') (t : T (P (f x))) (u : T (P (f x'))) → Path ((x : X) × T (P (f x))) (x, t) (x', u)
    over_path e t u = λ j. (e j, is_prop→PathP (λ k. T (P (f (e k)))) (λ k. T_prop (P (f (e k)))) t u j)

    abbrev pub with_property : (x : X) × T (P (f x)) → (y : Y) × T (P y)
    with_property z = (f z.0, z.1)

    pub with_invertible : Invertible with_property
    with_invertible = record {
      inverse = λ z. (i.inverse z.0, subst (λ y. T (P y)) (sym (i.right z.0)) z.1);
      left = λ z. over_path (i.left z.0) _ _;
      right = λ z. with_path (i.right z.0) _ _;
    }

pub sum_invertible : {X Y X' Y' : Type 0} (f : X → Y) (f' : X' → Y') → Invertible f → Invertible f' → Invertible (on_both f f')
sum_invertible f f' i i' = record { inverse = on_both i.inverse i'.inverse; left = on_both_id f f' i.inverse i'.inverse i.left i'.left; right = on_both_id i.inverse i'.inverse f f' i.right i'.right }

module _ {X Y X' Y' : Type 0} (f : X → Y) (f' : X' → Y') (i : Invertible f) (i' : Invertible f') (P : Y → Y' → Bool) where
  abbrev pub pairs : (x : X) × (x' : X') × T (P (f x) (f' x')) → (y : Y) × (y' : Y') × T (P y y')
  pairs z = (f z.0, f' z.1, z.2)

  pub pairs_invertible : Invertible pairs
  pairs_invertible = record {
    inverse = λ z. (i.inverse z.0, i'.inverse z.1, subst T (λ j. P (sym (i.right z.0) j) (sym (i'.right z.1) j)) z.2);
    left = λ z. λ j. (
      i.left z.0 j,
      i'.left z.1 j,
      is_prop→PathP (λ k. T (P (f (i.left z.0 k)) (f' (i'.left z.1 k)))) (λ k. T_prop (P (f (i.left z.0 k)) (f' (i'.left z.1 k))))
          (subst T (λ j. P (sym (i.right (f z.0)) j) (sym (i'.right (f' z.1)) j)) z.2) z.2 j,
    );
    right = λ z. λ j. (
      i.right z.0 j,
      i'.right z.1 j,
      is_prop→PathP (λ k. T (P (i.right z.0 k) (i'.right z.1 k))) (λ k. T_prop (P (i.right z.0 k) (i'.right z.1 k)))
          (subst T (λ j. P (sym (i.right z.0) j) (sym (i'.right z.1) j)) z.2) z.2 j,
    );
  }
