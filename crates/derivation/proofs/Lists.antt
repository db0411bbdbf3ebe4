-- Lists of numbers: those outside a test, and pairs of equal ones that pass a test.
use mathlib.Core.Path.{◌≡◌, refl, sym, ap, ◌∙◌}
use mathlib.Core.Bool.{Bool, true, false, not, ◌&&◌, ◌||◌, cond}
use mathlib.Core.List.{List, [], ◌∷◌, ◌++◌}
use Prim.Native.Nat.{ℕ, suc}
use lib.Dec.{eqb}
use lib.ListN.{length}
use Rattle.eb3.specs.Generic.Lists.{filter}
use Rattle.listing.specs.Combining.{outside, equal_to, pairs}
use Rattle.listing.specs.Laws.Outside.{outside_append, equal_hidden}

module _ (p : ℕ → Bool) where
  pub length_outside : (xs : List ℕ) → length (outside p xs) ≡ length (filter (λ c. not (p c)) xs)
  unfolding outside
  length_outside [] = refl
  length_outside (x ∷ xs) = go (p x) (outside p xs) (filter (λ c. not (p c)) xs) (length_outside xs)
    where
      go : (b : Bool) (o u : List ℕ) → length o ≡ length u → length (cond b o (x ∷ o)) ≡ length (cond (not b) (x ∷ u) u)
      go true o u e = e
      go false o u e = ap suc e

  twice : (x : ℕ) (o : List ℕ) (a b : Bool) → p x ≡ a → outside p (cond b o (x ∷ o)) ≡ cond (a || b) (outside p o) (x ∷ outside p o)
  unfolding outside
  twice x o true true e = refl
  twice x o false true e = refl
  twice x o true false e = ap (λ z. cond z (outside p o) (x ∷ outside p o)) e
  twice x o false false e = ap (λ z. cond z (outside p o) (x ∷ outside p o)) e

  -- outside two tests, r the one that passes either
  pub outside_twice : (q r : ℕ → Bool) → ((c : ℕ) → r c ≡ (p c || q c)) → (xs : List ℕ) → outside p (outside q xs) ≡ outside r xs
  unfolding outside
  outside_twice q r h [] = refl
  outside_twice q r h (x ∷ xs) =
      twice x (outside q xs) (p x) (q x) refl ∙ ap (λ z. cond z (outside p (outside q xs)) (x ∷ outside p (outside q xs))) (sym (h x)) ∙ ap (λ l. cond (r x) l (x ∷ l)) (outside_twice q r h xs)

  -- of a number repeated
  equal_all : (a : ℕ) (b : Bool) (o : List ℕ) → p a ≡ false → outside p o ≡ o → outside p (cond b (a ∷ o) o) ≡ cond b (a ∷ o) o
  unfolding outside
  equal_all a true o e h = ap (λ z. cond z (outside p o) (a ∷ outside p o)) e ∙ ap (λ l. a ∷ l) h
  equal_all a false o e h = h

  all_equal : (a : ℕ) (ys : List ℕ) → p a ≡ false → outside p (equal_to a ys) ≡ equal_to a ys
  unfolding outside equal_to
  all_equal a [] e = refl
  all_equal a (y ∷ ys) e = equal_all a (eqb y a) (equal_to a ys) e (all_equal a ys e)

  row : (x : ℕ) (ys : List ℕ) (a b : Bool) → p x ≡ a → outside p (cond b (equal_to x ys) []) ≡ cond (b && not a) (equal_to x ys) []
  unfolding outside
  row x ys true true e = equal_hidden p x ys e
  row x ys true false e = refl
  row x ys false true e = all_equal x ys e
  row x ys false false e = refl

  -- pairs outside a test, r the one that passes where q does and p does not
  pub outside_pairs : (q r : ℕ → Bool) → ((c : ℕ) → r c ≡ (q c && not (p c))) → (xs ys : List ℕ) → outside p (pairs q xs ys) ≡ pairs r xs ys
  unfolding outside pairs
  outside_pairs q r h [] ys = refl
  outside_pairs q r h (x ∷ xs) ys =
      outside_append p (cond (q x) (equal_to x ys) []) (pairs q xs ys)
      ∙ (λ i. (row x ys (p x) (q x) refl ∙ ap (λ z. cond z (equal_to x ys) []) (sym (h x))) i ++ outside_pairs q r h xs ys i)
