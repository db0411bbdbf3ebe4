-- The numbers outside a set, of what a parallel combines: hiding labels first and combining then gives the same list as the other way round
-- (document 01, "Moves, in order").
use Rattle.std.specs.Prelude.{◌≡◌, Bool, ◌||◌}
use Rattle.std.proofs.Math.Path.{refl, sym, ap}
use Rattle.std.proofs.Common.{◌∙◌, subst, eqb→eq}
use Rattle.std.proofs.Math.Bool.{true, false, cond}
use mathlib.Core.List.{List, [], ◌∷◌, ◌++◌, append-nil}
use Prim.Native.Nat.{ℕ, ◌≤◌}
use native.Mathlib.Omega.{arith}
use Rattle.std.proofs.Math.Dec.{T, eqb}
use Rattle.std.proofs.Math.ListN.{length}
use Rattle.listing.specs.Combining.{outside, equal_to, pairs, combined}

module _ (p : ℕ → Bool) where
  number_hidden : (x : ℕ) (l : List ℕ) → p x ≡ true → outside p (x ∷ l) ≡ outside p l
  unfolding outside
  number_hidden x l e = ap (λ b. cond b (outside p l) (x ∷ outside p l)) e

  pub number_shown : (x : ℕ) (l : List ℕ) → p x ≡ false → outside p (x ∷ l) ≡ x ∷ outside p l
  unfolding outside
  number_shown x l e = ap (λ b. cond b (outside p l) (x ∷ outside p l)) e

  pub outside_one : (x : ℕ) → p x ≡ true → outside p (x ∷ []) ≡ []
  unfolding outside
  outside_one x e = number_hidden x [] e

  -- of a number repeated
  pub equal_hidden : (a : ℕ) (ys : List ℕ) → p a ≡ true → outside p (equal_to a ys) ≡ []
  unfolding outside equal_to
  equal_hidden a [] e = refl
  equal_hidden a (y ∷ ys) e = go (eqb y a) (equal_hidden a ys e)
    where
      go : (b : Bool) → outside p (equal_to a ys) ≡ [] → outside p (cond b (a ∷ equal_to a ys) (equal_to a ys)) ≡ []
      go true i = number_hidden a (equal_to a ys) e ∙ i
      go false i = i

  pub outside_append : (xs ys : List ℕ) → outside p (xs ++ ys) ≡ outside p xs ++ outside p ys
  unfolding outside
  outside_append [] ys = refl
  outside_append (x ∷ xs) ys = passed (p x) (outside p (xs ++ ys)) (outside p xs) (outside_append xs ys)
    where
      passed : (b : Bool) (l k : List ℕ) → l ≡ k ++ outside p ys → cond b l (x ∷ l) ≡ cond b k (x ∷ k) ++ outside p ys
      passed true l k e = e
      passed false l k e = ap (λ t. x ∷ t) e

  pub outside_below : (xs : List ℕ) → length (outside p xs) ≤ length xs
  unfolding outside
  outside_below [] = omega arith
  outside_below (x ∷ xs) = passed (p x) (outside p xs) (outside_below xs)
    where
      passed : (b : Bool) (l : List ℕ) → length l ≤ length xs → length (cond b l (x ∷ l)) ≤ length (x ∷ xs)
      passed true l h = omega arith
      passed false l h = omega arith

  pub outside_none : ((n : ℕ) → p n ≡ false) → (xs : List ℕ) → outside p xs ≡ xs
  unfolding outside
  outside_none h [] = refl
  outside_none h (x ∷ xs) = number_shown x xs (h x) ∙ ap (λ t. x ∷ t) (outside_none h xs)

  pub pairs_none : ((n : ℕ) → p n ≡ false) → (xs ys : List ℕ) → pairs p xs ys ≡ []
  unfolding pairs
  pairs_none h [] ys = refl
  pairs_none h (x ∷ xs) ys = ap (λ b. cond b (equal_to x ys) [] ++ pairs p xs ys) (h x) ∙ pairs_none h xs ys

  pub combined_none : ((n : ℕ) → p n ≡ false) → (xs ys : List ℕ) → combined p xs ys ≡ xs ++ ys
  unfolding combined
  combined_none h xs ys = (λ i. outside_none h xs i ++ (outside_none h ys i ++ pairs_none h xs ys i)) ∙ ap (λ t. xs ++ t) (append-nil ys)

-- ── two sets ──

module _ (p q : ℕ → Bool) where
  swap : (b c : Bool) (x : ℕ) (l k : List ℕ) → p x ≡ b → q x ≡ c → outside p l ≡ outside q k → outside p (cond c l (x ∷ l)) ≡ outside q (cond b k (x ∷ k))
  swap true true x l k e f h = h
  swap true false x l k e f h = number_hidden p x l e ∙ h
  swap false true x l k e f h = h ∙ sym (number_hidden q x k f)
  swap false false x l k e f h = number_shown p x l e ∙ ap (λ t. x ∷ t) h ∙ sym (number_shown q x k f)

  outside_swap : (xs : List ℕ) → outside p (outside q xs) ≡ outside q (outside p xs)
  unfolding outside
  outside_swap [] = refl
  outside_swap (x ∷ xs) = swap (p x) (q x) x (outside q xs) (outside p xs) refl refl (outside_swap xs)

  -- what is outside both is outside the set of either
  pub outside_either : (r : ℕ → Bool) → ((n : ℕ) → r n ≡ (p n || q n)) → (xs : List ℕ) → outside q (outside p xs) ≡ outside r xs
  unfolding outside
  outside_either r h [] = refl
  outside_either r h (x ∷ xs) = go (p x) (q x) refl refl (outside_either r h xs) ∙ ap (λ b. cond b (outside r xs) (x ∷ outside r xs)) (sym (h x))
    where
      go : (b c : Bool) → p x ≡ b → q x ≡ c → outside q (outside p xs) ≡ outside r xs → outside q (cond b (outside p xs) (x ∷ outside p xs)) ≡ cond (b || c) (outside r xs) (x ∷ outside r xs)
      go true c e f i = i
      go false true e f i = number_hidden q x (outside p xs) f ∙ i
      go false false e f i = number_shown q x (outside p xs) f ∙ ap (λ t. x ∷ t) i

  -- ── a set within another ──

  module _ (h : (n : ℕ) → p n ≡ false → q n ≡ false) where
    outside_within : (xs : List ℕ) → outside q (outside p xs) ≡ outside p xs
    unfolding outside
    outside_within [] = refl
    outside_within (x ∷ xs) = go (p x) refl (outside p xs) (outside_within xs)
      where
        go : (b : Bool) → p x ≡ b → (l : List ℕ) → outside q l ≡ l → outside q (cond b l (x ∷ l)) ≡ cond b l (x ∷ l)
        go true e l i = i
        go false e l i = number_shown q x l (h x e) ∙ ap (λ t. x ∷ t) i

    pairs_within : (xs ys : List ℕ) → pairs q (outside p xs) ys ≡ []
    unfolding outside pairs
    pairs_within [] ys = refl
    pairs_within (x ∷ xs) ys = go (p x) refl (outside p xs) (pairs_within xs ys)
      where
        go : (b : Bool) → p x ≡ b → (l : List ℕ) → pairs q l ys ≡ [] → pairs q (cond b l (x ∷ l)) ys ≡ []
        go true e l i = i
        go false e l i = ap (λ c. cond c (equal_to x ys) [] ++ pairs q l ys) (h x e) ∙ i

    pub combined_within : (xs ys : List ℕ) → combined q (outside p xs) (outside p ys) ≡ outside p xs ++ outside p ys
    unfolding combined
    combined_within xs ys =
        (λ i. outside_within xs i ++ (outside_within ys i ++ pairs_within xs (outside p ys) i)) ∙ ap (λ t. outside p xs ++ t) (append-nil (outside p ys))

  -- ── of a parallel ──

  equal_shown : (a : ℕ) (ys : List ℕ) → p a ≡ false → outside p (equal_to a ys) ≡ equal_to a (outside p ys)
  unfolding outside equal_to
  equal_shown a [] e = refl
  equal_shown a (y ∷ ys) e = go (eqb y a) (p y) refl refl (equal_shown a ys e)
    where
      go : (b c : Bool) → eqb y a ≡ b → p y ≡ c → outside p (equal_to a ys) ≡ equal_to a (outside p ys) → outside p (cond b (a ∷ equal_to a ys) (equal_to a ys)) ≡ equal_to a (cond c (outside p ys) (y ∷ outside p ys))
      go true true f k i = absurd (subst T (sym (ap p (sym (eqb→eq y a (subst T (sym f) tt))) ∙ k) ∙ e) tt)
      go true false f k i = number_shown p a (equal_to a ys) e ∙ ap (λ t. a ∷ t) i ∙ sym (ap (λ b. cond b (a ∷ equal_to a (outside p ys)) (equal_to a (outside p ys))) f)
      go false true f k i = i
      go false false f k i = i ∙ sym (ap (λ b. cond b (a ∷ equal_to a (outside p ys)) (equal_to a (outside p ys))) f)

  -- what x pairs with is hidden where x is
  row_shown : (c : Bool) (x : ℕ) (xs l zs : List ℕ) → ((e : p x ≡ true) → outside p l ≡ []) → ((e : p x ≡ false) → outside p l ≡ cond (q x) (equal_to x zs) []) → p x ≡ c
      → outside p l ++ pairs q (outside p xs) zs ≡ pairs q (cond c (outside p xs) (x ∷ outside p xs)) zs
  unfolding pairs
  row_shown true x xs l zs f g e = ap (λ t. t ++ pairs q (outside p xs) zs) (f e)
  row_shown false x xs l zs f g e = ap (λ t. t ++ pairs q (outside p xs) zs) (g e)

  row_hidden : (b : Bool) (x : ℕ) (ys : List ℕ) → p x ≡ true → outside p (cond b (equal_to x ys) []) ≡ []
  unfolding outside
  row_hidden true x ys e = equal_hidden p x ys e
  row_hidden false x ys e = refl

  row_kept : (b : Bool) (x : ℕ) (ys : List ℕ) → p x ≡ false → outside p (cond b (equal_to x ys) []) ≡ cond b (equal_to x (outside p ys)) []
  unfolding outside
  row_kept true x ys e = equal_shown x ys e
  row_kept false x ys e = refl

  pairs_shown : (xs ys : List ℕ) → outside p (pairs q xs ys) ≡ pairs q (outside p xs) (outside p ys)
  unfolding outside pairs
  pairs_shown [] ys = refl
  pairs_shown (x ∷ xs) ys =
      let l : List ℕ = cond (q x) (equal_to x ys) [] in
      outside_append p l (pairs q xs ys) ∙ ap (λ t. outside p l ++ t) (pairs_shown xs ys)
      ∙ row_shown (p x) x xs l (outside p ys) (row_hidden (q x) x ys) (row_kept (q x) x ys) refl

  pub combined_shown : (xs ys : List ℕ) → outside p (combined q xs ys) ≡ combined q (outside p xs) (outside p ys)
  unfolding combined
  combined_shown xs ys =
      outside_append p (outside q xs) (outside q ys ++ pairs q xs ys) ∙ ap (λ t. outside p (outside q xs) ++ t) (outside_append p (outside q ys) (pairs q xs ys))
      ∙ (λ i. outside_swap xs i ++ (outside_swap ys i ++ pairs_shown xs ys i))

-- ── beside a side that lists nothing ──

module _ (q : ℕ → Bool) where
  pub beside_none_left : (ys : List ℕ) → combined q [] ys ≡ outside q ys
  unfolding combined outside pairs
  beside_none_left ys = append-nil (outside q ys)

  pub pairs_none_right : (xs : List ℕ) → pairs q xs [] ≡ []
  unfolding pairs equal_to
  pairs_none_right [] = refl
  pairs_none_right (x ∷ xs) = go (q x) (pairs_none_right xs)
    where
      go : (b : Bool) → pairs q xs [] ≡ [] → cond b [] [] ++ pairs q xs [] ≡ []
      go true i = i
      go false i = i

  pub beside_none_right : (xs : List ℕ) → combined q xs [] ≡ outside q xs
  unfolding combined outside
  beside_none_right xs = ap (λ t. outside q xs ++ t) (pairs_none_right xs) ∙ append-nil (outside q xs)
