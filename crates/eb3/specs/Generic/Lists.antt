-- List functions that the moves are built from; being one of a list, and equality of lists of numbers, as tests. Generic.
use Rattle.std.specs.Prelude.{◌≡◌, refl, Bool, true, false, ◌&&◌, ◌||◌, cond, List, [], ◌∷◌, ◌++◌, ℕ, ◌<◌, T, eqb}
use Rattle.std.proofs.Common.{sym, subst, eqb→eq}
use Rattle.std.proofs.Math.Dec.{eqb_refl}
use Rattle.eb3.specs.Generic.Booleans.{T_and, T_fst, T_snd}

abbrev pub filter {ℓ} : {A : Type ℓ} → (A → Bool) → List A → List A
filter p [] = []
filter p (x ∷ l) = cond (p x) (x ∷ filter p l) (filter p l)

abbrev pub concat_map {ℓ ℓ'} : {A : Type ℓ} {B : Type ℓ'} → (A → List B) → List A → List B
concat_map f [] = []
concat_map f (x ∷ l) = f x ++ concat_map f l

-- One number for each place, each below its bound: elements of given domains.
abbrev pub Within : List ℕ → List ℕ → Type 0
Within [] [] = Unit
Within [] (x ∷ xs) = ⊥
Within (n ∷ ns) [] = ⊥
Within (n ∷ ns) (x ∷ xs) = (x < n) × Within ns xs

-- Whether a number is one of the list.
unfoldable pub one_of : List ℕ → ℕ → Bool
one_of [] k = false
one_of (n ∷ ns) k = eqb k n || one_of ns k

-- Whether all numbers of the second list are among the first; then one of the second is one of the first.
unfoldable pub all_of : List ℕ → List ℕ → Bool
all_of ms [] = true
all_of ms (n ∷ ns) = one_of ms n && all_of ms ns

pub one_of_more : (ms ns : List ℕ) → T (all_of ms ns) → (k : ℕ) → T (one_of ns k) → T (one_of ms k)
unfolding one_of all_of
one_of_more ms [] a k t = absurd t
one_of_more ms (n ∷ ns) a k t = go (eqb k n) (λ u. subst (λ x. T (one_of ms x)) (sym (eqb→eq k n u)) (T_fst (one_of ms n) (all_of ms ns) a)) (one_of_more ms ns (T_snd (one_of ms n) (all_of ms ns) a) k) t
  where
    go : (b : Bool) → (T b → T (one_of ms k)) → (T (one_of ns k) → T (one_of ms k)) → T (b || one_of ns k) → T (one_of ms k)
    go true f g t = f tt
    go false f g t = g t

unfoldable pub same_list : List ℕ → List ℕ → Bool
same_list [] [] = true
same_list [] (y ∷ ys) = false
same_list (x ∷ xs) [] = false
same_list (x ∷ xs) (y ∷ ys) = eqb x y && same_list xs ys

pub same_list→eq : (xs ys : List ℕ) → T (same_list xs ys) → xs ≡ ys
unfolding same_list
same_list→eq [] [] t = refl
same_list→eq [] (y ∷ ys) t = absurd t
same_list→eq (x ∷ xs) [] t = absurd t
same_list→eq (x ∷ xs) (y ∷ ys) t = λ i. eqb→eq x y (T_fst (eqb x y) (same_list xs ys) t) i ∷ same_list→eq xs ys (T_snd (eqb x y) (same_list xs ys) t) i

pub same_list_refl : (xs : List ℕ) → T (same_list xs xs)
unfolding same_list
same_list_refl [] = tt
same_list_refl (x ∷ xs) = T_and (eqb x x) (same_list xs xs) (eqb_refl x) (same_list_refl xs)
