-- Properties of every entry of a list. Generic.
use Rattle.std.specs.Prelude.{◌≡◌, refl, List, [], ◌∷◌, ◌++◌, ℕ, zero, suc, ◌+◌, ◌<◌, length, get_or}
use Rattle.std.proofs.Common.{ap, subst, arith}

-- Every entry of a list has a property.
abbrev pub All : {A : Type 0} → (A → Type 0) → List A → Type 0
All P [] = Unit
All P (x ∷ xs) = P x × All P xs

pub all_at : {A : Type 0} (P : A → Type 0) (xs : List A) → All P xs → (i : ℕ) (d : A) → i < length xs → P (get_or xs i d)
all_at P [] h i d l = let z : ⊥ = omega arith in absurd z
all_at P (x ∷ xs) h zero d l = h.0
all_at P (x ∷ xs) h (suc i) d l = all_at P xs h.1 i d (omega arith)

pub at_all : {A : Type 0} (P : A → Type 0) (d : A) (xs : List A) → ((i : ℕ) → i < length xs → P (get_or xs i d)) → All P xs
at_all P d [] h = tt
at_all P d (x ∷ xs) h = (h zero (omega arith), at_all P d xs (λ i l. h (suc i) (omega arith)))

pub all_map : {A : Type 0} (P Q : A → Type 0) → ((a : A) → P a → Q a) → (xs : List A) → All P xs → All Q xs
all_map P Q f [] h = tt
all_map P Q f (x ∷ xs) h = (f x h.0, all_map P Q f xs h.1)

pub all_append : {A : Type 0} (P : A → Type 0) (xs ys : List A) → All P xs → All P ys → All P (xs ++ ys)
all_append P [] ys h k = k
all_append P (x ∷ xs) ys h k = (h.0, all_append P xs ys h.1 k)

-- One for each entry of a list: entry by entry, the property is the entry's.
abbrev pub AllFor : {A B : Type 0} → (B → A → Type 0) → List B → List A → Type 0
AllFor P [] [] = Unit
AllFor P [] (x ∷ xs) = ⊥
AllFor P (b ∷ bs) [] = ⊥
AllFor P (b ∷ bs) (x ∷ xs) = P b x × AllFor P bs xs

pub all_for_length : {A B : Type 0} (P : B → A → Type 0) (bs : List B) (xs : List A) → AllFor P bs xs → length xs ≡ length bs
all_for_length P [] [] h = refl
all_for_length P [] (x ∷ xs) h = absurd h
all_for_length P (b ∷ bs) [] h = absurd h
all_for_length P (b ∷ bs) (x ∷ xs) h = ap suc (all_for_length P bs xs h.1)

pub all_for_at : {A B : Type 0} (P : B → A → Type 0) (bs : List B) (xs : List A) → AllFor P bs xs → (i : ℕ) (b : B) (a : A) → i < length bs → P (get_or bs i b) (get_or xs i a)
all_for_at P [] xs h i b a l = let z : ⊥ = omega arith in absurd z
all_for_at P (c ∷ bs) [] h i b a l = absurd h
all_for_at P (c ∷ bs) (x ∷ xs) h zero b a l = h.0
all_for_at P (c ∷ bs) (x ∷ xs) h (suc i) b a l = all_for_at P bs xs h.1 i b a (omega arith)

-- A series: from number i on, each has its number's property.
abbrev pub AllFrom : {A : Type 0} → (ℕ → A → Type 0) → ℕ → List A → Type 0
AllFrom P i [] = Unit
AllFrom P i (x ∷ xs) = P i x × AllFrom P (i + 1) xs

pub all_from_at : {A : Type 0} (P : ℕ → A → Type 0) (i : ℕ) (xs : List A) → AllFrom P i xs → (j : ℕ) (d : A) → j < length xs → P (i + j) (get_or xs j d)
all_from_at P i [] h j d l = let z : ⊥ = omega arith in absurd z
all_from_at P i (x ∷ xs) h zero d l = let e : i ≡ i + 0 = omega arith in subst (λ n. P n x) e h.0
all_from_at P i (x ∷ xs) h (suc j) d l = let e : i + 1 + j ≡ i + suc j = omega arith in subst (λ n. P n (get_or xs j d)) e (all_from_at P (i + 1) xs h.1 j d (omega arith))

pub at_all_for : {A B : Type 0} (P : B → A → Type 0) (d : B) (c : A) (bs : List B) (xs : List A) → length xs ≡ length bs → ((i : ℕ) → i < length bs → P (get_or bs i d) (get_or xs i c)) → AllFor P bs xs
at_all_for P d c [] [] e h = tt
at_all_for P d c [] (x ∷ xs) e h = let z : ⊥ = omega arith in absurd z
at_all_for P d c (b ∷ bs) [] e h = let z : ⊥ = omega arith in absurd z
at_all_for P d c (b ∷ bs) (x ∷ xs) e h = (h zero (omega arith), at_all_for P d c bs xs (omega arith) (λ i l. h (suc i) (omega arith)))

pub at_all_from : {A : Type 0} (P : ℕ → A → Type 0) (d : A) (i : ℕ) (xs : List A) → ((j : ℕ) → j < length xs → P (i + j) (get_or xs j d)) → AllFrom P i xs
at_all_from P d i [] h = tt
at_all_from P d i (x ∷ xs) h =
    let e : i + 0 ≡ i = omega arith in
    (subst (λ n. P n x) e (h zero (omega arith)), at_all_from P d (i + 1) xs (λ j l. let e : i + suc j ≡ i + 1 + j = omega arith in subst (λ n. P n (get_or xs j d)) e (h (suc j) (omega arith))))
