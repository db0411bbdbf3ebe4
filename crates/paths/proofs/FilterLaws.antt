-- Filtered lists: of lists put together, of lists made from others, of rows. Generic; for the moves that show below a mask (document 01, "Moves, in order").
use Rattle.std.specs.Prelude.{◌≡◌, refl, Bool, true, false, not, ◌&&◌, ◌||◌, cond, List, [], ◌∷◌, ◌++◌, map, ℕ, zero, suc}
use Rattle.std.proofs.Common.{ap, ◌∙◌}
use Rattle.std.proofs.Math.Option.{some}
use Rattle.std.proofs.Math.ListN.{get_elem?}
use Rattle.eb3.specs.Generic.Lists.{filter, concat_map}

module _ {A : Type 0} (p : A → Bool) where
  kept_front : (b : Bool) (x : A) (l r : List A) → cond b (x ∷ (l ++ r)) (l ++ r) ≡ cond b (x ∷ l) l ++ r
  kept_front true x l r = refl
  kept_front false x l r = refl

  pub filter_append : (l r : List A) → filter p (l ++ r) ≡ filter p l ++ filter p r
  filter_append [] r = refl
  filter_append (x ∷ l) r = ap (λ t. cond (p x) (x ∷ t) t) (filter_append l r) ∙ kept_front (p x) x (filter p l) (filter p r)

  pub filter_all : ((x : A) → p x ≡ true) → (l : List A) → filter p l ≡ l
  filter_all h [] = refl
  filter_all h (x ∷ l) = ap (λ b. cond b (x ∷ filter p l) (filter p l)) (h x) ∙ ap (λ t. x ∷ t) (filter_all h l)

  pub filter_none : ((x : A) → p x ≡ false) → (l : List A) → filter p l ≡ []
  filter_none h [] = refl
  filter_none h (x ∷ l) = ap (λ b. cond b (x ∷ filter p l) (filter p l)) (h x) ∙ filter_none h l

  pub filter_cond : (b : Bool) (l r : List A) → filter p (cond b l r) ≡ cond b (filter p l) (filter p r)
  filter_cond true l r = refl
  filter_cond false l r = refl

  pub filter_rows : {B : Type 0} (f : B → List A) (l : List B) → filter p (concat_map f l) ≡ concat_map (λ x. filter p (f x)) l
  filter_rows f [] = refl
  filter_rows f (x ∷ l) = filter_append (f x) (concat_map f l) ∙ ap (λ t. filter p (f x) ++ t) (filter_rows f l)

mapped_cond : {A B : Type 0} (f : A → B) (b : Bool) (x : A) (l : List A) → cond b (f x ∷ map f l) (map f l) ≡ map f (cond b (x ∷ l) l)
mapped_cond f true x l = refl
mapped_cond f false x l = refl

-- A test that a function does not change.
pub filter_map : {A B : Type 0} (p : B → Bool) (q : A → Bool) (f : A → B) → ((x : A) → p (f x) ≡ q x) → (l : List A) → filter p (map f l) ≡ map f (filter q l)
filter_map p q f h [] = refl
filter_map p q f h (x ∷ l) =
    ap (λ b. cond b (f x ∷ filter p (map f l)) (filter p (map f l))) (h x) ∙ ap (λ t. cond (q x) (f x ∷ t) t) (filter_map p q f h l) ∙ mapped_cond f (q x) x (filter q l)

both_tests : {A : Type 0} (q : A → Bool) (x : A) (l m : List A) (b c : Bool) → q x ≡ c → filter q l ≡ m → filter q (cond b (x ∷ l) l) ≡ cond (b && c) (x ∷ m) m
both_tests q x l m true c e f = ap (λ d. cond d (x ∷ filter q l) (filter q l)) e ∙ ap (λ t. cond c (x ∷ t) t) f
both_tests q x l m false c e f = f

pub filter_twice : {A : Type 0} (p q : A → Bool) (l : List A) → filter q (filter p l) ≡ filter (λ x. p x && q x) l
filter_twice p q [] = refl
filter_twice p q (x ∷ l) = both_tests q x (filter p l) (filter (λ y. p y && q y) l) (p x) (q x) refl (filter_twice p q l)

-- Tests that agree on the entries.
pub filter_same : {A : Type 0} (p q : A → Bool) (l : List A) → ((i : ℕ) (x : A) → get_elem? l i ≡ some x → p x ≡ q x) → filter p l ≡ filter q l
filter_same p q [] h = refl
filter_same p q (x ∷ l) h = ap (λ b. cond b (x ∷ filter p l) (filter p l)) (h zero x refl) ∙ ap (λ t. cond (q x) (x ∷ t) t) (filter_same p q l (λ i y e. h (suc i) y e))

pub rows_same : {A B : Type 0} (f h : A → List B) (l : List A) → ((i : ℕ) (x : A) → get_elem? l i ≡ some x → f x ≡ h x) → concat_map f l ≡ concat_map h l
rows_same f h [] e = refl
rows_same f h (x ∷ l) e = λ i. e zero x refl i ++ rows_same f h l (λ j y k. e (suc j) y k) i

pub rows_none : {A B : Type 0} (f : A → List B) (l : List A) → ((x : A) → f x ≡ []) → concat_map f l ≡ []
rows_none f [] h = refl
rows_none f (x ∷ l) h = ap (λ t. t ++ concat_map f l) (h x) ∙ rows_none f l h

-- ── tests ──

pub neither : (b c : Bool) → (not c && not b) ≡ not (b || c)
neither true true = refl
neither true false = refl
neither false true = refl
neither false false = refl

pub middle_last : (a s b : Bool) → ((a && s) && b) ≡ ((a && b) && s)
middle_last true true b = side b
  where
    side : (c : Bool) → c ≡ (c && true)
    side true = refl
    side false = refl
middle_last true false b = side b
  where
    side : (c : Bool) → false ≡ (c && false)
    side true = refl
    side false = refl
middle_last false s b = refl
