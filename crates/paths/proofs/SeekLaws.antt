-- What a search finds, said of the lists that moves are made of (document 01, "Moves, in order"): the k-th entry that passes a test is the k-th of the
-- filtered list, and the k-th pair of equal entries is the k-th of the rows put together. The numbers searched are those of any entries. Generic.
use Rattle.std.specs.Prelude.{◌≡◌, Bool, true, false, ◌&&◌, cond, eqb, length}
use Rattle.std.proofs.Math.Path.{refl}
use Rattle.std.proofs.Common.{sym, ap, ◌∙◌, subst, arith}
use mathlib.Core.List.{List, [], ◌∷◌, ◌++◌, map}
use Rattle.std.proofs.Math.Option.{some, none-ne-some}
use Prim.Native.Nat.{ℕ, zero, suc, ◌+◌, ◌-◌, ◌<◌}
use Rattle.std.proofs.Math.Dec.{eqb-suc-zero}
use Rattle.std.proofs.Math.ListN.{get_elem?}
use Rattle.std.proofs.lemmas.List.{length-map}
use Rattle.eb3.specs.Generic.Lists.{filter, concat_map}
use Rattle.eb3.specs.Reading.{pick}
use Rattle.eb3.proofs.Laws.TransitionSystems.{getElem?_unmap}
use Rattle.paths.proofs.FilterLaws.{filter_none}
use Rattle.paths.specs.Paths.{Sought, at, beyond, one_on, seek, Sides, left_alone, right_alone, together, nowhere, pair_from, seek_pair}

-- ── entries of lists, also of lists put together ──

pub entry_first : {A : Type 0} (l r : List A) (k : ℕ) → k < length l → get_elem? (l ++ r) k ≡ get_elem? l k
entry_first [] r k h = let z : ⊥ = omega arith in absurd z
entry_first (x ∷ l) r zero h = refl
entry_first (x ∷ l) r (suc k) h = entry_first l r k (omega arith)

pub entry_rest : {A : Type 0} (l r : List A) (k : ℕ) → get_elem? (l ++ r) (length l + k) ≡ get_elem? r k
entry_rest [] r k = let e : 0 + k ≡ k = omega arith in ap (get_elem? r) e
entry_rest (x ∷ l) r k = let e : suc (length l) + k ≡ suc (length l + k) = omega arith in ap (get_elem? (x ∷ (l ++ r))) e ∙ entry_rest l r k

-- If a list has an entry k, then k is less than its length.
pub some_within : {A : Type 0} (l : List A) (k : ℕ) (x : A) → get_elem? l k ≡ some x → k < length l
some_within [] k x e = absurd (none-ne-some x e)
some_within (y ∷ l) zero x e = omega arith
some_within (y ∷ l) (suc k) x e = omega (arith, some_within l k x e)

-- An entry of a list that is made from another.
pub entry_made : {A B : Type 0} (f : A → B) (l : List A) (r : List B) (k : ℕ) (y : B) → k < length l → get_elem? (map f l ++ r) k ≡ some y → (x : A) × (get_elem? l k ≡ some x) × (f x ≡ y)
entry_made f l r k y h e = getElem?_unmap f l k y (sym (entry_first (map f l) r k (omega (arith, length-map l f))) ∙ e)

pub entry_behind : {A B : Type 0} (f : A → B) (l : List A) (r : List B) (k j : ℕ) → k ≡ length l + j → get_elem? (map f l ++ r) k ≡ get_elem? r j
entry_behind f l r k j h =
    let e : k ≡ length (map f l) + j = omega (arith, length-map l f) in
    ap (get_elem? (map f l ++ r)) e ∙ entry_rest (map f l) r j

-- ── the k-th that passes a test ──

-- Entry k of o is the entry of xs at the place found (`at`); or o has no entry k, and `beyond` has k less o's length.
abbrev pub Seen : {A : Type 0} → List A → List A → ℕ → Sought → Type 0
Seen xs o k (at i) = (get_elem? xs i ≡ get_elem? o k) × (k < length o)
Seen xs o k (beyond j) = k ≡ length o + j

seen_skip : {A : Type 0} (y : A) (xs o : List A) (k : ℕ) (s : Sought) → Seen xs o k s → Seen (y ∷ xs) o k (one_on s)
seen_skip y xs o k (at i) h = h
seen_skip y xs o k (beyond j) h = h

seen_pass : {A : Type 0} (y : A) (xs o : List A) (k : ℕ) (s : Sought) → Seen xs o k s → Seen (y ∷ xs) (y ∷ o) (suc k) (one_on s)
seen_pass y xs o k (at i) h = (h.0, omega arith)
seen_pass y xs o k (beyond j) h = omega arith

seen_step : {A : Type 0} (b : Bool) (y : A) (xs o : List A) (f : ℕ → Sought) → ((k : ℕ) → Seen xs o k (f k)) → (k : ℕ)
    → Seen (y ∷ xs) (cond b (y ∷ o) o) k (pick b (pick (eqb k 0) (at 0) (one_on (f (k - 1)))) (one_on (f k)))
seen_step false y xs o f h k = seen_skip y xs o k (f k) (h k)
seen_step true y xs o f h zero = (refl, omega arith)
seen_step true y xs o f h (suc k) = let e : suc k - 1 ≡ k = omega arith in rw (eqb-suc-zero k, e) (seen_pass y xs o k (f k) (h k))

-- The test on numbers is the test on the entries.
pub seek_seen : {A : Type 0} (c : A → ℕ) (p : ℕ → Bool) (q : A → Bool) (xs : List A) → ((i : ℕ) (x : A) → get_elem? xs i ≡ some x → p (c x) ≡ q x) → (k : ℕ)
    → Seen xs (filter q xs) k (seek p (map c xs) k)
unfolding seek
seek_seen c p q [] h k = omega arith
seek_seen c p q (y ∷ xs) h k =
    rw (h zero y refl) (seen_step (q y) y xs (filter q xs) (seek p (map c xs)) (λ j. seek_seen c p q xs (λ i x e. h (suc i) x e) j) k)

-- ── the k-th pair ──

module _ {A : Type 0} (c : A → ℕ) (inside : A → Bool) (same : A → A → Bool) (made : A → A → A) where
  abbrev pub row : List A → A → List A
  row ys x = map (made x) (filter (λ y. inside x && same x y) ys)

  -- v is made of the entries at the places found, those on the left counted from n on.
  abbrev pub Paired : List A → List A → ℕ → A → Sides → Type 0
  Paired xs ys n v (left_alone i) = ⊥
  Paired xs ys n v (right_alone j) = ⊥
  Paired xs ys n v (together i j) = (m : ℕ) × (u : A) × (w : A) × (i ≡ n + m) × (get_elem? xs m ≡ some u) × (get_elem? ys j ≡ some w) × (made u w ≡ v)
  Paired xs ys n v nowhere = ⊥

  paired_later : (x : A) (xs ys : List A) (n : ℕ) (v : A) (s : Sides) → Paired xs ys (suc n) v s → Paired (x ∷ xs) ys n v s
  paired_later x xs ys n v (left_alone i) h = h
  paired_later x xs ys n v (right_alone j) h = h
  paired_later x xs ys n v (together i j) h = (suc h.0, h.1, h.2, omega (arith, h.3), h.4, h.5, h.6)
  paired_later x xs ys n v nowhere h = h

  paired_here : (x : A) (xs ys : List A) (r : List A) (n k : ℕ) (v : A) (s : Sought) (go : ℕ → Sides)
      → Seen ys (filter (same x) ys) k s → ((j : ℕ) → get_elem? r j ≡ some v → Paired xs ys (suc n) v (go j))
      → get_elem? (map (made x) (filter (same x) ys) ++ r) k ≡ some v → Paired (x ∷ xs) ys n v (pair_from n s go)
  paired_here x xs ys r n k v (at j) go h ih e =
      let w = entry_made (made x) (filter (same x) ys) r k v h.1 e in
      (0, x, w.0, omega arith, refl, h.0 ∙ w.1, w.2)
  paired_here x xs ys r n k v (beyond j) go h ih e =
      paired_later x xs ys n v (go j) (ih j (sym (entry_behind (made x) (filter (same x) ys) r k j h) ∙ e))

  paired_step : (b : Bool) (x : A) (xs ys : List A) (r : List A) (n k : ℕ) (v : A) (s : Sought) (go : ℕ → Sides)
      → Seen ys (filter (same x) ys) k s → ((j : ℕ) → get_elem? r j ≡ some v → Paired xs ys (suc n) v (go j))
      → get_elem? (map (made x) (filter (λ y. b && same x y) ys) ++ r) k ≡ some v → Paired (x ∷ xs) ys n v (pick b (pair_from n s go) (go k))
  paired_step true x xs ys r n k v s go h ih e = paired_here x xs ys r n k v s go h ih e
  paired_step false x xs ys r n k v s go h ih e =
      paired_later x xs ys n v (go k) (ih k (subst (λ l. get_elem? (map (made x) l ++ r) k ≡ some v) (filter_none (λ y. false) (λ y. refl) ys) e))

  pub pair_seen : (q : ℕ → Bool) (xs ys : List A) → ((i : ℕ) (x : A) → get_elem? xs i ≡ some x → q (c x) ≡ inside x)
      → ((i j : ℕ) (x y : A) → get_elem? xs i ≡ some x → get_elem? ys j ≡ some y → eqb (c x) (c y) ≡ same x y)
      → (n k : ℕ) (v : A) → get_elem? (concat_map (row ys) xs) k ≡ some v → Paired xs ys n v (seek_pair q n (map c xs) (map c ys) k)
  unfolding seek_pair
  pair_seen q [] ys h s n k v e = absurd (none-ne-some v e)
  pair_seen q (x ∷ xs) ys h s n k v e =
      rw (h zero x refl)
      (paired_step (inside x) x xs ys (concat_map (row ys) xs) n k v (seek (eqb (c x)) (map c ys) k) (seek_pair q (suc n) (map c xs) (map c ys))
      (seek_seen c (eqb (c x)) (same x) ys (λ j y f. s zero j x y refl f) k)
      (λ j f. pair_seen q xs ys (λ i z g. h (suc i) z g) (λ i l z y g f. s (suc i) l z y g f) (suc n) j v f) e)
