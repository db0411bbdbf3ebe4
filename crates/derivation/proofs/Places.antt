-- What the searches find, said of `seek` and `seek_pair` and of the numbers that a parallel combines.
use mathlib.Core.Path.{◌≡◌, refl, sym, ap, ◌∙◌, subst}
use mathlib.Core.Bool.{Bool, true, false, cond}
use mathlib.Core.List.{List, [], ◌∷◌, ◌++◌}
use Prim.Native.Nat.{ℕ, suc, ◌+◌, ◌-◌, ◌<◌}
use native.Mathlib.Omega.{arith}
use lib.Dec.{eqb}
use lib.ListN.{length, length-append}
use borrow.Author.Tests.{eqb-true, eqb-false}
use Rattle.std.specs.Prelude.{Result, Ok, Err}
use Rattle.eb3.specs.Generic.Lists.{filter}
use Rattle.eb3.specs.Reading.{pick}
use Rattle.listing.specs.Combining.{equal_to, pairs}
use Rattle.listing.specs.Laws.Codes.{turned}
use Rattle.paths.specs.Paths.{Sought, at, beyond, one_on, seek, Sides, together, pair_from, seek_pair}
use Rattle.derivation.specs.Searching.{nth_place, pair_or, nth_pair}

-- ── one list ──

-- r is the answer s of a search in a list of `size` numbers, the first at place i, of which `count` pass: `at j` is the place i + j.
pub data Placed (i size count k : ℕ) (r : Result ℕ ℕ) (s : Sought) : Type 0 where
  here : (j : ℕ) → r ≡ Ok (i + j) → j < size → s ≡ at j → k < count → Placed i size count k r s
  past : (j : ℕ) → r ≡ Err j → s ≡ beyond j → k ≡ count + j → Placed i size count k r s

on_right : (i j : ℕ) {r : Result ℕ ℕ} → r ≡ Ok (i + 1 + j) → r ≡ Ok (i + suc j)
on_right i j e = let q : i + 1 + j ≡ i + suc j = omega arith in e ∙ ap Ok q

one_skipped : {i size count k : ℕ} {r : Result ℕ ℕ} {s : Sought} → Placed (i + 1) size count k r s → Placed i (suc size) count k r (one_on s)
one_skipped {i} (here j e l f g) = here (suc j) (on_right i j e) (omega arith) (ap one_on f) g
one_skipped (past j e f g) = past j e (ap one_on f) g

one_passed : {i size count k : ℕ} {r : Result ℕ ℕ} {s : Sought} → (k ≡ 0 → ⊥) → Placed (i + 1) size count (k - 1) r s → Placed i (suc size) (suc count) k r (one_on s)
one_passed {i} z (here j e l f g) = here (suc j) (on_right i j e) (omega arith) (ap one_on f) (omega arith)
one_passed z (past j e f g) = past j e (ap one_on f) (omega arith)

module _ (q : ℕ → Bool) where
  placed_step : (b z : Bool) (x i k : ℕ) (r t : Result ℕ ℕ) (xs : List ℕ) (u v : Sought) → eqb k 0 ≡ z → Placed (i + 1) (length xs) (length (filter q xs)) (k - 1) r u → Placed (i + 1) (length xs) (length (filter q xs)) k t v
      → Placed i (suc (length xs)) (length (cond b (x ∷ filter q xs) (filter q xs))) k (cond b (cond z (Ok i) r) t) (pick b (pick z (at 0) (one_on u)) (one_on v))
  placed_step true true x i k r t xs u v e f g = let q : i ≡ i + 0 = omega arith in here 0 (ap Ok q) (omega arith) refl (omega (arith, eqb-true k 0 e))
  placed_step true false x i k r t xs u v e f g = one_passed (eqb-false k 0 e) f
  placed_step false z x i k r t xs u v e f g = one_skipped g

  pub placed : (i : ℕ) (xs : List ℕ) (k : ℕ) → Placed i (length xs) (length (filter q xs)) k (nth_place q i xs k) (seek q xs k)
  unfolding nth_place seek
  placed i [] k = past k refl refl (omega arith)
  placed i (x ∷ xs) k =
      placed_step (q x) (eqb k 0) x i k (nth_place q (i + 1) xs (k - 1)) (nth_place q (i + 1) xs k) xs (seek q xs (k - 1)) (seek q xs k) refl (placed (i + 1) xs (k - 1)) (placed (i + 1) xs k)

-- ── pairs ──

length_either : (b : Bool) (x y : ℕ) (o u : List ℕ) → length o ≡ length u → length (cond b (x ∷ o) o) ≡ length (cond b (y ∷ u) u)
length_either true x y o u e = ap suc e
length_either false x y o u e = e

length_equal : (a : ℕ) (ys : List ℕ) → length (equal_to a ys) ≡ length (filter (eqb a) ys)
unfolding equal_to
length_equal a [] = refl
length_equal a (y ∷ ys) =
    ap (λ b. length (cond b (a ∷ equal_to a ys) (equal_to a ys))) (turned y a) ∙ length_either (eqb a y) a y (equal_to a ys) (filter (eqb a) ys) (length_equal a ys)

-- r is the answer s of a search in two lists, the left's first at place i, with `count` pairs.
pub data PairPlaced (i m n count k : ℕ) (r : Result (ℕ × ℕ) ℕ) (s : Sides) : Type 0 where
  pair_here : (a j : ℕ) → r ≡ Ok (i + a, j) → a < m → j < n → s ≡ together (i + a) j → k < count → PairPlaced i m n count k r s
  pair_past : (j : ℕ) → r ≡ Err j → k ≡ count + j → PairPlaced i m n count k r s

pair_later : {i m n count k : ℕ} {r : Result (ℕ × ℕ) ℕ} {s : Sides} (f j : ℕ) → k ≡ f + j → PairPlaced (i + 1) m n count j r s → PairPlaced i (suc m) n (f + count) k r s
pair_later {i} {m} {n} {count} {k} {r} {s} f j h (pair_here a b e l o g z) =
    let q : i + 1 + a ≡ i + suc a = omega arith in
    pair_here (suc a) b (e ∙ ap (λ x. Ok (x, b)) q) (omega arith) o (g ∙ ap (λ x. together x b) q) (omega arith)
pair_later f j h (pair_past b e g) = pair_past b e (omega arith)

module _ (p : ℕ → Bool) (ys : List ℕ) where
  pair_row : {i m count k : ℕ} {r : Result ℕ ℕ} {s : Sought} (f : ℕ) (go : ℕ → Result (ℕ × ℕ) ℕ) (go' : ℕ → Sides) → Placed 0 (length ys) f k r s
      → ((j : ℕ) → PairPlaced (i + 1) m (length ys) count j (go j) (go' j)) → PairPlaced i (suc m) (length ys) (f + count) k (pair_or i r go) (pair_from i s go')
  pair_row {i} {m} {count} {k} {r} {s} f go go' (here j e l g z) ih =
      let q : i ≡ i + 0 = omega arith in
      let d : 0 + j ≡ j = omega arith in
      pair_here 0 j (ap (λ t. pair_or i t go) (e ∙ ap Ok d) ∙ ap (λ x. Ok (x, j)) q) (omega arith) l (ap (λ t. pair_from i t go') g ∙ ap (λ x. together x j) q) (omega arith)
  pair_row {i} {m} {count} {k} {r} {s} f go go' (past j e g z) ih =
      let a : pair_or i r go ≡ go j = ap (λ t. pair_or i t go) e in
      let b : pair_from i s go' ≡ go' j = ap (λ t. pair_from i t go') g in
      subst (λ x. PairPlaced i (suc m) (length ys) (f + count) k x (pair_from i s go')) (sym a)
      (subst (λ x. PairPlaced i (suc m) (length ys) (f + count) k (go j) x) (sym b) (pair_later f j z (ih j)))

  pair_step : {i m count k : ℕ} (b : Bool) (x : ℕ) (go : ℕ → Result (ℕ × ℕ) ℕ) (go' : ℕ → Sides) (o : List ℕ) → length o ≡ count
      → ((j : ℕ) → PairPlaced (i + 1) m (length ys) count j (go j) (go' j))
      → PairPlaced i (suc m) (length ys) (length (cond b (equal_to x ys) [] ++ o)) k (cond b (pair_or i (nth_place (eqb x) 0 ys k) go) (go k)) (pick b (pair_from i (seek (eqb x) ys k) go') (go' k))
  pair_step {i} {m} {count} {k} true x go go' o e ih =
      let q : length (filter (eqb x) ys) + count ≡ length (equal_to x ys ++ o) = omega (arith, length-append (equal_to x ys) o, length_equal x ys) in
      subst (λ n. PairPlaced i (suc m) (length ys) n k (pair_or i (nth_place (eqb x) 0 ys k) go) (pair_from i (seek (eqb x) ys k) go')) q
      (pair_row (length (filter (eqb x) ys)) go go' (placed (eqb x) 0 ys k) ih)
  pair_step {i} {m} {count} {k} false x go go' o e ih =
      let q : 0 + count ≡ length o = omega arith in
      subst (λ n. PairPlaced i (suc m) (length ys) n k (go k) (go' k)) q (pair_later 0 k (omega arith) (ih k))

  pub pair_placed : (i : ℕ) (xs : List ℕ) (k : ℕ) → PairPlaced i (length xs) (length ys) (length (pairs p xs ys)) k (nth_pair p i xs ys k) (seek_pair p i xs ys k)
  unfolding nth_pair seek_pair pairs
  pair_placed i [] k = pair_past k refl (omega arith)
  pair_placed i (x ∷ xs) k =
      let s : suc i ≡ i + 1 = omega arith in
      rw s (pair_step (p x) x (nth_pair p (i + 1) xs ys) (seek_pair p (i + 1) xs ys) (pairs p xs ys) refl (λ j. pair_placed (i + 1) xs j))
