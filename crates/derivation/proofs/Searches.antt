-- Searching numbers step by step, as the loops do it: what is left of a list is searched from the place at which the loop is.
use mathlib.Core.Path.{◌≡◌, sym, ap, ◌∙◌}
use mathlib.Core.Bool.{Bool, true, false, cond}
use mathlib.Core.List.{List}
use Prim.Native.Nat.{ℕ, ◌+◌, ◌-◌, ◌≤◌, ◌<◌}
use lib.Dec.{eqb}
use lib.ListN.{length, drop, get_or}
use borrow.Author.Tests.{eq-eqb, ne_eqb}
use Rattle.std.specs.Prelude.{Result, Ok, Err}
use Rattle.std.proofs.lemmas.List.{at_drop_all, at_drop_more}
use Rattle.derivation.specs.Searching.{nth_place, pair_or, nth_pair}

pub search_end : (q : ℕ → Bool) (i k : ℕ) (x : List ℕ) → length x ≤ i → nth_place q i (drop i x) k ≡ Err k
unfolding nth_place
search_end q i k x h = at_drop_all (λ xs. nth_place q i xs k) x i h

pub pairs_end : (p : ℕ → Bool) (i k : ℕ) (x ys : List ℕ) → length x ≤ i → nth_pair p i (drop i x) ys k ≡ Err k
unfolding nth_pair
pairs_end p i k x ys h = at_drop_all (λ xs. nth_pair p i xs ys k) x i h

module _ (i : ℕ) (x : List ℕ) (h : i < length x) where
  module _ (q : ℕ → Bool) (k : ℕ) where
    opened : (b : Bool) → b ≡ q (get_or x i 0) → nth_place q i (drop i x) k ≡ cond b (cond (eqb k 0) (Ok i) (nth_place q (i + 1) (drop (i + 1) x) (k - 1))) (nth_place q (i + 1) (drop (i + 1) x) k)
    unfolding nth_place
    opened b e = at_drop_more (λ xs. nth_place q i xs k) x i 0 h ∙ ap (λ b. cond b (cond (eqb k 0) (Ok i) (nth_place q (i + 1) (drop (i + 1) x) (k - 1))) (nth_place q (i + 1) (drop (i + 1) x) k)) (sym e)

    pub search_skip : false ≡ q (get_or x i 0) → nth_place q i (drop i x) k ≡ nth_place q (i + 1) (drop (i + 1) x) k
    search_skip e = opened false e

    pub search_here : true ≡ q (get_or x i 0) → k ≡ 0 → nth_place q i (drop i x) k ≡ Ok i
    search_here e z = opened true e ∙ ap (λ b. cond b (Ok i) (nth_place q (i + 1) (drop (i + 1) x) (k - 1))) (eq-eqb k 0 z)

    pub search_pass : true ≡ q (get_or x i 0) → (k ≡ 0 → ⊥) → nth_place q i (drop i x) k ≡ nth_place q (i + 1) (drop (i + 1) x) (k - 1)
    search_pass e z = opened true e ∙ ap (λ b. cond b (Ok i) (nth_place q (i + 1) (drop (i + 1) x) (k - 1))) (ne_eqb k 0 z)

  module _ (p : ℕ → Bool) (ys : List ℕ) (k : ℕ) where
    abbrev rows : ℕ → Result (ℕ × ℕ) ℕ
    rows j = nth_pair p (i + 1) (drop (i + 1) x) ys j

    pairs_opened : (b : Bool) → b ≡ p (get_or x i 0) → nth_pair p i (drop i x) ys k ≡ cond b (pair_or i (nth_place (eqb (get_or x i 0)) 0 ys k) rows) (rows k)
    unfolding nth_pair
    pairs_opened b e = at_drop_more (λ xs. nth_pair p i xs ys k) x i 0 h ∙ ap (λ b. cond b (pair_or i (nth_place (eqb (get_or x i 0)) 0 ys k) rows) (rows k)) (sym e)

    pub pairs_skip : false ≡ p (get_or x i 0) → nth_pair p i (drop i x) ys k ≡ rows k
    pairs_skip e = pairs_opened false e

    module _ (e : true ≡ p (get_or x i 0)) where
      pairs_in : (s : Result ℕ ℕ) → s ≡ nth_place (eqb (get_or x i 0)) 0 ys k → nth_pair p i (drop i x) ys k ≡ pair_or i s rows
      pairs_in s f = pairs_opened true e ∙ ap (λ n. pair_or i n rows) (sym f)

      pub pairs_here : (j : ℕ) → Ok j ≡ nth_place (eqb (get_or x i 0)) 0 ys k → nth_pair p i (drop i x) ys k ≡ Ok (i, j)
      pairs_here j f = pairs_in (Ok j) f

      pub pairs_pass : (j : ℕ) → Err j ≡ nth_place (eqb (get_or x i 0)) 0 ys k → nth_pair p i (drop i x) ys k ≡ rows j
      pairs_pass j f = pairs_in (Err j) f
