-- Searching both sides' numbers for the sides that make move k of a parallel (document 01, "Moves, in order"), as loops do it: the answer is a place, or how
-- much of k is left.
use Rattle.std.specs.Prelude.{◌≡◌, Bool, cond, List, [], ◌∷◌, ◌++◌, ℕ, ◌+◌, ◌-◌, ◌≤◌, ◌<◌, eqb, length, Result, Ok, Err}
use Rattle.std.specs.Int.Bits.{bit_or}
use Rattle.actions.specs.Sets.{in_set}
use Rattle.listing.specs.Combining.{outside, pairs}
use Rattle.paths.specs.Paths.{Sides, left_alone, right_alone, together, nowhere, alone, paired, locate}
use Rattle.derivation.specs.declared.located.Located.{Located}
use Rattle.derivation.specs.declared.located.Located.TheVariants.{Left, Right, Both, Passed}

-- The k-th that passes a test; i is the place of the first.
unfoldable pub nth_place : (ℕ → Bool) → ℕ → List ℕ → ℕ → Result ℕ ℕ
nth_place q i [] k = Err k
nth_place q i (x ∷ xs) k = cond (q x) (cond (eqb k 0) (Ok i) (nth_place q (i + 1) xs (k - 1))) (nth_place q (i + 1) xs k)

abbrev pub pair_or : ℕ → Result ℕ ℕ → (ℕ → Result (ℕ × ℕ) ℕ) → Result (ℕ × ℕ) ℕ
pair_or i (Ok j) go = Ok (i, j)
pair_or i (Err k) go = go k

-- The k-th pair of equal numbers that pass a test, ordered by left, then right; i is the place of the first left one.
unfoldable pub nth_pair : (ℕ → Bool) → ℕ → List ℕ → List ℕ → ℕ → Result (ℕ × ℕ) ℕ
nth_pair p i [] ys k = Err k
nth_pair p i (x ∷ xs) ys k = cond (p x) (pair_or i (nth_place (eqb x) 0 ys k) (nth_pair p (i + 1) xs ys)) (nth_pair p (i + 1) xs ys k)

-- The sides are among m moves on the left, n on the right.
abbrev pub Within : ℕ → ℕ → Sides → Type 0
Within m n (left_alone i) = i < m
Within m n (right_alone j) = j < n
Within m n (together i j) = (i < m) × (j < n)
Within m n nowhere = ⊥

-- The numbers of a parallel's moves that show below masks with the labels of x, made of both sides' numbers; δ is the mask's set.
unfoldable pub shown_combined : ℕ → ℕ → List ℕ → List ℕ → List ℕ
shown_combined x δ xs ys = outside (in_set (bit_or x δ)) xs ++ (outside (in_set (bit_or x δ)) ys ++ pairs (paired x δ) xs ys)

-- w are the sides of move k, which shows.
pub record SidesAre (x δ : ℕ) (xs ys : List ℕ) (k : ℕ) (w : Sides) : Type 0 where
  pub shows : k < length (shown_combined x δ xs ys)
  pub within : Within (length xs) (length ys) w
  pub located : locate (alone x δ) (paired x δ) xs ys k ≡ w

-- The sides of move k, or how much of k is left once the moves that show are counted off.
abbrev pub LocatedBy : ℕ → ℕ → List ℕ → List ℕ → ℕ → Located → Type 0
LocatedBy x δ xs ys k (Left i) = SidesAre x δ xs ys k (left_alone i)
LocatedBy x δ xs ys k (Right j) = SidesAre x δ xs ys k (right_alone j)
LocatedBy x δ xs ys k (Both i j) = SidesAre x δ xs ys k (together i j)
LocatedBy x δ xs ys k (Passed due) = k ≡ length (shown_combined x δ xs ys) + due

-- ── the bounds of these answers ──

-- A place is one in a list of n numbers; no more than k is left of k.
abbrev pub InList : ℕ → ℕ → Result ℕ ℕ → Type 0
InList n k (Ok i) = i < n
InList n k (Err r) = r ≤ k

-- The places are in lists of m and of n numbers.
abbrev pub InLists : ℕ → ℕ → ℕ → Result (ℕ × ℕ) ℕ → Type 0
InLists m n k (Ok p) = (p.0 < m) × (p.1 < n)
InLists m n k (Err r) = r ≤ k

-- Each place is one in a list of at most 131,072 numbers, and so is a number's rest.
abbrev pub InSides : Located → Type 0
InSides (Left i) = i < 131072
InSides (Right j) = j < 131072
InSides (Both i j) = (i < 131072) × (j < 131072)
InSides (Passed k) = k < 131072
