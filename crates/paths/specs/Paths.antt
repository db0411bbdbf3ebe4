-- A derivation of the memory semantics written down as words: the decisions on the way from the root of a term to what moves (document 01, "Moves, in
-- order"; source 000, figure 6). A choice: 0 left, 1 right. A star: 0 it ends, 1 a round. A parallel: 0 both sides are done, 1 the left moves alone, 2 the
-- right alone, 3 both together, the left's path first. A sequence and a guard have no word. Where the way goes on in the right operand, the left operand's
-- size follows the decision, so that a follower need not look for the left operand's end. `path` is move k's; `follow` leads along any words: it returns the
-- action, the successor, and the rest of the words.
use Rattle.std.specs.Prelude.{Bool, true, not, ◌&&◌, cond, List, [], ◌∷◌, ◌++◌, map, ℕ, suc, ◌+◌, ◌-◌, eqb, ltb, length, drop, get_or}
use Rattle.std.specs.Int.Bits.{bit_or}
use Rattle.eb3.specs.Generic.Lists.{filter}
use Rattle.eb3.specs.Expressions.{Cond}
use Rattle.eb3.specs.Terms.{Term, Done, Internal, Perform, Sequence, Choice, Star, Parallel, Guard, Action, internal, visible, done?}
use Rattle.eb3.specs.Moves.{Move, moves}
use Rattle.eb3.specs.Reading.{pick}
use Rattle.eb3.specs.Sizes.{size, breadth}
use Rattle.actions.specs.Codes.{action_code}
use Rattle.actions.specs.Sets.{in_set, mask_set, has_all}

-- ── which sides of a parallel make move k ──

-- A place in a list, or how many are still to pass.
pub data Sought : Type 0 where
  at : ℕ → Sought
  beyond : ℕ → Sought

abbrev pub one_on : Sought → Sought
one_on (at i) = at (suc i)
one_on (beyond k) = beyond k

-- The k-th entry that passes a test.
unfoldable pub seek : (ℕ → Bool) → List ℕ → ℕ → Sought
seek p [] k = beyond k
seek p (x ∷ xs) k = pick (p x) (pick (eqb k 0) (at 0) (one_on (seek p xs (k - 1)))) (one_on (seek p xs k))

pub data Sides : Type 0 where
  left_alone : ℕ → Sides
  right_alone : ℕ → Sides
  together : ℕ → ℕ → Sides
  nowhere : Sides

-- The k-th pair of equal actions that may move together, ordered by left, then right; i is the place of the first left one.
abbrev pub pair_from : ℕ → Sought → (ℕ → Sides) → Sides
pair_from i (at j) go = together i j
pair_from i (beyond k) go = go k

unfoldable pub seek_pair : (ℕ → Bool) → ℕ → List ℕ → List ℕ → ℕ → Sides
seek_pair q i [] ys k = nowhere
seek_pair q i (x ∷ xs) ys k = pick (q x) (pair_from i (seek (eqb x) ys k) (seek_pair q (suc i) xs ys)) (seek_pair q (suc i) xs ys k)

-- Of the actions' numbers xs of the left side and ys of the right: left's that may move alone, by the test p, right's likewise, then pairs, by the test q.
abbrev pub or_right : (ℕ → Bool) → List ℕ → List ℕ → Sought → Sides
or_right q xs ys (at j) = right_alone j
or_right q xs ys (beyond k) = seek_pair q 0 xs ys k

abbrev pub or_left : (ℕ → Bool) → (ℕ → Bool) → List ℕ → List ℕ → Sought → Sides
or_left p q xs ys (at i) = left_alone i
or_left p q xs ys (beyond k) = or_right q xs ys (seek p ys k)

unfoldable pub locate : (ℕ → Bool) → (ℕ → Bool) → List ℕ → List ℕ → ℕ → Sides
locate p q xs ys k = or_left p q xs ys (seek p xs k)

-- At a parallel whose mask is the set δ, below masks that hide the labels of x: a side moves alone outside both, both move together inside δ, outside x.
abbrev pub alone : ℕ → ℕ → ℕ → Bool
alone x δ c = not (in_set (bit_or x δ) c)

abbrev pub paired : ℕ → ℕ → ℕ → Bool
paired x δ c = in_set δ c && not (in_set x c)

-- ── the path of move k ──

-- Below masks that hide the labels of x, the moves that show.
abbrev pub shown? : ℕ → Move → Bool
shown? x m = not (in_set x (action_code m.action))

unfoldable pub shown : ℕ → (Cond → Bool) → Term → List Move
shown x g E = filter (shown? x) (moves g E)

abbrev pub numbers : (Cond → Bool) → Term → List ℕ
numbers g E = map (λ (x : Move). action_code x.action) (moves g E)

-- A term that can never move: breadth 0.
abbrev pub idle : Term → Bool
idle E = eqb (breadth E) 0

abbrev pub path_by : ℕ → (ℕ → List ℕ) → (ℕ → List ℕ) → Sides → List ℕ
path_by n l r (left_alone i) = 1 ∷ l i
path_by n l r (right_alone j) = 2 ∷ n ∷ r j
path_by n l r (together i j) = 3 ∷ n ∷ (l i ++ r j)
path_by n l r nowhere = []

-- Two operands, the second's moves after the first's: c is the decision for the first, whose size is n and of whose moves m show.
abbrev pub path_in_turn : ℕ → ℕ → ℕ → (ℕ → List ℕ) → (ℕ → List ℕ) → ℕ → List ℕ
path_in_turn c n m l r k = pick (ltb k m) (c ∷ l k) ((c + 1) ∷ n ∷ r (k - m))

-- A constant has `width` words; sizes are counted in words.
module _ (width : ℕ) where
  -- Of the k-th move that shows below masks that hide the labels of x. At a parallel whose mask hides more, and one of whose sides can never move, the other
  -- side's moves are those that show below that mask too.
  unfoldable pub path : ℕ → (Cond → Bool) → Term → ℕ → List ℕ
  path x g Done k = []
  path x g Internal k = []
  path x g (Perform a) k = []
  path x g (Sequence E F) k = cond (done? E) (path x g F k) (path x g E k)
  path x g (Choice E F) k = path_in_turn 0 (size width E) (length (shown x g E)) (path x g E) (path x g F) k
  path x g (Star E) k = pick (eqb k 0) (0 ∷ []) (1 ∷ path x g E (k - 1))
  path x g (Parallel Δ E F) k =
      cond (done? E && done? F) (0 ∷ [])
      (cond (has_all x (mask_set Δ)) (path_in_turn 1 (size width E) (length (shown x g E)) (path x g E) (path x g F) k)
      (cond (idle E) (2 ∷ size width E ∷ path (bit_or x (mask_set Δ)) g F k)
      (cond (idle F) (1 ∷ path (bit_or x (mask_set Δ)) g E k)
      (path_by (size width E) (path 0 g E) (path 0 g F) (locate (alone x (mask_set Δ)) (paired x (mask_set Δ)) (numbers g E) (numbers g F) k)))))
  path x g (Guard C E) k = path x g E k

-- ── where a path leads ──

-- The action, the successor, and the rest of the path.
pub record Followed : Type 0 where
  pub action : Action
  pub successor : Term
  pub rest : List ℕ

abbrev pub followed : Action → Term → List ℕ → Followed
followed ρ E p = record { action = ρ; successor = E; rest = p }

abbrev pub decision : List ℕ → ℕ
decision p = get_or p 0 0

-- The successor put into its place.
abbrev pub within : (Term → Term) → Followed → Followed
within f x = followed x.action (f x.successor) x.rest

unfoldable pub follow : Term → List ℕ → Followed
follow Done p = followed internal Done p
follow Internal p = followed internal Done p
follow (Perform a) p = followed (visible a) Done p
follow (Sequence E F) p = cond (done? E) (follow F p) (within (λ x. Sequence x F) (follow E p))
follow (Choice E F) p = pick (eqb (decision p) 0) (follow E (drop 1 p)) (follow F (drop 2 p))
follow (Star E) p = pick (eqb (decision p) 0) (followed internal Done (drop 1 p)) (within (λ x. Sequence x (Star E)) (follow E (drop 1 p)))
follow (Parallel Δ E F) p =
    pick (eqb (decision p) 0) (followed internal Done (drop 1 p))
    (pick (eqb (decision p) 1) (within (λ x. Parallel Δ x F) (follow E (drop 1 p)))
    (pick (eqb (decision p) 2) (within (λ y. Parallel Δ E y) (follow F (drop 2 p)))
    (followed (follow E (drop 2 p)).action (Parallel Δ (follow E (drop 2 p)).successor (follow F (follow E (drop 2 p)).rest).successor) (follow F (follow E (drop 2 p)).rest).rest)))
follow (Guard C E) p = follow E p

module _ (width : ℕ) where
  -- Each size on the way is the left operand's.
  unfoldable pub marked : Term → List ℕ → Bool
  marked Done p = true
  marked Internal p = true
  marked (Perform a) p = true
  marked (Sequence E F) p = cond (done? E) (marked F p) (marked E p)
  marked (Choice E F) p = pick (eqb (decision p) 0) (marked E (drop 1 p)) (eqb (get_or p 1 0) (size width E) && marked F (drop 2 p))
  marked (Star E) p = pick (eqb (decision p) 0) true (marked E (drop 1 p))
  marked (Parallel Δ E F) p =
      pick (eqb (decision p) 0) true
      (pick (eqb (decision p) 1) (marked E (drop 1 p))
      (pick (eqb (decision p) 2) (eqb (get_or p 1 0) (size width E) && marked F (drop 2 p))
      (eqb (get_or p 1 0) (size width E) && (marked E (drop 2 p) && marked F (follow E (drop 2 p)).rest))))
  marked (Guard C E) p = marked E p
