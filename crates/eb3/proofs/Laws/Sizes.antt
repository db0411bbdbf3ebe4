-- Size, reach and breadth: no move enlarges reach or breadth, and a term has at most W moves (document 01, "Unfolding, size and breadth").
use Rattle.std.specs.Prelude.{◌≡◌, refl, Bool, ◌&&◌, cond, ℕ, zero, suc, ◌+◌, ◌*◌, ◌≤◌, ◌/◌, eqb, get_or}
use Rattle.std.proofs.Math.Path.{ap}
use Rattle.std.proofs.Common.{◌∙◌, subst, sym, eqb→eq, length-append}
use Rattle.std.proofs.Math.Bool.{true, false}
use mathlib.Core.List.{List, [], ◌∷◌, ◌++◌, map}
use Rattle.std.proofs.Math.Option.{some}
use native.Mathlib.Omega.{arith}
use Rattle.std.proofs.Math.Nat.{mul-le-mul, zero-div}
use Rattle.std.proofs.Math.Dec.{T}
use Rattle.std.proofs.Math.ListN.{length, length-map, get_elem?}
use Rattle.eb3.specs.Generic.Booleans.{T_fst, T_snd}
use Rattle.eb3.specs.Generic.Lists.{filter, concat_map}
use Rattle.eb3.specs.Expressions.{Cond}
use Rattle.eb3.specs.Terms.{Term, Done, Internal, Perform, Sequence, Choice, Star, Parallel, Guard, Action, internal, visible, Mask, in_mask, bit, done?, same_action}
use Rattle.eb3.specs.Moves.{Move, move, moves, sequenced, synchronised, outside_mask?, synchronise?, parallel_moves}
use Rattle.eb3.specs.Derivations.{DataState, Step, S_1, S_1', S_2, S_3, S_4_left, S_4_right, S_5, S_6, S_7, S_8, S_9_left, S_9_right, S_10}
use Rattle.eb3.specs.TransitionSystems.{run}
use Rattle.eb3.specs.Semantics.{system}
use Rattle.eb3.proofs.Laws.Semantics.{move_stepped}
use Rattle.eb3.specs.Machines.{Machine}
use Rattle.eb3.proofs.Laws.Machines.{steps_keep}
use Rattle.eb3.specs.Sizes.{arguments_size, size, reach, breadth, zero_mask, parallel_breadth}

-- In edition 1 an argument takes two words.
pub arguments_double : (n : ℕ) → arguments_size 1 n ≡ 2 * n
unfolding arguments_size
arguments_double zero = refl
arguments_double (suc n) = omega (arith, arguments_double n)

module _ (w : ℕ) where
  pub size_below_reach : (E : Term) → size w E ≤ reach w E
  unfolding size reach
  size_below_reach Done = omega arith
  size_below_reach Internal = omega arith
  size_below_reach (Perform a) = omega arith
  size_below_reach (Sequence E F) = let h = size_below_reach E in let k = size_below_reach F in omega arith
  size_below_reach (Choice E F) = omega arith
  size_below_reach (Star E) = let h = size_below_reach E in omega arith
  size_below_reach (Parallel k E F) = let h = size_below_reach E in let q = size_below_reach F in omega arith
  size_below_reach (Guard C E) = omega arith

  pub size_pos : (E : Term) → 1 ≤ size w E
  unfolding size
  size_pos Done = omega arith
  size_pos Internal = omega arith
  size_pos (Perform a) = omega arith
  size_pos (Sequence E F) = omega arith
  size_pos (Choice E F) = omega arith
  size_pos (Star E) = omega arith
  size_pos (Parallel k E F) = omega arith
  size_pos (Guard C E) = omega arith

  pub reach_nonincreasing : {S : DataState} {M M' : S.State} {E E' : Term} {ρ : Action} → Step S M E ρ E' M' → reach w E' ≤ reach w E
  unfolding reach size
  reach_nonincreasing S_1 = omega arith
  reach_nonincreasing S_1' = omega arith
  reach_nonincreasing (S_2 d) = let h = reach_nonincreasing d in omega arith
  reach_nonincreasing (S_3 d) = let h = reach_nonincreasing d in omega arith
  reach_nonincreasing (S_4_left d) = let h = reach_nonincreasing d in omega arith
  reach_nonincreasing (S_4_right d) = let h = reach_nonincreasing d in omega arith
  reach_nonincreasing S_5 = omega arith
  reach_nonincreasing (S_6 d) = let h = reach_nonincreasing d in omega arith
  reach_nonincreasing S_7 = omega arith
  reach_nonincreasing (S_8 h d e) = let x = reach_nonincreasing d in let y = reach_nonincreasing e in omega arith
  reach_nonincreasing (S_9_left h d) = let x = reach_nonincreasing d in omega arith
  reach_nonincreasing (S_9_right h d) = let x = reach_nonincreasing d in omega arith
  reach_nonincreasing (S_10 h d) = let x = reach_nonincreasing d in omega arith

parallel_breadth_mono : (b : Bool) (l l' r r' : ℕ) → l' ≤ l → r' ≤ r → parallel_breadth b l' r' ≤ parallel_breadth b l r
unfolding parallel_breadth
parallel_breadth_mono true l l' r r' h k = omega arith
parallel_breadth_mono false l l' r r' h k = omega (arith, mul-le-mul h k)

parallel_breadth_pos : (b : Bool) (l r : ℕ) → 1 ≤ parallel_breadth b l r
unfolding parallel_breadth
parallel_breadth_pos true l r = omega arith
parallel_breadth_pos false l r = omega arith

pub breadth_nonincreasing : {S : DataState} {M M' : S.State} {E E' : Term} {ρ : Action} → Step S M E ρ E' M' → breadth E' ≤ breadth E
unfolding breadth
breadth_nonincreasing S_1 = omega arith
breadth_nonincreasing S_1' = omega arith
breadth_nonincreasing (S_2 d) = let h = breadth_nonincreasing d in omega arith
breadth_nonincreasing (S_3 d) = let h = breadth_nonincreasing d in omega arith
breadth_nonincreasing (S_4_left d) = let h = breadth_nonincreasing d in omega arith
breadth_nonincreasing (S_4_right d) = let h = breadth_nonincreasing d in omega arith
breadth_nonincreasing S_5 = omega arith
breadth_nonincreasing (S_6 d) = let h = breadth_nonincreasing d in omega arith
breadth_nonincreasing (S_7 {Δ = Δ}) = omega arith
breadth_nonincreasing (S_8 {Δ = Δ} h d e) = parallel_breadth_mono (zero_mask Δ) _ _ _ _ (breadth_nonincreasing d) (breadth_nonincreasing e)
breadth_nonincreasing (S_9_left {Δ = Δ} h d) = parallel_breadth_mono (zero_mask Δ) _ _ _ _ (breadth_nonincreasing d) (omega arith)
breadth_nonincreasing (S_9_right {Δ = Δ} h d) = parallel_breadth_mono (zero_mask Δ) _ _ _ _ (omega arith) (breadth_nonincreasing d)
breadth_nonincreasing (S_10 h d) = breadth_nonincreasing d

-- A term has at most W moves.
length_filter : {A : Type 0} (p : A → Bool) (l : List A) → length (filter p l) ≤ length l
length_filter p [] = omega arith
length_filter p (x ∷ l) = go (p x) (length_filter p l)
  where
    go : (b : Bool) → length (filter p l) ≤ length l → length (cond b (x ∷ filter p l) (filter p l)) ≤ suc (length l)
    go true h = omega arith
    go false h = omega arith

length_concat_map : {A B : Type 0} (f : A → List B) (n : ℕ) → ((x : A) → length (f x) ≤ n) → (l : List A) → length (concat_map f l) ≤ length l * n
length_concat_map f n h [] = omega arith
length_concat_map f n h (x ∷ l) = omega (arith, length-append (f x) (concat_map f l), h x, length_concat_map f n h l)

filter_none : {A : Type 0} (p : A → Bool) → ((x : A) → p x ≡ false) → (l : List A) → filter p l ≡ []
filter_none p h [] = refl
filter_none {A} p h (x ∷ l) = ap (λ b. cond b (x ∷ filter p l) (filter p l)) (h x) ∙ filter_none p h l

concat_map_none : {A B : Type 0} (f : A → List B) → ((x : A) → f x ≡ []) → (l : List A) → concat_map f l ≡ []
concat_map_none f h [] = refl
concat_map_none f h (x ∷ l) = ap (λ r. r ++ concat_map f l) (h x) ∙ concat_map_none f h l

zero_words : (k : Mask) → T (zero_mask k) → (i : ℕ) → get_or k i 0 ≡ 0
unfolding zero_mask
zero_words [] t i = refl
zero_words (w ∷ k) t zero = eqb→eq w 0 (T_fst (eqb w 0) (zero_mask k) t)
zero_words (w ∷ k) t (suc i) = zero_words k (T_snd (eqb w 0) (zero_mask k) t) i

zero_outside : (k : Mask) → T (zero_mask k) → (a : Action) → in_mask k a ≡ false
unfolding in_mask bit
zero_outside k t internal = refl
zero_outside k t (visible a) = rw (zero_words k t (a.label / 16)) (rw zero-div refl)

module _ (k : Mask) (E F : Term) (xs ys : List Move) where
  row : Move → List Move
  row x = map (synchronised k x) (filter (synchronise? k x) ys)

  row_length : (x : Move) → length (row x) ≤ length ys
  unfolding row
  row_length x = omega (arith, length-map (filter (synchronise? k x) ys) (synchronised k x), length_filter (synchronise? k x) ys)

  sides_length : length (parallel_moves k E F xs ys) ≡ length (filter (outside_mask? k) xs) + (length (filter (outside_mask? k) ys) + length (concat_map row xs))
  unfolding row
  sides_length = simp (length-append, length-map)

  sides_bound : (l r : ℕ) → length xs ≤ l → length ys ≤ r → (b : Bool) → zero_mask k ≡ b → length (parallel_moves k E F xs ys) ≤ parallel_breadth b l r
  unfolding parallel_breadth row
  sides_bound l r h q true e =
      let z : concat_map row xs ≡ [] = concat_map_none row (λ x. ap (map (synchronised k x)) (filter_none (synchronise? k x) (λ y. ap (λ b. b && same_action x.action y.action) (zero_outside k (subst T (sym e) tt) x.action)) ys)) xs in
      omega (arith, sides_length, length_filter (outside_mask? k) xs, length_filter (outside_mask? k) ys, ap length z)
  sides_bound l r h q false e =
      omega (arith, sides_length, length_filter (outside_mask? k) xs, length_filter (outside_mask? k) ys, length_concat_map row (length ys) row_length xs, mul-le-mul h q)

either_length : (n : ℕ) (b : Bool) (xs ys : List Move) → length xs ≤ n → length ys ≤ n → length (cond b xs ys) ≤ n
either_length n true xs ys h k = h
either_length n false xs ys h k = k

pub moves_below_breadth : (g : Cond → Bool) (E : Term) → length (moves g E) ≤ breadth E
unfolding moves breadth
moves_below_breadth g Done = omega arith
moves_below_breadth g Internal = omega arith
moves_below_breadth g (Perform a) = omega arith
moves_below_breadth g (Sequence E F) = let h = moves_below_breadth g E in let k = moves_below_breadth g F in
    either_length _ (done? E) (moves g F) (map (sequenced F) (moves g E)) (omega arith) (omega (arith, length-map (moves g E) (sequenced F)))
moves_below_breadth g (Choice E F) = omega (arith, length-append (moves g E) (moves g F), moves_below_breadth g E, moves_below_breadth g F)
moves_below_breadth g (Star E) = omega (arith, length-map (moves g E) (sequenced (Star E)), moves_below_breadth g E)
moves_below_breadth g (Parallel k E F) =
    either_length _ (done? E && done? F) (move internal Done ∷ []) (parallel_moves k E F (moves g E) (moves g F)) (parallel_breadth_pos (zero_mask k) (breadth E) (breadth F))
    (sides_bound k E F (moves g E) (moves g F) (breadth E) (breadth F) (moves_below_breadth g E) (moves_below_breadth g F) (zero_mask k) refl)
moves_below_breadth g (Guard C E) = either_length _ (g C) (moves g E) [] (moves_below_breadth g E) (omega arith)

-- No move enlarges reach or breadth: of every entry of the list.
module _ (w : ℕ) (g : Cond → Bool) (E : Term) (k : ℕ) (x : Move) (listed : get_elem? (moves g E) k ≡ some x) where
  pub move_reach : reach w x.successor ≤ reach w E
  move_reach = reach_nonincreasing w (move_stepped g E k x listed)

  pub move_breadth : breadth x.successor ≤ breadth E
  move_breadth = breadth_nonincreasing (move_stepped g E k x listed)

  -- So every successor fits into G words.
  pub move_size : size w x.successor ≤ reach w E
  move_size = omega (arith, move_reach, size_below_reach w x.successor)

-- And of the last term of every run.
module _ (w : ℕ) (S : DataState) (c : Machine S) (ks : List ℕ) where
  pub run_reach : reach w (run (system S) c ks).state.term ≤ reach w c.state.term
  run_reach = steps_keep S (λ F. reach w F ≤ reach w c.state.term) (λ M M' F F' ρ d h. omega (arith, reach_nonincreasing w d)) c ks (omega arith)

  pub run_breadth : breadth (run (system S) c ks).state.term ≤ breadth c.state.term
  run_breadth = steps_keep S (λ F. breadth F ≤ breadth c.state.term) (λ M M' F F' ρ d h. omega (arith, breadth_nonincreasing d)) c ks (omega arith)
