-- The moves that show below masks, by the form of the term (document 01, "Moves, in order"). A parallel's are its left side's outside its own mask too, its
-- right side's likewise, and the pairs inside its mask, outside those above.
use Rattle.std.specs.Prelude.{◌≡◌, refl, Bool, true, false, not, ◌&&◌, cond, List, [], ◌∷◌, ◌++◌, map, ℕ, ◌≤◌, T, length}
use Rattle.std.proofs.Common.{sym, ◌∙◌, subst, append-nil, arith, eqb→eq}
use Rattle.std.proofs.Math.Path.{ap}
use Rattle.std.proofs.Math.Option.{some}
use Rattle.std.proofs.Math.ListN.{get_elem?}
use Rattle.std.specs.Int.Bits.{bit_or}
use Rattle.eb3.specs.Generic.Lists.{filter, concat_map}
use Rattle.eb3.specs.Expressions.{Cond}
use Rattle.eb3.specs.Terms.{Term, Done, Sequence, Choice, Star, Parallel, Guard, internal, Mask, in_mask, same_action, done?}
use Rattle.eb3.specs.Moves.{Move, move, moves, sequenced, left_move, right_move, synchronised, outside_mask?, synchronise?, parallel_moves}
use Rattle.eb3.specs.Sizes.{breadth}
use Rattle.eb3.proofs.Laws.Sizes.{moves_below_breadth}
use Rattle.actions.specs.Codes.{action_code, Small}
use Rattle.actions.specs.Laws.Codes.{masked_is}
use Rattle.actions.specs.Sets.{in_set, mask_set, has_all}
use Rattle.actions.specs.Laws.Sets.{in_mask_set, in_empty, in_either, within_set}
use Rattle.paths.specs.Paths.{shown?, shown, idle, alone, paired}
use Rattle.paths.proofs.FilterLaws.{filter_append, filter_all, filter_none, filter_rows, filter_map, filter_twice, filter_same, rows_same, rows_none, neither, middle_last}

abbrev pub code : Move → ℕ
code x = action_code x.action

pub record SmallMoves (l : List Move) : Type 0 where
  pub small : (i : ℕ) (x : Move) → get_elem? l i ≡ some x → Small x.action

-- No label is hidden.
pub shown_all : (g : Cond → Bool) (E : Term) → shown 0 g E ≡ moves g E
unfolding shown
shown_all g E = filter_all (shown? 0) (λ x. ap not (in_empty (code x))) (moves g E)

no_entry : (l : List Move) → length l ≤ 0 → l ≡ []
no_entry [] h = refl
no_entry (x ∷ l) h = absurd (omega arith)

pub idle_none : (g : Cond → Bool) (E : Term) → idle E ≡ true → moves g E ≡ []
idle_none g E h =
    let e : breadth E ≡ 0 = eqb→eq (breadth E) 0 (subst T (sym h) tt) in
    no_entry (moves g E) (omega (arith, moves_below_breadth g E))

module _ (x : ℕ) (g : Cond → Bool) where
  pub shown_after_done : (E F : Term) → done? E ≡ true → shown x g (Sequence E F) ≡ shown x g F
  unfolding shown moves
  shown_after_done E F h = ap (λ b. filter (shown? x) (cond b (moves g F) (map (sequenced F) (moves g E)))) h

  pub shown_sequence : (E F : Term) → done? E ≡ false → shown x g (Sequence E F) ≡ map (sequenced F) (shown x g E)
  unfolding shown moves
  shown_sequence E F h =
      ap (λ b. filter (shown? x) (cond b (moves g F) (map (sequenced F) (moves g E)))) h ∙ filter_map (shown? x) (shown? x) (sequenced F) (λ m. refl) (moves g E)

  pub shown_choice : (E F : Term) → shown x g (Choice E F) ≡ shown x g E ++ shown x g F
  unfolding shown moves
  shown_choice E F = filter_append (shown? x) (moves g E) (moves g F)

  pub shown_star : (E : Term) → shown x g (Star E) ≡ move internal Done ∷ map (sequenced (Star E)) (shown x g E)
  unfolding shown moves in_set action_code
  shown_star E = ap (λ t. move internal Done ∷ t) (filter_map (shown? x) (shown? x) (sequenced (Star E)) (λ m. refl) (moves g E))

  pub shown_both_done : (Δ : Mask) (E F : Term) → (done? E && done? F) ≡ true → shown x g (Parallel Δ E F) ≡ move internal Done ∷ []
  unfolding shown moves in_set action_code
  shown_both_done Δ E F h = ap (λ b. filter (shown? x) (cond b (move internal Done ∷ []) (parallel_moves Δ E F (moves g E) (moves g F)))) h

  pub shown_guard : (C : Cond) (E : Term) → g C ≡ true → shown x g (Guard C E) ≡ shown x g E
  unfolding shown moves
  shown_guard C E h = ap (λ b. filter (shown? x) (cond b (moves g E) [])) h

  pub shown_shut : (C : Cond) (E : Term) → g C ≡ false → shown x g (Guard C E) ≡ []
  unfolding shown moves
  shown_shut C E h = ap (λ b. filter (shown? x) (cond b (moves g E) [])) h

-- ── a parallel ──

module _ (x : ℕ) (Δ : Mask) (E F : Term) where
  abbrev alone? : Move → Bool
  alone? m = alone x (mask_set Δ) (code m)

  abbrev paired? : Move → Move → Bool
  paired? u w = paired x (mask_set Δ) (code u) && same_action u.action w.action

  abbrev pub beside : List Move → List Move → List Move
  beside xs ys =
      map (left_move Δ F) (filter alone? xs) ++ (map (right_move Δ E) (filter alone? ys) ++ concat_map (λ u. map (synchronised Δ u) (filter (paired? u) ys)) xs)

  in_this : (m : Move) → Small m.action → in_set (mask_set Δ) (code m) ≡ in_mask Δ m.action
  in_this m s = in_mask_set Δ (code m) ∙ masked_is Δ m.action s

  test_alone : (m : Move) → Small m.action → (outside_mask? Δ m && shown? x m) ≡ alone? m
  test_alone m s =
      ap (λ b. not b && shown? x m) (sym (in_this m s)) ∙ neither (in_set x (code m)) (in_set (mask_set Δ) (code m)) ∙ ap not (sym (in_either x (mask_set Δ) (code m)))

  alone_filtered : (l : List Move) → SmallMoves l → filter (shown? x) (filter (outside_mask? Δ) l) ≡ filter alone? l
  alone_filtered l s = filter_twice (outside_mask? Δ) (shown? x) l ∙ filter_same (λ m. outside_mask? Δ m && shown? x m) alone? l (λ i m e. test_alone m (s.small i m e))

  test_paired : (u w : Move) → Small u.action → (synchronise? Δ u w && shown? x u) ≡ paired? u w
  test_paired u w s =
      middle_last (in_mask Δ u.action) (same_action u.action w.action) (shown? x u)
      ∙ ap (λ b. (b && shown? x u) && same_action u.action w.action) (sym (in_this u s))

  row_filtered : (ys : List Move) (u : Move) → Small u.action → filter (shown? x) (map (synchronised Δ u) (filter (synchronise? Δ u) ys)) ≡ map (synchronised Δ u) (filter (paired? u) ys)
  row_filtered ys u s =
      filter_map (shown? x) (λ w. shown? x u) (synchronised Δ u) (λ w. refl) (filter (synchronise? Δ u) ys)
      ∙ ap (map (synchronised Δ u)) (filter_twice (synchronise? Δ u) (λ w. shown? x u) ys
      ∙ filter_same (λ w. synchronise? Δ u w && shown? x u) (paired? u) ys (λ i w e. test_paired u w s))

  pub shown_of_parallel : (xs ys : List Move) → SmallMoves xs → SmallMoves ys → filter (shown? x) (parallel_moves Δ E F xs ys) ≡ beside xs ys
  shown_of_parallel xs ys s t =
      let a = map (left_move Δ F) (filter (outside_mask? Δ) xs) in
      let b = map (right_move Δ E) (filter (outside_mask? Δ) ys) in
      let c = concat_map (λ u. map (synchronised Δ u) (filter (synchronise? Δ u) ys)) xs in
      let p : filter (shown? x) a ≡ map (left_move Δ F) (filter alone? xs) =
      filter_map (shown? x) (shown? x) (left_move Δ F) (λ m. refl) (filter (outside_mask? Δ) xs) ∙ ap (map (left_move Δ F)) (alone_filtered xs s) in
      let q : filter (shown? x) b ≡ map (right_move Δ E) (filter alone? ys) =
      filter_map (shown? x) (shown? x) (right_move Δ E) (λ m. refl) (filter (outside_mask? Δ) ys) ∙ ap (map (right_move Δ E)) (alone_filtered ys t) in
      let r : filter (shown? x) c ≡ concat_map (λ u. map (synchronised Δ u) (filter (paired? u) ys)) xs =
      filter_rows (shown? x) (λ u. map (synchronised Δ u) (filter (synchronise? Δ u) ys)) xs
      ∙ rows_same (λ u. filter (shown? x) (map (synchronised Δ u) (filter (synchronise? Δ u) ys))) (λ u. map (synchronised Δ u) (filter (paired? u) ys)) xs (λ i u e. row_filtered ys u (s.small i u e)) in
      filter_append (shown? x) a (b ++ c) ∙ ap (λ l. filter (shown? x) a ++ l) (filter_append (shown? x) b c) ∙ (λ i. p i ++ (q i ++ r i))

  -- The mask hides no label that is not hidden already: one side's moves, then the other's.
  pub beside_covered : (xs ys : List Move) → has_all x (mask_set Δ) ≡ true → beside xs ys ≡ map (left_move Δ F) (filter (shown? x) xs) ++ map (right_move Δ E) (filter (shown? x) ys)
  beside_covered xs ys h =
      let e : bit_or x (mask_set Δ) ≡ x = eqb→eq (bit_or x (mask_set Δ)) x (subst T (sym h) tt) in
      let f : (λ (m : Move). alone? m) ≡ shown? x = λ i m. not (in_set (e i) (code m)) in
      let n : concat_map (λ u. map (synchronised Δ u) (filter (paired? u) ys)) xs ≡ [] =
      rows_none (λ u. map (synchronised Δ u) (filter (paired? u) ys)) xs (λ u. ap (map (synchronised Δ u)) (filter_none (paired? u) (λ w. ap (λ b. b && same_action u.action w.action) (unpaired (code u))) ys)) in
      (λ i. map (left_move Δ F) (filter (f i) xs) ++ (map (right_move Δ E) (filter (f i) ys) ++ n i)) ∙ ap (λ l. map (left_move Δ F) (filter (shown? x) xs) ++ l) (append-nil (map (right_move Δ E) (filter (shown? x) ys)))
    where
      by_test : (b : Bool) (c : ℕ) → in_set x c ≡ b → paired x (mask_set Δ) c ≡ false
      by_test true c e = ap (λ b. in_set (mask_set Δ) c && not b) e ∙ last_false (in_set (mask_set Δ) c)
        where
          last_false : (b : Bool) → (b && false) ≡ false
          last_false true = refl
          last_false false = refl
      by_test false c e = ap (λ b. b && not (in_set x c)) (within_set x (mask_set Δ) c h e)

      unpaired : (c : ℕ) → paired x (mask_set Δ) c ≡ false
      unpaired c = by_test (in_set x c) c refl

  -- A side without moves.
  pub beside_left_none : (ys : List Move) → beside [] ys ≡ map (right_move Δ E) (filter (shown? (bit_or x (mask_set Δ))) ys)
  beside_left_none ys = append-nil (map (right_move Δ E) (filter alone? ys))

  pub beside_right_none : (xs : List Move) → beside xs [] ≡ map (left_move Δ F) (filter (shown? (bit_or x (mask_set Δ))) xs)
  beside_right_none xs =
      ap (λ l. map (left_move Δ F) (filter alone? xs) ++ l) (rows_none (λ u. map (synchronised Δ u) (filter (paired? u) [])) xs (λ u. refl)) ∙ append-nil (map (left_move Δ F) (filter alone? xs))

module _ (x : ℕ) (g : Cond → Bool) (Δ : Mask) (E F : Term) (d : (done? E && done? F) ≡ false) (s : SmallMoves (moves g E)) (t : SmallMoves (moves g F)) where
  pub shown_parallel : shown x g (Parallel Δ E F) ≡ beside x Δ E F (moves g E) (moves g F)
  unfolding shown moves
  shown_parallel =
      ap (λ b. filter (shown? x) (cond b (move internal Done ∷ []) (parallel_moves Δ E F (moves g E) (moves g F)))) d ∙ shown_of_parallel x Δ E F (moves g E) (moves g F) s t

  pub shown_covered : has_all x (mask_set Δ) ≡ true → shown x g (Parallel Δ E F) ≡ map (left_move Δ F) (shown x g E) ++ map (right_move Δ E) (shown x g F)
  unfolding shown
  shown_covered h = shown_parallel ∙ beside_covered x Δ E F (moves g E) (moves g F) h

  pub shown_idle_left : idle E ≡ true → shown x g (Parallel Δ E F) ≡ map (right_move Δ E) (shown (bit_or x (mask_set Δ)) g F)
  unfolding shown
  shown_idle_left h = shown_parallel ∙ ap (λ l. beside x Δ E F l (moves g F)) (idle_none g E h) ∙ beside_left_none x Δ E F (moves g F)

  pub shown_idle_right : idle F ≡ true → shown x g (Parallel Δ E F) ≡ map (left_move Δ F) (shown (bit_or x (mask_set Δ)) g E)
  unfolding shown
  shown_idle_right h = shown_parallel ∙ ap (λ l. beside x Δ E F (moves g E) l) (idle_none g F h) ∙ beside_right_none x Δ E F (moves g E)
