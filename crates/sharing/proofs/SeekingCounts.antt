-- How many moves a term has and what their paths are, by the term's form; a parallel's mask has no label (document 01, "Moves, in order").
use mathlib.Core.Path.{◌≡◌, refl, sym, ap, ◌∙◌}
use mathlib.Core.Bool.{Bool, true, false, ◌&&◌, cond}
use mathlib.Core.List.{List, [], ◌∷◌, map}
use Prim.Native.Nat.{ℕ, ◌+◌, ◌-◌, ◌≤◌, ◌<◌}
use native.Mathlib.Omega.{arith}
use lib.Bits.{bit_or}
use lib.ListN.{length, length-append, length-map}
use borrow.Author.Tests.{lt-ltb, le-ltb, eq-eqb, ne_eqb}
use Rattle.eb3.specs.Expressions.{Cond}
use Rattle.eb3.specs.Scopes.{Scope}
use Rattle.eb3.specs.Reading.{pick}
use Rattle.eb3.specs.Terms.{Term, Done, Internal, Perform, Sequence, Choice, Star, Parallel, Guard, VisibleAction, Mask, internal, done?}
use Rattle.eb3.specs.Moves.{move, moves, sequenced, parallel_moves}
use Rattle.eb3.specs.Sizes.{size, zero_mask}
use Rattle.actions.specs.Sets.{mask_set, has_all}
use Rattle.listing.specs.Listing.{Fits, code_of, codes, holding}
use Rattle.listing.specs.Laws.Codes.{codes_parallel, combined_zero}
use Rattle.listing.specs.Laws.Shown.{zero_within}
use Rattle.paths.specs.Paths.{shown, path, path_in_turn, path_by, idle, alone, paired, numbers, locate}
use Rattle.paths.proofs.ShownLaws.{shown_all}
use Rattle.derivation.specs.Derived.{move_count}

module _ (M : List ℕ) where
  abbrev g : Cond → Bool
  g = holding M

  -- ── counts ──

  pub count_done : move_count M Done ≡ 0
  unfolding moves
  count_done = refl

  pub count_internal : move_count M Internal ≡ 1
  unfolding moves
  count_internal = refl

  pub count_perform : (a : VisibleAction) → move_count M (Perform a) ≡ 1
  unfolding moves
  count_perform a = refl

  pub count_after_done : (E F : Term) → done? E ≡ true → move_count M (Sequence E F) ≡ move_count M F
  unfolding moves
  count_after_done E F h = ap (λ b. length (cond b (moves g F) (map (sequenced F) (moves g E)))) h

  pub count_sequence : (E F : Term) → done? E ≡ false → move_count M (Sequence E F) ≡ move_count M E
  unfolding moves
  count_sequence E F h = ap (λ b. length (cond b (moves g F) (map (sequenced F) (moves g E)))) h ∙ length-map (moves g E) (sequenced F)

  pub count_choice : (E F : Term) → move_count M (Choice E F) ≡ move_count M E + move_count M F
  unfolding moves
  count_choice E F = length-append (moves g E) (moves g F)

  pub count_star : (E : Term) → move_count M (Star E) ≡ 1 + move_count M E
  unfolding moves
  count_star E = omega (arith, length-map (moves g E) (sequenced (Star E)))

  pub count_guard : (C : Cond) (E : Term) → g C ≡ true → move_count M (Guard C E) ≡ move_count M E
  unfolding moves
  count_guard C E h = ap (λ b. length (cond b (moves g E) [])) h

  pub count_shut : (C : Cond) (E : Term) → g C ≡ false → move_count M (Guard C E) ≡ 0
  unfolding moves
  count_shut C E h = ap (λ b. length (cond b (moves g E) [])) h

  pub count_both_done : (Δ : Mask) (E F : Term) → (done? E && done? F) ≡ true → move_count M (Parallel Δ E F) ≡ 1
  unfolding moves
  count_both_done Δ E F h = ap (λ b. length (cond b (move internal Done ∷ []) (parallel_moves Δ E F (moves g E) (moves g F)))) h

  count_codes : (E : Term) → length (codes g E) ≡ move_count M E
  unfolding codes
  count_codes E = length-map (moves g E) code_of

  pub count_beside : (P : Scope) (Δ : Mask) (E F : Term) → (done? E && done? F) ≡ false → zero_mask Δ ≡ true → Fits P E → Fits P F → move_count M (Parallel Δ E F) ≡ move_count M E + move_count M F
  count_beside P Δ E F h z e f = omega (
    arith,
    ap length (codes_parallel g P Δ E F h e f ∙ combined_zero Δ (codes g E) (codes g F) z),
    length-append (codes g E) (codes g F),
    count_codes E,
    count_codes F,
    count_codes (Parallel Δ E F),
  )

  module _ (width : ℕ) where
    -- ── paths ──

    pub path_after_done : (E F : Term) (k : ℕ) → done? E ≡ true → path width 0 g F k ≡ path width 0 g (Sequence E F) k
    unfolding path
    path_after_done E F k h = ap (λ b. cond b (path width 0 g F k) (path width 0 g E k)) (sym h)

    pub path_sequence : (E F : Term) (k : ℕ) → done? E ≡ false → path width 0 g E k ≡ path width 0 g (Sequence E F) k
    unfolding path
    path_sequence E F k h = ap (λ b. cond b (path width 0 g F k) (path width 0 g E k)) (sym h)

    -- c is the decision for the first of two operands
    abbrev turn : ℕ → Term → Term → ℕ → List ℕ
    turn c E F k = path_in_turn c (size width E) (move_count M E) (path width 0 g E) (path width 0 g F) k

    -- below no mask every move shows
    all_shown : (E : Term) → move_count M E ≡ length (shown 0 g E)
    all_shown E = ap length (sym (shown_all g E))

    pub path_choice : (E F : Term) (k : ℕ) → turn 0 E F k ≡ path width 0 g (Choice E F) k
    unfolding path
    path_choice E F k = ap (λ m. path_in_turn 0 (size width E) m (path width 0 g E) (path width 0 g F) k) (all_shown E)

    pub path_end : (E : Term) (k : ℕ) → k ≡ 0 → 0 ∷ [] ≡ path width 0 g (Star E) k
    unfolding path
    path_end E k e = ap (λ b. pick b (0 ∷ []) (1 ∷ path width 0 g E (k - 1))) (sym (eq-eqb k 0 e))

    pub path_round : (E : Term) (k : ℕ) → (k ≡ 0 → ⊥) → 1 ∷ path width 0 g E (k - 1) ≡ path width 0 g (Star E) k
    unfolding path
    path_round E k e = ap (λ b. pick b (0 ∷ []) (1 ∷ path width 0 g E (k - 1))) (sym (ne_eqb k 0 e))

    pub path_guard : (C : Cond) (E : Term) (k : ℕ) → path width 0 g E k ≡ path width 0 g (Guard C E) k
    unfolding path
    path_guard C E k = refl

    pub path_internal : (k : ℕ) → [] ≡ path width 0 g Internal k
    unfolding path
    path_internal k = refl

    pub path_perform : (a : VisibleAction) (k : ℕ) → [] ≡ path width 0 g (Perform a) k
    unfolding path
    path_perform a k = refl

    pub two_first : (E F : Term) (c k : ℕ) → k < move_count M E → c ∷ path width 0 g E k ≡ turn c E F k
    two_first E F c k h = ap (λ b. pick b (c ∷ path width 0 g E k) ((c + 1) ∷ size width E ∷ path width 0 g F (k - move_count M E))) (sym (lt-ltb k (move_count M E) h))

    pub two_second : (E F : Term) (c k : ℕ) → move_count M E ≤ k → (c + 1) ∷ size width E ∷ path width 0 g F (k - move_count M E) ≡ turn c E F k
    two_second E F c k h = ap (λ b. pick b (c ∷ path width 0 g E k) ((c + 1) ∷ size width E ∷ path width 0 g F (k - move_count M E))) (sym (le-ltb k (move_count M E) h))

    -- ── a parallel ──

    module _ (Δ : Mask) (E F : Term) (k : ℕ) where
      abbrev shown_turn : List ℕ
      shown_turn = path_in_turn 1 (size width E) (length (shown 0 g E)) (path width 0 g E) (path width 0 g F) k

      -- where a label is in the mask
      abbrev masked : List ℕ
      masked =
          cond (idle E) (2 ∷ size width E ∷ path width (bit_or 0 (mask_set Δ)) g F k)
          (cond (idle F) (1 ∷ path width (bit_or 0 (mask_set Δ)) g E k)
          (path_by (size width E) (path width 0 g E) (path width 0 g F) (locate (alone 0 (mask_set Δ)) (paired 0 (mask_set Δ)) (numbers g E) (numbers g F) k)))

      opened : path width 0 g (Parallel Δ E F) k ≡ cond (done? E && done? F) (0 ∷ []) (cond (has_all 0 (mask_set Δ)) shown_turn masked)
      unfolding path
      opened = refl

      pub path_both_done : (done? E && done? F) ≡ true → 0 ∷ [] ≡ path width 0 g (Parallel Δ E F) k
      path_both_done h = sym (opened ∙ ap (λ b. cond b (0 ∷ []) (cond (has_all 0 (mask_set Δ)) shown_turn masked)) h)

      pub path_beside : (done? E && done? F) ≡ false → zero_mask Δ ≡ true → turn 1 E F k ≡ path width 0 g (Parallel Δ E F) k
      path_beside h z =
          let a : has_all 0 (mask_set Δ) ≡ true = eq-eqb (bit_or 0 (mask_set Δ)) 0 (zero_within 0 Δ z) in
          ap (λ m. path_in_turn 1 (size width E) m (path width 0 g E) (path width 0 g F) k) (all_shown E)
          ∙ sym (opened ∙ ap (λ b. cond b (0 ∷ []) (cond (has_all 0 (mask_set Δ)) shown_turn masked)) h ∙ ap (λ b. cond b shown_turn masked) a)
