-- The moves of a term that has started, and so is spelled out: of a sequence, and of a parallel without a mask, whose moves are its left side's and then its
-- right side's (document 01, "Moves, in order").
use mathlib.Core.Path.{◌≡◌, refl, ap, ◌∙◌}
use mathlib.Core.Bool.{Bool, true, false, not, ◌&&◌, cond}
use mathlib.Core.List.{List, [], ◌∷◌, ◌++◌, map, append-nil}
use mathlib.Core.Option.{some}
use Prim.Native.Nat.{ℕ, ◌+◌, ◌-◌, ◌/◌, ◌≤◌, ◌<◌}
use native.Mathlib.Nat.{zero-div}
use native.Mathlib.Omega.{arith}
use lib.ListN.{length, get_elem?, length-append, length-map}
use Rattle.eb3.specs.Generic.Lists.{filter}
use Rattle.eb3.specs.Expressions.{Cond}
use Rattle.eb3.specs.Terms.{Term, Done, Sequence, Parallel, Action, internal, visible, bit, in_mask, same_action, done?}
use Rattle.eb3.specs.Moves.{Move, move, moves, sequenced, left_move, right_move, synchronised, outside_mask?, synchronise?, parallel_moves}
use Rattle.eb3.specs.Sizes.{zero_mask}
use Rattle.eb3.proofs.Laws.TransitionSystems.{getElem?_map}
use Rattle.listing.specs.Laws.Codes.{zero_word}
use Rattle.paths.proofs.FilterLaws.{filter_all, filter_none, rows_none}
use Rattle.paths.proofs.SeekLaws.{entry_first, entry_behind}
use Rattle.sharing.specs.Shared.{no_mask}

-- ── no label is in the mask ──

no_label : (a : Action) → in_mask no_mask a ≡ false
unfolding in_mask bit zero_mask
no_label internal = refl
no_label (visible a) = rw (zero_word no_mask tt (a.label / 16)) (rw zero-div refl)

-- ── a sequence ──

module _ (g : Cond → Bool) (E F : Term) where
  pub moves_next : done? E ≡ true → moves g (Sequence E F) ≡ moves g F
  unfolding moves
  moves_next h = ap (λ b. cond b (moves g F) (map (sequenced F) (moves g E))) h

  moves_first : done? E ≡ false → moves g (Sequence E F) ≡ map (sequenced F) (moves g E)
  unfolding moves
  moves_first h = ap (λ b. cond b (moves g F) (map (sequenced F) (moves g E))) h

  pub count_first : done? E ≡ false → length (moves g (Sequence E F)) ≡ length (moves g E)
  count_first h = ap length (moves_first h) ∙ length-map (moves g E) (sequenced F)

  pub entry_sequence : done? E ≡ false → (k : ℕ) (x : Move) → get_elem? (moves g E) k ≡ some x → get_elem? (moves g (Sequence E F)) k ≡ some (sequenced F x)
  entry_sequence h k x e = ap (λ l. get_elem? l k) (moves_first h) ∙ getElem?_map (sequenced F) (moves g E) k x e

-- ── a parallel ──

module _ (g : Cond → Bool) (E F : Term) where
  pub moves_joined : (done? E && done? F) ≡ true → moves g (Parallel no_mask E F) ≡ move internal Done ∷ []
  unfolding moves
  moves_joined h = ap (λ b. cond b (move internal Done ∷ []) (parallel_moves no_mask E F (moves g E) (moves g F))) h

  rows : (x : Move) → map (synchronised no_mask x) (filter (synchronise? no_mask x) (moves g F)) ≡ []
  rows x = ap (map (synchronised no_mask x)) (filter_none (synchronise? no_mask x) (λ y. ap (λ b. b && same_action x.action y.action) (no_label x.action)) (moves g F))

  kept : (l : List Move) → filter (outside_mask? no_mask) l ≡ l
  kept l = filter_all (outside_mask? no_mask) (λ x. ap not (no_label x.action)) l

  module _ (h : (done? E && done? F) ≡ false) where
    moves_sides : moves g (Parallel no_mask E F) ≡ map (left_move no_mask F) (moves g E) ++ map (right_move no_mask E) (moves g F)
    unfolding moves
    moves_sides =
        ap (λ b. cond b (move internal Done ∷ []) (parallel_moves no_mask E F (moves g E) (moves g F))) h
        ∙ (λ i. map (left_move no_mask F) (kept (moves g E) i) ++ (map (right_move no_mask E) (kept (moves g F) i) ++ rows_none (λ x. map (synchronised no_mask x) (filter (synchronise? no_mask x) (moves g F))) (moves g E) rows i))
        ∙ ap (λ t. map (left_move no_mask F) (moves g E) ++ t) (append-nil (map (right_move no_mask E) (moves g F)))

    pub count_sides : length (moves g (Parallel no_mask E F)) ≡ length (moves g E) + length (moves g F)
    count_sides =
        ap length moves_sides ∙ length-append (map (left_move no_mask F) (moves g E)) (map (right_move no_mask E) (moves g F))
        ∙ (λ i. length-map (moves g E) (left_move no_mask F) i + length-map (moves g F) (right_move no_mask E) i)

    pub entry_left : (k : ℕ) (x : Move) → k < length (moves g E) → get_elem? (moves g E) k ≡ some x → get_elem? (moves g (Parallel no_mask E F)) k ≡ some (left_move no_mask F x)
    entry_left k x l e =
        ap (λ y. get_elem? y k) moves_sides ∙ entry_first (map (left_move no_mask F) (moves g E)) (map (right_move no_mask E) (moves g F)) k (omega (arith, length-map (moves g E) (left_move no_mask F)))
        ∙ getElem?_map (left_move no_mask F) (moves g E) k x e

    pub entry_right : (k : ℕ) (x : Move) → length (moves g E) ≤ k → get_elem? (moves g F) (k - length (moves g E)) ≡ some x → get_elem? (moves g (Parallel no_mask E F)) k ≡ some (right_move no_mask E x)
    entry_right k x l e =
        ap (λ y. get_elem? y k) moves_sides ∙ entry_behind (left_move no_mask F) (moves g E) (map (right_move no_mask E) (moves g F)) k (k - length (moves g E)) (omega arith)
        ∙ getElem?_map (right_move no_mask E) (moves g F) (k - length (moves g E)) x e
