-- The moves of a running term, in order (document 01, "Moves, in order").
use Rattle.std.specs.Prelude.{Bool, not, ◌&&◌, cond, List, [], ◌∷◌, ◌++◌, map, ℕ, zero, suc}
use Rattle.std.proofs.Math.Option.{Option, none, some}
use Rattle.eb3.specs.Generic.Lists.{filter, concat_map}
use Rattle.eb3.specs.Expressions.{Cond}
use Rattle.eb3.specs.Terms.{Term, Done, Internal, Perform, Sequence, Choice, Star, Parallel, Guard, Action, internal, visible, Mask, in_mask, same_action, done?}

pub record Move : Type 0 where
  pub action : Action
  pub successor : Term

abbrev pub move : Action → Term → Move
move ρ E = record { action = ρ; successor = E }

-- A move of E, followed in sequence by F.
abbrev pub sequenced : Term → Move → Move
sequenced F x = move x.action (Sequence x.successor F)

-- A move of the left side beside F, of the right side beside E, and of both together.
abbrev pub left_move : Mask → Term → Move → Move
left_move Δ F x = move x.action (Parallel Δ x.successor F)

abbrev pub right_move : Mask → Term → Move → Move
right_move Δ E x = move x.action (Parallel Δ E x.successor)

abbrev pub synchronised : Mask → Move → Move → Move
synchronised Δ x y = move x.action (Parallel Δ x.successor y.successor)

abbrev pub outside_mask? : Mask → Move → Bool
outside_mask? Δ x = not (in_mask Δ x.action)

abbrev pub synchronise? : Mask → Move → Move → Bool
synchronise? Δ x y = in_mask Δ x.action && same_action x.action y.action

-- Left's moves outside the mask, right's likewise, then pairs of equal actions in the mask, ordered by left, then right.
abbrev pub parallel_moves : Mask → Term → Term → List Move → List Move → List Move
parallel_moves Δ E F xs ys =
    map (left_move Δ F) (filter (outside_mask? Δ) xs)
    ++ (map (right_move Δ E) (filter (outside_mask? Δ) ys)
    ++ concat_map (λ x. map (synchronised Δ x) (filter (synchronise? Δ x) ys)) xs)

-- `g` says which conditions hold.
unfoldable pub moves : (Cond → Bool) → Term → List Move
moves g Done = []
moves g Internal = move internal Done ∷ []
moves g (Perform a) = move (visible a) Done ∷ []
moves g (Sequence E F) = cond (done? E) (moves g F) (map (sequenced F) (moves g E))
moves g (Choice E F) = moves g E ++ moves g F
moves g (Star E) = move internal Done ∷ map (sequenced (Star E)) (moves g E)
moves g (Parallel Δ E F) = cond (done? E && done? F) (move internal Done ∷ []) (parallel_moves Δ E F (moves g E) (moves g F))
moves g (Guard C E) = cond (g C) (moves g E) []

abbrev pub later : Option ℕ → Option ℕ
later none = none
later (some k) = some (suc k)

-- The number of the first move with a given action (document 01, Present: the smallest k whose action is the given event).
unfoldable pub first_with : Action → List Move → Option ℕ
first_with ρ [] = none
first_with ρ (x ∷ xs) = cond (same_action x.action ρ) (some zero) (later (first_with ρ xs))
