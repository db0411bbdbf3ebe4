-- Document 01's clauses one by one: size, reach and breadth ("Unfolding, size and breadth") and the moves ("Moves, in order"), of every term. Proved in
-- Laws/Clauses.
use Rattle.std.specs.Prelude.{◌≡◌, Bool, true, false, not, ◌&&◌, ◌↔◌, List, [], ◌∷◌, ◌++◌, map, ℕ, ◌+◌, ◌*◌, max, T, length}
use Rattle.eb3.specs.Generic.AllLists.{All}
use Rattle.eb3.specs.Generic.Lists.{filter, concat_map}
use Rattle.eb3.specs.Expressions.{Cond}
use Rattle.eb3.specs.Terms.{Term, Done, Internal, Perform, Sequence, Choice, Star, Parallel, Guard, Mask, Action, internal, visible, VisibleAction, bit, in_mask, same_action}
use Rattle.eb3.specs.Sizes.{cond_size, size, reach, breadth}
use Rattle.eb3.specs.Moves.{Move, move, moves}

-- ── size, reach G and breadth W, where a constant has w words ──

pub record SizeClauses (w : ℕ) (E F : Term) (C : Cond) (Δ : Mask) (a : VisibleAction) : Type 0 where
  pub size_internal : size w Internal ≡ 1
  pub size_action : size w (Perform a) ≡ 2 + (1 + w) * length a.arguments
  pub size_done : size w Done ≡ 1
  pub size_sequence : size w (Sequence E F) ≡ 1 + size w E + size w F
  pub size_choice : size w (Choice E F) ≡ 1 + size w E + size w F
  pub size_star : size w (Star E) ≡ 1 + size w E
  pub size_parallel : size w (Parallel Δ E F) ≡ 5 + size w E + size w F
  pub size_guard : size w (Guard C E) ≡ 1 + cond_size w C + size w E
  pub reach_internal : reach w Internal ≡ size w Internal
  pub reach_action : reach w (Perform a) ≡ size w (Perform a)
  pub reach_done : reach w Done ≡ size w Done
  pub reach_sequence : reach w (Sequence E F) ≡ max (1 + reach w E + size w F) (reach w F)
  pub reach_choice : reach w (Choice E F) ≡ max (size w (Choice E F)) (max (reach w E) (reach w F))
  pub reach_star : reach w (Star E) ≡ 2 + reach w E + size w E
  pub reach_parallel : reach w (Parallel Δ E F) ≡ 5 + reach w E + reach w F
  pub reach_guard : reach w (Guard C E) ≡ max (size w (Guard C E)) (reach w E)
  pub breadth_done : breadth Done ≡ 0
  pub breadth_internal : breadth Internal ≡ 1
  pub breadth_action : breadth (Perform a) ≡ 1
  pub breadth_sequence : breadth (Sequence E F) ≡ max (breadth E) (breadth F)
  pub breadth_choice : breadth (Choice E F) ≡ breadth E + breadth F
  pub breadth_star : breadth (Star E) ≡ 1 + breadth E
  pub breadth_guard : breadth (Guard C E) ≡ breadth E
  pub breadth_parallel_zero : All (λ m. m ≡ 0) Δ → breadth (Parallel Δ E F) ≡ max 1 (breadth E + breadth F)
  pub breadth_parallel : (All (λ m. m ≡ 0) Δ → ⊥) → breadth (Parallel Δ E F) ≡ max 1 (breadth E + breadth F + breadth E * breadth F)

-- ── moves ──

-- Where g says which conditions hold. A move outside the mask: internal, or its label's bit is not set.
module _ (Δ : Mask) where
  abbrev pub outside? : Move → Bool
  outside? x = not (in_mask Δ x.action)

  -- Pairs of equal actions in the mask: x with each of ys.
  abbrev pub pairs_of : List Move → Move → List Move
  pairs_of ys x = map (λ y. move x.action (Parallel Δ x.successor y.successor)) (filter (λ y. in_mask Δ x.action && same_action x.action y.action) ys)

pub record MoveClauses (g : Cond → Bool) (E F : Term) (C : Cond) (Δ : Mask) (a : VisibleAction) : Type 0 where
  pub done : moves g Done ≡ []
  pub internal_step : moves g Internal ≡ move internal Done ∷ []
  pub action : moves g (Perform a) ≡ move (visible a) Done ∷ []
  pub sequence_done : moves g (Sequence Done F) ≡ moves g F
  pub sequence : (E ≡ Done → ⊥) → moves g (Sequence E F) ≡ map (λ x. move x.action (Sequence x.successor F)) (moves g E)
  pub choice : moves g (Choice E F) ≡ moves g E ++ moves g F
  pub star : moves g (Star E) ≡ move internal Done ∷ map (λ x. move x.action (Sequence x.successor (Star E))) (moves g E)
  pub parallel_done : moves g (Parallel Δ Done Done) ≡ move internal Done ∷ []
  pub parallel : ((E ≡ Done) × (F ≡ Done) → ⊥) → moves g (Parallel Δ E F)
      ≡ map (λ x. move x.action (Parallel Δ x.successor F)) (filter (outside? Δ) (moves g E))
      ++ (map (λ y. move y.action (Parallel Δ E y.successor)) (filter (outside? Δ) (moves g F)) ++ concat_map (pairs_of Δ (moves g F)) (moves g E))
  pub guard_holds : g C ≡ true → moves g (Guard C E) ≡ moves g E
  pub guard_fails : g C ≡ false → moves g (Guard C E) ≡ []
  -- An internal move counts as outside every mask; equal actions have equal label and arguments.
  pub internal_outside : in_mask Δ internal ≡ false
  pub visible_inside : in_mask Δ (visible a) ≡ bit Δ a.label
  pub same : (ρ σ : Action) → T (same_action ρ σ) ↔ (ρ ≡ σ)
  pub move_is : (ρ : Action) (S : Term) → ((move ρ S).action ≡ ρ) × ((move ρ S).successor ≡ S)

-- What the clauses do with lists: those that pass a test, in their order; the lists of several joined, in their order.
pub record ListClauses {X Y : Type 0} (p : X → Bool) (h : X → List Y) (x : X) (l : List X) : Type 0 where
  pub filter_none : filter p [] ≡ []
  pub filter_kept : p x ≡ true → filter p (x ∷ l) ≡ x ∷ filter p l
  pub filter_dropped : p x ≡ false → filter p (x ∷ l) ≡ filter p l
  pub joined_none : concat_map h [] ≡ []
  pub joined_more : concat_map h (x ∷ l) ≡ h x ++ concat_map h l
