-- What listing answers, as far as it counts: in a cleared array of a fixed size, and for words that are one running term.
use Rattle.std.specs.Prelude.{◌≡◌, refl, List, [], ℕ, ◌≤◌, length, take, replicate, Option, None, Some, unwrap_or}
use Rattle.std.proofs.Common.{ap, subst, ◌∙◌}
use Rattle.std.proofs.lemmas.List.{length-map, length-replicate}
use Rattle.cells.specs.Laws.Fronts.{false_no}
use native.Mathlib.Omega.{arith}
use Rattle.eb3.specs.Scopes.{Scope}
use Rattle.eb3.specs.Terms.{Term}
use Rattle.eb3.specs.Moves.{moves}
use Rattle.listing.specs.Listing.{holding, code_of, codes, room, Right, Listed}
use Rattle.listing.specs.Laws.Rooms.{room_below_breadth}
use Rattle.listing.specs.declared.lister.Moves.{Moves}
use Rattle.steps.specs.Counting.{Whole, Made, MadeOfAll}

-- ── in an array ──

module _ {R : Type 0} (s M exit : List ℕ) (n : ℕ) (makes : List ℕ → R → Type 0) where
  pub made_none : Listed s M (replicate n 0) exit None → Made s M n makes None
  made_none h = record { has_room = λ P E rest k z. h.has_room P E rest k (omega (arith, z, length-replicate {A = ℕ} n 0)); right = λ P E rest k. tt }

  pub made_of : (r : Moves) (v : R) → Listed s M (replicate n 0) exit (Some r) → makes (take r.count exit) v → Made s M n makes (Some v)
  made_of r v h e = record {
    has_room = λ P E rest k z. refl;
    right = λ P E rest k.
        let l : Right (holding M) E rest exit r = h.right P E rest k in
        subst (λ w. makes w v) (ap (λ j. take j exit) l.counted ∙ l.listed) e;
  }

-- ── one running term ──

module _ (s M : List ℕ) (P : Scope) (E : Term) (k : Whole s P E) where
  whole_room : room (holding M) E ≤ 131072
  whole_room = omega (arith, room_below_breadth (holding M) E, k.narrow)

module _ {R : Type 0} (s M : List ℕ) (makes : List ℕ → R → Type 0) where
  pub made_below : (n : ℕ) (v : R) → Made s M n makes (Some v) → MadeOfAll s M makes (Some v)
  made_below n v h = record { made = λ P E w. h.right P E [] w.there }

  pub made_most : (r : Option R) → Made s M 131072 makes r → MadeOfAll s M makes r
  made_most (Some v) h = made_below 131072 v h
  made_most None h = record { made = λ P E w. absurd (false_no (h.has_room P E [] w.there (whole_room s M P E w))) }

-- What one relation says, another says too.
pub made_as : {R : Type 0} (s M : List ℕ) (makes also : List ℕ → R → Type 0) (r : Option R) → ((l : List ℕ) (v : R) → makes l v → also l v) → MadeOfAll s M makes r → MadeOfAll s M also r
made_as s M makes also (Some v) f h = record { made = λ P E w. f _ v (h.made P E w) }
made_as s M makes also None f h = record { made = h.made }

-- How many there are.
pub counted : (s M : List ℕ) (makes : List ℕ → ℕ → Type 0) (r : Option ℕ) → ((l : List ℕ) (v : ℕ) → makes l v → v ≡ length l) → MadeOfAll s M makes r
    → (P : Scope) (E : Term) → Whole s P E → unwrap_or r 0 ≡ length (moves (holding M) E)
unfolding codes
counted s M makes (Some v) f h P E w = f _ v (h.made P E w) ∙ length-map (moves (holding M) E) code_of
counted s M makes None f h P E w = absurd (h.made P E w)
