-- What listing outside a set x of labels answers: of a term, and at each form of one, which is one move, two operands one after the other, or
-- two operands combined by a mask.
-- Document 01, "Moves, in order".
use Rattle.std.specs.Prelude.{◌≡◌, List, [], ◌∷◌, ◌++◌, ℕ, ◌+◌, ◌≤◌, length, take, Option, IsSome, IfSome}
use Rattle.eb3.specs.Scopes.{Scope}
use Rattle.eb3.specs.Terms.{Term}
use Rattle.actions.specs.Sets.{in_set, mask_set}
use Rattle.listing.specs.Listing.{TermAt, holding, room}
use Rattle.listing.specs.Positions.{TwoAt, MaskedAt}
use Rattle.listing.specs.Combining.{combined}
use Rattle.listing.specs.Rooms.{two_room, masked_room}
use Rattle.listing.specs.Shown.{shown}

-- Before, n moves are listed in an array; then m, o after those before, and `left` words are left.
pub record Lists (o : List ℕ) (left n : ℕ) (entry : List ℕ) (m : ℕ) (exit : List ℕ) (r : ℕ) : Type 0 where
  pub left_over : r ≡ left
  pub counted : m ≡ n + length o
  pub listed : take m exit ≡ take n entry ++ o

pub record OneListed (code left : ℕ) (M : List ℕ) (n : ℕ) (entry : List ℕ) (m : ℕ) (exit : List ℕ) (r : Option ℕ) : Type 0 where
  pub has_room : n + 1 ≤ length entry → IsSome r
  pub right : IfSome r (Lists (code ∷ []) left n entry m exit)

-- The room of all moves is enough for those outside x.
pub record ShownListed (x : ℕ) (s M : List ℕ) (n : ℕ) (entry : List ℕ) (m : ℕ) (exit : List ℕ) (r : Option ℕ) : Type 0 where
  pub has_room : (P : Scope) (E : Term) (rest : List ℕ) → TermAt s P E rest → n + room (holding M) E ≤ length entry → IsSome r
  pub right : (P : Scope) (E : Term) (rest : List ℕ) → TermAt s P E rest → IfSome r (Lists (shown x (holding M) E) (length rest) n entry m exit)

pub record TwoListed (x : ℕ) (t M : List ℕ) (n : ℕ) (entry : List ℕ) (m : ℕ) (exit : List ℕ) (r : Option ℕ) : Type 0 where
  pub has_room : (P : Scope) (E F : Term) (rest : List ℕ) → TwoAt t P E F rest → n + two_room (holding M) E F ≤ length entry → IsSome r
  pub right : (P : Scope) (E F : Term) (rest : List ℕ) → TwoAt t P E F rest → IfSome r (Lists (shown x (holding M) E ++ shown x (holding M) F) (length rest) n entry m exit)

pub record MaskedListed (x : ℕ) (d M : List ℕ) (n : ℕ) (entry : List ℕ) (m : ℕ) (exit : List ℕ) (r : Option ℕ) : Type 0 where
  pub has_room : (P : Scope) (Δ : List ℕ) (E F : Term) (rest : List ℕ) → MaskedAt d P Δ E F rest
      → n + masked_room (holding M) E F (length (combined (in_set (mask_set Δ)) (shown x (holding M) E) (shown x (holding M) F))) ≤ length entry → IsSome r
  pub right : (P : Scope) (Δ : List ℕ) (E F : Term) (rest : List ℕ) → MaskedAt d P Δ E F rest
      → IfSome r (Lists (combined (in_set (mask_set Δ)) (shown x (holding M) E) (shown x (holding M) F)) (length rest) n entry m exit)
