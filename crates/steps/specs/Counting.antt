-- How many moves a running term has, and which is the first with a given action (document 01, "Operations": Count and Present).
use Rattle.std.specs.Prelude.{cond, List, [], ◌∷◌, ℕ, zero, ◌≤◌, eqb, Option, None, Some, IsSome, IfSome, MatchOption}
use Rattle.std.proofs.Math.Option.{Option as Maybe, none, some}
use Rattle.eb3.specs.Scopes.{Scope}
use Rattle.eb3.specs.Terms.{Term}
use Rattle.eb3.specs.Moves.{later}
use Rattle.eb3.specs.Sizes.{breadth}
use Rattle.listing.specs.Listing.{TermAt, holding, codes, room}

-- Words that are one running term within refusal 8's limit, and nothing else.
pub record Whole (s : List ℕ) (P : Scope) (E : Term) : Type 0 where
  pub there : TermAt s P E []
  pub narrow : breadth E ≤ 65535

-- What is made of the numbers of a term's moves' actions (a relation says what), listed in room for n numbers; None where there is too little.
pub record Made {R : Type 0} (s M : List ℕ) (n : ℕ) (makes : List ℕ → R → Type 0) (r : Option R) : Type 0 where
  pub has_room : (P : Scope) (E : Term) (rest : List ℕ) → TermAt s P E rest → room (holding M) E ≤ n → IsSome r
  pub right : (P : Scope) (E : Term) (rest : List ℕ) → TermAt s P E rest → IfSome r (λ v. makes (codes (holding M) E) v)

-- What is made of them where there is room for all of them.
pub record MadeOfAll {R : Type 0} (s M : List ℕ) (makes : List ℕ → R → Type 0) (r : Option R) : Type 0 where
  pub made : (P : Scope) (E : Term) → Whole s P E → MatchOption r ⊥ (λ v. makes (codes (holding M) E) v)

-- A move's number, or None where there is none.
unfoldable pub found_at : Maybe ℕ → Option ℕ
found_at none = None
found_at (some k) = Some k

-- The first of a list that is a given number.
unfoldable pub first_number : ℕ → List ℕ → Maybe ℕ
first_number a [] = none
first_number a (x ∷ xs) = cond (eqb x a) (some zero) (later (first_number a xs))
