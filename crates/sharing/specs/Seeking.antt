-- The path of move k of a part of the unfolding, whose end is not needed (document 01, "Moves, in order"; paths: crate paths). The answer is that of
-- derivation, but where there is no move k it does not say how many words are left.
use Rattle.std.specs.Prelude.{◌≡◌, List, ℕ, ◌+◌, ◌≤◌, length}
use Rattle.eb3.specs.Scopes.{Scope}
use Rattle.eb3.specs.Terms.{Term}
use Rattle.eb3.specs.Sizes.{size}
use Rattle.listing.specs.Listing.{TermAt, holding, room}
use Rattle.listing.specs.Positions.{TwoAt}
use Rattle.paths.specs.Paths.{path, path_in_turn}
use Rattle.derivation.specs.declared.arrays.Derivation.{Derivation}
use Rattle.derivation.specs.Derived.{Roomed, Placed, move_count}
use Rattle.derivation.specs.Arms.{Outcome}
use Rattle.sharing.specs.Shared.{Unmasked}

-- Of `count` moves, p is the path of move k; or there is no move k, however many words are left after the term.
abbrev pub SomeOutcome : ℕ → List ℕ → ℕ → List ℕ → Derivation → Type 0
SomeOutcome count p k exit r = (left : ℕ) × Outcome count p left k exit r

-- What the search gives for the words s, a store M, a number k, a path array that was `entry` and is `exit`, and a scratch array of n numbers.
pub record Sought (s M : List ℕ) (k : ℕ) (entry exit : List ℕ) (n : ℕ) (r : Derivation) : Type 0 where
  pub same_length : length exit ≡ length entry
  pub placed : Placed 65535 k (length entry) r
  pub has_room : (P : Scope) (E : Term) (rest : List ℕ) → TermAt s P E rest → Unmasked E → size P.edition.width E ≤ length entry → room (holding M) E ≤ n → Roomed r
  pub right : (P : Scope) (E : Term) (rest : List ℕ) → TermAt s P E rest → Unmasked E → Roomed r → SomeOutcome (move_count M E) (path P.edition.width 0 (holding M) E k) k exit r

-- Two operands, the second's moves after the first's; c is the decision for the first.
pub record TwoSought (c : ℕ) (t M : List ℕ) (k : ℕ) (entry exit : List ℕ) (n : ℕ) (r : Derivation) : Type 0 where
  pub same_length : length exit ≡ length entry
  pub placed : Placed 65535 k (length entry) r
  pub has_room : (P : Scope) (E F : Term) (rest : List ℕ) → TwoAt t P E F rest → Unmasked E → Unmasked F → 1 + size P.edition.width E + size P.edition.width F ≤ length entry → room (holding M) E ≤ n → room (holding M) F ≤ n → Roomed r
  pub right : (P : Scope) (E F : Term) (rest : List ℕ) → TwoAt t P E F rest → Unmasked E → Unmasked F → Roomed r
      → SomeOutcome (move_count M E + move_count M F) (path_in_turn c (size P.edition.width E) (move_count M E) (path P.edition.width 0 (holding M) E) (path P.edition.width 0 (holding M) F) k) k exit r
