-- The successor of a part along a path, held in few words: what has started is spelled out, what is in the unfolding is held as its place (document 01,
-- "Moves, in order"). The answer is how far that came, or None where there was no room.
use Rattle.std.specs.Prelude.{◌≡◌, true, List, [], ◌∷◌, ◌++◌, ℕ, ◌+◌, ◌≤◌, length, take, drop, Option, Some}
use Rattle.eb3.specs.Scopes.{Scope}
use Rattle.eb3.specs.Terms.{Term, VisibleAction, Action, visible}
use Rattle.eb3.specs.Sizes.{size}
use Rattle.words.specs.Checking.{last_of}
use Rattle.listing.specs.Listing.{TermAt}
use Rattle.listing.specs.Positions.{TwoAt}
use Rattle.actions.specs.Codes.{action_code, ActionAt}
use Rattle.paths.specs.Paths.{Followed, follow, marked}
use Rattle.sharing.specs.Shared.{Shared, term_of, shared_words, Unmasked, Stands}

-- How far writing came: the place after the words written, how many words of the path are left, and the action's number.
pub record Reached : Type 0 where
  pub at : ℕ
  pub left : ℕ
  pub action : ℕ

abbrev pub reached : ℕ → ℕ → ℕ → Reached
reached i l a = record { at = i; left = l; action = a }

-- Words written into an array from a place on.
abbrev pub put_at : ℕ → List ℕ → List ℕ → List ℕ
put_at at w entry = take at entry ++ (w ++ drop (at + length w) entry)

-- The successor that was followed, written from `at` on.
pub record BeganRight (u : List ℕ) (P : Scope) (f : Followed) (at : ℕ) (entry exit : List ℕ) (r : Option Reached) : Type 0 where
  pub shared : Shared
  pub stands : Stands u P shared
  pub is_successor : term_of shared ≡ f.successor
  pub written : exit ≡ put_at at (shared_words shared) entry
  pub answered : r ≡ Some (reached (at + length (shared_words shared)) (length f.rest) (action_code f.action))

-- What writing the successor along the path p gives for the words s, the last ones of the unfolding u.
pub record Beginning (s p : List ℕ) (at : ℕ) (entry exit : List ℕ) (r : Option Reached) : Type 0 where
  pub same_length : length exit ≡ length entry
  pub right : (u : List ℕ) (P : Scope) (E : Term) (rest : List ℕ) → length u ≤ 65503 → length s ≤ length u → s ≡ last_of (length s) u → TermAt s P E rest → Unmasked E → marked P.edition.width E p ≡ true
      → length p ≤ 65535 → at + size P.edition.width (follow E p).successor ≤ length entry → BeganRight u P (follow E p) at entry exit r

-- ── its parts ──

-- r is the number of the action whose words, after its code, t begins with.
abbrev pub ActionNumber : List ℕ → ℕ → Type 0
ActionNumber t r = (a : VisibleAction) (rest : List ℕ) → ActionAt t a rest → r ≡ action_code (visible a)

-- Done was written, where `left` words of the path are left and a is the action's number.
pub record EndPut (left a at : ℕ) (entry exit : List ℕ) (r : Option Reached) : Type 0 where
  pub same_length : length exit ≡ length entry
  pub right : at + 1 ≤ length entry → (exit ≡ put_at at (30 ∷ []) entry) × (r ≡ Some (reached (at + 1) left a))

-- Two operands written from `at` on: what they are now, by X and Y, an action and what is left of the path.
pub record TwoRight (u : List ℕ) (P : Scope) (E F : Term) (ρ : Action) (rest : List ℕ) (at : ℕ) (entry exit : List ℕ) (r : Option Reached) : Type 0 where
  pub X : Shared
  pub Y : Shared
  pub X_stands : Stands u P X
  pub Y_stands : Stands u P Y
  pub X_is : term_of X ≡ E
  pub Y_is : term_of Y ≡ F
  pub written : exit ≡ put_at at (shared_words X ++ shared_words Y) entry
  pub answered : r ≡ Some (reached (at + length (shared_words X ++ shared_words Y)) (length rest) (action_code ρ))

-- The left operand moves, the right one stays.
pub record LeftBegun (e p : List ℕ) (at : ℕ) (entry exit : List ℕ) (r : Option Reached) : Type 0 where
  pub same_length : length exit ≡ length entry
  pub right : (u : List ℕ) (P : Scope) (E F : Term) (rest : List ℕ) → length u ≤ 65503 → length e ≤ length u → e ≡ last_of (length e) u → TwoAt e P E F rest → Unmasked E → Unmasked F
      → marked P.edition.width E p ≡ true → length p ≤ 65535 → at + size P.edition.width (follow E p).successor + 1 ≤ length entry
      → TwoRight u P (follow E p).successor F (follow E p).action (follow E p).rest at entry exit r

-- Both move; the right one begins after n words.
pub record BothBegun (e : List ℕ) (n : ℕ) (p : List ℕ) (at : ℕ) (entry exit : List ℕ) (r : Option Reached) : Type 0 where
  pub same_length : length exit ≡ length entry
  pub right : (u : List ℕ) (P : Scope) (E F : Term) (rest : List ℕ) → length u ≤ 65503 → length e ≤ length u → e ≡ last_of (length e) u → TwoAt e P E F rest → n ≡ size P.edition.width E → Unmasked E → Unmasked F
      → marked P.edition.width E p ≡ true → marked P.edition.width F (follow E p).rest ≡ true → length p ≤ 65535 → at + (size P.edition.width (follow E p).successor + size P.edition.width (follow F (follow E p).rest).successor) ≤ length entry
      → TwoRight u P (follow E p).successor (follow F (follow E p).rest).successor (follow E p).action (follow F (follow E p).rest).rest at entry exit r
