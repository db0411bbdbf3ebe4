-- The words at the beginning of a term that stay as they are when an operand after them moves, and the words of the path that lead to it.
-- Document 01, "Moves, in order"; "Operations": the successor is built within a part of the lent buffer.
use Rattle.std.specs.Prelude.{◌≡◌, true, List, ◌++◌, ℕ, ◌≤◌, ◌<◌, eqb, length, take, drop, get_or}
use Rattle.eb3.specs.Reading.{pick}
use Rattle.eb3.specs.Scopes.{Scope}
use Rattle.eb3.specs.Terms.{Term}
use Rattle.listing.specs.Listing.{TermAt}
use Rattle.paths.specs.Paths.{follow, marked}
use Rattle.successors.specs.Building.{built_words}

-- Of a term E at the beginning of s and a path p: the operand that moves comes after n words, and its path after l words of p. The successor of E begins
-- with these n words, and goes on with the operand's successor and the words after the operand.
pub record Moving (s p : List ℕ) (n l : ℕ) (P : Scope) (E : Term) (rest : List ℕ) : Type 0 where
  pub operand : Term
  pub behind : List ℕ
  pub there : TermAt (drop n s) P operand behind
  pub led : marked P.edition.width operand (drop l p) ≡ true
  pub same_action : (follow E p).action ≡ (follow operand (drop l p)).action
  pub stays : built_words P.edition.width E p ++ rest ≡ take n s ++ (built_words P.edition.width operand (drop l p) ++ behind)

-- The same, for any term at the beginning of s.
abbrev pub Ahead : List ℕ → List ℕ → ℕ → ℕ → Type 0
Ahead s p n l = (P : Scope) (E : Term) (rest : List ℕ) → TermAt s P E rest → marked P.edition.width E p ≡ true → Moving s p n l P E rest

-- The number of words of the path before the operand's path: a sequence has no word; where the right operand moves, the left one's size follows the decision.
unfoldable pub leading_words : List ℕ → List ℕ → ℕ
leading_words s p = pick (eqb (get_or s 0 0) 22) 0 (pick (eqb (get_or p 0 0) 1) 1 2)

-- One step: n words stay, where n is not 0.
pub record Staying (s p : List ℕ) (n : ℕ) : Type 0 where
  pub bounded : n ≤ 65540
  pub fewer : 0 < n → leading_words s p ≤ n
  pub ahead : 0 < n → Ahead s p n (leading_words s p)

-- All steps: n words stay, and the path of the operand after them begins after l words.
pub record Unchanged (s p : List ℕ) (n l : ℕ) : Type 0 where
  pub stay_bounded : n ≤ length s
  pub lead_bounded : l ≤ length p
  pub ahead : Ahead s p n l
