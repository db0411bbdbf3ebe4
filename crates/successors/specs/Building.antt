-- The successor of a move, built within a part of a lent buffer (document 01, "Operations": the successor is built within a part of the lent buffer;
-- words past the reported size keep their values). The path is marked: the sizes of left operands that it holds are right.
use Rattle.std.specs.Prelude.{◌≡◌, true, List, [], ℕ, ◌*◌, ◌≤◌, length}
use Rattle.eb3.specs.Scopes.{Scope}
use Rattle.eb3.specs.Terms.{Term}
use Rattle.eb3.specs.Spelling.{words}
use Rattle.eb3.specs.Bytes.{written}
use Rattle.actions.specs.Codes.{action_code}
use Rattle.listing.specs.Listing.{TermAt}
use Rattle.paths.specs.Paths.{follow, marked}
use Rattle.successors.specs.declared.Built.{Built}

-- A constant has `width` words.
abbrev pub built_words : ℕ → Term → List ℕ → List ℕ
built_words width E p = words width (follow E p).successor

-- Where there was room.
pub record BuiltRight (width : ℕ) (E : Term) (p entry exit : List ℕ) (r : Built) : Type 0 where
  pub action : r.action ≡ action_code (follow E p).action
  pub size : r.words ≡ length (built_words width E p)
  pub written_there : exit ≡ written (built_words width E p) entry

-- Of the words s, which are one term's, a path p and a lent buffer.
pub record Building (s p entry exit : List ℕ) (r : Built) : Type 0 where
  pub same_length : length exit ≡ length entry
  pub has_room : (P : Scope) (E : Term) → TermAt s P E [] → marked P.edition.width E p ≡ true → 2 * length (built_words P.edition.width E p) ≤ length entry → r.ok ≡ true
  pub right : (P : Scope) (E : Term) → TermAt s P E [] → marked P.edition.width E p ≡ true → r.ok ≡ true → BuiltRight P.edition.width E p entry exit r
