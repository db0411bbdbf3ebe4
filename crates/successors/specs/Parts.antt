-- What the parts of the building answer: words written whole, the beginning of a successor that goes on with the last words of the term, and such a beginning
-- after words that are already written.
-- Document 01, "Moves, in order"; "Operations": the successor is built within a part of the lent buffer.
use Rattle.std.specs.Prelude.{◌≡◌, true, false, List, ◌++◌, ℕ, ◌+◌, ◌*◌, ◌≤◌, length, take, drop}
use Rattle.eb3.specs.Generic.AllLists.{All}
use Rattle.eb3.specs.Scopes.{Scope}
use Rattle.eb3.specs.Terms.{Term}
use Rattle.eb3.specs.Spelling.{words}
use Rattle.eb3.specs.Bytes.{written}
use Rattle.words.specs.Checking.{last_of}
use Rattle.actions.specs.Codes.{action_code}
use Rattle.listing.specs.Listing.{Fits, TermAt}
use Rattle.listing.specs.Rows.{terms_words}
use Rattle.paths.specs.Paths.{Followed, follow, marked}
use Rattle.successors.specs.Building.{built_words}
use Rattle.successors.specs.declared.Built.{Built}

-- What holds whether there was room or not, of n words and a path of m.
pub record Bounded (n m : ℕ) (entry exit : List ℕ) (r : Built) : Type 0 where
  pub same_length : length exit ≡ length entry
  pub left_bounded : r.left ≤ n
  pub due_bounded : r.due ≤ n
  pub path_bounded : r.path_left ≤ m
  pub size_bounded : 2 * r.words ≤ length entry

pub record Unbuilt (r : Built) : Type 0 where
  pub ok : r.ok ≡ false
  pub words : r.words ≡ 0
  pub left : r.left ≡ 0
  pub due : r.due ≡ 0
  pub path_left : r.path_left ≡ 0

-- ── words written whole ──

-- The words o were written at the beginning of the buffer; a is the action's number, n words are left of the term and m of the path. No term at the beginning
-- of the words left still belongs to the successor (`due` is 0).
pub record MadeRight (o : List ℕ) (a n m : ℕ) (entry exit : List ℕ) (r : Built) : Type 0 where
  pub action : r.action ≡ a
  pub size : r.words ≡ length o
  pub left : r.left ≡ n
  pub due : r.due ≡ 0
  pub path_left : r.path_left ≡ m
  pub written_there : exit ≡ written o entry

pub record Made (o : List ℕ) (a n m : ℕ) (entry exit : List ℕ) (r : Built) : Type 0 where
  pub has_room : 2 * length o ≤ length entry → r.ok ≡ true
  pub right : r.ok ≡ true → MadeRight o a n m entry exit r

pub record Whole (o : List ℕ) (a n m : ℕ) (entry exit : List ℕ) (r : Built) : Type 0 where
  pub bounds : Bounded n m entry exit r
  pub made : Made o a n m entry exit r

-- The words w were written after those that x had written.
pub record AddedRight (w : List ℕ) (x : Built) (entry exit : List ℕ) (r : Built) : Type 0 where
  pub before : x.ok ≡ true
  pub action : r.action ≡ x.action
  pub size : r.words ≡ x.words + length w
  pub left : r.left ≡ x.left
  pub due : r.due ≡ 0
  pub path_left : r.path_left ≡ x.path_left
  pub written_there : exit ≡ take (2 * x.words) entry ++ written w (drop (2 * x.words) entry)

pub record Added (w : List ℕ) (x : Built) (entry exit : List ℕ) (r : Built) : Type 0 where
  pub bounds : Bounded x.left x.path_left entry exit r
  pub has_room : x.ok ≡ true → 2 * (x.words + length w) ≤ length entry → r.ok ≡ true
  pub right : r.ok ≡ true → AddedRight w x entry exit r

-- ── the beginning of a successor ──

-- The words o and then rest are what was written (`part`) and then the last words of s.
pub record GoingRight (s o rest : List ℕ) (a m : ℕ) (entry exit : List ℕ) (r : Built) : Type 0 where
  pub part : List ℕ
  pub action : r.action ≡ a
  pub path_left : r.path_left ≡ m
  pub size : r.words ≡ length part
  pub behind : length rest ≤ r.left
  pub onward : o ++ rest ≡ part ++ last_of r.left s
  pub written_there : exit ≡ written part entry

pub record Going (s o rest : List ℕ) (a m : ℕ) (entry exit : List ℕ) (r : Built) : Type 0 where
  pub has_room : 2 * length o ≤ length entry → r.ok ≡ true
  pub right : r.ok ≡ true → GoingRight s o rest a m entry exit r

-- The last words of s are the words of `due` terms, which still belong to the successor, and then rest.
pub record Standing (P : Scope) (s rest : List ℕ) (r : Built) : Type 0 where
  pub standing : List Term
  pub due : r.due ≡ length standing
  pub fit : All (Fits P) standing
  pub there : last_of r.left s ≡ terms_words P.edition.width standing ++ rest

pub record Begun (P : Scope) (s o rest : List ℕ) (a m : ℕ) (entry exit : List ℕ) (r : Built) : Type 0 where
  pub going : Going s o rest a m entry exit r
  pub stands : r.ok ≡ true → Standing P s rest r

abbrev pub BegunOf : Scope → List ℕ → Followed → List ℕ → List ℕ → List ℕ → Built → Type 0
BegunOf P s f rest entry exit r = Begun P s (words P.edition.width f.successor) rest (action_code f.action) (length f.rest) entry exit r

pub record Beginning (s p entry exit : List ℕ) (r : Built) : Type 0 where
  pub bounds : Bounded (length s) (length p) entry exit r
  pub begun : (P : Scope) (E : Term) (rest : List ℕ) → TermAt s P E rest → marked P.edition.width E p ≡ true → BegunOf P s (follow E p) rest entry exit r

-- ── after words that are already written ──

-- The words h, and after them the beginning of the successor of E.
abbrev pub BegunAfter : Scope → List ℕ → List ℕ → Term → List ℕ → List ℕ → List ℕ → List ℕ → Built → Type 0
BegunAfter P s h E p rest entry exit r = Begun P s (h ++ built_words P.edition.width E p) rest (action_code (follow E p).action) (length (follow E p).rest) entry exit r

-- The same, after the words that x wrote into a buffer b.
pub record Behind (x : Built) (u p entry exit : List ℕ) (r : Built) : Type 0 where
  pub bounds : Bounded (length u) (length p) entry exit r
  pub before : r.ok ≡ true → x.ok ≡ true
  pub begun : (h b : List ℕ) (a n m : ℕ) → length entry ≡ length b → Made h a n m b entry x
      → (P : Scope) (E : Term) (rest : List ℕ) → TermAt u P E rest → marked P.edition.width E p ≡ true → BegunAfter P u h E p rest b exit r

-- The same, after the first n words of s.
pub record After (s : List ℕ) (n : ℕ) (p entry exit : List ℕ) (r : Built) : Type 0 where
  pub bounds : Bounded (length s) (length p) entry exit r
  pub due_behind : r.due + n ≤ length s
  pub begun : (P : Scope) (E : Term) (rest : List ℕ) → TermAt (drop n s) P E rest → marked P.edition.width E p ≡ true → BegunAfter P s (take n s) E p rest entry exit r

-- The beginning x of the left operand's successor, when the right operand, which comes after it, stays and belongs to the successor too.
abbrev pub with_right : Built → Built
with_right x = record { ok = x.ok; action = x.action; words = x.words; left = x.left; due = x.due + 1; path_left = x.path_left }

-- To the beginning x, the words up to the last e words of t are added, so that it is whole. Which terms these words are is not asked.
pub record Closed (t : List ℕ) (x : Built) (e : ℕ) (entry exit : List ℕ) (r : Built) : Type 0 where
  pub bounds : Bounded e x.path_left entry exit r
  pub before : r.ok ≡ true → x.ok ≡ true
  pub made : (o rest b : List ℕ) (a m : ℕ) → length entry ≡ length b → Going t o rest a m b entry x → last_of e t ≡ rest → e ≡ length rest → Made o a e m b exit r

-- Both operands move, the left's path first: the left one comes after 5 words, the right one after n.
pub record Both (s : List ℕ) (n : ℕ) (p entry exit : List ℕ) (r : Built) : Type 0 where
  pub bounds : Bounded (length s) (length p) entry exit r
  pub begun : (P : Scope) (E F : Term) (rest : List ℕ) → TermAt (drop 5 s) P E (words P.edition.width F ++ rest) → TermAt (drop n s) P F rest → marked P.edition.width E p ≡ true → marked P.edition.width F (follow E p).rest ≡ true
      → Begun P s (take 5 s ++ (built_words P.edition.width E p ++ built_words P.edition.width F (follow E p).rest)) rest (action_code (follow E p).action) (length (follow F (follow E p).rest).rest) entry exit r
