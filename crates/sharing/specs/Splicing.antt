-- Words put in the place of others, and a shared term spelled out (document 01, "Operations": Run writes the last term).
use Rattle.std.specs.Prelude.{◌≡◌, List, [], ◌∷◌, ◌++◌, ℕ, ◌+◌, ◌-◌, ◌≤◌, length, take, Option, Some, MatchOption, IfSome}
use Rattle.std.proofs.Math.Seq.{slice}
use Rattle.eb3.specs.Scopes.{Scope}
use Rattle.eb3.specs.Terms.{Term}
use Rattle.eb3.specs.Spelling.{words}
use Rattle.sharing.specs.Shared.{Shared, term_of, part_word, shared_words, PartAt, Stands}
use Rattle.sharing.specs.Beginning.{put_at}

-- Of the first n words of d those from i to e were replaced by the first k of another array: r says how many there are then, or None where there is no room.
pub record Spliced (d mid : List ℕ) (n i e k : ℕ) (d' mid' : List ℕ) (r : Option ℕ) : Type 0 where
  pub same_length : length d' ≡ length d
  pub mid_same_length : length mid' ≡ length mid
  pub bounded : IfSome r (λ m. m ≤ length d)
  pub made : i ≤ e → e ≤ n → n ≤ length d → i + (k + (n - e)) ≤ length d → k + (n - e) ≤ length mid
      → MatchOption r ⊥ (λ m. (m ≡ i + (k + (n - e))) × (take m d' ≡ take i d ++ (take k mid ++ slice e n d)))

-- How far spelling out came: how many words are left after the term, and the place after the words written.
pub record SpelledTo : Type 0 where
  pub left : ℕ
  pub end : ℕ

abbrev pub spelled_to : ℕ → ℕ → SpelledTo
spelled_to l i = record { left = l; end = i }

-- The words w were written from `at` on, where `left` words are left.
pub record ExpandedRight (w : List ℕ) (left at : ℕ) (entry exit : List ℕ) (r : Option SpelledTo) : Type 0 where
  pub answered : r ≡ Some (spelled_to left (at + length w))
  pub written : exit ≡ put_at at w entry

-- The term that s begins with, spelled out from `at` on where there is room; r says how far that came, or None where there is no room.
pub record Expanded (s u : List ℕ) (at : ℕ) (entry exit : List ℕ) (r : Option SpelledTo) : Type 0 where
  pub same_length : length exit ≡ length entry
  pub right : (P : Scope) (S : Shared) (rest : List ℕ) → s ≡ shared_words S ++ rest → Stands u P S → at + length (words P.edition.width (term_of S)) ≤ length entry
      → ExpandedRight (words P.edition.width (term_of S)) (length rest) at entry exit r

-- A part with the word w, after which `left` words are left.
pub record PartExpanded (u : List ℕ) (w left at : ℕ) (entry exit : List ℕ) (r : Option SpelledTo) : Type 0 where
  pub same_length : length exit ≡ length entry
  pub right : (P : Scope) (l : ℕ) (E : Term) → w ≡ part_word l → PartAt u P l E → at + length (words P.edition.width E) ≤ length entry
      → ExpandedRight (words P.edition.width E) left at entry exit r

pub record DoneExpanded (left at : ℕ) (entry exit : List ℕ) (r : Option SpelledTo) : Type 0 where
  pub same_length : length exit ≡ length entry
  pub right : at + 1 ≤ length entry → ExpandedRight (30 ∷ []) left at entry exit r
