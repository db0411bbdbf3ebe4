-- Where move k of a shared term takes place: in a part, in a part after done, or at a parallel of done and done (document 01, "Moves, in order").
use Rattle.std.specs.Prelude.{◌≡◌, List, ◌++◌, ℕ, ◌-◌, ◌≤◌, ◌<◌, length, drop}
use Rattle.std.proofs.Math.Option.{some}
use Rattle.std.proofs.Math.ListN.{get_elem?}
use Rattle.eb3.specs.Scopes.{Scope}
use Rattle.eb3.specs.Terms.{Term}
use Rattle.eb3.specs.Moves.{Move, move, moves}
use Rattle.eb3.specs.Sizes.{size}
use Rattle.listing.specs.Listing.{holding}
use Rattle.paths.specs.Paths.{path}
use Rattle.derivation.specs.Derived.{move_count}
use Rattle.sharing.specs.Shared.{Shared, Ended, Part, Then, Beside, term_of, part_word, shared_words, PartAt, Stands}
use Rattle.sharing.specs.Walking.{Spot, spot_at, spot_behind}

-- What moves: move j, whose path is p, of a part of the unfolding that is alone at the place or after done; or a parallel of done and done.
pub data Moving (u : List ℕ) (P : Scope) (M : List ℕ) (p : List ℕ) (here : Shared) (j : ℕ) : Type 0 where
  part : (l : ℕ) (E : Term) → here ≡ Part l E → PartAt u P l E → j < move_count M E → p ≡ path P.edition.width 0 (holding M) E j → Moving u P M p here j
  resumed : (l : ℕ) (E : Term) → here ≡ Then Ended l E → PartAt u P l E → j < move_count M E → p ≡ path P.edition.width 0 (holding M) E j → Moving u P M p here j
  joined : here ≡ Beside Ended Ended → j ≡ 0 → Moving u P M p here j

-- Move k of S is move j of the term `here` at a place of S; `before` are the words of S before that place, `after` those after it.
pub record Place (u : List ℕ) (P : Scope) (M : List ℕ) (p : List ℕ) (S : Shared) (k : ℕ) : Type 0 where
  pub here : Shared
  pub j : ℕ
  pub moving : Moving u P M p here j
  pub around : Shared → Shared
  pub before : List ℕ
  pub after : List ℕ
  pub words_here : shared_words S ≡ before ++ (shared_words here ++ after)
  pub words_around : (X : Shared) → shared_words (around X) ≡ before ++ (shared_words X ++ after)
  pub stands_around : (X : Shared) → Stands u P X → Stands u P (around X)
  pub size_around : (X : Shared) → size P.edition.width (term_of X) ≤ size P.edition.width (term_of (around X))
  pub move_here : (X : Shared) (x : Move) → get_elem? (moves (holding M) (term_of here)) j ≡ some x → x.successor ≡ term_of X
      → get_elem? (moves (holding M) (term_of S)) k ≡ some (move x.action (term_of (around X)))

-- For a shared term S with the words rest after it, r was answered; the path array is `exit` then.
pub record FoundRight (u : List ℕ) (P : Scope) (M : List ℕ) (S : Shared) (rest : List ℕ) (k : ℕ) (exit : List ℕ) (r : Spot) : Type 0 where
  pub q : ℕ
  pub place : Place u P M (drop q exit) S k
  pub answered : r ≡ spot_at (length (shared_words place.here ++ (place.after ++ rest))) q

-- What is known of an answer whatever the words are: no more than `here` words are left where a place begins, no more than `left` after the term.
pub record Spotted (here left k l : ℕ) (r : Spot) : Type 0 where
  pub place : (a i : ℕ) → r ≡ spot_at a i → (a ≤ here) × (i ≤ l)
  pub rest : (j a : ℕ) → r ≡ spot_behind j a → (j ≤ k) × (a ≤ left)

pub record Found (u s M : List ℕ) (k : ℕ) (entry exit : List ℕ) (n : ℕ) (r : Spot) : Type 0 where
  pub same_length : length exit ≡ length entry
  pub spotted : Spotted (length s) (length s) k (length entry) r
  pub found : (P : Scope) (S : Shared) (rest : List ℕ) → s ≡ shared_words S ++ rest → Stands u P S → length u ≤ length entry → length u ≤ n → k < move_count M (term_of S)
      → FoundRight u P M S rest k exit r
  pub none_found : (P : Scope) (S : Shared) (rest : List ℕ) → s ≡ shared_words S ++ rest → Stands u P S → length u ≤ length entry → length u ≤ n → move_count M (term_of S) ≤ k
      → r ≡ spot_behind (k - move_count M (term_of S)) (length rest)

-- The same in a part with the word w, whose place begins where `here` words are left and ends where `left` words are left.
pub record PartFound (u : List ℕ) (w here left : ℕ) (M : List ℕ) (k : ℕ) (entry exit : List ℕ) (n : ℕ) (r : Spot) : Type 0 where
  pub same_length : length exit ≡ length entry
  pub spotted : Spotted here left k (length entry) r
  pub found : (P : Scope) (l : ℕ) (E : Term) → w ≡ part_word l → PartAt u P l E → length u ≤ length entry → length u ≤ n → k < move_count M E
      → (q : ℕ) × (r ≡ spot_at here q) × (drop q exit ≡ path P.edition.width 0 (holding M) E k)
  pub none_found : (P : Scope) (l : ℕ) (E : Term) → w ≡ part_word l → PartAt u P l E → length u ≤ length entry → length u ≤ n → move_count M E ≤ k
      → r ≡ spot_behind (k - move_count M E) left
