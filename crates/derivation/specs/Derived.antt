-- The path of move k, found in one walk over the term and written at the end of a lent array (document 01, "Moves, in order"; paths: crate paths).
-- The answer is the place where the path begins, which goes to the end of the array; or that the term has no move k, with what is left of k once the term's
-- moves are passed and the number of words left after the term; or that there was no room.
use Rattle.std.specs.Prelude.{◌≡◌, ⊤, List, ℕ, ◌-◌, ◌≤◌, ◌<◌, length, drop}
use Rattle.eb3.specs.Scopes.{Scope}
use Rattle.eb3.specs.Terms.{Term}
use Rattle.eb3.specs.Moves.{moves}
use Rattle.eb3.specs.Sizes.{size}
use Rattle.listing.specs.Listing.{TermAt, holding, room}
use Rattle.paths.specs.Paths.{shown, path}
use Rattle.derivation.specs.declared.arrays.Derivation.{Derivation}
use Rattle.derivation.specs.declared.arrays.Derivation.TheVariants.{At, Behind, NoRoom}

-- There was room.
abbrev pub Roomed : Derivation → Type 0
Roomed (At i) = ⊤
Roomed (Behind j left) = ⊤
Roomed NoRoom = ⊥

-- What is known of an answer whatever the words are, of n words, number k and a path array of l words: a place is one in the array, and no more is left than
-- there was.
pub record Placed (n k l : ℕ) (r : Derivation) : Type 0 where
  pub place : (i : ℕ) → r ≡ At i → i ≤ l
  pub rest : (j left : ℕ) → r ≡ Behind j left → (j ≤ k) × (left ≤ n)

abbrev pub move_count : List ℕ → Term → ℕ
move_count M E = length (moves (holding M) E)

-- Of the words s, a store M, a number k, a path array that was `entry` and is `exit`, and a scratch array of n words.
pub record Derived (s M : List ℕ) (k : ℕ) (entry exit : List ℕ) (n : ℕ) (r : Derivation) : Type 0 where
  pub placed : Placed (length s) k (length entry) r
  pub has_room : (P : Scope) (E : Term) (rest : List ℕ) → TermAt s P E rest → size P.edition.width E ≤ length entry → room (holding M) E ≤ n → Roomed r
  pub found : (P : Scope) (E : Term) (rest : List ℕ) → TermAt s P E rest → Roomed r → k < move_count M E → (i : ℕ) × (r ≡ At i) × (drop i exit ≡ path P.edition.width 0 (holding M) E k)
  pub none_found : (P : Scope) (E : Term) (rest : List ℕ) → TermAt s P E rest → Roomed r → move_count M E ≤ k → r ≡ Behind (k - move_count M E) (length rest)

-- ── below masks that hide the labels of x, of the moves that show ──

abbrev pub shown_count : ℕ → List ℕ → Term → ℕ
shown_count x M E = length (shown x (holding M) E)

pub record DerivedShown (x : ℕ) (s M : List ℕ) (k : ℕ) (entry exit : List ℕ) (n : ℕ) (r : Derivation) : Type 0 where
  pub placed : Placed (length s) k (length entry) r
  pub has_room : (P : Scope) (E : Term) (rest : List ℕ) → TermAt s P E rest → size P.edition.width E ≤ length entry → room (holding M) E ≤ n → Roomed r
  pub found : (P : Scope) (E : Term) (rest : List ℕ) → TermAt s P E rest → Roomed r → k < shown_count x M E → (i : ℕ) × (r ≡ At i) × (drop i exit ≡ path P.edition.width x (holding M) E k)
  pub none_found : (P : Scope) (E : Term) (rest : List ℕ) → TermAt s P E rest → Roomed r → shown_count x M E ≤ k → r ≡ Behind (k - shown_count x M E) (length rest)
