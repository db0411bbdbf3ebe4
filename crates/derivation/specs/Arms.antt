-- What the search for a path answers at each form of a term: a decision before the path, an action, two operands one after the other, sides of a parallel.
-- Document 01, "Moves, in order".
use Rattle.std.specs.Prelude.{◌≡◌, ⊤, true, false, cond, List, ◌∷◌, ◌++◌, ℕ, ◌+◌, ◌-◌, ◌≤◌, ◌<◌, length, drop}
use Rattle.std.specs.Int.Bits.{bit_or}
use Rattle.eb3.specs.Scopes.{Scope}
use Rattle.eb3.specs.Terms.{Term, VisibleAction, visible}
use Rattle.eb3.specs.Sizes.{size}
use Rattle.actions.specs.Codes.{action_code, ActionAt}
use Rattle.actions.specs.Sets.{in_set}
use Rattle.listing.specs.Listing.{TermAt, holding, codes, room}
use Rattle.listing.specs.Positions.{TwoAt}
use Rattle.listing.specs.Rooms.{two_room}
use Rattle.paths.specs.Paths.{Sides, path, path_in_turn, path_by, idle, alone, paired, locate}
use Rattle.derivation.specs.declared.arrays.Derivation.{Derivation}
use Rattle.derivation.specs.declared.arrays.Derivation.TheVariants.{At, Behind, NoRoom}
use Rattle.derivation.specs.Derived.{Roomed, Placed, shown_count}
use Rattle.derivation.specs.Searching.{Within, shown_combined}

-- The answer where there was room, for a term of `count` moves: p is the path of move k; or there is no move k, and `left` words remain after the term.
pub record Outcome (count : ℕ) (p : List ℕ) (left k : ℕ) (exit : List ℕ) (r : Derivation) : Type 0 where
  pub found : k < count → (i : ℕ) × (r ≡ At i) × (drop i exit ≡ p)
  pub none_found : count ≤ k → r ≡ Behind (k - count) left

-- The words of a decision, o, were written directly before a path that began at i, so that it begins at j now; or there was no room for them.
abbrev pub Written : List ℕ → ℕ → List ℕ → List ℕ → Derivation → Type 0
Written o i entry exit (At j) = (j + length o ≡ i) × (drop j exit ≡ o ++ drop i entry)
Written o i entry exit (Behind j left) = ⊥
Written o i entry exit NoRoom = i < length o

-- They are written before a path; any other answer is as it was.
abbrev pub WrittenBefore : List ℕ → Derivation → List ℕ → List ℕ → Derivation → Type 0
WrittenBefore o (At i) entry exit q = Written o i entry exit q
WrittenBefore o (Behind j left) entry exit q = q ≡ Behind j left
WrittenBefore o NoRoom entry exit q = q ≡ NoRoom

pub record Decided (o : List ℕ) (r : Derivation) (entry exit : List ℕ) (q : Derivation) : Type 0 where
  pub same_length : length exit ≡ length entry
  pub wrote : WrittenBefore o r entry exit q

-- An action, at the end of a path array: it is hidden, or one move with an empty path.
pub record ActionDerived (x : ℕ) (t : List ℕ) (k end : ℕ) (r : Derivation) : Type 0 where
  pub placed : Placed (length t) k end r
  pub has_room : Roomed r
  pub hidden : (a : VisibleAction) (rest : List ℕ) → ActionAt t a rest → in_set x (action_code (visible a)) ≡ true → r ≡ Behind k (length rest)
  pub shows : (a : VisibleAction) (rest : List ℕ) → ActionAt t a rest → in_set x (action_code (visible a)) ≡ false → (k ≡ 0 → r ≡ At end) × (1 ≤ k → r ≡ Behind (k - 1) (length rest))

-- Two operands: how many of their moves show, and move k's path, over the words of a constant; it has at most w words more than both operands.
pub record OperandsDerived (w : ℕ) (count : Term → Term → ℕ) (p : ℕ → Term → Term → List ℕ) (t M : List ℕ) (k : ℕ) (entry exit : List ℕ) (n : ℕ) (r : Derivation) : Type 0 where
  pub placed : Placed (length t) k (length entry) r
  pub has_room : (P : Scope) (E F : Term) (rest : List ℕ) → TwoAt t P E F rest → w + size P.edition.width E + size P.edition.width F ≤ length entry → two_room (holding M) E F ≤ n → Roomed r
  pub right : (P : Scope) (E F : Term) (rest : List ℕ) → TwoAt t P E F rest → Roomed r → Outcome (count E F) (p P.edition.width E F) (length rest) k exit r

-- The second operand's moves come after the first's; c is the decision for the first, c + 1 that for the second.
abbrev pub TwoDerived : ℕ → ℕ → List ℕ → List ℕ → ℕ → List ℕ → List ℕ → ℕ → Derivation → Type 0
TwoDerived x c t M k entry exit n r = OperandsDerived 1 (λ E F. shown_count x M E + shown_count x M F)
    (λ v E F. path_in_turn c (size v E) (shown_count x M E) (path v x (holding M) E) (path v x (holding M) F) k) t M k entry exit n r

-- A parallel whose left side can never move: the right's moves that show below y.
abbrev pub RightDerived : ℕ → List ℕ → List ℕ → ℕ → List ℕ → List ℕ → ℕ → Derivation → Type 0
RightDerived y t M k entry exit n r = OperandsDerived 1 (λ E F. shown_count y M F) (λ v E F. 2 ∷ size v E ∷ path v y (holding M) F k) t M k entry exit n r

-- One whose right side can never move: the left's.
abbrev pub LeftDerived : ℕ → List ℕ → List ℕ → ℕ → List ℕ → List ℕ → ℕ → Derivation → Type 0
LeftDerived y t M k entry exit n r = OperandsDerived 1 (λ E F. shown_count y M E) (λ v E F. 1 ∷ path v y (holding M) E k) t M k entry exit n r

-- The path of a move of the sides found; each side's is one of all its moves.
abbrev pub sides_path : List ℕ → ℕ → Term → Term → Sides → List ℕ
sides_path M width E F s = path_by (size width E) (path width 0 (holding M) E) (path width 0 (holding M) F) s

abbrev pub combined_count : ℕ → ℕ → List ℕ → Term → Term → ℕ
combined_count x δ M E F = length (shown_combined x δ (codes (holding M) E) (codes (holding M) F))

abbrev pub listed_path : ℕ → ℕ → List ℕ → ℕ → ℕ → Term → Term → List ℕ
listed_path x δ M k width E F = sides_path M width E F (locate (alone x δ) (paired x δ) (codes (holding M) E) (codes (holding M) F) k)

-- Both sides may move: the sides are found among all their moves, δ is the mask's set.
abbrev pub ListedDerived : ℕ → ℕ → List ℕ → List ℕ → ℕ → List ℕ → List ℕ → ℕ → Derivation → Type 0
ListedDerived x δ t M k entry exit n r = OperandsDerived 2 (combined_count x δ M) (listed_path x δ M k) t M k entry exit n r

-- A parallel whose mask hides more than x.
abbrev pub masked_path : ℕ → ℕ → List ℕ → ℕ → ℕ → Term → Term → List ℕ
masked_path x δ M k width E F = cond (idle E) (2 ∷ size width E ∷ path width (bit_or x δ) (holding M) F k) (cond (idle F) (1 ∷ path width (bit_or x δ) (holding M) E k) (listed_path x δ M k width E F))

abbrev pub MaskedDerived : ℕ → ℕ → List ℕ → List ℕ → ℕ → List ℕ → List ℕ → ℕ → Derivation → Type 0
MaskedDerived x δ t M k entry exit n r = OperandsDerived 2 (combined_count x δ M) (masked_path x δ M k) t M k entry exit n r

-- An answer where there is always a move: it is a place in an array of l words, or that there was no room.
abbrev pub Made : ℕ → Derivation → Type 0
Made l (At i) = i ≤ l
Made l (Behind j left) = ⊥
Made l NoRoom = ⊤

-- The path of the move of the sides w: of both sides, that they make together, or of one side that moves alone.
pub record SidesDerived (t u M : List ℕ) (w : Sides) (entry exit : List ℕ) (n : ℕ) (r : Derivation) : Type 0 where
  pub made : Made (length entry) r
  pub has_room : (P : Scope) (E F : Term) (rest : List ℕ) → TermAt t P E u → TermAt u P F rest → Within (shown_count 0 M E) (shown_count 0 M F) w
      → 2 + size P.edition.width E + size P.edition.width F ≤ length entry → room (holding M) E ≤ n → room (holding M) F ≤ n → Roomed r
  pub found : (P : Scope) (E F : Term) (rest : List ℕ) → TermAt t P E u → TermAt u P F rest → Within (shown_count 0 M E) (shown_count 0 M F) w
      → Roomed r → (i : ℕ) × (r ≡ At i) × (drop i exit ≡ sides_path M P.edition.width E F w)
