-- Move k of a running term: its action, and its successor built in a lent buffer (document 01, "Moves, in order"; "Operations": words past the
-- reported size keep their values, and a refusal writes nothing).
use Rattle.std.specs.Prelude.{◌≡◌, List, ℕ, ◌≤◌, ◌<◌, length, drop, Option, None, Some}
use Rattle.std.proofs.Math.Option.{Option as Maybe, none, some}
use Rattle.std.proofs.Math.ListN.{get_elem?}
use Rattle.eb3.specs.Scopes.{Scope}
use Rattle.eb3.specs.Terms.{Term}
use Rattle.eb3.specs.Moves.{Move, moves}
use Rattle.eb3.specs.Sizes.{size}
use Rattle.eb3.specs.Spelling.{words}
use Rattle.eb3.specs.Bytes.{word_count, written}
use Rattle.actions.specs.Codes.{action_code}
use Rattle.listing.specs.Listing.{holding}
use Rattle.paths.specs.Paths.{path}
use Rattle.derivation.specs.declared.arrays.Derivation.{Derivation}
use Rattle.derivation.specs.declared.arrays.Derivation.TheVariants.{At, Behind, NoRoom}
use Rattle.derivation.specs.Derived.{move_count}
use Rattle.steps.specs.Counting.{Whole}
use Rattle.steps.specs.declared.moving.Taken.{Taken}

-- ── its path ──

-- The place in an answer of a derivation, if there is one.
abbrev pub place_in : Derivation → Option ℕ
place_in (At i) = Some i
place_in (Behind j left) = None
place_in NoRoom = None

-- Sought in as much room as it takes: there is always an answer.
pub record PathFound (s M : List ℕ) (k : ℕ) (entry exit : List ℕ) (r : Option ℕ) : Type 0 where
  pub same_length : length exit ≡ length entry
  pub place_bounded : (at : ℕ) → r ≡ Some at → at ≤ length entry
  pub found : (P : Scope) (E : Term) → Whole s P E → size P.edition.width E ≤ length entry → k < move_count M E → (at : ℕ) × (r ≡ Some at) × (drop at exit ≡ path P.edition.width 0 (holding M) E k)
  pub none_found : (P : Scope) (E : Term) → Whole s P E → size P.edition.width E ≤ length entry → move_count M E ≤ k → r ≡ None

-- ── the move; a constant has `width` words ──

-- The action's number and the successor's size, or that there is no such move.
unfoldable pub taken_as : ℕ → Maybe Move → Option Taken
taken_as width none = None
taken_as width (some x) = Some (record { action = action_code x.action; size = length (words width x.successor) })

-- The buffer afterwards.
unfoldable pub built_over : ℕ → Maybe Move → List ℕ → List ℕ
built_over width none B = B
built_over width (some x) B = written (words width x.successor) B

-- There is room for the successor.
abbrev pub SuccessorFits : ℕ → Maybe Move → List ℕ → Type 0
SuccessorFits width none B = Unit
SuccessorFits width (some x) B = length (words width x.successor) ≤ word_count B

pub record Took (width : ℕ) (o : Maybe Move) (B B' : List ℕ) (r : Option Taken) : Type 0 where
  pub answer : r ≡ taken_as width o
  pub buffer : B' ≡ built_over width o B

-- Move k is taken from the words s at the store M, with room for a path of n words and for the successor.
abbrev pub MoveTaken : List ℕ → List ℕ → ℕ → ℕ → List ℕ → List ℕ → Option Taken → Type 0
MoveTaken s M k n B B' r = (P : Scope) (E : Term) → Whole s P E → size P.edition.width E ≤ n → SuccessorFits P.edition.width (get_elem? (moves (holding M) E) k) B
    → Took P.edition.width (get_elem? (moves (holding M) E) k) B B' r
