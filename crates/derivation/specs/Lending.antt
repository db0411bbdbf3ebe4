-- What a walk over a term is lent on its way to move k (document 01, "Moves, in order"): it leaves the arrays in their places, as long as they were, and
-- the store as it was; and what it answers.
use Rattle.std.specs.Prelude.{◌≡◌, List, ℕ, length}
use Rattle.derivation.specs.declared.arrays.Arrays.{Arrays}
use Rattle.derivation.specs.declared.arrays.Derivation.{Derivation}
use Rattle.derivation.specs.declared.arrays.Derivation.TheVariants.{At, Behind, NoRoom}
use Rattle.derivation.specs.declared.arrays.Walked.{Walked}
use Rattle.derivation.specs.declared.arrays.Walked.TheVariants.{Found, Passed, Full}

pub record Kept (b e : Arrays) : Type 0 where
  pub store : e.store.now ≡ b.store.now
  pub path : e.path.ghost_name ≡ b.path.ghost_name
  pub acts : e.acts.ghost_name ≡ b.acts.ghost_name
  pub path_length : length e.path.now ≡ length b.path.now
  pub acts_length : length e.acts.now ≡ length b.acts.now

-- The answer of a walk that left the arrays so, with its numbers.
abbrev pub answered : Arrays → Walked → Derivation
answered e Found = At e.at
answered e Passed = Behind e.k e.left
answered e Full = NoRoom

-- D of the arrays that were b and are e: of the store, of number k, of the path array before and after, of the scratch array's length, and of the answer r.
abbrev pub Over : {A : Type 0} → (List ℕ → ℕ → List ℕ → List ℕ → ℕ → A → Type 0) → ℕ → Arrays → Arrays → A → Type 0
Over {A} D k b e r = D b.store.now k b.path.now e.path.now (length b.acts.now) r
