-- What the search for the place of a move of a shared term answers; its numbers are in the arrays (document 01, "Moves, in order").
use Rattle.std.specs.Prelude.{ℕ}
use Rattle.derivation.specs.declared.arrays.Arrays.{Arrays}
use Rattle.derivation.specs.declared.arrays.Walked.{Walked}
use Rattle.derivation.specs.declared.arrays.Walked.TheVariants.{Found, Passed, Full}

-- The words left where the place begins, and where the path begins; or what is left of k, and the words left after the term; or that there was no room.
pub data Spot : Type 0 where
  spot_at : ℕ → ℕ → Spot
  spot_behind : ℕ → ℕ → Spot
  no_spot : Spot

abbrev pub found_in : Arrays → Walked → Spot
found_in e Found = spot_at e.left e.at
found_in e Passed = spot_behind e.k e.left
found_in e Full = no_spot
