-- What each part of combining leaves of the array that it writes into (document 01, "Moves, in order"): the same array, into which a list was written after
-- what was written before.
use Rattle.std.specs.Prelude.{◌≡◌, List, ℕ, Option, None, Some, ⊤}
use Rattle.listing.specs.declared.combining.Out.{Out}
use Rattle.listing.specs.Combining.{Wrote}

-- The place that is reached, or None where there was no room.
abbrev pub reached : ℕ → Option ⊤ → Option ℕ
reached n None = None
reached n (Some _) = Some n

-- o is written: the numbers written so far were those of b and are those of e.
pub record Puts (o : List ℕ) (b e : Out) (r : Option ⊤) : Type 0 where
  pub same_array : e.numbers.ghost_name ≡ b.numbers.ghost_name
  pub wrote : Wrote o b.at b.numbers.now e.numbers.now (reached e.at r)
