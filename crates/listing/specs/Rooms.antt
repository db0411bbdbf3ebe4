-- The room that listing two operands takes, the second's moves after the first's; and that listing both sides of a parallel with a mask takes.
-- Document 01, "Moves, in order".
use Rattle.std.specs.Prelude.{Bool, ℕ, ◌+◌, max, length}
use Rattle.eb3.specs.Expressions.{Cond}
use Rattle.eb3.specs.Terms.{Term}
use Rattle.listing.specs.Listing.{codes, room}

abbrev pub two_room : (Cond → Bool) → Term → Term → ℕ
two_room g E F = max (room g E) (length (codes g E) + room g F)

-- n numbers are made of both sides' lists
abbrev pub masked_room : (Cond → Bool) → Term → Term → ℕ → ℕ
masked_room g E F n = max (room g E) (length (codes g E) + max (room g F) (length (codes g F) + n))
