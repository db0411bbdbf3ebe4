-- Words written into a buffer, beginning at one of its words (document 01, "Unfolding, size and breadth").
use Rattle.std.specs.Prelude.{List, ◌++◌, ℕ, ◌*◌, take, drop}
use Rattle.eb3.specs.Bytes.{written}

-- Words written into a buffer, beginning at its word `at`.
unfoldable pub written_from : ℕ → List ℕ → List ℕ → List ℕ
written_from at ws B = take (2 * at) B ++ written ws (drop (2 * at) B)
