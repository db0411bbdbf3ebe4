-- A memory as words, one a cell (document 01, "Values and conditions", "Memory and the history machine"): the one place that knows a cell's width and
-- undefined's word.
use Rattle.std.specs.Prelude.{List, map, ℕ, take}
use Rattle.eb3.specs.Values.{Value, encode, decode}
use Rattle.eb3.specs.Bytes.{words_in, word_count}

-- Undefined's word in a cell: above every number of every edition (Laws/Editions).
abbrev pub undefined_cell : ℕ
undefined_cell = 65535

-- How many cells a lent memory has room for.
abbrev pub cell_room : List ℕ → ℕ
cell_room memory = word_count memory

unfoldable pub memory_words : List Value → List ℕ
memory_words cells = map (encode undefined_cell) cells

-- The first n cells of a memory, where top is the largest number.
unfoldable pub cells_in : ℕ → ℕ → List ℕ → List Value
cells_in top n memory = map (decode top) (take n (words_in memory))
