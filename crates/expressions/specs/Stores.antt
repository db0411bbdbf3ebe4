-- The store: all that an expression is evaluated in, in one array of words (document 01, "Values and conditions"; "Memory and the history machine").
-- Its places, by their names, are: the variables, 65,535 where there is none; where the old cells begin; a row for each function, how many cells it has,
-- and where they begin among the cells; the cells that now reads; and from the place where the old cells begin those that before reads.
-- One array, since each slice that a recursive function is handed costs time and stack at every level.
use Rattle.std.specs.Prelude.{List, [], ◌∷◌, ℕ, ◌+◌, ◌*◌, get_or}
use Rattle.eb3.specs.Limits
use Rattle.eb3.specs.Editions.{edition_1}
use Rattle.eb3.specs.Values.{Value, decode}
use Rattle.eb3.specs.Expressions.{Reading, Environment}
use Rattle.eb3.specs.Attributes.{apply_in_domain}

-- The largest number: edition 1's, by which the code reads words as values.
abbrev pub largest_number : ℕ
largest_number = edition_1.top

-- A word of the store; past its end, undefined.
unfoldable pub stored : List ℕ → ℕ → ℕ
stored M i = get_or M i 65535

-- ── its places, which src/store.rt names for the code ──

-- Variable 0: the parameter of the function whose cells are computed.
abbrev pub parameter_place : ℕ
parameter_place = 0

-- Variables 1 and 2: argument i of the action.
abbrev pub argument_place : ℕ → ℕ
argument_place i = 1 + i

-- Where the old cells begin.
abbrev pub old_cells_place : ℕ
old_cells_place = 3

-- How many words a function's row has.
abbrev pub row_words : ℕ
row_words = 2

-- The row of function f: how many cells it has. The rows come after the place of where the old cells begin.
abbrev pub row_place : ℕ → ℕ
row_place f = old_cells_place + 1 + row_words * f

-- In it, where they begin among the cells.
abbrev pub begin_place : ℕ → ℕ
begin_place f = row_place f + 1

-- The cells that now reads, after the rows of the most functions that a rule set may have.
abbrev pub now_place : ℕ
now_place = row_place Limits.functions

-- The cells that before reads.
abbrev pub before_place : List ℕ → ℕ
before_place M = stored M old_cells_place

-- The most cells of a rule set of edition 1: its functions have one parameter.
abbrev pub most_cells : ℕ
most_cells = Limits.functions * Limits.domain_size

-- How many words a store has that holds that many cells once, those that now reads, or twice.
abbrev pub new_store_length : ℕ
new_store_length = now_place + most_cells

abbrev pub store_length : ℕ
store_length = now_place + 2 * most_cells

-- ── what is read of it ──

-- Function f's cell of element x, the cells beginning at a place.
unfoldable pub cell_in : List ℕ → ℕ → ℕ → ℕ → Value
cell_in M at f x = decode largest_number (stored M (at + (stored M (begin_place f) + x)))

-- What a function's name with one argument reads.
unfoldable pub reading_in : List ℕ → ℕ → Reading
reading_in M at f vs = apply_in_domain (stored M (row_place f) ∷ []) (λ xs. cell_in M at f (get_or xs 0 0)) vs

unfoldable pub variable_in : List ℕ → ℕ → Value
variable_in M i = decode largest_number (stored M i)

abbrev pub environment_in : List ℕ → Environment
environment_in M = record { top = largest_number; variable = variable_in M; now = reading_in M now_place; before = reading_in M (before_place M) }
