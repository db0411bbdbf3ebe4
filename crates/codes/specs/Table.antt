-- The table of codes (document 01, "Values and conditions", "Blocks and the rule stream", and 30 for done; document 02, K2 and K6): how many words
-- come between a code and its operands, and how many operands it has. A running term has no codes 27 to 29, and 14 to 19 are no codes.
use Rattle.std.specs.Prelude.{Bool, List, [], ◌∷◌, ℕ, get_or}
use Rattle.eb3.specs.Generic.Lists.{one_of}

pub record Row : Type 0 where
  pub words : ℕ
  pub operands : ℕ

abbrev row : ℕ → ℕ → Row
row w n = record { words = w; operands = n }

-- Here a constant has one word and a function one parameter; a constant's second word, a second argument of now and before, and an action's arguments
-- come in addition (Shapes).
abbrev pub table : List Row
table =
    row 0 0  -- 0 undefined
    ∷ row 1 0  -- 1 constant: its value
    ∷ row 1 0  -- 2 variable: its number
    ∷ row 0 2  -- 3 add
    ∷ row 0 2  -- 4 subtract
    ∷ row 0 3  -- 5 if
    ∷ row 1 1  -- 6 now: the function's number
    ∷ row 1 1  -- 7 before: the function's number
    ∷ row 0 2  -- 8 equal
    ∷ row 0 2  -- 9 less
    ∷ row 0 2  -- 10 and
    ∷ row 0 2  -- 11 or
    ∷ row 0 1  -- 12 not
    ∷ row 0 0  -- 13 true
    ∷ row 0 0
    ∷ row 0 0
    ∷ row 0 0
    ∷ row 0 0
    ∷ row 0 0
    ∷ row 0 0
    ∷ row 0 0  -- 20 internal
    ∷ row 1 0  -- 21 action: the label
    ∷ row 0 2  -- 22 sequence
    ∷ row 0 2  -- 23 choice
    ∷ row 0 1  -- 24 star
    ∷ row 4 2  -- 25 parallel: the mask
    ∷ row 0 2  -- 26 guard
    ∷ row 0 0
    ∷ row 0 0
    ∷ row 0 0
    ∷ row 0 0  -- 30 done
    ∷ []

abbrev pub row_of : ℕ → Row
row_of c = get_or table c (row 0 0)

unfoldable pub words_after : ℕ → ℕ
words_after c = (row_of c).words

unfoldable pub operands_after : ℕ → ℕ
operands_after c = (row_of c).operands

-- A term that begins with one of these has a move whatever its operands are: an internal move, an action, a star, a parallel (document 01, "Moves, in order").
unfoldable pub moving_code : ℕ → Bool
moving_code c = one_of (20 ∷ 21 ∷ 24 ∷ 25 ∷ []) c
