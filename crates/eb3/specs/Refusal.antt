-- The refusals by their words (document 01, the table under "Operations"). They are tested in the table's order: 1 to 8, 10, 11, 9, 12;
-- request K1's 13 (document 02) after 9.
use Rattle.std.specs.Prelude.{List, [], ◌∷◌, ℕ}

abbrev pub length : ℕ
length = 1

abbrev pub block : ℕ
block = 2

abbrev pub edition : ℕ
edition = 3

abbrev pub form : ℕ
form = 4

abbrev pub reference : ℕ
reference = 5

abbrev pub kind : ℕ
kind = 6

abbrev pub size : ℕ
size = 7

abbrev pub breadth : ℕ
breadth = 8

abbrev pub space : ℕ
space = 9

abbrev pub term : ℕ
term = 10

abbrev pub stranger : ℕ
stranger = 11

abbrev pub not_offered : ℕ
not_offered = 12

abbrev pub reader : ℕ
reader = 13

-- The refusals of each operation, by document 01's numbers: admission's, Start's, Run's, Count's, Move's, Present's.
abbrev pub of_admission : List ℕ
of_admission = 1 ∷ 2 ∷ 3 ∷ 4 ∷ 5 ∷ 6 ∷ 7 ∷ 8 ∷ []

abbrev pub of_start : List ℕ
of_start = 9 ∷ of_admission

abbrev pub of_run : List ℕ
of_run = 9 ∷ 13 ∷ of_admission

abbrev pub of_count : List ℕ
of_count = 10 ∷ 9 ∷ of_admission

-- 11 is of events, and Move is given none.
abbrev pub of_move : List ℕ
of_move = 10 ∷ 9 ∷ 12 ∷ of_admission

abbrev pub of_present : List ℕ
of_present = 10 ∷ 11 ∷ 9 ∷ 12 ∷ of_admission

-- Of any operation.
abbrev pub of_any : List ℕ
of_any = 10 ∷ 11 ∷ 9 ∷ 13 ∷ 12 ∷ of_admission
