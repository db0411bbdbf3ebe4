-- Expressions and terms in a row, as the specification spells them at the shape's width (document 01, "Codes stand before their operands").
use Rattle.std.specs.Prelude.{◌≡◌, Bool, true, ◌&&◌, List, [], ◌∷◌, ◌++◌, ℕ, ◌≤◌, eqb, length, get_or}
use Rattle.eb3.specs.Generic.AllLists.{All}
use Rattle.eb3.specs.Expressions.{Data, Cond}
use Rattle.eb3.specs.Scopes.{Scope, DataInScope, CondInScope}
use Rattle.eb3.specs.Terms.{Term, Done, Internal, Perform, Sequence, Choice, Star, Parallel, Guard}
use Rattle.eb3.specs.Sizes.{breadth}
use Rattle.eb3.specs.Spelling.{data_words, cond_words, words}
use Rattle.codes.specs.Shapes.{width_of, Shaped}

pub data Piece : Type 0 where
  of_data : Data → Piece
  of_cond : Cond → Piece
  of_term : Term → Piece

abbrev pub piece_words : ℕ → Piece → List ℕ
piece_words w (of_data d) = data_words w d
piece_words w (of_cond c) = cond_words w c
piece_words w (of_term E) = words w E

-- A running term whose guards are in scope P, and whose actions have at most two arguments.
abbrev pub term_fits : Scope → Term → Type 0
term_fits P Done = Unit
term_fits P Internal = Unit
term_fits P (Perform a) = (length a.arguments ≤ 2) × All (λ v. v ≤ P.edition.top) a.arguments
term_fits P (Sequence E F) = term_fits P E × term_fits P F
term_fits P (Choice E F) = term_fits P E × term_fits P F
term_fits P (Star E) = term_fits P E
term_fits P (Parallel Δ E F) = (length Δ ≡ 4) × term_fits P E × term_fits P F
term_fits P (Guard C E) = CondInScope C P × term_fits P E

abbrev pub piece_fits : Scope → Piece → Type 0
piece_fits P (of_data d) = DataInScope d P
piece_fits P (of_cond c) = CondInScope c P
piece_fits P (of_term E) = term_fits P E

-- In a row data and conditions come before terms, as operands do, so that no action is followed by a constant that is not its argument.
abbrev pub IsTerm : Piece → Type 0
IsTerm (of_data d) = ⊥
IsTerm (of_cond c) = ⊥
IsTerm (of_term E) = Unit

abbrev pub Ordered : List Piece → Type 0
Ordered [] = Unit
Ordered (of_data d ∷ xs) = Ordered xs
Ordered (of_cond c ∷ xs) = Ordered xs
Ordered (of_term E ∷ xs) = All IsTerm xs

abbrev pub row_words : ℕ → List Piece → List ℕ
row_words w [] = []
row_words w (x ∷ xs) = piece_words w x ++ row_words w xs

-- What comes after an action is no further argument: it is the end, or a term, whose code is 20 or above.
abbrev pub Closed : List ℕ → Type 0
Closed rest = get_or rest 0 0 ≡ 1 → ⊥

-- After a row that ends with a term comes no argument; after data and conditions anything may come.
abbrev pub Closing : List Piece → List ℕ → Type 0
Closing [] rest = Unit
Closing (of_data d ∷ xs) rest = Closing xs rest
Closing (of_cond c ∷ xs) rest = Closing xs rest
Closing (of_term E ∷ xs) rest = Closed rest

-- s begins with such a row, and rest comes after it.
pub record RowAt (shape : ℕ) (s : List ℕ) (P : Scope) (xs : List Piece) (rest : List ℕ) : Type 0 where
  pub shaped : Shaped shape P
  pub fit : All (piece_fits P) xs
  pub ordered : Ordered xs
  pub spelled : s ≡ row_words (width_of shape) xs ++ rest
  pub closed : Closing xs rest

-- Whether a piece can never move, which data and conditions cannot; whether none of several can.
abbrev pub idle_piece : Piece → Bool
idle_piece (of_data d) = true
idle_piece (of_cond c) = true
idle_piece (of_term E) = eqb (breadth E) 0

abbrev pub all_idle : List Piece → Bool
all_idle [] = true
all_idle (x ∷ xs) = idle_piece x && all_idle xs
