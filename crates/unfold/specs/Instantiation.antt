-- Expressions in a row with their variables become constants (document 01, "Unfolding, size and breadth"): a guard's condition. Each
-- variable's two words become a constant's two words, so the words are gone through from the front: the first word or two of an expression, and as many
-- expressions after them as its code has operands.
use Rattle.std.specs.Prelude.{◌≡◌, List, [], ◌∷◌, ◌++◌, map, ℕ, ◌+◌, eqb, length, take, get_or}
use Rattle.eb3.specs.Generic.Lists.{concat_map}
use Rattle.eb3.specs.Generic.AllLists.{All}
use Rattle.eb3.specs.Expressions.{Data, Undefined, Constant, Variable, Add, Subtract, If, Now, Before, Args, Nil, Cons, Cond, Equal, Less, And, Or, Not, True}
use Rattle.eb3.specs.Reading.{pick}
use Rattle.eb3.specs.Spelling.{data_words, cond_words}
use Rattle.eb3.specs.Unfolding.{instantiate_data, instantiate_cond}
use Rattle.words.specs.Checking.{last_of}
use Rattle.codes.specs.Shapes.{more_words}

pub data Expression : Type 0 where
  value : Data → Expression
  test : Cond → Expression

unfoldable pub expression_words : Expression → List ℕ
expression_words (value a) = data_words 1 a
expression_words (test c) = cond_words 1 c

unfoldable pub instantiate : List ℕ → Expression → Expression
instantiate σ (value a) = value (instantiate_data a σ)
instantiate σ (test c) = test (instantiate_cond c σ)

-- Functions have one argument in edition 1.
abbrev pub NoArguments : Args → Type 0
NoArguments Nil = Unit
NoArguments (Cons a rs) = ⊥

abbrev mutual
  pub PlainData : Data → Type 0
  PlainData Undefined = Unit
  PlainData (Constant n) = Unit
  PlainData (Variable i) = Unit
  PlainData (Add a b) = PlainData a × PlainData b
  PlainData (Subtract a b) = PlainData a × PlainData b
  PlainData (If c a b) = PlainCond c × PlainData a × PlainData b
  PlainData (Now f rs) = PlainArgs rs
  PlainData (Before f rs) = PlainArgs rs

  pub PlainArgs : Args → Type 0
  PlainArgs Nil = ⊥
  PlainArgs (Cons a rs) = PlainData a × NoArguments rs

  pub PlainCond : Cond → Type 0
  PlainCond (Equal a b) = PlainData a × PlainData b
  PlainCond (Less a b) = PlainData a × PlainData b
  PlainCond (And c d) = PlainCond c × PlainCond d
  PlainCond (Or c d) = PlainCond c × PlainCond d
  PlainCond (Not c) = PlainCond c
  PlainCond True = Unit

abbrev pub PlainExpression : Expression → Type 0
PlainExpression (value a) = PlainData a
PlainExpression (test c) = PlainCond c

-- Where n words of t are left there are k expressions in a row; their variables have the values σ.
pub record Instantiates (t σ : List ℕ) (k n : ℕ) (ws rest : List ℕ) : Type 0 where
  pub row : List Expression
  pub counted : length row ≡ k
  pub all_plain : All PlainExpression row
  pub spelled : last_of n t ≡ concat_map expression_words row ++ rest
  pub instantiated : ws ≡ concat_map expression_words (map (instantiate σ) row)

-- ── the front of an expression, by its code ──

-- How many words it has; as many expressions follow them as codes' table says (`operands_after`).
abbrev pub front_width : ℕ → ℕ
front_width c = 1 + more_words 0 c

-- What is put for it: a variable's value as a constant, and else its words.
unfoldable pub front_words : List ℕ → List ℕ → ℕ → List ℕ
front_words σ s m = pick (eqb (get_or s 0 0) 2) (1 ∷ get_or σ (get_or s 1 0) 0 ∷ []) (take m s)
