-- What an edition and the functions' parameter counts change in the table of codes, in one number, a shape (document 02, K2 and K6): bit f says that
-- function f has two parameters, bit 16 that a constant has two words. Edition 1's is 0.
use Rattle.std.specs.Prelude.{◌≡◌, List, ℕ, ◌+◌, ◌/◌, ◌%◌, ◌^◌, ◌<◌, eqb, get_or}
use Rattle.eb3.specs.Reading.{pick}
use Rattle.eb3.specs.Scopes.{Scope}
use Rattle.codes.specs.Table.{words_after, operands_after}

abbrev pub width_of : ℕ → ℕ
width_of shape = 1 + shape / 65536 % 2

-- Bit f.
abbrev pub two_parameters : ℕ → ℕ → ℕ
two_parameters shape f = shape / 2 ^ (f % 16) % 2

abbrev pub arity_of : ℕ → ℕ → ℕ
arity_of shape f = 1 + two_parameters shape f

-- A scope in which every function that may be named has the parameter count that the shape says.
pub record Shaped (shape : ℕ) (P : Scope) : Type 0 where
  pub now_arity : (f : ℕ) → f < P.now → P.arity f ≡ arity_of shape f
  pub before_arity : (f : ℕ) → f < P.before → P.arity f ≡ arity_of shape f

-- The words between a code and its operands: the table's, and a constant's second word.
abbrev pub more_words : ℕ → ℕ → ℕ
more_words shape c = words_after c + pick (eqb c 1) (shape / 65536 % 2) 0

-- A running action's arguments are as many as constants follow its label, two at the most: no term begins with a constant's code. t are the words after
-- the action's code.
abbrev pub argument_count : ℕ → List ℕ → ℕ
argument_count shape t = pick (eqb (get_or t 1 0) 1) (pick (eqb (get_or t (2 + width_of shape) 0) 1) 2 1) 0

-- What a code's operands are more than the table says, t being the words after the code.
abbrev pub more_operands : ℕ → ℕ → List ℕ → ℕ
more_operands shape c t =
    pick (eqb c 6) (two_parameters shape (get_or t 0 0))
    (pick (eqb c 7) (two_parameters shape (get_or t 0 0))
    (pick (eqb c 21) (argument_count shape t) 0))

abbrev pub operand_count : ℕ → ℕ → List ℕ → ℕ
operand_count shape c t = operands_after c + more_operands shape c t
