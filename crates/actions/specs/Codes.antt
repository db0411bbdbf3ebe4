-- An action as one number, so that moves are listed in an array of numbers and equal actions are equal numbers (document 01, "Moves, in order":
-- pairs of equal actions, label and arguments). 0 is the internal action; a visible one is 1, its label, and 64 times its arguments' number, in which
-- an argument counts one more than it is, the first lowest, in base 65: a label and an argument are below 64.
use Rattle.std.specs.Prelude.{◌≡◌, Bool, false, cond, List, [], ◌∷◌, ◌++◌, ℕ, ◌+◌, ◌-◌, ◌*◌, ◌%◌, ◌≤◌, ◌<◌, eqb, length, get_or}
use Rattle.eb3.specs.Generic.AllLists.{All}
use Rattle.eb3.specs.Terms.{VisibleAction, Action, internal, visible, Mask, bit}
use Rattle.eb3.specs.Spelling.{arguments_words}

unfoldable pub arguments_code : List ℕ → ℕ
arguments_code [] = 0
arguments_code (x ∷ xs) = 1 + x + 65 * arguments_code xs

unfoldable pub action_code : Action → ℕ
action_code internal = 0
action_code (visible a) = 1 + a.label + 64 * arguments_code a.arguments

-- The label of the action whose number is `code`, where this isn't 0.
unfoldable pub label_in : ℕ → ℕ
label_in code = (code - 1) % 64

-- Whether a number is that of an action in a mask.
unfoldable pub masked_code : Mask → ℕ → Bool
masked_code Δ code = cond (eqb code 0) false (bit Δ (label_in code))

-- Actions of a rule set of edition 1: at most 64 labels, two parameters each, domains of at most 64 elements.
abbrev pub Small : Action → Type 0
Small internal = Unit
Small (visible a) = (a.label < 64) × (length a.arguments ≤ 2) × All (λ x. x < 64) a.arguments

-- What comes after an action is no further argument of it: it is the end of the words, or a term, whose code is 20 or above.
abbrev pub Closed : List ℕ → Type 0
Closed rest = get_or rest 0 0 ≡ 1 → ⊥

-- t begins with an action's label and arguments.
pub record ActionAt (t : List ℕ) (a : VisibleAction) (rest : List ℕ) : Type 0 where
  pub small : Small (visible a)
  pub spelled : t ≡ a.label ∷ (arguments_words 1 a.arguments ++ rest)
  pub closed : Closed rest
