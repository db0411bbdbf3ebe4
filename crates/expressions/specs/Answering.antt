-- What an evaluation answers: the value as a word, and the words that are left after the expression; over conditions in one number, the words left
-- 65,536 times.
-- Document 01, "Values and conditions".
use Rattle.std.specs.Prelude.{◌≡◌, Bool, cond, List, ◌++◌, ℕ, ◌+◌, ◌*◌, length}
use Rattle.eb3.specs.Values.{Value, encode}
use Rattle.eb3.specs.Expressions.{Data, Cond, evaluate_data, evaluate_cond}
use Rattle.eb3.specs.Scopes.{Scope, DataInScope, CondInScope}
use Rattle.eb3.specs.Spelling.{data_words, cond_words}
use Rattle.expressions.specs.declared.valued.Valued.{Valued}
use Rattle.expressions.specs.Stores.{largest_number, environment_in}

abbrev pub value_word : Value → ℕ
value_word v = encode 65535 v

unfoldable pub truth : Bool → ℕ
truth b = cond b 1 0

-- r is the value v, with l words left.
pub record IsValued (v l : ℕ) (r : Valued) : Type 0 where
  pub value : r.value ≡ v
  pub left : r.left ≡ l

unfoldable pub answer : ℕ → ℕ → ℕ
answer w left = w + 65536 * left

-- A scope of edition 1: constants up to 65,534, of one word each; functions of one parameter.
pub record Plain (P : Scope) : Type 0 where
  pub largest : P.edition.top ≡ largest_number
  pub one_word : P.edition.width ≡ 1
  pub one_parameter : P.arity ≡ (λ f. 1)

-- s begins with a data expression (a condition) that is in scope P, and rest is after it.
pub record DataAt (s : List ℕ) (P : Scope) (d : Data) (rest : List ℕ) : Type 0 where
  pub plain : Plain P
  pub in_scope : DataInScope d P
  pub spelled : s ≡ data_words P.edition.width d ++ rest

pub record CondAt (s : List ℕ) (P : Scope) (c : Cond) (rest : List ℕ) : Type 0 where
  pub plain : Plain P
  pub in_scope : CondInScope c P
  pub spelled : s ≡ cond_words P.edition.width c ++ rest

-- The answer, whatever expression is at the front.
abbrev pub Evaluated : List ℕ → List ℕ → Valued → Type 0
Evaluated s M r = (P : Scope) (d : Data) (rest : List ℕ) → DataAt s P d rest → IsValued (value_word (evaluate_data d (environment_in M))) (length rest) r

abbrev pub Judged : List ℕ → List ℕ → ℕ → Type 0
Judged s M r = (P : Scope) (c : Cond) (rest : List ℕ) → CondAt s P c rest → r ≡ answer (truth (evaluate_cond c (environment_in M))) (length rest)
