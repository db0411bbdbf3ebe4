-- What an evaluation of operands answers: for all operands that are at the front of the words, one after the other, in a scope of edition 1.
-- `Fetched`, `Paired`, `Selected` and `Named` are the operands of data, `Compared`, `Joined` and `Negated` those of conditions (document 01, "Values and
-- conditions").
use Rattle.std.specs.Prelude.{◌≡◌, Bool, ◌&&◌, ◌||◌, not, cond, List, [], ◌∷◌, ◌++◌, ℕ, ◌<◌, length, drop, get_or}
use Rattle.eb3.specs.Values.{Value, encode, add, subtract, equal, less}
use Rattle.eb3.specs.Expressions.{Data, Cond, evaluate_data, evaluate_cond}
use Rattle.eb3.specs.Scopes.{Scope, DataInScope, CondInScope}
use Rattle.eb3.specs.Spelling.{data_words, cond_words}
use Rattle.expressions.specs.declared.Operation.{Operation}
use Rattle.expressions.specs.declared.Operation.TheVariants.{Add, Subtract, Equal, Less}
use Rattle.expressions.specs.declared.Connective.{Connective}
use Rattle.expressions.specs.declared.valued.Valued.{Valued}
use Rattle.expressions.specs.declared.Connective.TheVariants.{And, Or}
use Rattle.expressions.specs.Stores.{largest_number, stored, environment_in, reading_in}
use Rattle.expressions.specs.Answering.{value_word, truth, IsValued, answer, DataAt, CondAt}

-- ── what is made of two values ──

abbrev pub sum_word : Value → Value → ℕ
sum_word v w = encode 65535 (add largest_number v w)

abbrev pub difference_word : Value → Value → ℕ
difference_word v w = encode 65535 (subtract v w)

abbrev pub equal_word : Value → Value → ℕ
equal_word v w = truth (equal v w)

abbrev pub less_word : Value → Value → ℕ
less_word v w = truth (less v w)

abbrev pub operated : Operation → Value → Value → ℕ
operated Add v w = sum_word v w
operated Subtract v w = difference_word v w
operated Equal v w = equal_word v w
operated Less v w = less_word v w

-- ── what is made of two conditions ──

abbrev pub connected : Connective → Bool → Bool → Bool
connected And c d = c && d
connected Or c d = c || d

-- ── the operands of a code ──

-- A variable's number.
pub record Fetched (t M : List ℕ) (r : Valued) : Type 0 where
  pub value : IsValued (stored M (get_or t 0 0)) (length (drop 1 t)) r
  pub small : stored M (get_or t 0 0) < 65536

-- Two data.
abbrev pub Paired : (Value → Value → ℕ) → List ℕ → List ℕ → Valued → Type 0
Paired g t M r = (P : Scope) (a b : Data) (rest : List ℕ) → DataAt t P a (data_words P.edition.width b ++ rest) → DataInScope b P
    → IsValued (g (evaluate_data a (environment_in M)) (evaluate_data b (environment_in M))) (length rest) r

-- A condition and two data.
abbrev pub Selected : List ℕ → List ℕ → Valued → Type 0
Selected t M r = (P : Scope) (c : Cond) (a b : Data) (rest : List ℕ) → CondAt t P c (data_words P.edition.width a ++ (data_words P.edition.width b ++ rest)) → DataInScope a P → DataInScope b P
    → IsValued (value_word (cond (evaluate_cond c (environment_in M)) (evaluate_data a (environment_in M)) (evaluate_data b (environment_in M)))) (length rest) r

-- A function's number and its argument; its cells begin at a place.
abbrev pub Named : ℕ → List ℕ → List ℕ → Valued → Type 0
Named at t M r = (P : Scope) (a : Data) (rest : List ℕ) → DataAt (drop 1 t) P a rest
    → IsValued (value_word (reading_in M at (get_or t 0 0) (evaluate_data a (environment_in M) ∷ []))) (length rest) r

-- Two data that are compared.
abbrev pub Compared : (Value → Value → ℕ) → List ℕ → List ℕ → ℕ → Type 0
Compared g t M r = (P : Scope) (a b : Data) (rest : List ℕ) → DataAt t P a (data_words P.edition.width b ++ rest) → DataInScope b P
    → r ≡ answer (g (evaluate_data a (environment_in M)) (evaluate_data b (environment_in M))) (length rest)

-- Two conditions.
abbrev pub Joined : (Bool → Bool → Bool) → List ℕ → List ℕ → ℕ → Type 0
Joined g t M r = (P : Scope) (c d : Cond) (rest : List ℕ) → CondAt t P c (cond_words P.edition.width d ++ rest) → CondInScope d P
    → r ≡ answer (truth (g (evaluate_cond c (environment_in M)) (evaluate_cond d (environment_in M)))) (length rest)

-- One condition.
abbrev pub Negated : List ℕ → List ℕ → ℕ → Type 0
Negated t M r = (P : Scope) (c : Cond) (rest : List ℕ) → CondAt t P c rest → r ≡ answer (truth (not (evaluate_cond c (environment_in M)))) (length rest)
