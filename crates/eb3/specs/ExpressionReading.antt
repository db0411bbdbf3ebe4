-- Data expressions and conditions read from words (document 01, "Values and conditions": codes 0 to 7 and 8 to 13, before their operands).
-- A scope says what they may name; a code, count or constant out of range is refused 4, a number not defined or not allowed there 5.
-- Data under now and before are never judged by 6.
use Rattle.std.specs.Prelude.{[], ◌∷◌, ℕ, zero, suc, eqb, ltb, leb, length}
use Rattle.eb3.specs.Refusal
use Rattle.eb3.specs.Expressions.{Data, Undefined, Constant, Variable, Add, Subtract, If, Now, Before, Args, Nil, Cons, Cond, Equal, Less, And, Or, Not, True}
use Rattle.eb3.specs.Scopes.{Scope}
use Rattle.eb3.specs.Reading.{refused, taken, Reader, pick, giving, then, both, number_of, by_number, number_in}

-- What a code is; the scope says whether the code of `before` is allowed.
pub data DataKind : Type 0 where
  undefined constant variable select wrong : DataKind
  pair : (Data → Data → Data) → DataKind
  attribute : (ℕ → Args → Data) → ℕ → DataKind

abbrev pub data_kind : Scope → ℕ → DataKind
data_kind P c =
    pick (eqb c 0) undefined
    (pick (eqb c 1) constant
    (pick (eqb c 2) variable
    (pick (eqb c 3) (pair Add)
    (pick (eqb c 4) (pair Subtract)
    (pick (eqb c 5) select
    (pick (eqb c 6) (attribute Now P.now)
    (pick (eqb c 7) (pick (ltb 0 P.before) (attribute Before P.before) wrong)
    wrong)))))))

pub data CondKind : Type 0 where
  compare : (Data → Data → Cond) → CondKind
  join : (Cond → Cond → Cond) → CondKind
  negate always wrong : CondKind

abbrev pub cond_kind : ℕ → CondKind
cond_kind c =
    pick (eqb c 8) (CondKind.compare Equal)
    (pick (eqb c 9) (CondKind.compare Less)
    (pick (eqb c 10) (CondKind.join And)
    (pick (eqb c 11) (CondKind.join Or)
    (pick (eqb c 12) CondKind.negate
    (pick (eqb c 13) CondKind.always
    CondKind.wrong)))))

-- A constant is at most the largest number.
unfoldable pub constant_of : ℕ → ℕ → Reader ℕ
constant_of width top t = then (number_in width t) λ v u. pick (leb v top) (taken v u) (refused Refusal.form)

-- As many arguments as the function has parameters.
unfoldable pub args_of : Reader Data → ℕ → Reader Args
args_of d zero t = taken Nil t
args_of d (suc n) t = giving (λ p. Cons p.0 p.1) (both d (args_of d n) t)

-- What follows a code, given how operands are read.
pub record Readers : Type 0 where
  pub datum : Reader Data
  pub condition : Reader Cond

abbrev pub data_by : Scope → Readers → DataKind → Reader Data
data_by P e DataKind.undefined t = taken Undefined t
data_by P e DataKind.constant t = giving Constant (constant_of P.edition.width P.edition.top t)
data_by P e DataKind.variable t = giving Variable (number_of Refusal.reference P.variables t)
data_by P e (DataKind.pair k) t = giving (λ p. k p.0 p.1) (both e.datum e.datum t)
data_by P e DataKind.select t = giving (λ p. If p.0 p.1.0 p.1.1) (both e.condition (both e.datum e.datum) t)
data_by P e (DataKind.attribute k limit) t = by_number Refusal.reference limit (λ f u. giving (k f) (args_of e.datum (P.arity f) u)) t
data_by P e DataKind.wrong t = refused Refusal.form

abbrev pub cond_by : Readers → CondKind → Reader Cond
cond_by e (CondKind.compare k) t = giving (λ p. k p.0 p.1) (both e.datum e.datum t)
cond_by e (CondKind.join k) t = giving (λ p. k p.0 p.1) (both e.condition e.condition t)
cond_by e CondKind.negate t = giving Not (e.condition t)
cond_by e CondKind.always t = taken True t
cond_by e CondKind.wrong t = refused Refusal.form

abbrev pub data_step : Scope → Readers → Reader Data
data_step P e [] = refused Refusal.form
data_step P e (c ∷ t) = data_by P e (data_kind P c) t

abbrev pub cond_step : Readers → Reader Cond
cond_step e [] = refused Refusal.form
cond_step e (c ∷ t) = cond_by e (cond_kind c) t

-- To a depth of n codes: as many as there are words is enough.
unfoldable pub readers : Scope → ℕ → Readers
readers P zero = record { datum = λ s. refused Refusal.form; condition = λ s. refused Refusal.form }
readers P (suc n) = record { datum = data_step P (readers P n); condition = cond_step (readers P n) }

unfoldable pub read_data : Scope → Reader Data
read_data P s = (readers P (length s)).datum s

unfoldable pub read_cond : Scope → Reader Cond
read_cond P s = (readers P (length s)).condition s
