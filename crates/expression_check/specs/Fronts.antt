-- What is at the front of a row of expressions, as the code says it: the place and the number of expressions with which the row goes on,
-- a place where an expression of the other sort is first, or a refusal.
-- Document 01, "Values and conditions"; refusals 4 and 5.
use Rattle.std.specs.Prelude.{ℕ, suc, ◌+◌, ◌≤◌, ◌<◌, ◌≡◌, List, length, drop, Ok, Err, Result}
use Rattle.eb3.specs.Scopes.{Scope}
use Rattle.eb3.specs.Reading.{taken, Reader, both, number_of, repeat}
use Rattle.eb3.specs.ExpressionReading.{read_data, read_cond}
use Rattle.refusals.specs.Numbers.{number}
use Rattle.words.specs.Checking.{checked}
use Rattle.expression_check.specs.declared.Front.{Front}
use Rattle.expression_check.specs.declared.Front.TheVariants.{On, Other}
use Rattle.refusals.specs.declared.Refusal.{Refusal}
use Rattle.words.specs.Readings.{RefusedAs}

-- A place after another, with few enough expressions to come that a count of them fits.
abbrev pub Behind : List ℕ → ℕ → ℕ → ℕ → Type 0
Behind s at b m = (at < b) × (b ≤ length s) × (m ≤ b + 2)

-- One number and, after it, m expressions.
abbrev pub Operand : Refusal → ℕ → List ℕ → ℕ → ℕ → Result Front Refusal → Type 0
Operand k limit s at m (Ok (On b o)) = (b ≡ at + 1) × (at < length s) × (o ≡ m) × ((w : ℕ) × (number_of (number k) limit (drop at s) ≡ taken w (drop b s)))
Operand k limit s at m (Ok (Other b)) = ⊥
Operand k limit s at m (Err j) = RefusedAs j (number_of (number k) limit (drop at s))

-- An expression that f reads and `rest` more; where g's is first, `after` of f's come after it.
abbrev pub Facing : {A B : Type 0} → Reader A → Reader B → ℕ → List ℕ → ℕ → ℕ → Result Front Refusal → Type 0
Facing f g after s at rest (Ok (On b m)) = Behind s at b m × (checked (repeat (suc rest) f (drop at s)) ≡ checked (repeat m f (drop b s)))
Facing f g after s at rest (Ok (Other b)) = Behind s at b after × (checked (repeat (suc rest) f (drop at s)) ≡ checked (both g (repeat after f) (drop b s)))
Facing f g after s at rest (Err k) = Err k ≡ checked (repeat (suc rest) f (drop at s))

abbrev pub DataFront : Scope → List ℕ → ℕ → ℕ → Result Front Refusal → Type 0
DataFront P s at rest r = Facing (read_data P) (repeat 1 (read_cond P)) (rest + 2) s at rest r

abbrev pub CondFront : Scope → List ℕ → ℕ → ℕ → Result Front Refusal → Type 0
CondFront P s at rest r = Facing (read_cond P) (repeat 2 (read_data P)) rest s at rest r
