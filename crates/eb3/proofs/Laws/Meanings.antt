-- Document 01, "Values and conditions" and "Memory and the history machine": the meanings hold (`data_meanings`, `condition_meanings`, `domain_meanings`,
-- `environment_meanings`, `reading_meanings`, `state_meanings`, `step_states`).
use Rattle.std.specs.Prelude.{◌≡◌, Bool, true, false, ◌&&◌, ◌||◌, T, ltb, length, get_or}
use Rattle.std.proofs.Math.Path.{refl, ap}
use Rattle.std.proofs.Math.Option.{some, some-injective, none-ne-some}
use Rattle.std.proofs.Math.Bool.{not, cond}
use mathlib.Core.List.{List, [], ◌∷◌}
use Prim.Native.Nat.{ℕ, zero, suc, ◌+◌, ◌≤◌}
use native.Mathlib.Omega.{arith}
use Rattle.std.proofs.Common.{ltb→lt}
use Rattle.std.proofs.Math.ListN.{get_elem?}
use Rattle.eb3.specs.Generic.Booleans.{cond_false}
use Rattle.eb3.specs.Values.{Value, undefined, number}
use Rattle.eb3.specs.Expressions.{Data, Cond, Reading, Environment, variables, environment, evaluate_data, evaluate_cond}
use Rattle.eb3.specs.Terms.{Term, VisibleAction}
use Rattle.eb3.specs.Derivations.{DataState, state_after}
use Rattle.eb3.proofs.Laws.Derivations.{state_is}
use Rattle.eb3.specs.Attributes.{Attributes, Trace, domain, apply_in_domain, guard_holds, attribute_value, value_at}
use Rattle.eb3.specs.Cells.{cell_index, offset, cell_at}
use Rattle.eb3.proofs.Laws.Attributes.{apply_numbers}
use Rattle.eb3.specs.Meanings.{Has, DataMeanings, ConditionMeanings, Outside, undefined_first, too_large_first, later, DomainMeanings, EnvironmentMeanings, ReadingMeanings, StateMeanings, StepStates}

module _ (e : Environment) where
  pub data_meanings : (a b : Data) (c : Cond) → DataMeanings e a b c
  unfolding evaluate_data
  data_meanings a b c = record {
    code_0 = refl;
    code_1 = λ n. refl;
    code_2 = λ i. refl;
    code_3 = refl;
    code_4 = refl;
    code_5_holds = λ p. ap (λ t. cond t (evaluate_data a e) (evaluate_data b e)) p;
    code_5_fails = λ p. ap (λ t. cond t (evaluate_data a e) (evaluate_data b e)) p;
    code_6 = λ f rs. refl;
    code_7 = λ f rs. refl;
    no_arguments = refl;
    arguments = λ rs. refl;
  }

  module _ (c d : Cond) where
    both_are : {x y : Bool} (f : Bool → Bool → Bool) → Has e c x → Has e d y → f (evaluate_cond c e) (evaluate_cond d e) ≡ f x y
    both_are f p q = λ i. f (p i) (q i)

  pub condition_meanings : (a b : Data) (c d : Cond) → ConditionMeanings e a b c d
  unfolding evaluate_data
  condition_meanings a b c d = record {
    code_8 = refl;
    code_9 = refl;
    code_10_1 = both_are c d (λ x y. x && y);
    code_10_2 = both_are c d (λ x y. x && y);
    code_10_3 = both_are c d (λ x y. x && y);
    code_10_4 = both_are c d (λ x y. x && y);
    code_11_1 = both_are c d (λ x y. x || y);
    code_11_2 = both_are c d (λ x y. x || y);
    code_11_3 = both_are c d (λ x y. x || y);
    code_11_4 = both_are c d (λ x y. x || y);
    code_12_1 = λ p. ap not p;
    code_12_2 = λ p. ap not p;
    code_13 = refl;
  }

outside_undefined : (ns : List ℕ) (h : List ℕ → Value) (vs : List Value) → Outside ns vs → apply_in_domain ns h vs ≡ undefined
unfolding apply_in_domain
outside_undefined ms h ws undefined_first = refl
outside_undefined ms h ws (too_large_first {n} {x} l) = cond_false _ _ (ltb x n) (λ t. let k = ltb→lt x n t in omega arith)
outside_undefined ms h ws (later {n} {v} {ns} {vs} o) = by_first v (λ x. outside_undefined ns (λ xs. h (x ∷ xs)) vs o)
  where
    under : (x : ℕ) (b : Bool) → apply_in_domain ns (λ xs. h (x ∷ xs)) vs ≡ undefined → cond b (apply_in_domain ns (λ xs. h (x ∷ xs)) vs) undefined ≡ undefined
    under x true p = p
    under x false p = refl

    by_first : (v : Value) → ((x : ℕ) → apply_in_domain ns (λ xs. h (x ∷ xs)) vs ≡ undefined) → apply_in_domain (n ∷ ns) h (v ∷ vs) ≡ undefined
    by_first undefined p = refl
    by_first (number x) p = under x (ltb x n) (p x)

pub domain_meanings : (ns : List ℕ) (h : List ℕ → Value) → DomainMeanings ns h
domain_meanings ns h = record { at_elements = λ xs w. apply_numbers ns h xs w; outside = λ vs l o. outside_undefined ns h vs o }

module _ (top : ℕ) (now before : Reading) where
  given : (xs : List ℕ) (i x : ℕ) → get_elem? xs i ≡ some x → (environment top xs now before).variable i ≡ number x
  unfolding variables
  given [] i x e = absurd (none-ne-some x e)
  given (y ∷ xs) zero x e = ap number (some-injective y x e)
  given (y ∷ xs) (suc i) x e = given xs i x e

  missing : (xs : List ℕ) (i : ℕ) → length xs ≤ i → (environment top xs now before).variable i ≡ undefined
  unfolding variables
  missing [] i h = refl
  missing (y ∷ xs) zero h = let z : ⊥ = omega arith in absurd z
  missing (y ∷ xs) (suc i) h = missing xs i (omega arith)

pub environment_meanings : (top : ℕ) (xs : List ℕ) (now before : Reading) → EnvironmentMeanings top xs now before
environment_meanings top xs now before = record { largest = refl; reads_now = refl; reads_before = refl; variable_given = given top now before xs; variable_missing = missing top now before xs }

pub reading_meanings : (A : Attributes) (T : Trace) (M : List Value) (f : ℕ) → ReadingMeanings A T M f
unfolding value_at cell_at
reading_meanings A T M f = record {
  value_at_elements = apply_numbers (domain A f) (attribute_value A T f);
  value_outside = λ vs l o. outside_undefined (domain A f) (attribute_value A T f) vs o;
  cell_at_elements = apply_numbers (domain A f) (λ ys. get_or M (offset A f + cell_index (domain A f) ys) undefined);
  cell_outside = λ vs l o. outside_undefined (domain A f) (λ ys. get_or M (offset A f + cell_index (domain A f) ys) undefined) vs o;
}

pub state_meanings : (A : Attributes) (T : Trace) (M : List Value) (C : Cond) (a : VisibleAction) → StateMeanings A T M C a
unfolding guard_holds
state_meanings A T M C a = record { history_appended = refl; history_guard = refl; cells_renewed = refl; cells_guard = refl }

pub step_states : (S : DataState) (M M' : S.State) (E E' : Term) → StepStates S M M' E E'
unfolding state_after
step_states S M M' E E' = record { visible_updates = λ a d. state_is d; internal_keeps = λ d. state_is d }
