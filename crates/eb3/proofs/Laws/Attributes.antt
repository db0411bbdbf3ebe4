-- Attribute values: document 01's own equations (`value_empty`, `value_last`), and values stay at most the largest number (`value_at_most`).
use Rattle.std.specs.Prelude.{◌≡◌, Bool, true, false, not, ◌&&◌, ◌||◌, T, eqb, ltb, get_or}
use Rattle.std.proofs.Math.Path.{refl, ap}
use Rattle.std.proofs.Common.{sym, ◌∙◌, subst, ltb→lt, lt→ltb}
use Rattle.std.proofs.Math.Bool.{cond}
use mathlib.Core.List.{List, [], ◌∷◌, ◌++◌, map}
use Rattle.std.proofs.Math.Option.{Option, none, some}
use Prim.Native.Nat.{ℕ, zero, suc, ◌≤◌, ◌<◌}
use Rattle.std.proofs.Math.Decide.{ℕ_discrete, dec_lt}
use native.Mathlib.Omega.{arith}
use Rattle.std.proofs.Math.Dec.{eqb→eq, eqb_refl}
use Rattle.std.proofs.Math.ListN.{get_or-eq_default}
use Rattle.eb3.specs.Generic.Booleans.{cond_true, cond_false, cond_same, cond_cong}
use Rattle.eb3.specs.Generic.Lists.{Within}
use Rattle.eb3.specs.Generic.AllLists.{All}
use Rattle.eb3.specs.Values.{Value, undefined, number, add, subtract, equal, less, AtMost}
use Rattle.eb3.proofs.Laws.Values.{add_at_most, subtract_at_most, cond_at_most}
use Rattle.eb3.specs.Expressions.{Data, Undefined, Constant, Variable, Add, Subtract, If, Now, Before, Args, Nil, Cons, Cond, Equal, Less, And, Or, Not, True, Reading, no_reading, Environment, environment, variables, evaluate_data, evaluate_args, evaluate_cond}
use Rattle.eb3.specs.Terms.{VisibleAction}
use Rattle.eb3.specs.Attributes.{Attributes, AttributeFunction, no_function, function, domain, number_of_functions, Trace, last_action, apply_in_domain, evaluate, now_below, before_values, attribute_value, value_at, guard_holds}
use Rattle.eb3.specs.Scopes.{Scope, DataInScope, ArgsInScope, CondInScope, start_scope, label_scope, ExpressionsInScope}

-- Partial application.
pub apply_cong : (ns : List ℕ) (h k : List ℕ → Value) → ((xs : List ℕ) → Within ns xs → h xs ≡ k xs) → (vs : List Value) → apply_in_domain ns h vs ≡ apply_in_domain ns k vs
unfolding apply_in_domain
apply_cong [] h k e [] = e [] tt
apply_cong [] h k e (v ∷ vs) = refl
apply_cong (n ∷ ns) h k e [] = refl
apply_cong (n ∷ ns) h k e (undefined ∷ vs) = refl
apply_cong (n ∷ ns) h k e (number x ∷ vs) = cond_cong undefined (ltb x n) (λ t. apply_cong ns (λ xs. h (x ∷ xs)) (λ xs. k (x ∷ xs)) (λ xs w. e (x ∷ xs) (ltb→lt x n t, w)) vs)

pub apply_undefined : (ns : List ℕ) (vs : List Value) → apply_in_domain ns (λ x. undefined) vs ≡ undefined
unfolding apply_in_domain
apply_undefined [] [] = refl
apply_undefined [] (v ∷ vs) = refl
apply_undefined (n ∷ ns) [] = refl
apply_undefined (n ∷ ns) (undefined ∷ vs) = refl
apply_undefined (n ∷ ns) (number x ∷ vs) = ap (λ v. cond (ltb x n) v undefined) (apply_undefined ns vs) ∙ cond_same (ltb x n)

pub apply_empty_domain : (h : List ℕ → Value) (vs : List Value) → apply_in_domain (zero ∷ []) h vs ≡ undefined
unfolding apply_in_domain
apply_empty_domain h [] = refl
apply_empty_domain h (undefined ∷ vs) = refl
apply_empty_domain h (number e ∷ vs) = cond_false _ _ (ltb e zero) (λ t. let l = ltb→lt e zero t in omega arith)

pub apply_numbers : (ns : List ℕ) (h : List ℕ → Value) (xs : List ℕ) → Within ns xs → apply_in_domain ns h (map number xs) ≡ h xs
unfolding apply_in_domain
apply_numbers [] h [] w = refl
apply_numbers [] h (x ∷ xs) w = absurd w
apply_numbers (n ∷ ns) h [] w = absurd w
apply_numbers (n ∷ ns) h (x ∷ xs) w = cond_true _ _ (ltb x n) (lt→ltb x n w.0) ∙ apply_numbers ns (λ ys. h (x ∷ ys)) xs w.1

module _ (A : Attributes) where
  pub now_below_is : (o : Option VisibleAction) (b : Reading) (i g : ℕ) → g < i → (v : List Value) → now_below A o b i g v ≡ apply_in_domain (domain A g) (evaluate A o (now_below A o b g) b g) v
  unfolding now_below
  now_below_is o b zero g h v = let z : ⊥ = omega arith in absurd z
  now_below_is o b (suc i) g h v = go (λ l. now_below_is o b i g l v) (ℕ_discrete g i)
    where
      go : (g < i → now_below A o b i g v ≡ apply_in_domain (domain A g) (evaluate A o (now_below A o b g) b g) v) → Dec (g ≡ i)
          → cond (eqb g i) (apply_in_domain (domain A i) (evaluate A o (now_below A o b i) b i) v) (now_below A o b i g v) ≡ apply_in_domain (domain A g) (evaluate A o (now_below A o b g) b g) v
      go ih (yes e) = rw e (cond_true _ _ (eqb i i) (eqb_refl i))
      go ih (no n) = cond_false _ _ (eqb g i) (λ t. n (eqb→eq g i t)) ∙ ih (omega arith)

  pub now_below_beyond : (o : Option VisibleAction) (b : Reading) (i g : ℕ) → i ≤ g → (v : List Value) → now_below A o b i g v ≡ undefined
  unfolding now_below
  now_below_beyond o b zero g h v = refl
  now_below_beyond o b (suc i) g h v = cond_false _ _ (eqb g i) (λ t. let e = eqb→eq g i t in omega arith) ∙ now_below_beyond o b i g (omega arith) v

  pub no_domain_beyond : (g : ℕ) → number_of_functions A ≤ g → domain A g ≡ zero ∷ []
  unfolding function
  no_domain_beyond g h = ap (λ (F : AttributeFunction). F.sizes) (get_or-eq_default A.functions no_function h)

-- Two environments that differ only in what now reads, and not where the expression reads it.
module _ (A : Attributes) (P : Scope) (xs : List ℕ) (now now' before : Reading) (alike : (g : ℕ) → g < P.now → (vs : List Value) → now g vs ≡ now' g vs) where
  abbrev e : Environment
  e = environment A.edition.top xs now before

  abbrev e' : Environment
  e' = environment A.edition.top xs now' before

  mutual
    unfolding evaluate_data

    pub data_cong : (a : Data) → DataInScope a P → evaluate_data a e ≡ evaluate_data a e'
    data_cong Undefined w = refl
    data_cong (Constant n) w = refl
    data_cong (Variable n) w = refl
    data_cong (Add a b) w = λ j. add A.edition.top (data_cong a w.0 j) (data_cong b w.1 j)
    data_cong (Subtract a b) w = λ j. subtract (data_cong a w.0 j) (data_cong b w.1 j)
    data_cong (If c a b) w = λ j. cond (cond_in_cong c w.0 j) (data_cong a w.1 j) (data_cong b w.2 j)
    data_cong (Now f rs) w = ap (now f) (args_cong rs (P.arity f) w.1) ∙ alike f w.0 (evaluate_args rs e')
    data_cong (Before f rs) w = ap (before f) (args_cong rs (P.arity f) w.1)

    args_cong : (rs : Args) (n : ℕ) → ArgsInScope rs P n → evaluate_args rs e ≡ evaluate_args rs e'
    args_cong Nil n w = refl
    args_cong (Cons a rs) n w = λ j. data_cong a w.2 j ∷ args_cong rs w.0 w.3 j

    cond_in_cong : (c : Cond) → CondInScope c P → evaluate_cond c e ≡ evaluate_cond c e'
    cond_in_cong (Equal a b) w = λ j. equal (data_cong a w.0 j) (data_cong b w.1 j)
    cond_in_cong (Less a b) w = λ j. less (data_cong a w.0 j) (data_cong b w.1 j)
    cond_in_cong (And c d) w = λ j. cond_in_cong c w.0 j && cond_in_cong d w.1 j
    cond_in_cong (Or c d) w = λ j. cond_in_cong c w.0 j || cond_in_cong d w.1 j
    cond_in_cong (Not c) w = ap not (cond_in_cong c w)
    cond_in_cong True w = refl

-- A guard is evaluated as the functions' expressions are: the same largest number, no variables, nothing before.
pub guard_evaluated : (A : Attributes) (now : Reading) (C : Cond) → guard_holds A now C ≡ evaluate_cond C (environment A.edition.top [] now no_reading)
unfolding guard_holds
guard_evaluated A now C = refl

-- Document 01: before reads values over T without its last action.
pub before_is : (A : Attributes) (a : VisibleAction) (H : Trace) (f : ℕ) (vs : List Value) → before_values A (a ∷ H) f vs ≡ value_at A H f vs
unfolding before_values value_at attribute_value
before_is A a H f vs = refl

module _ (A : Attributes) (arity : ℕ → ℕ) (scoped : ExpressionsInScope A arity) (f : ℕ) (defined : f < number_of_functions A) (xs : List ℕ) where
  -- A function's value over T is its empty-trace expression if T is empty, now reading values over T;
  pub value_empty : attribute_value A [] f xs ≡ evaluate_data (function A f).at_start (environment A.edition.top xs (value_at A []) no_reading)
  unfolding attribute_value evaluate value_at before_values
  value_empty = data_cong A (start_scope A f) xs (now_below A none no_reading f) (value_at A []) no_reading
      (λ g h vs. now_below_is A none no_reading f g h vs) (function A f).at_start (scoped.at_start f defined)

  -- else its expression for T's last label, now reading values over T, before values over T without its last action.
  pub value_last : (a : VisibleAction) (H : Trace) → attribute_value A (a ∷ H) f xs
      ≡ evaluate_data (get_or (function A f).at_label a.label Undefined) (environment A.edition.top (xs ++ a.arguments) (value_at A (a ∷ H)) (value_at A H))
  unfolding attribute_value evaluate value_at before_values
  value_last a H = data_cong A (label_scope A f (arity a.label)) (xs ++ a.arguments) (now_below A (some a) (value_at A H) f) (value_at A (a ∷ H)) (value_at A H)
      (λ g h vs. now_below_is A (some a) (value_at A H) f g h vs) (get_or (function A f).at_label a.label Undefined) (scoped.at_label f a.label defined)

-- Bounds.
abbrev pub AllAtMost : ℕ → List ℕ → Type 0
AllAtMost top xs = All (λ x. x ≤ top) xs

abbrev pub TraceAtMost : ℕ → Trace → Type 0
TraceAtMost top [] = Unit
TraceAtMost top (a ∷ H) = AllAtMost top a.arguments × TraceAtMost top H

abbrev pub ReadingAtMost : ℕ → Reading → Type 0
ReadingAtMost top r = (f : ℕ) (vs : List Value) → AtMost top (r f vs)

append_at_most : (top : ℕ) (xs ys : List ℕ) → AllAtMost top xs → AllAtMost top ys → AllAtMost top (xs ++ ys)
append_at_most top [] ys h k = k
append_at_most top (x ∷ xs) ys h k = (h.0, append_at_most top xs ys h.1 k)

variables_at_most : (top : ℕ) (xs : List ℕ) → AllAtMost top xs → (i : ℕ) → AtMost top (variables xs i)
unfolding variables
variables_at_most top [] h i = tt
variables_at_most top (x ∷ xs) h zero = h.0
variables_at_most top (x ∷ xs) h (suc i) = variables_at_most top xs h.1 i

pub apply_at_most : (top : ℕ) (ns : List ℕ) (h : List ℕ → Value) → ((xs : List ℕ) → Within ns xs → AtMost top (h xs)) → (vs : List Value) → AtMost top (apply_in_domain ns h vs)
unfolding apply_in_domain
apply_at_most top [] h b [] = b [] tt
apply_at_most top [] h b (v ∷ vs) = tt
apply_at_most top (n ∷ ns) h b [] = tt
apply_at_most top (n ∷ ns) h b (undefined ∷ vs) = tt
apply_at_most top (n ∷ ns) h b (number x ∷ vs) = go (ltb x n) (λ t. apply_at_most top ns (λ xs. h (x ∷ xs)) (λ xs w. b (x ∷ xs) (ltb→lt x n t, w)) vs)
  where
    go : (t : Bool) → (T t → AtMost top (apply_in_domain ns (λ xs. h (x ∷ xs)) vs)) → AtMost top (cond t (apply_in_domain ns (λ xs. h (x ∷ xs)) vs) undefined)
    go true r = r tt
    go false r = tt

data_at_most : (P : Scope) (xs : List ℕ) (now before : Reading) → AllAtMost P.edition.top xs → ReadingAtMost P.edition.top now → ReadingAtMost P.edition.top before
    → (a : Data) → DataInScope a P → AtMost P.edition.top (evaluate_data a (environment P.edition.top xs now before))
unfolding evaluate_data
data_at_most P xs now before h n b Undefined w = tt
data_at_most P xs now before h n b (Constant v) w = w
data_at_most P xs now before h n b (Variable i) w = variables_at_most P.edition.top xs h i
data_at_most P xs now before h n b (Add x y) w = add_at_most P.edition.top _ _
data_at_most P xs now before h n b (Subtract x y) w = subtract_at_most P.edition.top _ _ (data_at_most P xs now before h n b x w.0)
data_at_most P xs now before h n b (If c x y) w =
    cond_at_most P.edition.top (evaluate_cond c (environment P.edition.top xs now before)) _ _ (data_at_most P xs now before h n b x w.1) (data_at_most P xs now before h n b y w.2)
data_at_most P xs now before h n b (Now f rs) w = n f _
data_at_most P xs now before h n b (Before f rs) w = b f _

-- If constants and arguments are at most the largest number, so is every attribute value.
module _ (A : Attributes) (arity : ℕ → ℕ) (scoped : ExpressionsInScope A arity) (small : (f : ℕ) (xs : List ℕ) → Within (domain A f) xs → AllAtMost A.edition.top xs) where
  abbrev pub ActionAtMost : Option VisibleAction → Type 0
  ActionAtMost none = Unit
  ActionAtMost (some a) = AllAtMost A.edition.top a.arguments

  pub evaluate_at_most : (o : Option VisibleAction) (now before : Reading) → ActionAtMost o → ReadingAtMost A.edition.top now → ReadingAtMost A.edition.top before
      → (f : ℕ) → f < number_of_functions A → (xs : List ℕ) → AllAtMost A.edition.top xs → AtMost A.edition.top (evaluate A o now before f xs)
  unfolding evaluate
  evaluate_at_most none now before u n b f d xs h = data_at_most (start_scope A f) xs now before h n b (function A f).at_start (scoped.at_start f d)
  evaluate_at_most (some a) now before u n b f d xs h =
      data_at_most (label_scope A f (arity a.label)) (xs ++ a.arguments) now before (append_at_most A.edition.top xs a.arguments h u) n b
      (get_or (function A f).at_label a.label Undefined) (scoped.at_label f a.label d)

  applied_at_most : (o : Option VisibleAction) (now before : Reading) → ActionAtMost o → ReadingAtMost A.edition.top now → ReadingAtMost A.edition.top before
      → (f : ℕ) (vs : List Value) → AtMost A.edition.top (apply_in_domain (domain A f) (evaluate A o now before f) vs)
  applied_at_most o now before u n b f vs = go (dec_lt f (number_of_functions A))
    where
      go : Dec (f < number_of_functions A) → AtMost A.edition.top (apply_in_domain (domain A f) (evaluate A o now before f) vs)
      go (yes d) = apply_at_most A.edition.top (domain A f) _ (λ xs w. evaluate_at_most o now before u n b f d xs (small f xs w)) vs
      go (no d) = subst (AtMost A.edition.top) (sym (ap (λ ns. apply_in_domain ns (evaluate A o now before f) vs) (no_domain_beyond A f (omega arith)) ∙ apply_empty_domain _ vs)) tt

  now_at_most : (o : Option VisibleAction) (before : Reading) → ActionAtMost o → ReadingAtMost A.edition.top before → (i : ℕ) → ReadingAtMost A.edition.top (now_below A o before i)
  unfolding now_below
  now_at_most o before u b zero g vs = tt
  now_at_most o before u b (suc i) g vs =
      cond_at_most A.edition.top (eqb g i) _ _ (applied_at_most o (now_below A o before i) before u (now_at_most o before u b i) b i vs) (now_at_most o before u b i g vs)

  last_at_most : (H : Trace) → TraceAtMost A.edition.top H → ActionAtMost (last_action H)
  last_at_most [] h = tt
  last_at_most (a ∷ H) h = h.0

  before_at_most : (H : Trace) → TraceAtMost A.edition.top H → ReadingAtMost A.edition.top (before_values A H)
  unfolding before_values
  before_at_most [] h g vs = tt
  before_at_most (a ∷ H) h g vs =
      let b = before_at_most H h.1 in
      applied_at_most (last_action H) _ (before_values A H) (last_at_most H h.1) (now_at_most (last_action H) (before_values A H) (last_at_most H h.1) b g) b g vs

  pub value_at_most : (H : Trace) → TraceAtMost A.edition.top H → (f : ℕ) → f < number_of_functions A → (xs : List ℕ) → Within (domain A f) xs → AtMost A.edition.top (attribute_value A H f xs)
  unfolding attribute_value
  value_at_most H h f d xs w =
      let b = before_at_most H h in
      evaluate_at_most (last_action H) _ (before_values A H) (last_at_most H h) (now_at_most (last_action H) (before_values A H) (last_at_most H h) b f) b f d xs (small f xs w)
