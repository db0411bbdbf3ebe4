-- By the code at the front an expression is known for what it is, since no two constructors have the same code. So for each arm of an evaluator there is
-- a case, whose premises have the form of the facts known there.
use mathlib.Core.Path.{◌≡◌, sym, ap, ◌∙◌, subst}
use mathlib.Core.Bool.{◌&&◌, ◌||◌, cond}
use mathlib.Core.List.{List, [], ◌∷◌, ◌++◌, append_assoc}
use Prim.Native.Nat.{ℕ}
use native.Mathlib.Omega.{arith}
use lib.ListN.{length, drop, get_or}
use lib.Dec.{eqb}
use borrow.Author.Tests.{ne_eqb}
use Rattle.eb3.specs.Values.{encode, decode}
use Rattle.eb3.specs.Expressions.{Data, Undefined, Constant, Variable, Add, Subtract, If, Now, Before, Args, Nil, Cons, Cond, Equal, Less, And, Or, Not, True, evaluate_data, evaluate_args, evaluate_cond}
use Rattle.eb3.specs.Scopes.{Scope, ArgsInScope}
use Rattle.eb3.specs.Spelling.{number_words, data_words, args_words, cond_words}
use Rattle.expressions.specs.declared.valued.Valued.{Valued}
use Rattle.expressions.specs.Stores.{largest_number, stored, reading_in, variable_in, environment_in, before_place, now_place}
use Rattle.expressions.specs.Answering.{value_word, truth, IsValued, answer, Plain, DataAt, CondAt, Evaluated, Judged}
use Rattle.expressions.specs.Operands.{sum_word, difference_word, equal_word, less_word, Fetched, Paired, Selected, Named, Compared, Joined, Negated}
use Rattle.expressions.specs.Laws.Values.{word_of_value}

-- ── data ──

data DataFront : Type 0 where
  none : DataFront
  constant : DataFront
  variable : DataFront
  sum : DataFront
  difference : DataFront
  selection : DataFront
  present : DataFront
  past : DataFront

abbrev data_front : ℕ → DataFront
data_front w =
    cond (eqb w 1) constant (cond (eqb w 2) variable (cond (eqb w 3) sum (cond (eqb w 4) difference (cond (eqb w 5) selection (cond (eqb w 6) present (cond (eqb w 7) past none))))))

abbrev front_of_data : Data → DataFront
front_of_data Undefined = none
front_of_data (Constant n) = constant
front_of_data (Variable i) = variable
front_of_data (Add a b) = sum
front_of_data (Subtract a b) = difference
front_of_data (If c a b) = selection
front_of_data (Now f rs) = present
front_of_data (Before f rs) = past

data_known : (w : ℕ) (d : Data) (s rest : List ℕ) → s ≡ data_words w d ++ rest → data_front (get_or s 0 0) ≡ front_of_data d
unfolding data_words
data_known w Undefined s rest e = ap (λ u. data_front (get_or u 0 0)) e
data_known w (Constant n) s rest e = ap (λ u. data_front (get_or u 0 0)) e
data_known w (Variable i) s rest e = ap (λ u. data_front (get_or u 0 0)) e
data_known w (Add a b) s rest e = ap (λ u. data_front (get_or u 0 0)) e
data_known w (Subtract a b) s rest e = ap (λ u. data_front (get_or u 0 0)) e
data_known w (If c a b) s rest e = ap (λ u. data_front (get_or u 0 0)) e
data_known w (Now f rs) s rest e = ap (λ u. data_front (get_or u 0 0)) e
data_known w (Before f rs) s rest e = ap (λ u. data_front (get_or u 0 0)) e

-- What a match says of the codes that it tests one by one, where none is met.
abbrev OtherData : ℕ → Type 0
OtherData w = (((((((Unit {0} × (w ≡ 1 → ⊥)) × (w ≡ 2 → ⊥)) × (w ≡ 3 → ⊥)) × (w ≡ 4 → ⊥)) × (w ≡ 5 → ⊥)) × (w ≡ 6 → ⊥)) × (w ≡ 7 → ⊥))

other_data : (w : ℕ) → OtherData w → data_front w ≡ none
other_data w h = simp (ne_eqb w 1 h.0.0.0.0.0.0.1, ne_eqb w 2 h.0.0.0.0.0.1, ne_eqb w 3 h.0.0.0.0.1, ne_eqb w 4 h.0.0.0.1, ne_eqb w 5 h.0.0.1, ne_eqb w 6 h.0.1, ne_eqb w 7 h.1)

-- What an arm shows of r, t being the words after the code.
abbrev DataArm : DataFront → List ℕ → List ℕ → Valued → Type 0
DataArm none t M r = IsValued 65535 (length t) r
DataArm constant t M r = IsValued (get_or t 0 0) (length (drop 1 t)) r
DataArm variable t M r = Fetched t M r
DataArm sum t M r = Paired sum_word t M r
DataArm difference t M r = Paired difference_word t M r
DataArm selection t M r = Selected t M r
DataArm present t M r = Named now_place t M r
DataArm past t M r = Named (before_place M) t M r

-- A function has one argument.
module _ (M : List ℕ) (at f : ℕ) (P : Scope) (plain : Plain P) (t rest : List ℕ) (r : Valued) (h : Named at t M r) where
  one_argument : (rs : Args) (n : ℕ) → n ≡ 1 → ArgsInScope rs P n → t ≡ f ∷ (args_words P.edition.width rs ++ rest)
      → IsValued (value_word (reading_in M at f (evaluate_args rs (environment_in M)))) (length rest) r
  unfolding data_words evaluate_data
  one_argument Nil n o w e = absurd (omega arith)
  one_argument (Cons a Nil) n o w e =
      let here : DataAt (drop 1 t) P a rest = record { plain = plain; in_scope = w.2; spelled = ap (drop 1) e ∙ append_assoc (data_words P.edition.width a) [] rest } in
      record {
        value = (h P a rest here).value ∙ ap (λ u. value_word (reading_in M at (get_or u 0 0) (evaluate_data a (environment_in M) ∷ []))) e;
        left = (h P a rest here).left;
      }
  one_argument (Cons a (Cons b rs)) n o w e = absurd (omega (arith, w.1, w.3.1))

module _ (s t M : List ℕ) (r : Valued) (q : t ≡ drop 1 s) where
  by_data : (d : Data) (P : Scope) (rest : List ℕ) → DataAt s P d rest → DataArm (front_of_data d) t M r → IsValued (value_word (evaluate_data d (environment_in M))) (length rest) r
  unfolding data_words number_words evaluate_data encode variable_in
  by_data Undefined P rest at h = record { value = h.value; left = h.left ∙ ap length (q ∙ ap (drop 1) at.spelled) }
  by_data (Constant n) P rest at h =
      let e : t ≡ n ∷ rest = q ∙ ap (drop 1) at.spelled ∙ ap (λ w. number_words w n ++ rest) at.plain.one_word in
      record { value = h.value ∙ ap (λ u. get_or u 0 0) e; left = h.left ∙ ap (λ u. length (drop 1 u)) e }
  by_data (Variable i) P rest at h =
      record {
        value = h.value.value ∙ sym (word_of_value (stored M (get_or t 0 0)) h.small) ∙ ap (λ u. value_word (decode largest_number (stored M (get_or u 0 0)))) (q ∙ ap (drop 1) at.spelled);
        left = h.value.left ∙ ap (λ u. length (drop 1 u)) (q ∙ ap (drop 1) at.spelled);
      }
  by_data (Add a b) P rest at h =
      h P a b rest (record { plain = at.plain; in_scope = at.in_scope.0; spelled = q ∙ ap (drop 1) at.spelled ∙ append_assoc (data_words P.edition.width a) (data_words P.edition.width b) rest }) at.in_scope.1
  by_data (Subtract a b) P rest at h =
      h P a b rest (record { plain = at.plain; in_scope = at.in_scope.0; spelled = q ∙ ap (drop 1) at.spelled ∙ append_assoc (data_words P.edition.width a) (data_words P.edition.width b) rest }) at.in_scope.1
  by_data (If c a b) P rest at h =
      h P c a b rest
      (record {
        plain = at.plain;
        in_scope = at.in_scope.0;
        spelled = q ∙ ap (drop 1) at.spelled ∙ append_assoc (cond_words P.edition.width c) (data_words P.edition.width a ++ data_words P.edition.width b) rest ∙ ap (λ u. cond_words P.edition.width c ++ u) (append_assoc (data_words P.edition.width a) (data_words P.edition.width b) rest);
      })
      at.in_scope.1
      at.in_scope.2
  by_data (Now f rs) P rest at h = one_argument M now_place f P at.plain t rest r h rs (P.arity f) (ap (λ g. g f) at.plain.one_parameter) at.in_scope.1 (q ∙ ap (drop 1) at.spelled)
  by_data (Before f rs) P rest at h = one_argument M (before_place M) f P at.plain t rest r h rs (P.arity f) (ap (λ g. g f) at.plain.one_parameter) at.in_scope.1 (q ∙ ap (drop 1) at.spelled)

  module _ (w : ℕ) (first : w ≡ get_or s 0 0) where
    data_arm : (k : DataFront) → data_front w ≡ k → DataArm k t M r → Evaluated s M r
    data_arm k e h P d rest at =
        by_data d P rest at (subst (λ j. DataArm j t M r) (sym e ∙ ap data_front first ∙ data_known P.edition.width d s rest at.spelled) h)

    pub data_constant : w ≡ 1 → IsValued (get_or t 0 0) (length (drop 1 t)) r → Evaluated s M r
    data_constant e h = data_arm constant (ap data_front e) h

    pub data_variable : w ≡ 2 → Fetched t M r → Evaluated s M r
    data_variable e h = data_arm variable (ap data_front e) h

    pub data_sum : w ≡ 3 → Paired sum_word t M r → Evaluated s M r
    data_sum e h = data_arm sum (ap data_front e) h

    pub data_difference : w ≡ 4 → Paired difference_word t M r → Evaluated s M r
    data_difference e h = data_arm difference (ap data_front e) h

    pub data_selection : w ≡ 5 → Selected t M r → Evaluated s M r
    data_selection e h = data_arm selection (ap data_front e) h

    pub data_present : w ≡ 6 → Named now_place t M r → Evaluated s M r
    data_present e h = data_arm present (ap data_front e) h

    pub data_past : (at : ℕ) → w ≡ 7 → at ≡ before_place M → Named at t M r → Evaluated s M r
    data_past at e i h = data_arm past (ap data_front e) (subst (λ j. Named j t M r) i h)

    pub data_none : OtherData w → IsValued 65535 (length t) r → Evaluated s M r
    data_none o h = data_arm none (other_data w o) h

-- r is what another evaluation answered, x.
pub handed : (s M : List ℕ) (x r : Valued) → r.value ≡ x.value → r.left ≡ x.left → Evaluated s M x → Evaluated s M r
handed s M x r v l f P d rest at = let h = f P d rest at in record { value = v ∙ h.value; left = l ∙ h.left }

-- ── conditions ──

data CondFront : Type 0 where
  equality : CondFront
  order : CondFront
  conjunction : CondFront
  disjunction : CondFront
  negation : CondFront
  truism : CondFront

abbrev cond_front : ℕ → CondFront
cond_front w = cond (eqb w 8) equality (cond (eqb w 9) order (cond (eqb w 10) conjunction (cond (eqb w 11) disjunction (cond (eqb w 12) negation truism))))

abbrev front_of_cond : Cond → CondFront
front_of_cond (Equal a b) = equality
front_of_cond (Less a b) = order
front_of_cond (And c d) = conjunction
front_of_cond (Or c d) = disjunction
front_of_cond (Not c) = negation
front_of_cond True = truism

cond_known : (w : ℕ) (c : Cond) (s rest : List ℕ) → s ≡ cond_words w c ++ rest → cond_front (get_or s 0 0) ≡ front_of_cond c
unfolding data_words
cond_known w (Equal a b) s rest e = ap (λ u. cond_front (get_or u 0 0)) e
cond_known w (Less a b) s rest e = ap (λ u. cond_front (get_or u 0 0)) e
cond_known w (And c d) s rest e = ap (λ u. cond_front (get_or u 0 0)) e
cond_known w (Or c d) s rest e = ap (λ u. cond_front (get_or u 0 0)) e
cond_known w (Not c) s rest e = ap (λ u. cond_front (get_or u 0 0)) e
cond_known w True s rest e = ap (λ u. cond_front (get_or u 0 0)) e

abbrev CondArm : CondFront → List ℕ → List ℕ → ℕ → Type 0
CondArm equality t M r = Compared equal_word t M r
CondArm order t M r = Compared less_word t M r
CondArm conjunction t M r = Joined ◌&&◌ t M r
CondArm disjunction t M r = Joined ◌||◌ t M r
CondArm negation t M r = Negated t M r
CondArm truism t M r = r ≡ answer 1 (length t)

abbrev OtherCond : ℕ → Type 0
OtherCond w = (((((Unit {0} × (w ≡ 8 → ⊥)) × (w ≡ 9 → ⊥)) × (w ≡ 10 → ⊥)) × (w ≡ 11 → ⊥)) × (w ≡ 12 → ⊥))

other_cond : (w : ℕ) → OtherCond w → cond_front w ≡ truism
other_cond w h = simp (ne_eqb w 8 h.0.0.0.0.1, ne_eqb w 9 h.0.0.0.1, ne_eqb w 10 h.0.0.1, ne_eqb w 11 h.0.1, ne_eqb w 12 h.1)

module _ (s t M : List ℕ) (r : ℕ) (q : t ≡ drop 1 s) where
  by_cond : (c : Cond) (P : Scope) (rest : List ℕ) → CondAt s P c rest → CondArm (front_of_cond c) t M r → r ≡ answer (truth (evaluate_cond c (environment_in M))) (length rest)
  unfolding data_words evaluate_data truth
  by_cond (Equal a b) P rest at h =
      h P a b rest (record { plain = at.plain; in_scope = at.in_scope.0; spelled = q ∙ ap (drop 1) at.spelled ∙ append_assoc (data_words P.edition.width a) (data_words P.edition.width b) rest }) at.in_scope.1
  by_cond (Less a b) P rest at h =
      h P a b rest (record { plain = at.plain; in_scope = at.in_scope.0; spelled = q ∙ ap (drop 1) at.spelled ∙ append_assoc (data_words P.edition.width a) (data_words P.edition.width b) rest }) at.in_scope.1
  by_cond (And c d) P rest at h =
      h P c d rest (record { plain = at.plain; in_scope = at.in_scope.0; spelled = q ∙ ap (drop 1) at.spelled ∙ append_assoc (cond_words P.edition.width c) (cond_words P.edition.width d) rest }) at.in_scope.1
  by_cond (Or c d) P rest at h =
      h P c d rest (record { plain = at.plain; in_scope = at.in_scope.0; spelled = q ∙ ap (drop 1) at.spelled ∙ append_assoc (cond_words P.edition.width c) (cond_words P.edition.width d) rest }) at.in_scope.1
  by_cond (Not c) P rest at h = h P c rest (record { plain = at.plain; in_scope = at.in_scope; spelled = q ∙ ap (drop 1) at.spelled })
  by_cond True P rest at h = h ∙ ap (λ u. answer 1 (length u)) (q ∙ ap (drop 1) at.spelled)

  module _ (w : ℕ) (first : w ≡ get_or s 0 0) where
    cond_arm : (k : CondFront) → cond_front w ≡ k → CondArm k t M r → Judged s M r
    cond_arm k e h P c rest at =
        by_cond c P rest at (subst (λ j. CondArm j t M r) (sym e ∙ ap cond_front first ∙ cond_known P.edition.width c s rest at.spelled) h)

    pub cond_equality : w ≡ 8 → Compared equal_word t M r → Judged s M r
    cond_equality e h = cond_arm equality (ap cond_front e) h

    pub cond_order : w ≡ 9 → Compared less_word t M r → Judged s M r
    cond_order e h = cond_arm order (ap cond_front e) h

    pub cond_conjunction : w ≡ 10 → Joined ◌&&◌ t M r → Judged s M r
    cond_conjunction e h = cond_arm conjunction (ap cond_front e) h

    pub cond_disjunction : w ≡ 11 → Joined ◌||◌ t M r → Judged s M r
    cond_disjunction e h = cond_arm disjunction (ap cond_front e) h

    pub cond_negation : w ≡ 12 → Negated t M r → Judged s M r
    cond_negation e h = cond_arm negation (ap cond_front e) h

    pub cond_truism : OtherCond w → r ≡ answer 1 (length t) → Judged s M r
    cond_truism o h = cond_arm truism (other_cond w o) h
