-- A case for each way that the front of a row is said; the premises have the form of the facts known there, so that `search` finds them.
-- Document 01, "Values and conditions"; refusals 4 and 5.
use Prim.Native.Nat.{ℕ, suc, ◌+◌, ◌-◌, ◌≤◌, ◌<◌}
use native.Mathlib.Omega.{arith}
use native.Mathlib.Decide.{dec_le}
use mathlib.Core.Logic.{⊎_elim}
use mathlib.Core.Path.{◌≡◌, refl, sym, ap, ◌∙◌}
use mathlib.Core.List.{List, [], ◌∷◌}
use mathlib.Core.Bool.{Bool, true, false}
use lib.Dec.{ltb}
use lib.ListN.{length, take, drop, get_or, drop_of_length-le}
use lib.Seq.{drop-cons}
use borrow.Author.Tests.{lt-ltb, le-ltb, le-leb, lt-leb}
use Rattle.codes.specs.declared.Due.{Due}
use Rattle.codes.specs.declared.Due.TheVariants.{Data as DueData, Condition as DueCondition}
use Rattle.codes.specs.Sorts.{code_due}
use Rattle.codes.specs.Laws.Sorts.{no_data, no_condition}
use Rattle.codes.specs.Laws.Due.{code_taken, code_refused}
use Rattle.eb3.specs.Editions.{Edition as RuleEdition, edition_1}
use Rattle.eb3.specs.Expressions.{Data, Undefined, Cond, Args, Constant, Variable, Add, Subtract, Now, Before, Equal, Less, And, Or, Not, True}
use Rattle.eb3.specs.Scopes.{Scope}
use Rattle.eb3.specs.Reading.{Read, refused, taken, Reader, pick, giving, then, both, number_of, by_number, number_in, repeat}
use Rattle.eb3.specs.ExpressionReading.{DataKind, CondKind, data_kind, cond_kind, constant_of, args_of, data_by, cond_by, readers, read_data, read_cond}
use Rattle.words.specs.Checking.{Checked, checked}
use Rattle.words.specs.Laws.Checking.{then_checked, part}
use Rattle.words.specs.Laws.Reading.{handed_err, checked_refused}
use Rattle.expression_check.specs.declared.Front.{Front}
use Rattle.expression_check.specs.declared.Front.TheVariants.{On, Other}
use Rattle.expression_check.specs.Fronts.{Behind, Operand, Facing, DataFront, CondFront}
use Rattle.expression_check.specs.Laws.Reading.{whole, data_case, cond_case, two_ways}
use Rattle.expression_check.specs.Laws.Rows.{forget, forget_giving, then_then, then_left, then_ended, row_step, row_join, row_more, one_left, two_left, led}
use Rattle.std.proofs.Common.{subst, length-drop, drop-drop}
use Rattle.std.specs.Prelude.{Ok, Err, Result, IsErr, IsErrAnd}
use Rattle.refusals.specs.declared.Refusal.{Refusal}
use Rattle.refusals.specs.declared.Refusal.TheVariants.{Form, Reference}
use Rattle.refusals.specs.Numbers.{refusal, number}

-- ── a number at the front ──

after_number : (k limit n : ℕ) (t : List ℕ) → Ok n ≡ checked (number_of k limit t) → (0 < length t) × (number_of k limit t ≡ taken (get_or t 0 0) (drop 1 t))
unfolding number_of checked
after_number k limit n [] e = absurd (let z : ◌≡◌ {A = ℕ} 0 1 = cc in omega arith)
after_number k limit n (w ∷ t) e = (omega arith, go (ltb w limit) e)
  where
    go : (b : Bool) → Ok n ≡ checked (pick b (taken w t) (refused k)) → pick b (taken w t) (refused k) ≡ taken w t
    go true f = refl
    go false f = cc

-- What the check of the number answered, of the part of the words from the place on.
module _ (k : Refusal) (limit : ℕ) (s : List ℕ) (at m : ℕ) (q : Checked) (is : q ≡ checked (number_of (number k) limit (take (length s - at) (drop at s)))) where
  here : q ≡ checked (number_of (number k) limit (drop at s))
  here = is ∙ ap (λ t. checked (number_of (number k) limit t)) (part at s)

  pub operand_taken : (n : ℕ) → q ≡ Ok n → Operand k limit s at m (Ok (On (at + 1) m))
  operand_taken n e =
      let p = after_number (number k) limit n (drop at s) (sym e ∙ here) in
      (refl, omega (arith, p.0, length-drop at s), refl, (get_or (drop at s) 0 0, p.1 ∙ ap (taken (get_or (drop at s) 0 0)) (drop-drop 1 at s)))

  pub operand_refused : (j : Refusal) (r : Result Front Refusal) → q ≡ Err j → IsErr r × IsErrAnd r (λ e. e ≡ j) → Operand k limit s at m r
  operand_refused j r e h = subst (Operand k limit s at m) (sym (handed_err r j h)) (checked_refused (number_of (number k) limit (drop at s)) j (sym e ∙ here))

-- ── edition 1: a constant is one word, a function has one parameter ──

one_constant : (t : List ℕ) → forget (giving Constant (constant_of 1 65534 t)) ≡ forget (number_of 4 65535 t)
unfolding giving constant_of then number_in number_of forget
one_constant [] = refl
one_constant (w ∷ t) = go (dec_le w 65534)
  where
    go : Dec (w ≤ 65534) → forget (giving Constant (constant_of 1 65534 (w ∷ t))) ≡ forget (number_of 4 65535 (w ∷ t))
    go (yes h) =
        let l : w < 65535 = omega arith in
        simp (le-leb w 65534 h, lt-ltb w 65535 l)
    go (no h) =
        let l : 65534 < w = omega arith in
        let m : 65535 ≤ w = omega arith in
        simp (lt-leb w 65534 l, le-ltb w 65535 m)

one_argument : (d : Reader Data) (n : ℕ) (t : List ℕ) → n ≡ 1 → forget (args_of d n t) ≡ forget (d t)
unfolding args_of both giving
one_argument d n t e = ap (λ m. forget (args_of d m t)) e ∙ (forget_giving _ (both d (args_of d 0) t) ∙ then_ended (d t) _)

one_named : (limit : ℕ) (arity : ℕ → ℕ) (k : ℕ → Args → Data) (d : Reader Data) (t : List ℕ) → ((f : ℕ) → arity f ≡ 1)
    → forget (by_number 5 limit (λ f u. giving (k f) (args_of d (arity f) u)) t) ≡ forget (both (number_of 5 limit) d t)
unfolding by_number both
one_named limit arity k d t h =
    then_left (number_of 5 limit t) (λ f u. giving (k f) (args_of d (arity f) u)) (λ f u. giving (λ b. (f, b)) (d u))
    (λ f u. forget_giving (k f) (args_of d (arity f) u) ∙ (one_argument d (arity f) u (h f) ∙ sym (forget_giving (λ b. (f, b)) (d u))))

-- ── the codes ──

-- What a match says of the codes that it tests one by one, where none is met.
abbrev Unnamed : ℕ → Type 0
Unnamed w = ((((((((Unit {0} × (w ≡ 0 → ⊥)) × (w ≡ 1 → ⊥)) × (w ≡ 2 → ⊥)) × (w ≡ 3 → ⊥)) × (w ≡ 4 → ⊥)) × (w ≡ 5 → ⊥)) × (w ≡ 6 → ⊥)) × (w ≡ 7 → ⊥))

-- ── no word ──

data_none : (P : Scope) (s : List ℕ) (at rest : ℕ) → length s ≤ at → DataFront P s at rest (Err Form)
unfolding read_data readers checked repeat both giving then refusal
data_none P s at rest h = rw (drop_of_length-le s {i = at} h)

cond_none : (P : Scope) (s : List ℕ) (at rest : ℕ) → length s ≤ at → CondFront P s at rest (Err Form)
unfolding read_cond readers checked repeat both giving then refusal
cond_none P s at rest h = rw (drop_of_length-le s {i = at} h)

-- A number after it, and m of f's after that.
faced : {A B : Type 0} (f : Reader A) (g : Reader B) (after : ℕ) (s : List ℕ) (at rest m : ℕ) (k : Refusal) (limit : ℕ) (r : Result Front Refusal) → m ≤ at + 2
    → checked (repeat (suc rest) f (drop at s)) ≡ checked (then (number_of (number k) limit (drop (at + 1) s)) (λ w. repeat m f)) → Operand k limit s (at + 1) m r → Facing f g after s at rest r
unfolding then checked
faced f g after s at rest m k limit (Ok (On d o)) l e (x, y, z, n) = ((omega (arith, x), omega (arith, x, y), omega (arith, x, z, l)), e ∙ ap (λ r. checked (then r (λ v. repeat m f))) n.1 ∙ ap (λ i. checked (repeat i f (drop d s))) (sym z))
faced f g after s at rest m k limit (Ok (Other d)) l e n = absurd n
faced f g after s at rest m k limit (Err j) l e n = sym (e ∙ ap (λ r. checked (then r (λ v. repeat m f))) n.read ∙ ap Err (sym n.named))

-- ── a word at the place `at` ──

module _ (P : Scope) (s : List ℕ) (at rest : ℕ) (h : at < length s) where
  back : drop (suc at) s ≡ drop (at + 1) s
  back =
      let e : suc at ≡ at + 1 = omega arith in
      ap (λ i. drop i s) e

  -- what is there by its kind
  data_at : (k : DataKind) → data_kind P (get_or s at 0) ≡ k → read_data P (drop at s) ≡ data_by P (whole P) k (drop (at + 1) s)
  data_at k e = ap (read_data P) (drop-cons s at 0 h) ∙ data_case P (get_or s at 0 ∷ drop (suc at) s) k (λ z. omega arith) e ∙ ap (data_by P (whole P) k) back

  cond_at : (k : CondKind) → cond_kind (get_or s at 0) ≡ k → read_cond P (drop at s) ≡ cond_by (whole P) k (drop (at + 1) s)
  cond_at k e = ap (read_cond P) (drop-cons s at 0 h) ∙ cond_case P (get_or s at 0 ∷ drop (suc at) s) k (λ z. omega arith) e ∙ ap (cond_by (whole P) k) back

  data_row : {B : Type 0} (k : DataKind) (r : Read B) → data_kind P (get_or s at 0) ≡ k → forget (data_by P (whole P) k (drop (at + 1) s)) ≡ forget r
      → checked (repeat (suc rest) (read_data P) (drop at s)) ≡ checked (then r (λ a. repeat rest (read_data P)))
  data_row k r e f = row_step (read_data P) r rest (drop at s) (ap forget (data_at k e) ∙ f)

  cond_row : {B : Type 0} (k : CondKind) (r : Read B) → cond_kind (get_or s at 0) ≡ k → forget (cond_by (whole P) k (drop (at + 1) s)) ≡ forget r
      → checked (repeat (suc rest) (read_cond P) (drop at s)) ≡ checked (then r (λ a. repeat rest (read_cond P)))
  cond_row k r e f = row_step (read_cond P) r rest (drop at s) (ap forget (cond_at k e) ∙ f)

  data_wrong : data_kind P (get_or s at 0) ≡ DataKind.wrong → DataFront P s at rest (Err Form)
  unfolding then checked refusal
  data_wrong e = sym (data_row {B = Data} DataKind.wrong (refused 4) e refl)

  cond_wrong : cond_kind (get_or s at 0) ≡ CondKind.wrong → CondFront P s at rest (Err Form)
  unfolding then checked refusal
  cond_wrong e = sym (cond_row {B = Cond} CondKind.wrong (refused 4) e refl)

-- ── no word, or a code that may not be there ──

module _ (P : Scope) (s : List ℕ) (at rest : ℕ) (k : Refusal) (r : Result Front Refusal) (h : IsErr r × IsErrAnd r (λ e. e ≡ k)) where
  pub data_refused : Err k ≡ code_due DueData s at → DataFront P s at rest r
  data_refused e =
      let o = code_refused DueData s at k e in
      subst (DataFront P s at rest) (sym (handed_err r k h ∙ ap Err o.form)) (go (dec_le (length s) at) o.outside)
    where
      go : Dec (length s ≤ at) → (at < length s → get_or s at 0 ≤ 7 → ⊥) → DataFront P s at rest (Err Form)
      go (yes l) o = data_none P s at rest l
      go (no l) o = data_wrong P s at rest (omega arith) (no_data P (get_or s at 0) (o (omega arith)))

  pub cond_refused : Err k ≡ code_due DueCondition s at → CondFront P s at rest r
  cond_refused e =
      let o = code_refused DueCondition s at k e in
      subst (CondFront P s at rest) (sym (handed_err r k h ∙ ap Err o.form)) (go (dec_le (length s) at) o.outside)
    where
      go : Dec (length s ≤ at) → (at < length s → (8 ≤ get_or s at 0) × (get_or s at 0 ≤ 13) → ⊥) → CondFront P s at rest (Err Form)
      go (yes l) o = cond_none P s at rest l
      go (no l) o = cond_wrong P s at rest (omega arith) (no_condition (get_or s at 0) (o (omega arith)))

-- ── a code that may be there ──

-- w is the code that the code found there
module _ (P : Scope) (s : List ℕ) (at rest : ℕ) (few : rest ≤ at + 1) (due : Due) (w : ℕ) (is : Ok w ≡ code_due due s at) where
  abbrev rd : Reader Data
  rd = read_data P

  abbrev rc : Reader Cond
  rc = read_cond P

  abbrev t : List ℕ
  t = drop (at + 1) s

  within : at < length s
  within = (code_taken due s at w is).there

  behind : (m : ℕ) → m ≤ rest + 2 → Behind s at (at + 1) m
  behind m l = (omega arith, omega (arith, within), omega (arith, few, l))

  one : suc rest ≡ rest + 1
  one = omega arith

  two : suc (suc rest) ≡ rest + 2
  two = omega arith

  by_data : {B : Type 0} (k : DataKind) (r : Read B) → data_kind P w ≡ k → forget (data_by P (whole P) k t) ≡ forget r → checked (repeat (suc rest) rd (drop at s)) ≡ checked (then r (λ a. repeat rest rd))
  by_data k r e f = data_row P s at rest within k r (ap (data_kind P) (code_taken due s at w is).code ∙ e) f

  by_cond : {B : Type 0} (k : CondKind) (r : Read B) → cond_kind w ≡ k → forget (cond_by (whole P) k t) ≡ forget r → checked (repeat (suc rest) rc (drop at s)) ≡ checked (then r (λ a. repeat rest rc))
  by_cond k r e f = cond_row P s at rest within k r (ap cond_kind (code_taken due s at w is).code ∙ e) f

  pub data_undefined : w ≡ 0 → DataFront P s at rest (Ok (On (at + 1) rest))
  unfolding then
  data_undefined e = (behind rest (omega arith), by_data DataKind.undefined (taken Undefined t) (ap (data_kind P) e) refl)

  pub data_constant : (r : Result Front Refusal) → w ≡ 1 → P.edition ≡ edition_1 → Operand Form 65535 s (at + 1) rest r → DataFront P s at rest r
  data_constant r e o = faced rd (repeat 1 rc) (rest + 2) s at rest rest Form 65535 r (omega (arith, few)) (by_data DataKind.constant (number_of 4 65535 t) (ap (data_kind P) e) (ap (λ (L : RuleEdition). forget (giving Constant (constant_of L.width L.top t))) o ∙ one_constant t))

  pub data_variable : (r : Result Front Refusal) → w ≡ 2 → Operand Reference P.variables s (at + 1) rest r → DataFront P s at rest r
  data_variable r e = faced rd (repeat 1 rc) (rest + 2) s at rest rest Reference P.variables r (omega (arith, few)) (by_data DataKind.variable (number_of 5 P.variables t) (ap (data_kind P) e) (forget_giving Variable (number_of 5 P.variables t)))

  paired : (k : Data → Data → Data) → data_kind P w ≡ DataKind.pair k → DataFront P s at rest (Ok (On (at + 1) (rest + 2)))
  paired k e = (behind (rest + 2) (omega arith), by_data (DataKind.pair k) (both rd rd t) e (forget_giving _ (both rd rd t)) ∙ row_join rd rd rest t ∙ row_more rd (suc rest) t ∙ ap (λ n. checked (repeat n rd t)) two)

  pub data_sum : w ≡ 3 → DataFront P s at rest (Ok (On (at + 1) (rest + 2)))
  data_sum e = paired Add (ap (data_kind P) e)

  pub data_difference : w ≡ 4 → DataFront P s at rest (Ok (On (at + 1) (rest + 2)))
  data_difference e = paired Subtract (ap (data_kind P) e)

  pub data_select : w ≡ 5 → DataFront P s at rest (Ok (Other (at + 1)))
  unfolding both
  data_select e = (
    behind (rest + 2) (omega arith),
    by_data DataKind.select (both rc (both rd rd) t) (ap (data_kind P) e) (forget_giving _ (both rc (both rd rd) t))
        ∙ then_then (rc t) (both rd rd) (repeat rest rd)
        ∙ then_checked (rc t) (λ a u. then (both rd rd u) (λ b. repeat rest rd)) (λ a. repeat (suc (suc rest)) rd) (λ a u. row_join rd rd rest u ∙ row_more rd (suc rest) u)
        ∙ ap (λ n. checked (then (rc t) (λ a. repeat n rd))) two
        ∙ led rc (repeat 1 rc) (repeat (rest + 2) rd) t (sym (one_left rc t)),
  )

  named : (k : ℕ → Args → Data) (limit : ℕ) (r : Result Front Refusal) → P.arity ≡ (λ f. 1) → data_kind P w ≡ DataKind.attribute k limit → Operand Reference limit s (at + 1) (rest + 1) r → DataFront P s at rest r
  named k limit r a e =
      faced rd (repeat 1 rc) (rest + 2) s at rest (rest + 1) Reference limit r (omega (arith, few))
      (by_data (DataKind.attribute k limit) (both (number_of 5 limit) rd t) e (one_named limit P.arity k rd t (λ n. ap (λ g. g n) a))
      ∙ row_join (number_of 5 limit) rd rest t
      ∙ ap (λ n. checked (then (number_of 5 limit t) (λ w. repeat n rd))) one)

  pub data_now : (r : Result Front Refusal) → w ≡ 6 → P.arity ≡ (λ f. 1) → Operand Reference P.now s (at + 1) (rest + 1) r → DataFront P s at rest r
  data_now r e a = named Now P.now r a (ap (data_kind P) e)

  pub data_before : (r : Result Front Refusal) → w ≡ 7 → P.arity ≡ (λ f. 1) → 0 < P.before → Operand Reference P.before s (at + 1) (rest + 1) r → DataFront P s at rest r
  data_before r e a l = named Before P.before r a (ap (data_kind P) e ∙ rw (lt-ltb 0 P.before l))

  pub data_barred : w ≡ 7 → P.before ≤ 0 → DataFront P s at rest (Err Form)
  data_barred e l = data_wrong P s at rest within (ap (data_kind P) (code_taken due s at w is).code ∙ ap (data_kind P) e ∙ rw (le-ltb 0 P.before l))

  compared : (k : Data → Data → Cond) → cond_kind w ≡ CondKind.compare k → CondFront P s at rest (Ok (Other (at + 1)))
  compared k e = (behind rest (omega arith), by_cond (CondKind.compare k) (both rd rd t) e (forget_giving _ (both rd rd t)) ∙ led (both rd rd) (repeat 2 rd) (repeat rest rc) t (sym (two_left rd t)))

  pub cond_compare : 8 ≤ w → w < 10 → CondFront P s at rest (Ok (Other (at + 1)))
  cond_compare l u = ⊎_elim (λ e. compared Equal (ap cond_kind e)) (λ e. compared Less (ap cond_kind e)) (two_ways w 8 l (omega arith))

  joined : (k : Cond → Cond → Cond) → cond_kind w ≡ CondKind.join k → CondFront P s at rest (Ok (On (at + 1) (rest + 2)))
  joined k e = (behind (rest + 2) (omega arith), by_cond (CondKind.join k) (both rc rc t) e (forget_giving _ (both rc rc t)) ∙ row_join rc rc rest t ∙ row_more rc (suc rest) t ∙ ap (λ n. checked (repeat n rc t)) two)

  pub cond_not : w ≡ 12 → CondFront P s at rest (Ok (On (at + 1) (rest + 1)))
  cond_not e = (behind (rest + 1) (omega arith), by_cond CondKind.negate (rc t) (ap cond_kind e) (forget_giving Not (rc t)) ∙ row_more rc rest t ∙ ap (λ n. checked (repeat n rc t)) one)

  pub cond_always : w ≡ 13 → CondFront P s at rest (Ok (On (at + 1) rest))
  unfolding then
  cond_always e = (behind rest (omega arith), by_cond CondKind.always (taken True t) (ap cond_kind e) refl)

-- ── the last arms ──

-- There is no code of data above 7.
pub data_high : (P : Scope) (s : List ℕ) (at rest w : ℕ) → Ok w ≡ code_due DueData s at → Unnamed w → DataFront P s at rest (Err Form)
data_high P s at rest w is o =
    let u : w ≤ 7 = (code_taken DueData s at w is).sort in
    let a : 3 ≤ w = omega (arith, o.0.0.0.0.0.0.0.1, o.0.0.0.0.0.0.1, o.0.0.0.0.0.1) in
    let b : 6 ≤ w = omega (arith, a, o.0.0.0.0.1, o.0.0.0.1, o.0.0.1) in
    absurd (let z : ⊥ = omega (arith, u, b, o.0.1, o.1) in z)

module _ (P : Scope) (s : List ℕ) (at rest : ℕ) (few : rest ≤ at + 1) (w : ℕ) (is : Ok w ≡ code_due DueCondition s at) where
  sort : (8 ≤ w) × (w ≤ 13)
  sort = (code_taken DueCondition s at w is).sort

  -- no code of a condition is below 8
  pub cond_low : w < 8 → CondFront P s at rest (Ok (On (at + 1) (rest + 2)))
  cond_low l = absurd (let z : ⊥ = omega (arith, sort.0) in z)

  -- and and or are the conditions that are left
  pub cond_join : ((Unit {0} × (w ≡ 12 → ⊥)) × (w ≡ 13 → ⊥)) → 10 ≤ w → CondFront P s at rest (Ok (On (at + 1) (rest + 2)))
  cond_join o l =
      let u : w ≤ 12 = omega (arith, sort.1, o.1) in
      let v : w ≤ 11 = omega (arith, u, o.0.1) in
      ⊎_elim (λ e. joined P s at rest few DueCondition w is And (ap cond_kind e)) (λ e. joined P s at rest few DueCondition w is Or (ap cond_kind e)) (two_ways w 10 l (omega arith))

pub ruleset fronts =
    (data_refused, cond_refused, data_undefined, data_constant, data_variable, data_sum, data_difference, data_select, data_now, data_before, data_barred, data_high, cond_compare, cond_not, cond_always, cond_low, cond_join)
