-- Laws of the two forms of expressions whose cells keep their values (document 01, "Memory and the history machine"): an expression is before f(x0), or asks
-- whether x0 is the element named, if and only if its first words are those of the form.
use Rattle.std.specs.Prelude.{◌≡◌, refl, Bool, true, false, not, ◌↔◌, ◌⊎◌, eqb}
use Rattle.std.proofs.Math.Path.{sym, ap, subst}
use Rattle.std.proofs.Common.{◌∙◌, ⊎_elim, eq-eqb, ne_eqb}
use mathlib.Core.List.{List, [], ◌∷◌, ◌++◌, append_assoc}
use Rattle.std.proofs.Math.Logic.{inl, inr}
use Prim.Native.Nat.{ℕ, zero, suc, ◌≤◌}
use native.Mathlib.Omega.{arith}
use Rattle.std.proofs.Math.Decide.{ℕ_discrete}
use Rattle.std.proofs.Math.ListN.{length, get_or, length-append}
use Rattle.eb3.specs.Expressions.{Data, Undefined, Constant, Variable, Add, Subtract, If, Now, Before, Args, Nil, Cons, Cond, Equal, Less, And, Or, Not, True}
use Rattle.eb3.specs.Scopes.{Scope, DataInScope, ArgsInScope}
use Rattle.eb3.specs.Spelling.{number_words, data_words, args_words, cond_words}
use Rattle.expressions.specs.Answering.{Plain, DataAt}
use Rattle.cells.specs.Frames.{kept_value, Naming, argument, value_now, value_before, naming, AsksOne, Tells}

-- ── an expression by its code ──

abbrev data_code : Data → ℕ
data_code Undefined = 0
data_code (Constant n) = 1
data_code (Variable i) = 2
data_code (Add a b) = 3
data_code (Subtract a b) = 4
data_code (If c a b) = 5
data_code (Now f rs) = 6
data_code (Before f rs) = 7

abbrev cond_code : Cond → ℕ
cond_code (Equal a b) = 8
cond_code (Less a b) = 9
cond_code (And c d) = 10
cond_code (Or c d) = 11
cond_code (Not c) = 12
cond_code True = 13

data_first : (w : ℕ) (d : Data) (u : List ℕ) → get_or (data_words w d ++ u) 0 0 ≡ data_code d
unfolding data_words
data_first w Undefined u = refl
data_first w (Constant n) u = refl
data_first w (Variable i) u = refl
data_first w (Add a b) u = refl
data_first w (Subtract a b) u = refl
data_first w (If c a b) u = refl
data_first w (Now f rs) u = refl
data_first w (Before f rs) u = refl

cond_first : (w : ℕ) (c : Cond) (u : List ℕ) → get_or (cond_words w c ++ u) 0 0 ≡ cond_code c
unfolding data_words
cond_first w (Equal a b) u = refl
cond_first w (Less a b) u = refl
cond_first w (And c d) u = refl
cond_first w (Or c d) u = refl
cond_first w (Not c) u = refl
cond_first w True u = refl

data_there : (w : ℕ) (d : Data) → 1 ≤ length (data_words w d)
unfolding data_words
data_there w Undefined = omega arith
data_there w (Constant n) = omega arith
data_there w (Variable i) = omega arith
data_there w (Add a b) = omega arith
data_there w (Subtract a b) = omega arith
data_there w (If c a b) = omega arith
data_there w (Now f rs) = omega arith
data_there w (Before f rs) = omega arith

variable_by : (d : Data) → data_code d ≡ 2 → (i : ℕ) × (d ≡ Variable i)
variable_by Undefined e = absurd (let z : ⊥ = omega arith in z)
variable_by (Constant n) e = absurd (let z : ⊥ = omega arith in z)
variable_by (Variable i) e = (i, refl)
variable_by (Add a b) e = absurd (let z : ⊥ = omega arith in z)
variable_by (Subtract a b) e = absurd (let z : ⊥ = omega arith in z)
variable_by (If c a b) e = absurd (let z : ⊥ = omega arith in z)
variable_by (Now f rs) e = absurd (let z : ⊥ = omega arith in z)
variable_by (Before f rs) e = absurd (let z : ⊥ = omega arith in z)

selection_by : (d : Data) → data_code d ≡ 5 → (c : Cond) × (a : Data) × (b : Data) × (d ≡ If c a b)
selection_by Undefined e = absurd (let z : ⊥ = omega arith in z)
selection_by (Constant n) e = absurd (let z : ⊥ = omega arith in z)
selection_by (Variable i) e = absurd (let z : ⊥ = omega arith in z)
selection_by (Add a b) e = absurd (let z : ⊥ = omega arith in z)
selection_by (Subtract a b) e = absurd (let z : ⊥ = omega arith in z)
selection_by (If c a b) e = (c, a, b, refl)
selection_by (Now f rs) e = absurd (let z : ⊥ = omega arith in z)
selection_by (Before f rs) e = absurd (let z : ⊥ = omega arith in z)

past_by : (d : Data) → data_code d ≡ 7 → (g : ℕ) × (rs : Args) × (d ≡ Before g rs)
past_by Undefined e = absurd (let z : ⊥ = omega arith in z)
past_by (Constant n) e = absurd (let z : ⊥ = omega arith in z)
past_by (Variable i) e = absurd (let z : ⊥ = omega arith in z)
past_by (Add a b) e = absurd (let z : ⊥ = omega arith in z)
past_by (Subtract a b) e = absurd (let z : ⊥ = omega arith in z)
past_by (If c a b) e = absurd (let z : ⊥ = omega arith in z)
past_by (Now f rs) e = absurd (let z : ⊥ = omega arith in z)
past_by (Before f rs) e = (f, rs, refl)

equality_by : (c : Cond) → cond_code c ≡ 8 → (a : Data) × (b : Data) × (c ≡ Equal a b)
equality_by (Equal a b) e = (a, b, refl)
equality_by (Less a b) e = absurd (let z : ⊥ = omega arith in z)
equality_by (And c d) e = absurd (let z : ⊥ = omega arith in z)
equality_by (Or c d) e = absurd (let z : ⊥ = omega arith in z)
equality_by (Not c) e = absurd (let z : ⊥ = omega arith in z)
equality_by True e = absurd (let z : ⊥ = omega arith in z)

-- A function has one argument.
one_argument : (P : Scope) → Plain P → (f : ℕ) (rs : Args) → ArgsInScope rs P (P.arity f) → (a : Data) × (rs ≡ Cons a Nil)
one_argument P plain f rs w = go rs (P.arity f) (ap (λ g. g f) plain.one_parameter) w
  where
    go : (rs : Args) (n : ℕ) → n ≡ 1 → ArgsInScope rs P n → (a : Data) × (rs ≡ Cons a Nil)
    go Nil n o w = absurd (let z : ⊥ = omega arith in z)
    go (Cons a Nil) n o w = (a, refl)
    go (Cons a (Cons b rs)) n o w = absurd (let z : ⊥ = omega (arith, w.1, w.3.1) in z)

positive : (i : ℕ) → (i ≡ 0 → ⊥) → (j : ℕ) × (i ≡ suc j)
positive zero n = absurd (n refl)
positive (suc j) n = (j, refl)

-- An argument that is a variable.
abbrev one : ℕ → Args
one i = Cons (Variable i) Nil

variable_argument : (width : ℕ) (rs : Args) (u : List ℕ) → ((a : Data) × (rs ≡ Cons a Nil)) → get_or (args_words width rs ++ u) 0 0 ≡ 2 → rs ≡ one (get_or (args_words width rs ++ u) 1 0)
unfolding data_words
variable_argument width rs u (a, e) w =
    let first : get_or (args_words width rs ++ u) 0 0 ≡ data_code a = ap (λ q. get_or (args_words width q ++ u) 0 0) e ∙ ap (λ l. get_or l 0 0) (append_assoc (data_words width a) [] u) ∙ data_first width a u in
    let v = variable_by a (sym first ∙ w) in
    let q : rs ≡ one v.0 = e ∙ ap (λ b. Cons b Nil) v.1 in
    q ∙ ap one (sym (ap (λ r. get_or (args_words width r ++ u) 1 0) q))

-- ── before f(x0) ──

abbrev pub KeepsWords : List ℕ → ℕ → Type 0
KeepsWords s f = (4 ≤ length s) × (get_or s 0 0 ≡ 7) × (get_or s 1 0 ≡ f) × (get_or s 2 0 ≡ 2) × (get_or s 3 0 ≡ 0)

module _ (s : List ℕ) (f : ℕ) where
  kept_words : (width : ℕ) (d : Data) (rest : List ℕ) → s ≡ data_words width d ++ rest → d ≡ kept_value f → KeepsWords s f
  unfolding data_words
  kept_words width d rest e q =
      let k : s ≡ 7 ∷ f ∷ 2 ∷ 0 ∷ rest = e ∙ ap (λ b. data_words width b ++ rest) q in
      (omega (arith, ap length k), ap (λ l. get_or l 0 0) k, ap (λ l. get_or l 1 0) k, ap (λ l. get_or l 2 0) k, ap (λ l. get_or l 3 0) k)

  kept_past : (P : Scope) (g : ℕ) (rs : Args) (rest : List ℕ) → DataAt s P (Before g rs) rest → KeepsWords s f → Before g rs ≡ kept_value f
  unfolding data_words
  kept_past P g rs rest at (h, w0, w1, w2, w3) =
      let k : s ≡ 7 ∷ g ∷ (args_words P.edition.width rs ++ rest) = at.spelled in
      let o : rs ≡ one (get_or (args_words P.edition.width rs ++ rest) 1 0) = variable_argument P.edition.width rs rest (one_argument P at.plain g rs at.in_scope.1) (sym (ap (λ l. get_or l 2 0) k) ∙ w2) in
      let q : g ≡ f = sym (ap (λ l. get_or l 1 0) k) ∙ w1 in
      let i : get_or (args_words P.edition.width rs ++ rest) 1 0 ≡ 0 = sym (ap (λ l. get_or l 3 0) k) ∙ w3 in
      λ j. Before (q j) ((o ∙ ap one i) j)

  kept_by : (P : Scope) (d : Data) (rest : List ℕ) → DataAt s P d rest → KeepsWords s f → d ≡ kept_value f
  kept_by P d rest at w =
      let b = past_by d (sym (data_first P.edition.width d rest) ∙ sym (ap (λ l. get_or l 0 0) at.spelled) ∙ w.1) in
      b.2 ∙ kept_past P b.0 b.1 rest (subst (λ q. DataAt s P q rest) b.2 at) w

  pub keeps_told : (r : Bool) → (r ≡ true → KeepsWords s f) → (KeepsWords s f → r ≡ true) → Tells r s (λ d. d ≡ kept_value f)
  keeps_told r h k P d rest at = (λ e. kept_by P d rest at (h e), λ e. k (kept_words P.edition.width d rest at.spelled e))

-- ── whether x0 is the element named ──

-- the fifth word and those after it, which name an element
abbrev pub NamingWords : List ℕ → Type 0
NamingWords s = ((get_or s 4 0 ≡ 2) × (get_or s 5 0 ≡ 0 → ⊥)) ⊎ ((6 ≤ get_or s 4 0) × (get_or s 4 0 ≤ 7) × (get_or s 6 0 ≡ 2) × (get_or s 7 0 ≡ 0 → ⊥))

abbrev pub AsksWords : List ℕ → Type 0
AsksWords s = (8 ≤ length s) × (get_or s 0 0 ≡ 5) × (get_or s 1 0 ≡ 8) × (get_or s 2 0 ≡ 2) × (get_or s 3 0 ≡ 0) × NamingWords s

abbrev pub asking : ℕ → List ℕ → List ℕ
asking i u = 5 ∷ 8 ∷ 2 ∷ i ∷ u

naming_by : (P : Scope) → Plain P → (i : ℕ) (e : Data) → DataInScope e P → (u : List ℕ) → NamingWords (asking i (data_words P.edition.width e ++ u)) → (q : Naming) × (e ≡ naming q)
unfolding data_words number_words
naming_by P plain i Undefined w u h = absurd (⊎_elim (λ l. let z : ⊥ = omega (arith, l.0) in z) (λ r. let z : ⊥ = omega (arith, r.0) in z) h)
naming_by P plain i (Constant n) w u h = absurd (⊎_elim (λ l. let z : ⊥ = omega (arith, l.0) in z) (λ r. let z : ⊥ = omega (arith, r.0) in z) h)
naming_by P plain i (Variable j) w u (inl l) = let p = positive j l.1 in (argument p.0, ap Variable p.1)
naming_by P plain i (Variable j) w u (inr r) = absurd (let z : ⊥ = omega (arith, r.0) in z)
naming_by P plain i (Add a b) w u h = absurd (⊎_elim (λ l. let z : ⊥ = omega (arith, l.0) in z) (λ r. let z : ⊥ = omega (arith, r.0) in z) h)
naming_by P plain i (Subtract a b) w u h = absurd (⊎_elim (λ l. let z : ⊥ = omega (arith, l.0) in z) (λ r. let z : ⊥ = omega (arith, r.0) in z) h)
naming_by P plain i (If c a b) w u h = absurd (⊎_elim (λ l. let z : ⊥ = omega (arith, l.0) in z) (λ r. let z : ⊥ = omega (arith, r.0) in z) h)
naming_by P plain i (Now g rs) w u (inl l) = absurd (let z : ⊥ = omega (arith, l.0) in z)
naming_by P plain i (Now g rs) w u (inr r) =
    let p = positive (get_or (args_words P.edition.width rs ++ u) 1 0) r.3 in
    (value_now g p.0, ap (Now g) (variable_argument P.edition.width rs u (one_argument P plain g rs w.1) r.2 ∙ ap one p.1))
naming_by P plain i (Before g rs) w u (inl l) = absurd (let z : ⊥ = omega (arith, l.0) in z)
naming_by P plain i (Before g rs) w u (inr r) =
    let p = positive (get_or (args_words P.edition.width rs ++ u) 1 0) r.3 in
    (value_before g p.0, ap (Before g) (variable_argument P.edition.width rs u (one_argument P plain g rs w.1) r.2 ∙ ap one p.1))

module _ (s : List ℕ) (P : Scope) (rest : List ℕ) where
  asks_variable : (i : ℕ) (e a b : Data) → DataAt s P (If (Equal (Variable i) e) a b) rest → AsksWords s → AsksOne (If (Equal (Variable i) e) a b)
  unfolding data_words
  asks_variable i e a b at (h, w0, w1, w2, w3, n) =
      let u : List ℕ = (data_words P.edition.width a ++ data_words P.edition.width b) ++ rest in
      let k : s ≡ asking i (data_words P.edition.width e ++ u) = at.spelled ∙ ap (asking i) (append_assoc (data_words P.edition.width e) (data_words P.edition.width a ++ data_words P.edition.width b) rest) in
      let z : i ≡ 0 = sym (ap (λ l. get_or l 3 0) k) ∙ w3 in
      let q = naming_by P at.plain i e at.in_scope.0.1 u (subst NamingWords k n) in
      record { named = q.0; yes_value = a; no_value = b; asked = λ j. If (Equal (Variable (z j)) (q.1 j)) a b }

  asks_equal : (x e a b : Data) → DataAt s P (If (Equal x e) a b) rest → AsksWords s → AsksOne (If (Equal x e) a b)
  unfolding data_words
  asks_equal x e a b at w =
      let u : List ℕ = data_words P.edition.width a ++ data_words P.edition.width b in
      let k : s ≡ 5 ∷ 8 ∷ (data_words P.edition.width x ++ (data_words P.edition.width e ++ (u ++ rest))) =
      at.spelled ∙ ap (λ l. 5 ∷ 8 ∷ l) (append_assoc (data_words P.edition.width x ++ data_words P.edition.width e) u rest ∙ append_assoc (data_words P.edition.width x) (data_words P.edition.width e) (u ++ rest)) in
      let v = variable_by x (sym (data_first P.edition.width x (data_words P.edition.width e ++ (u ++ rest))) ∙ sym (ap (λ l. get_or l 2 0) k) ∙ w.3) in
      let p : If (Equal x e) a b ≡ If (Equal (Variable v.0) e) a b = ap (λ y. If (Equal y e) a b) v.1 in
      subst AsksOne (sym p) (asks_variable v.0 e a b (subst (λ d. DataAt s P d rest) p at) w)

  asks_selection : (c : Cond) (a b : Data) → DataAt s P (If c a b) rest → AsksWords s → AsksOne (If c a b)
  unfolding data_words
  asks_selection c a b at w =
      let u : List ℕ = data_words P.edition.width a ++ data_words P.edition.width b in
      let k : s ≡ 5 ∷ (cond_words P.edition.width c ++ (u ++ rest)) = at.spelled ∙ ap (λ l. 5 ∷ l) (append_assoc (cond_words P.edition.width c) u rest) in
      let v = equality_by c (sym (cond_first P.edition.width c (u ++ rest)) ∙ sym (ap (λ l. get_or l 1 0) k) ∙ w.2) in
      let p : If c a b ≡ If (Equal v.0 v.1) a b = ap (λ y. If y a b) v.2 in
      subst AsksOne (sym p) (asks_equal v.0 v.1 a b (subst (λ d. DataAt s P d rest) p at) w)

  asks_by : (d : Data) → DataAt s P d rest → AsksWords s → AsksOne d
  asks_by d at w =
      let v = selection_by d (sym (data_first P.edition.width d rest) ∙ sym (ap (λ l. get_or l 0 0) at.spelled) ∙ w.1) in
      subst AsksOne (sym v.3) (asks_selection v.0 v.1 v.2 (subst (λ q. DataAt s P q rest) v.3 at) w)

  -- the words of an expression that asks, after those that name the element
  asked_words : (q : Naming) (a b : Data) → s ≡ asking 0 (data_words P.edition.width (naming q) ++ ((data_words P.edition.width a ++ data_words P.edition.width b) ++ rest)) → AsksWords s
  unfolding data_words
  asked_words (argument i) a b k = (
    omega (arith, ap length k, length-append (data_words P.edition.width a ++ data_words P.edition.width b) rest, length-append (data_words P.edition.width a) (data_words P.edition.width b), data_there P.edition.width a, data_there P.edition.width b),
    ap (λ l. get_or l 0 0) k,
    ap (λ l. get_or l 1 0) k,
    ap (λ l. get_or l 2 0) k,
    ap (λ l. get_or l 3 0) k,
    inl (ap (λ l. get_or l 4 0) k, λ z. let e : suc i ≡ 0 = sym (ap (λ l. get_or l 5 0) k) ∙ z in let y : ⊥ = omega arith in y),
  )
  asked_words (value_now g i) a b k = (
    omega (arith, ap length k),
    ap (λ l. get_or l 0 0) k,
    ap (λ l. get_or l 1 0) k,
    ap (λ l. get_or l 2 0) k,
    ap (λ l. get_or l 3 0) k,
    inr (
      omega (arith, ap (λ l. get_or l 4 0) k),
      omega (arith, ap (λ l. get_or l 4 0) k),
      ap (λ l. get_or l 6 0) k,
      λ z. let e : suc i ≡ 0 = sym (ap (λ l. get_or l 7 0) k) ∙ z in let y : ⊥ = omega arith in y,
    ),
  )
  asked_words (value_before g i) a b k = (
    omega (arith, ap length k),
    ap (λ l. get_or l 0 0) k,
    ap (λ l. get_or l 1 0) k,
    ap (λ l. get_or l 2 0) k,
    ap (λ l. get_or l 3 0) k,
    inr (
      omega (arith, ap (λ l. get_or l 4 0) k),
      omega (arith, ap (λ l. get_or l 4 0) k),
      ap (λ l. get_or l 6 0) k,
      λ z. let e : suc i ≡ 0 = sym (ap (λ l. get_or l 7 0) k) ∙ z in let y : ⊥ = omega arith in y,
    ),
  )

-- Where it is asked, the words are what names the element, the value for it, and the value for the others.
pub asked_spelled : (s : List ℕ) (P : Scope) (d : Data) (rest : List ℕ) → DataAt s P d rest → (q : AsksOne d)
    → s ≡ asking 0 (data_words P.edition.width (naming q.named) ++ (data_words P.edition.width q.yes_value ++ (data_words P.edition.width q.no_value ++ rest)))
unfolding data_words
asked_spelled s P d rest at q =
    let n : List ℕ = data_words P.edition.width (naming q.named) in
    let a : List ℕ = data_words P.edition.width q.yes_value in
    let b : List ℕ = data_words P.edition.width q.no_value in
    at.spelled ∙ ap (λ y. data_words P.edition.width y ++ rest) q.asked ∙ ap (asking 0) (append_assoc n (a ++ b) rest ∙ ap (λ l. n ++ l) (append_assoc a b rest))

pub asks_told : (s : List ℕ) (r : Bool) → (r ≡ true → AsksWords s) → (AsksWords s → r ≡ true) → Tells r s AsksOne × (r ≡ true → 8 ≤ length s)
asks_told s r h k = (
  λ P d rest at. (
    λ e. asks_by s P rest d at (h e),
    λ q. k (asked_words s P rest q.named q.yes_value q.no_value
        (asked_spelled s P d rest at q ∙ ap (λ l. asking 0 (data_words P.edition.width (naming q.named) ++ l)) (sym (append_assoc (data_words P.edition.width q.yes_value) (data_words P.edition.width q.no_value) rest)))),
  ),
  λ e. (h e).0,
)

-- ── what a last test answers ──

pub false_no : {A : Type 0} → false ≡ true → A
false_no e = absurd (let z : ◌≡◌ {A = ℕ} 0 1 = cc in let y : ⊥ = omega arith in y)

pub equal_tested : (w v : ℕ) → (eqb w v ≡ true) ↔ (w ≡ v)
equal_tested w v = go (ℕ_discrete w v)
  where
    go : Dec (w ≡ v) → (eqb w v ≡ true) ↔ (w ≡ v)
    go (yes e) = (λ t. e, λ q. eq-eqb w v q)
    go (no n) = (λ t. false_no (sym (ne_eqb w v n) ∙ t), λ q. absurd (n q))

pub unequal_tested : (w v : ℕ) → (not (eqb w v) ≡ true) ↔ (w ≡ v → ⊥)
unequal_tested w v = go (ℕ_discrete w v)
  where
    go : Dec (w ≡ v) → (not (eqb w v) ≡ true) ↔ (w ≡ v → ⊥)
    go (yes e) = (λ t. false_no (sym (ap not (eq-eqb w v e)) ∙ t), λ q. absurd (q e))
    go (no n) = (λ t. n, λ q. ap not (ne_eqb w v n))
