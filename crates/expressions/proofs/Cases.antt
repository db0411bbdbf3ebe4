-- A case for each way that a helper of the evaluators returns, over its operands; the premises have the form of the facts known there.
use mathlib.Core.Path.{◌≡◌, refl, ap, ◌∙◌}
use mathlib.Core.Bool.{Bool, true, false, not, cond}
use mathlib.Core.List.{List, [], ◌∷◌, ◌++◌}
use Prim.Native.Nat.{ℕ, ◌/◌, ◌%◌}
use native.Mathlib.Omega.{arith}
use lib.Dec.{eqb}
use mir.Val.{bool_byte}
use lib.ListN.{drop, get_or}
use Rattle.eb3.specs.Values.{Value, encode, decode}
use Rattle.eb3.specs.Expressions.{evaluate_data, evaluate_cond}
use Rattle.eb3.specs.Spelling.{data_words, cond_words}
use Rattle.words.specs.Checking.{last_of}
use Rattle.expressions.specs.declared.valued.Valued.{Valued}
use Rattle.expressions.specs.Stores.{largest_number, reading_in, environment_in}
use Rattle.expressions.specs.Answering.{value_word, truth, answer, DataAt, CondAt, Evaluated, Judged}
use Rattle.expressions.specs.Operands.{Paired, Selected, Named, Joined, Negated}
use Rattle.expressions.specs.Laws.Answering.{data_parted, cond_parted, data_value}

negated_word : (c : Bool) → bool_byte (eqb (truth c) 0) ≡ truth (not c)
unfolding truth
negated_word true = refl
negated_word false = refl

-- ── operands ──

-- t are the words, x what the first operand answers, u the words after it, y what the next answers there
module _ (t u M : List ℕ) (x y : Valued) where
  pub paired : (g : Value → Value → ℕ) (r : Valued) → Evaluated t M x → u ≡ last_of x.left t → Evaluated u M y
      → r.value ≡ g (decode largest_number x.value) (decode largest_number y.value) → r.left ≡ y.left → Paired g t M r
  paired g r f k h e l P a b rest at s =
      let p = data_parted t M x P (data_words P.edition.width b ++ rest) f a at in
      let next : DataAt u P b rest = record { plain = at.plain; in_scope = s; spelled = p.behind u k } in
      let n = data_parted u M y P rest h b next in
      let v : decode largest_number x.value ≡ evaluate_data a (environment_in M) = data_value t M x P (data_words P.edition.width b ++ rest) f a at in
      let w : decode largest_number y.value ≡ evaluate_data b (environment_in M) = data_value u M y P rest h b next in
      record { value = e ∙ (λ i. g (v i) (w i)); left = l ∙ n.left }

module _ (t u M : List ℕ) (x y : ℕ) where
  -- z is what is made of the two conditions' words
  pub joined : (g : Bool → Bool → Bool) (z r : ℕ) → Judged t M x → u ≡ last_of (x / 65536) t → Judged u M y
      → ((c d : Bool) → x % 65536 ≡ truth c → y % 65536 ≡ truth d → z ≡ truth (g c d)) → r ≡ answer z (y / 65536) → Joined g t M r
  joined g z r f k h e q P c d rest at s =
      let p = cond_parted t M x P (cond_words P.edition.width d ++ rest) f c at in
      let next : CondAt u P d rest = record { plain = at.plain; in_scope = s; spelled = p.behind u k } in
      let n = cond_parted u M y P rest h d next in
      q ∙ (λ j. answer (e (evaluate_cond c (environment_in M)) (evaluate_cond d (environment_in M)) p.word n.word j) (n.left j))

module _ (t M : List ℕ) (x : ℕ) (f : Judged t M x) where
  pub negated : (z r : ℕ) → z ≡ bool_byte (eqb (x % 65536) 0) → r ≡ answer z (x / 65536) → Negated t M r
  negated z r e q P c rest at =
      let p = cond_parted t M x P rest f c at in
      q ∙ (λ j. answer ((e ∙ ap (λ w. bool_byte (eqb w 0)) p.word ∙ negated_word (evaluate_cond c (environment_in M))) j) (p.left j))

-- c is what the condition answers, x and y what the data do
module _ (t u v M : List ℕ) (c : ℕ) (x y : Valued) (f : Judged t M c) (k : u ≡ last_of (c / 65536) t) (h : Evaluated u M x) (l : v ≡ last_of x.left u) (i : Evaluated v M y) where
  selected : (r : Valued) → r.left ≡ y.left → ((b : Bool) (p q : Value) → c % 65536 ≡ truth b → x.value ≡ value_word p → y.value ≡ value_word q → r.value ≡ value_word (cond b p q)) → Selected t M r
  selected r e q P d a b rest at sa sb =
      let p = cond_parted t M c P (data_words P.edition.width a ++ (data_words P.edition.width b ++ rest)) f d at in
      let first : DataAt u P a (data_words P.edition.width b ++ rest) = record { plain = at.plain; in_scope = sa; spelled = p.behind u k } in
      let n = data_parted u M x P (data_words P.edition.width b ++ rest) h a first in
      let second : DataAt v P b rest = record { plain = at.plain; in_scope = sb; spelled = n.behind v l } in
      let m = data_parted v M y P rest i b second in
      record {
        value = q (evaluate_cond d (environment_in M)) (evaluate_data a (environment_in M)) (evaluate_data b (environment_in M)) p.word n.word m.word;
        left = e ∙ m.left;
      }

  pub select_second : (r : Valued) → r.value ≡ y.value → r.left ≡ y.left → c % 65536 ≡ 0 → Selected t M r
  unfolding truth
  select_second r v l z = selected r l go
    where
      go : (b : Bool) (p q : Value) → c % 65536 ≡ truth b → x.value ≡ value_word p → y.value ≡ value_word q → r.value ≡ value_word (cond b p q)
      go true p q e j o = absurd (omega arith)
      go false p q e j o = v ∙ o

  pub select_first : (r : Valued) → r.value ≡ x.value → r.left ≡ y.left → (c % 65536 ≡ 0 → ⊥) → Selected t M r
  unfolding truth
  select_first r v l z = selected r l go
    where
      go : (b : Bool) (p q : Value) → c % 65536 ≡ truth b → x.value ≡ value_word p → y.value ≡ value_word q → r.value ≡ value_word (cond b p q)
      go true p q e j o = v ∙ j
      go false p q e j o = absurd (z e)

pub named : (t u M : List ℕ) (at n : ℕ) (x r : Valued) → u ≡ drop 1 t → Evaluated u M x → n ≡ get_or t 0 0
    → r.value ≡ encode 65535 (reading_in M at n (decode largest_number x.value ∷ [])) → r.left ≡ x.left → Named at t M r
named t u M at n x r k f i e l P a rest here =
    let there : DataAt u P a rest = record { plain = here.plain; in_scope = here.in_scope; spelled = k ∙ here.spelled } in
    let p = data_parted u M x P rest f a there in
    let v : decode largest_number x.value ≡ evaluate_data a (environment_in M) = data_value u M x P rest f a there in
    record { value = e ∙ (λ o. encode 65535 (reading_in M at (i o) (v o ∷ []))); left = l ∙ p.left }
