-- A case for each way that these functions return; the premises have the form of the facts known there, so that `search` finds them.
use mathlib.Core.Path.{◌≡◌, refl, sym, ap, ◌∙◌, subst}
use mathlib.Core.Bool.{Bool, true, false, not}
use mathlib.Core.List.{List, [], ◌∷◌, ◌++◌}
use Prim.Native.Nat.{ℕ, ◌+◌, ◌-◌, ◌*◌, ◌/◌, ◌%◌, ◌^◌, ◌≤◌, ◌<◌}
use native.Mathlib.Omega.{arith}
use native.Mathlib.Nat.{mod-eq_of_lt}
use lib.Dec.{eqb, ltb}
use lib.ListN.{length, get_or, length-append}
use borrow.Author.Tests.{eq-eqb, ne_eqb, lt-ltb}
use Rattle.std.proofs.Common.{eqb→eq}
use Rattle.std.specs.Prelude.{T}
use Rattle.eb3.specs.Generic.AllLists.{All}
use Rattle.eb3.specs.Terms.{VisibleAction, visible, Mask}
use Rattle.eb3.specs.Spelling.{number_words, arguments_words}
use Rattle.eb3.proofs.Laws.Sizes.{arguments_double}
use Rattle.eb3.proofs.Laws.Spelling.{arguments_length}
use Rattle.actions.specs.Codes.{arguments_code, action_code, Small, Closed, ActionAt, label_in}
use Rattle.actions.specs.Laws.Codes.{label_back, arguments_back}
use Rattle.actions.specs.Sets.{in_set, mask_word, mask_set}

-- ── the number of arguments after a label ──

-- what follows from the tests of a word, and of the number of words
apart : (b : Bool) → b ≡ true → b ≡ false → ⊥
apart b e f = subst T (sym e ∙ f) tt

holds : (b : Bool) → not b ≡ false → T b
holds true e = tt
holds false e = absurd (apart true refl e)

pub not_short : (n k : ℕ) (b : Bool) → b ≡ ltb n k → n < k → b ≡ false → ⊥
not_short n k b e h = apart b (e ∙ lt-ltb n k h)

pub not_one : (x : ℕ) (b : Bool) → b ≡ not (eqb x 1) → b ≡ true → x ≡ 1 → ⊥
not_one x b e t h = apart b t (e ∙ ap not (eq-eqb x 1 h))

pub is_one : (x : ℕ) (b : Bool) → b ≡ not (eqb x 1) → b ≡ false → x ≡ 1
is_one x b e f = eqb→eq x 1 (holds (eqb x 1) (sym e ∙ f))

abbrev Counts : List ℕ → ℕ → Type 0
Counts t r = (a : VisibleAction) (rest : List ℕ) → ActionAt t a rest → r ≡ length a.arguments

-- what is to be shown of any list of at most two arguments
abbrev Spelt : List ℕ → List ℕ → Type 0
Spelt t xs = (l : ℕ) × (rest : List ℕ) × (length xs ≤ 2) × (t ≡ l ∷ (arguments_words 1 xs ++ rest)) × Closed rest

counted : (t : List ℕ) (r : ℕ) → ((xs : List ℕ) → Spelt t xs → r ≡ length xs) → Counts t r
counted t r f a rest h = f a.arguments (a.label, rest, h.small.1, h.spelled, h.closed)

module _ (t : List ℕ) where
  none_short : length t < 3 → (xs : List ℕ) → Spelt t xs → 0 ≡ length xs
  unfolding arguments_words number_words
  none_short h [] s = refl
  none_short h (x ∷ xs) s = absurd (omega (arith, ap length s.3))

  none_other : (get_or t 1 0 ≡ 1 → ⊥) → (xs : List ℕ) → Spelt t xs → 0 ≡ length xs
  unfolding arguments_words number_words
  none_other h [] s = refl
  none_other h (x ∷ xs) s = absurd (h (ap (λ u. get_or u 1 0) s.3))

  some : get_or t 1 0 ≡ 1 → Spelt t [] → ⊥
  unfolding arguments_words
  some h s = s.4 (sym (ap (λ u. get_or u 1 0) s.3) ∙ h)

  one_short : get_or t 1 0 ≡ 1 → length t < 5 → (xs : List ℕ) → Spelt t xs → 1 ≡ length xs
  unfolding arguments_words number_words
  one_short h k [] s = absurd (some h s)
  one_short h k (x ∷ []) s = refl
  one_short h k (x ∷ y ∷ xs) s = absurd (omega (arith, ap length s.3))

  one_other : get_or t 1 0 ≡ 1 → (get_or t 3 0 ≡ 1 → ⊥) → (xs : List ℕ) → Spelt t xs → 1 ≡ length xs
  unfolding arguments_words number_words
  one_other h k [] s = absurd (some h s)
  one_other h k (x ∷ []) s = refl
  one_other h k (x ∷ y ∷ xs) s = absurd (k (ap (λ u. get_or u 3 0) s.3))

  two : get_or t 1 0 ≡ 1 → get_or t 3 0 ≡ 1 → (xs : List ℕ) → Spelt t xs → 2 ≡ length xs
  unfolding arguments_words number_words
  two h k [] s = absurd (some h s)
  two h k (x ∷ []) s = absurd (s.4 (sym (ap (λ u. get_or u 3 0) s.3) ∙ k))
  two h k (x ∷ y ∷ []) s = refl
  two h k (x ∷ y ∷ z ∷ xs) s = absurd (omega (arith, s.2))

  pub count_none_short : length t < 3 → (0 ≤ 2) × Counts t 0
  count_none_short h = (omega arith, counted t 0 (none_short h))

  pub count_none : (get_or t 1 0 ≡ 1 → ⊥) → (0 ≤ 2) × Counts t 0
  count_none h = (omega arith, counted t 0 (none_other h))

  pub count_one_short : get_or t 1 0 ≡ 1 → length t < 5 → (1 ≤ 2) × Counts t 1
  count_one_short h k = (omega arith, counted t 1 (one_short h k))

  pub count_one : get_or t 1 0 ≡ 1 → (get_or t 3 0 ≡ 1 → ⊥) → (1 ≤ 2) × Counts t 1
  count_one h k = (omega arith, counted t 1 (one_other h k))

  pub count_two : get_or t 1 0 ≡ 1 → get_or t 3 0 ≡ 1 → (2 ≤ 2) × Counts t 2
  count_two h k = (omega arith, counted t 2 (two h k))

pub action_length : (t : List ℕ) (a : VisibleAction) (rest : List ℕ) → ActionAt t a rest → length t ≡ 1 + 2 * length a.arguments + length rest
action_length t a rest h = omega (arith, ap length h.spelled, length-append (arguments_words 1 a.arguments) rest, arguments_length 1 a.arguments, arguments_double (length a.arguments))

pub behind_left : (t : List ℕ) (k r : ℕ) → Counts t k → r ≡ length t - (1 + 2 * k) → (r ≤ length t) × ((a : VisibleAction) (rest : List ℕ) → ActionAt t a rest → r ≡ length rest)
behind_left t k r counts e = (omega arith, λ a rest s. omega (arith, counts a rest s, action_length t a rest s))

-- ── the number ──

module _ {t : List ℕ} {a : VisibleAction} {rest : List ℕ} (s : ActionAt t a rest) where
  label_at : get_or t 0 0 ≡ a.label
  label_at = ap (λ u. get_or u 0 0) s.spelled

words_first : (l : ℕ) (xs rest t : List ℕ) → 1 ≤ length xs → t ≡ l ∷ (arguments_words 1 xs ++ rest) → get_or t 2 0 ≡ get_or xs 0 0
unfolding arguments_words number_words
words_first l [] rest t h e = absurd (omega arith)
words_first l (x ∷ xs) rest t h e = ap (λ u. get_or u 2 0) e

words_second : (l : ℕ) (xs rest t : List ℕ) → 2 ≤ length xs → t ≡ l ∷ (arguments_words 1 xs ++ rest) → get_or t 4 0 ≡ get_or xs 1 0
unfolding arguments_words number_words
words_second l [] rest t h e = absurd (omega arith)
words_second l (x ∷ []) rest t h e = absurd (omega arith)
words_second l (x ∷ y ∷ xs) rest t h e = ap (λ u. get_or u 4 0) e

number_none : (xs : List ℕ) → length xs ≡ 0 → arguments_code xs ≡ 0
unfolding arguments_code
number_none [] h = refl
number_none (x ∷ xs) h = absurd (omega arith)

number_one : (xs : List ℕ) → length xs ≡ 1 → arguments_code xs ≡ 1 + get_or xs 0 0
unfolding arguments_code
number_one [] h = absurd (omega arith)
number_one (x ∷ []) h = omega arith
number_one (x ∷ y ∷ xs) h = absurd (omega arith)

number_two : (xs : List ℕ) → length xs ≡ 2 → arguments_code xs ≡ 1 + get_or xs 0 0 + 65 * (1 + get_or xs 1 0)
unfolding arguments_code
number_two [] h = absurd (omega arith)
number_two (x ∷ []) h = absurd (omega arith)
number_two (x ∷ y ∷ []) h = omega arith
number_two (x ∷ y ∷ z ∷ xs) h = absurd (omega arith)

abbrev Coded : List ℕ → ℕ → Type 0
Coded t r = (a : VisibleAction) (rest : List ℕ) → ActionAt t a rest → r ≡ action_code (visible a)

module _ (t : List ℕ) (n l : ℕ) (counts : Counts t n) (isl : l ≡ get_or t 0 0) where
  pub code_none : n ≡ 0 → Coded t (1 + l)
  unfolding action_code
  code_none h a rest s = omega (arith, isl, label_at s, number_none a.arguments (sym (counts a rest s) ∙ h))

  module _ (x : ℕ) (isx : x ≡ get_or t 2 0) where
    pub code_one : n ≡ 1 → Coded t (1 + l + 64 * (1 + x))
    unfolding action_code
    code_one h a rest s =
        let k : length a.arguments ≡ 1 = sym (counts a rest s) ∙ h in
        omega (arith, isl, isx, label_at s, words_first a.label a.arguments rest t (omega arith) s.spelled, number_one a.arguments k)

    pub code_two : (y : ℕ) → y ≡ get_or t 4 0 → n ≤ 2 → (n ≡ 0 → ⊥) → (n ≡ 1 → ⊥) → Coded t (1 + l + 64 * (1 + x + 65 * (1 + y)))
    unfolding action_code
    code_two y isy b z o a rest s =
        let m : n ≡ 2 = omega arith in
        let k : length a.arguments ≡ 2 = sym (counts a rest s) ∙ m in
        let p : get_or t 2 0 ≡ get_or a.arguments 0 0 = words_first a.label a.arguments rest t (omega arith) s.spelled in
        let q : get_or t 4 0 ≡ get_or a.arguments 1 0 = words_second a.label a.arguments rest t (omega arith) s.spelled in
        omega (arith, isl, isx, isy, label_at s, number_two a.arguments k)

-- ── sets of labels ──

pub word_in_mask : (Δ : Mask) (i w : ℕ) → w ≡ get_or Δ i 0 → w < 65536 → (w ≡ mask_word Δ i) × (w < 65536)
unfolding mask_word
word_in_mask Δ i w e h = (e ∙ sym (mod-eq_of_lt (subst (λ n. n < 65536) e h)), h)

pub set_made : (Δ : Mask) (a b c d : ℕ) → a ≡ mask_word Δ 3 → b ≡ mask_word Δ 2 → c ≡ mask_word Δ 1 → d ≡ mask_word Δ 0
    → ((a * 65536 + b) * 65536 + c) * 65536 + d ≡ mask_set Δ
unfolding mask_set
set_made Δ a b c d e f g h = rw (e, f, g, h)

pub set_none : (x code : ℕ) → code ≡ 0 → not (eqb code 0) ≡ in_set x code
unfolding in_set
set_none x code e = rw (eq-eqb code 0 e)

pub set_some : (x code : ℕ) → (code ≡ 0 → ⊥) → eqb (x / 2 ^ ((code - 1) % 64) % 2) 1 ≡ in_set x code
unfolding in_set label_in
set_some x code h = rw (ne_eqb code 0 h)

-- ── a number taken apart ──

module _ (code n : ℕ) (less : n ≡ code - 1) where
  pub label_some : (a : VisibleAction) → Small (visible a) → code ≡ action_code (visible a) → n % 64 ≡ a.label
  unfolding label_in
  label_some a h e = ap (λ m. m % 64) less ∙ ap label_in e ∙ label_back a h

  pub arguments_some : (a : VisibleAction) → Small (visible a) → code ≡ action_code (visible a) → n / 64 ≡ arguments_code a.arguments
  arguments_some a h e = ap (λ m. m / 64) (less ∙ ap (λ m. m - 1) e) ∙ arguments_back a h

size_none : (xs : List ℕ) → arguments_code xs ≡ 0 → 0 ≡ length xs
unfolding arguments_code
size_none [] e = refl
size_none (x ∷ xs) e = absurd (omega arith)

size_one : (xs : List ℕ) → (arguments_code xs ≡ 0 → ⊥) → arguments_code xs < 65 → 1 ≡ length xs
unfolding arguments_code
size_one [] z e = absurd (z refl)
size_one (x ∷ []) z e = refl
size_one (x ∷ y ∷ xs) z e = absurd (omega arith)

size_two : (xs : List ℕ) → All (λ x. x < 64) xs → length xs ≤ 2 → 65 ≤ arguments_code xs → 2 ≡ length xs
unfolding arguments_code
size_two [] h l e = absurd (omega arith)
size_two (x ∷ []) h l e = absurd (omega (arith, h.0))
size_two (x ∷ y ∷ []) h l e = refl
size_two (x ∷ y ∷ z ∷ xs) h l e = absurd (omega arith)

first_back : (xs : List ℕ) → All (λ x. x < 64) xs → arguments_code xs % 65 - 1 ≡ get_or xs 0 0
unfolding arguments_code
first_back [] h = refl
first_back (x ∷ xs) h = omega (arith, h.0)

second_back : (xs : List ℕ) → All (λ x. x < 64) xs → length xs ≤ 2 → arguments_code xs / 65 - 1 ≡ get_or xs 1 0
unfolding arguments_code
second_back [] h l = refl
second_back (x ∷ []) h l = omega (arith, h.0)
second_back (x ∷ y ∷ []) h l = omega (arith, h.0)
second_back (x ∷ y ∷ z ∷ xs) h l = absurd (omega arith)

abbrev Number : ℕ → ℕ → Type 0
Number code q = (a : VisibleAction) → Small (visible a) → code ≡ action_code (visible a) → q ≡ arguments_code a.arguments

module _ (code q : ℕ) (number : Number code q) where
  abbrev Counted : ℕ → Type 0
  Counted r = (a : VisibleAction) → Small (visible a) → code ≡ action_code (visible a) → r ≡ length a.arguments

  pub counted_none : q ≡ 0 → Counted 0
  counted_none z a h e = size_none a.arguments (sym (number a h e) ∙ z)

  pub counted_one : (q ≡ 0 → ⊥) → q < 65 → Counted 1
  counted_one z l a h e = size_one a.arguments (λ y. z (number a h e ∙ y)) (omega (arith, number a h e))

  pub counted_two : 65 ≤ q → Counted 2
  counted_two l a h e = size_two a.arguments h.2 h.1 (omega (arith, number a h e))

  abbrev Found : ℕ → ℕ → Type 0
  Found i r = (a : VisibleAction) → Small (visible a) → code ≡ action_code (visible a) → r ≡ get_or a.arguments i 0

  pub found_first : (i r : ℕ) → i ≡ 0 → r ≡ q % 65 - 1 → Found i r
  found_first i r z f a h e = f ∙ ap (λ n. n % 65 - 1) (number a h e) ∙ first_back a.arguments h.2 ∙ ap (λ j. get_or a.arguments j 0) (sym z)

  pub found_second : (i r : ℕ) → i ≡ 1 → r ≡ q / 65 - 1 → Found i r
  found_second i r z f a h e = f ∙ ap (λ n. n / 65 - 1) (number a h e) ∙ second_back a.arguments h.2 h.1 ∙ ap (λ j. get_or a.arguments j 0) (sym z)

pub ruleset cases = (set_made, set_none, set_some, label_some, arguments_some, counted_none, counted_one, counted_two, found_first, found_second)
