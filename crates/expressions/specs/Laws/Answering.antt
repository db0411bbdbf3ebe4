-- Laws of answers: what an evaluation answers is taken apart again, and every value in a store is a word.
-- Document 01, "Values and conditions".
use Rattle.std.specs.Prelude.{◌≡◌, Bool, true, false, List, ◌++◌, ℕ, ◌/◌, ◌%◌, ◌≤◌, ◌<◌, length}
use Rattle.std.proofs.Common.{ap, ◌∙◌, arith, lit<}
use Rattle.std.proofs.Math.Path.{subst}
use Rattle.eb3.specs.Values.{Value, undefined, number, encode, decode, AtMost}
use Rattle.eb3.proofs.Laws.Values.{bounded_at_most, add_at_most, subtract_at_most, cond_at_most, decode_encode}
use Rattle.eb3.specs.Expressions.{Data, Undefined, Constant, Variable, Add, Subtract, If, Now, Before, Cond, evaluate_data, evaluate_cond}
use Rattle.eb3.proofs.Laws.Attributes.{apply_at_most}
use Rattle.eb3.specs.Scopes.{Scope, DataInScope}
use Rattle.eb3.specs.Spelling.{data_words, cond_words}
use Rattle.words.specs.Checking.{last_of}
use Rattle.words.specs.Laws.Checking.{last_behind}
use Rattle.expressions.specs.declared.valued.Valued.{Valued}
use Rattle.expressions.specs.Stores.{largest_number, cell_in, reading_in, variable_in, environment_in, before_place, now_place}
use Rattle.expressions.specs.Answering.{value_word, truth, answer, Plain, DataAt, CondAt, Evaluated, Judged}

-- ── words and answers ──

pub answer_left : (w l : ℕ) → w < 65536 → answer w l / 65536 ≡ l
unfolding answer
answer_left w l h = omega arith

pub answer_word : (w l : ℕ) → w < 65536 → answer w l % 65536 ≡ w
unfolding answer
answer_word w l h = omega arith

pub truth_word : (b : Bool) → truth b < 65536
unfolding truth
truth_word true = lit< tt
truth_word false = lit< tt

pub value_small : (v : Value) → AtMost largest_number v → value_word v < 65536
unfolding encode
value_small undefined h = lit< tt
value_small (number n) h = omega arith

-- ── values in a store ──

pub decoded_at_most : (w : ℕ) → AtMost largest_number (decode largest_number w)
unfolding decode
decoded_at_most w = bounded_at_most largest_number w

pub reading_at_most : (M : List ℕ) (at f : ℕ) (vs : List Value) → AtMost largest_number (reading_in M at f vs)
unfolding reading_in cell_in
reading_at_most M at f vs = apply_at_most largest_number _ _ (λ xs w. decoded_at_most _) vs

module _ (M : List ℕ) (P : Scope) (plain : Plain P) where
  pub data_at_most : (a : Data) → DataInScope a P → AtMost largest_number (evaluate_data a (environment_in M))
  unfolding evaluate_data variable_in
  data_at_most Undefined w = tt
  data_at_most (Constant n) w = subst (λ top. n ≤ top) plain.largest w
  data_at_most (Variable i) w = decoded_at_most _
  data_at_most (Add a b) w = add_at_most largest_number _ _
  data_at_most (Subtract a b) w = subtract_at_most largest_number _ _ (data_at_most a w.0)
  data_at_most (If c a b) w = cond_at_most largest_number (evaluate_cond c (environment_in M)) _ _ (data_at_most a w.1) (data_at_most b w.2)
  data_at_most (Now f rs) w = reading_at_most M now_place f _
  data_at_most (Before f rs) w = reading_at_most M (before_place M) f _

-- ── an answer taken apart ──

-- v is the value that an evaluation over s answers, as a word w, and l how many words it leaves: rest, after the expression.
pub record Parted (s rest : List ℕ) (v l w : ℕ) : Type 0 where
  pub word : v ≡ w
  pub left : l ≡ length rest
  pub behind : (u : List ℕ) → u ≡ last_of l s → u ≡ rest

parted : (s front rest : List ℕ) (v l w : ℕ) → s ≡ front ++ rest → v ≡ w → l ≡ length rest → Parted s rest v l w
parted s front rest v l w e q h = record {
  word = q;
  left = h;
  behind = λ u k. k ∙ ap (λ n. last_of n s) h ∙ ap (last_of (length rest)) e ∙ last_behind front rest;
}

module _ (s M : List ℕ) (x : Valued) (P : Scope) (rest : List ℕ) (f : Evaluated s M x) (a : Data) (h : DataAt s P a rest) where
  pub data_parted : Parted s rest x.value x.left (value_word (evaluate_data a (environment_in M)))
  data_parted = parted s (data_words P.edition.width a) rest _ _ _ h.spelled (f P a rest h).value (f P a rest h).left

  -- the word is the value's
  pub data_value : decode largest_number x.value ≡ evaluate_data a (environment_in M)
  data_value = ap (decode largest_number) data_parted.word ∙ decode_encode largest_number 65535 (lit< tt) _ (data_at_most M P h.plain a h.in_scope)

module _ (s M : List ℕ) (x : ℕ) (P : Scope) (rest : List ℕ) (f : Judged s M x) (c : Cond) (h : CondAt s P c rest) where
  pub cond_parted : Parted s rest (x % 65536) (x / 65536) (truth (evaluate_cond c (environment_in M)))
  cond_parted =
      parted s (cond_words P.edition.width c) rest _ _ _ h.spelled
      (ap (λ y. y % 65536) (f P c rest h) ∙ answer_word _ (length rest) (truth_word _))
      (ap (λ y. y / 65536) (f P c rest h) ∙ answer_left _ (length rest) (truth_word _))
