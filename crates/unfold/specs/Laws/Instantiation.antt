-- Laws of expressions whose variables become constants: of the first words of each expression, and of expressions gone through one after the other.
-- Document 01, "Unfolding, size and breadth".
use Rattle.std.specs.Prelude.{◌≡◌, ℕ, suc, ◌+◌, ◌-◌, ◌≤◌, ◌<◌, length}
use Rattle.std.proofs.Math.Path.{refl}
use Rattle.std.proofs.Common.{sym, ap, ◌∙◌, arith, length-append}
use mathlib.Core.List.{List, [], ◌∷◌, ◌++◌, map, append_assoc, append-nil}
use Rattle.std.proofs.Math.ListN.{get_or}
use Rattle.std.proofs.Math.Seq.{drop-append_seam}
use Rattle.eb3.specs.Generic.Lists.{concat_map}
use Rattle.eb3.specs.Generic.AllLists.{All}
use Rattle.eb3.specs.Expressions.{Data, Undefined, Constant, Variable, Add, Subtract, If, Now, Before, Nil, Cons, Cond, Equal, Less, And, Or, Not, True}
use Rattle.eb3.specs.Spelling.{data_words, cond_words, number_words}
use Rattle.eb3.specs.Unfolding.{instantiate_data, instantiate_cond}
use Rattle.words.specs.Checking.{last_of}
use Rattle.words.specs.Laws.Checking.{tail_at, tail_on}
use Rattle.codes.specs.Table.{words_after, operands_after}
use Rattle.unfold.specs.Puts.{Exactly, Then}
use Rattle.unfold.specs.Instantiation.{Expression, value, test, expression_words, instantiate, PlainData, PlainCond, PlainExpression, Instantiates, front_width, front_words}

abbrev all_words : List Expression → List ℕ
all_words es = concat_map expression_words es

abbrev all_put : List ℕ → List Expression → List ℕ
all_put σ es = concat_map expression_words (map (instantiate σ) es)

-- An expression's code, the word after the code if it has one, and the expressions after those.
record Front (σ : List ℕ) (e : Expression) : Type 0 where
  code : ℕ
  operand : List ℕ
  put : List ℕ
  parts : List Expression
  spelled : expression_words e ≡ (code ∷ operand) ++ all_words parts
  instantiated : expression_words (instantiate σ e) ≡ put ++ all_put σ parts
  all_plain : All PlainExpression parts
  width : front_width code ≡ suc (length operand)
  counted : length parts ≡ operands_after code
  known : code ≤ 13
  same_put : (u : List ℕ) → front_words σ (code ∷ (operand ++ u)) (suc (length operand)) ≡ put

two : (a b : List ℕ) → a ++ b ≡ a ++ (b ++ [])
two a b = ap (λ z. a ++ z) (sym (append-nil b))

three : (a b c : List ℕ) → a ++ (b ++ c) ≡ a ++ (b ++ (c ++ []))
three a b c = ap (λ z. a ++ z) (two b c)

module _ (σ : List ℕ) where
  -- a code with no word after it, and some expressions
  bare : (e : Expression) (c : ℕ) → c ≤ 13 → (ps : List Expression) → expression_words e ≡ c ∷ all_words ps → expression_words (instantiate σ e) ≡ c ∷ all_put σ ps → All PlainExpression ps → front_width c ≡ 1 → length ps ≡ operands_after c
      → ((u : List ℕ) → front_words σ (c ∷ u) 1 ≡ c ∷ []) → Front σ e
  bare e c l ps s i a w n f = record { code = c; known = l; operand = []; put = c ∷ []; parts = ps; spelled = s; instantiated = i; all_plain = a; width = w; counted = n; same_put = f }

  data_front : (a : Data) → PlainData a → Front σ (value a)
  unfolding expression_words instantiate instantiate_data data_words number_words words_after operands_after front_words
  data_front Undefined h = bare (value Undefined) 0 (omega arith) [] refl refl tt refl refl (λ u. refl)
  data_front (Constant n) h = record { code = 1; operand = n ∷ []; put = 1 ∷ n ∷ []; parts = []; spelled = refl; instantiated = refl; all_plain = tt; width = refl; counted = refl; known = omega arith; same_put = λ u. refl }
  data_front (Variable i) h = record { code = 2; operand = i ∷ []; put = 1 ∷ get_or σ i 0 ∷ []; parts = []; spelled = refl; instantiated = refl; all_plain = tt; width = refl; counted = refl; known = omega arith; same_put = λ u. refl }
  data_front (Add a b) h = bare (value (Add a b)) 3 (omega arith) (value a ∷ value b ∷ []) (ap (λ z. 3 ∷ z) (two (data_words 1 a) (data_words 1 b))) (ap (λ z. 3 ∷ z) (two (data_words 1 (instantiate_data a σ)) (data_words 1 (instantiate_data b σ)))) (h.0, (h.1, tt)) refl refl (λ u. refl)
  data_front (Subtract a b) h = bare (value (Subtract a b)) 4 (omega arith) (value a ∷ value b ∷ []) (ap (λ z. 4 ∷ z) (two (data_words 1 a) (data_words 1 b))) (ap (λ z. 4 ∷ z) (two (data_words 1 (instantiate_data a σ)) (data_words 1 (instantiate_data b σ)))) (h.0, (h.1, tt)) refl refl (λ u. refl)
  data_front (If c a b) h =
      bare (value (If c a b)) 5 (omega arith) (test c ∷ value a ∷ value b ∷ []) (ap (λ z. 5 ∷ z) (three (cond_words 1 c) (data_words 1 a) (data_words 1 b)))
      (ap (λ z. 5 ∷ z) (three (cond_words 1 (instantiate_cond c σ)) (data_words 1 (instantiate_data a σ)) (data_words 1 (instantiate_data b σ)))) (h.0, (h.1, (h.2, tt))) refl refl (λ u. refl)
  data_front (Now f Nil) h = absurd h
  data_front (Now f (Cons a Nil)) h = record { code = 6; operand = f ∷ []; put = 6 ∷ f ∷ []; parts = value a ∷ []; spelled = refl; instantiated = refl; all_plain = (h.0, tt); width = refl; counted = refl; known = omega arith; same_put = λ u. refl }
  data_front (Now f (Cons a (Cons b rs))) h = absurd h.1
  data_front (Before f Nil) h = absurd h
  data_front (Before f (Cons a Nil)) h = record { code = 7; operand = f ∷ []; put = 7 ∷ f ∷ []; parts = value a ∷ []; spelled = refl; instantiated = refl; all_plain = (h.0, tt); width = refl; counted = refl; known = omega arith; same_put = λ u. refl }
  data_front (Before f (Cons a (Cons b rs))) h = absurd h.1

  cond_front : (c : Cond) → PlainCond c → Front σ (test c)
  unfolding expression_words instantiate instantiate_cond cond_words words_after operands_after front_words
  cond_front (Equal a b) h = bare (test (Equal a b)) 8 (omega arith) (value a ∷ value b ∷ []) (ap (λ z. 8 ∷ z) (two (data_words 1 a) (data_words 1 b))) (ap (λ z. 8 ∷ z) (two (data_words 1 (instantiate_data a σ)) (data_words 1 (instantiate_data b σ)))) (h.0, (h.1, tt)) refl refl (λ u. refl)
  cond_front (Less a b) h = bare (test (Less a b)) 9 (omega arith) (value a ∷ value b ∷ []) (ap (λ z. 9 ∷ z) (two (data_words 1 a) (data_words 1 b))) (ap (λ z. 9 ∷ z) (two (data_words 1 (instantiate_data a σ)) (data_words 1 (instantiate_data b σ)))) (h.0, (h.1, tt)) refl refl (λ u. refl)
  cond_front (And c d) h = bare (test (And c d)) 10 (omega arith) (test c ∷ test d ∷ []) (ap (λ z. 10 ∷ z) (two (cond_words 1 c) (cond_words 1 d))) (ap (λ z. 10 ∷ z) (two (cond_words 1 (instantiate_cond c σ)) (cond_words 1 (instantiate_cond d σ)))) (h.0, (h.1, tt)) refl refl (λ u. refl)
  cond_front (Or c d) h = bare (test (Or c d)) 11 (omega arith) (test c ∷ test d ∷ []) (ap (λ z. 11 ∷ z) (two (cond_words 1 c) (cond_words 1 d))) (ap (λ z. 11 ∷ z) (two (cond_words 1 (instantiate_cond c σ)) (cond_words 1 (instantiate_cond d σ)))) (h.0, (h.1, tt)) refl refl (λ u. refl)
  cond_front (Not c) h = bare (test (Not c)) 12 (omega arith) (test c ∷ []) (ap (λ z. 12 ∷ z) (sym (append-nil (cond_words 1 c)))) (ap (λ z. 12 ∷ z) (sym (append-nil (cond_words 1 (instantiate_cond c σ))))) (h, tt) refl refl (λ u. refl)
  cond_front True h = bare (test True) 13 (omega arith) [] refl refl tt refl refl (λ u. refl)

  front_of : (e : Expression) → PlainExpression e → Front σ e
  front_of (value a) h = data_front a h
  front_of (test c) h = cond_front c h

-- ── expressions gone through, one after the other ──

words_append : (es fs : List Expression) → all_words (es ++ fs) ≡ all_words es ++ all_words fs
words_append [] fs = refl
words_append (e ∷ es) fs = ap (λ z. expression_words e ++ z) (words_append es fs) ∙ sym (append_assoc (expression_words e) (all_words es) (all_words fs))

put_append : (σ : List ℕ) (es fs : List Expression) → all_put σ (es ++ fs) ≡ all_put σ es ++ all_put σ fs
put_append σ [] fs = refl
put_append σ (e ∷ es) fs = ap (λ z. expression_words (instantiate σ e) ++ z) (put_append σ es fs) ∙ sym (append_assoc (expression_words (instantiate σ e)) (all_put σ es) (all_put σ fs))

plain_append : (es fs : List Expression) → All PlainExpression es → All PlainExpression fs → All PlainExpression (es ++ fs)
plain_append [] fs h k = k
plain_append (e ∷ es) fs h k = (h.0, plain_append es fs h.1 k)

-- the last n words of t are v and then u: so the last words of t, as many as u has, are u
pub last_behind : (t u v : List ℕ) (n : ℕ) → last_of n t ≡ v ++ u → last_of (length u) t ≡ u
unfolding last_of
last_behind t u v n e = tail_at u t (tail_on u (v ++ u) t (length t - n, sym e) (length v, sym (drop-append_seam v u)))

module _ (t σ s : List ℕ) (k n m : ℕ) (is_s : s ≡ last_of n t) (some : 0 < k) (is_m : m ≡ front_width (get_or s 0 0)) where
  go : (row : List Expression) (ws rest : List ℕ) → length row ≡ k → All PlainExpression row → last_of n t ≡ all_words row ++ rest → ws ≡ all_put σ row
      → ((m ≤ length s) × (get_or s 0 0 ≤ 13)) × Then (Exactly (front_words σ s m) (length s - m)) (λ j. Instantiates t σ (k - 1 + operands_after (get_or s 0 0)) (length s - m)) ws rest
  go [] ws rest c p e i = absurd (let z : ⊥ = omega arith in z)
  go (a ∷ es) ws rest c p e i =
      let f = front_of σ a p.0 in
      let u = all_words f.parts ++ (all_words es ++ rest) in
      let whole : s ≡ f.code ∷ (f.operand ++ u) = is_s ∙ e ∙ ap (λ z. (z ++ all_words es) ++ rest) f.spelled ∙ ap (λ z. f.code ∷ z) (regroup f.operand (all_words f.parts) (all_words es) rest) in
      let code_is : get_or s 0 0 ≡ f.code = ap (λ z. get_or z 0 0) whole in
      let m_is : m ≡ suc (length f.operand) = is_m ∙ ap front_width code_is ∙ f.width in
      let long : length s ≡ suc (length f.operand + length u) = ap length whole ∙ ap suc (length-append f.operand u) in
      let left : length s - m ≡ length u = omega arith in (
        (omega arith, omega (arith, code_is, f.known)),
        record {
          front = f.put;
          back = all_put σ (f.parts ++ es);
          between = u;
          one = record { same_words = sym ((λ j. front_words σ (whole j) (m_is j)) ∙ f.same_put u); same_left = left };
          two = record {
            row = f.parts ++ es;
            counted = omega (arith, length-append f.parts es, f.counted, ap operands_after code_is, c);
            all_plain = plain_append f.parts es f.all_plain p.1;
            spelled = ap (λ z. last_of z t) left ∙ last_behind t u (f.code ∷ f.operand) n (sym is_s ∙ whole) ∙ (sym (append_assoc (all_words f.parts) (all_words es) rest) ∙ ap (λ z. z ++ rest) (sym (words_append f.parts es)));
            instantiated = refl;
          };
          joined = i ∙ ap (λ z. z ++ all_put σ es) f.instantiated ∙ (append_assoc f.put (all_put σ f.parts) (all_put σ es) ∙ ap (λ z. f.put ++ z) (sym (put_append σ f.parts es)));
        },
      )
    where
      regroup : (a b c d : List ℕ) → ((a ++ b) ++ c) ++ d ≡ a ++ (b ++ (c ++ d))
      regroup a b c d = simp append_assoc

  pub row_step : (ws rest : List ℕ) → Instantiates t σ k n ws rest → Then (Exactly (front_words σ s m) (length s - m)) (λ j. Instantiates t σ (k - 1 + operands_after (get_or s 0 0)) (length s - m)) ws rest
  row_step ws rest h = (go h.row ws rest h.counted h.all_plain h.spelled h.instantiated).1

  pub row_there : (ws rest : List ℕ) → Instantiates t σ k n ws rest → m ≤ length s
  row_there ws rest h = (go h.row ws rest h.counted h.all_plain h.spelled h.instantiated).0.0

  row_code : (ws rest : List ℕ) → Instantiates t σ k n ws rest → get_or s 0 0 ≤ 13
  row_code ws rest h = (go h.row ws rest h.counted h.all_plain h.spelled h.instantiated).0.1

-- An expression begins with a code up to 13.
pub row_known : (t σ s : List ℕ) (k n : ℕ) → s ≡ last_of n t → 0 < k → (ws rest : List ℕ) → Instantiates t σ k n ws rest → (0 < length s) × (get_or s 0 0 ≤ 13)
row_known t σ s k n e some ws rest h =
    let l : front_width (get_or s 0 0) ≤ length s = row_there t σ s k n _ e some refl ws rest h in
    (omega arith, row_code t σ s k n _ e some refl ws rest h)

pub row_done : (t σ : List ℕ) (k n : ℕ) → k ≡ 0 → (ws rest : List ℕ) → Instantiates t σ k n ws rest → (ws ≡ []) × (length (last_of n t) ≡ length rest)
row_done t σ k n z ws rest h = go' h.row h.counted h.spelled h.instantiated
  where
    go' : (row : List Expression) → length row ≡ k → last_of n t ≡ all_words row ++ rest → ws ≡ all_put σ row → (ws ≡ []) × (length (last_of n t) ≡ length rest)
    go' [] c e i = (i, ap length e)
    go' (a ∷ es) c e i = absurd (let f : ⊥ = omega arith in f)
