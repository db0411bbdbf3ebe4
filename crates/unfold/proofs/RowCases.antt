-- A case for each way that the putting of heads and of rows of expressions returns. The premises have the form of the facts known there.
-- Document 01, "Unfolding, size and breadth".
use mathlib.Core.Path.{◌≡◌, refl, sym, ap, ◌∙◌, subst}
use mathlib.Core.List.{List, [], ◌∷◌, ◌++◌}
use Prim.Native.Nat.{ℕ, zero, suc, ◌+◌, ◌-◌, ◌*◌, ◌≤◌, ◌<◌, min}
use native.Mathlib.Numerals.{add-one}
use native.Mathlib.Omega.{arith}
use lib.ListN.{length, take, drop, get_or, length-drop}
use lib.Seq.{get_or-drop, take-suc, take_all, length-take-le}
use borrow.Author.Tests.{eq-eqb, ne_eqb}
use Rattle.std.proofs.Common.{inl, inr}
use Rattle.std.proofs.lemmas.Bool.{cases_eq}
use Rattle.std.proofs.lemmas.List.{get_or-take, take-append-drop}
use borrow.Rule.Slice.PartMut.{put_mid}
use Rattle.std.specs.Int.{w16, to_le_bytes}
use Rattle.eb3.specs.Bytes.{bytes_of, written}
use Rattle.eb3.specs.Reading.{pick}
use Rattle.eb3.specs.Spelling.{number_words, arguments_words}
use Rattle.words.specs.Checking.{last_of}
use Rattle.words.specs.Laws.Checking.{part}
use Rattle.tables.specs.Layout.{label_place}
use Rattle.tables.specs.Tables.{from, row}
use Rattle.std.specs.Prelude.{Option, Some, None, ⊤, ◌⊎◌}
use Rattle.codes.specs.Table.{words_after, operands_after}
use Rattle.codes.specs.Shapes.{more_words}
use Rattle.codes.specs.Laws.Table.{expression_word}
use mathlib.Core.Bool.{Bool, true, false}
use lib.Dec.{eqb}
use Rattle.unfold.specs.declared.writer.Writer.{Writer}
use Rattle.unfold.specs.Written.{written_from}
use Rattle.unfold.specs.Puts.{Puts, Heads, Exactly, Then, Putting}
use Rattle.unfold.specs.Laws.Puts.{from_next, head_none, head_some, head_last, puts_lost, putting_fail, putting_next, putting_all, putting_start, putting_stuck}
use Rattle.unfold.specs.Instantiation.{Instantiates, front_width, front_words}
use Rattle.unfold.specs.Saying.{argument_at, Constants, Performs, Conditions}
use Rattle.unfold.specs.Laws.Saying.{where_none, where_in}
use Rattle.unfold.specs.Laws.Instantiation.{last_behind, row_step, row_there, row_known, row_done}

-- ── a code and the words that go with it ──

-- two bytes were copied
pub from_bytes : (at w k : ℕ) (x bs : List ℕ) → k ≡ 2 → bs ≡ to_le_bytes w16 w → put_mid (2 * at) k x bs ≡ written_from at (w ∷ []) x
unfolding written_from written bytes_of
from_bytes at w k x bs e f = λ i. put_mid (2 * at) (e i) x (f i)

-- The code is put, and then i of the words.
pub head_put : (at c : ℕ) (ms x : List ℕ) (i : ℕ) (o y : List ℕ) → 2 * (at + 1 + length ms) ≤ length x → o ≡ written_from at (c ∷ []) x → length ms ≤ i → y ≡ written_from (at + 1) (take i ms) o → y ≡ written_from at (c ∷ ms) x
head_put at c ms x i o y h f k g = from_next at (at + 1) (c ∷ []) ms x o y (omega arith) refl f (g ∙ ap (λ u. written_from (at + 1) u o) (take_all i ms k))

pub head_next : (at : ℕ) (ms o : List ℕ) (i : ℕ) (y z : List ℕ) → i < length ms → 2 * (at + 1 + length ms) ≤ length o → y ≡ written_from (at + 1) (take i ms) o → z ≡ written_from (at + 1 + i) (get_or ms i 0 ∷ []) y
    → z ≡ written_from (at + 1) (take (i + 1) ms) o
head_next at ms o i y z h room e f =
    let l : length (take i ms) ≡ i = length-take-le i ms (omega arith) in
    from_next (at + 1) (at + 1 + i) (take i ms) (get_or ms i 0 ∷ []) o y z (omega arith) (omega (arith, l)) e f
    ∙ ap (λ u. written_from (at + 1) u o) (sym (ap (λ k. take k ms) (add-one i) ∙ take-suc ms i 0 h))

-- ── the front of an expression ──

-- a variable's value for the variable
front_variable : (σ s : List ℕ) (m : ℕ) → get_or s 0 0 ≡ 2 → 1 ∷ get_or σ (get_or s 1 0) 0 ∷ [] ≡ front_words σ s m
unfolding front_words
front_variable σ s m e = sym (ap (λ b. pick b (1 ∷ get_or σ (get_or s 1 0) 0 ∷ []) (take m s)) (eq-eqb (get_or s 0 0) 2 e))

front_copied : (σ s : List ℕ) (m : ℕ) → (get_or s 0 0 ≡ 2 → ⊥) → 1 ≤ m → m ≤ length s → get_or s 0 0 ∷ take (m - 1) (drop 1 s) ≡ front_words σ s m
unfolding front_words
front_copied σ s m e l k = sym (ap (λ b. pick b (1 ∷ get_or σ (get_or s 1 0) 0 ∷ []) (take m s)) (ne_eqb (get_or s 0 0) 2 e) ∙ first_taken s m l k)
  where
    first_taken : (s : List ℕ) (m : ℕ) → 1 ≤ m → m ≤ length s → take m s ≡ get_or s 0 0 ∷ take (m - 1) (drop 1 s)
    first_taken s zero l k = absurd (let z : ⊥ = omega arith in z)
    first_taken [] (suc m) l k = absurd (let z : ⊥ = omega arith in z)
    first_taken (w ∷ s) (suc m) l k = ap (λ n. w ∷ take n s) (let z : m ≡ suc m - 1 = omega arith in z)

module _ (σ s : List ℕ) (x y : Writer) (r : Option ⊤) where
  -- b is the words after the first
  pub variable_put : (b : List ℕ) (i v : ℕ) → get_or s 0 0 ≡ 2 → b ≡ drop 1 s → i ≡ get_or b 0 0 → v ≡ get_or σ i 0 → Heads (1 ∷ v ∷ []) x y r → Heads (front_words σ s (length s)) x y r
  variable_put b i v c e f g p = subst (λ o. Heads o x y r) (ap (λ u. 1 ∷ u ∷ []) (g ∙ ap (λ j. get_or σ j 0) (f ∙ ap (λ u. get_or u 0 0) e ∙ get_or-drop 1 s 0 0)) ∙ front_variable σ s (length s) c) p

  pub copied_put : (get_or s 0 0 ≡ 2 → ⊥) → 1 ≤ length s → Heads (get_or s 0 0 ∷ take (length s - 1) (drop 1 s)) x y r → Heads (front_words σ s (length s)) x y r
  copied_put c l p = subst (λ o. Heads o x y r) (front_copied σ s (length s) c l (omega arith)) p

-- The front alone says what is put for it: a variable's number is in it.
front_alone : (σ s : List ℕ) (m : ℕ) → m ≡ front_width (get_or s 0 0) → 1 ≤ m → m ≤ length s → front_words σ (take m s) (length (take m s)) ≡ front_words σ s m
unfolding front_words words_after
front_alone σ s m e l k = go (cases_eq (get_or s 0 0) 2)
  where
    code : get_or (take m s) 0 0 ≡ get_or s 0 0
    code = get_or-take m s 0 0 l

    go : (get_or s 0 0 ≡ 2) ⊎ (get_or s 0 0 ≡ 2 → ⊥) → front_words σ (take m s) (length (take m s)) ≡ front_words σ s m
    go (inl two) =
        let wide : m ≡ 2 = e ∙ ap front_width two in
        sym (front_variable σ (take m s) (length (take m s)) (code ∙ two)) ∙ (ap (λ i. 1 ∷ get_or σ i 0 ∷ []) (get_or-take m s 1 0 (omega arith)) ∙ front_variable σ s m two)
    go (inr other) = rw (ne_eqb (get_or (take m s) 0 0) 2 (λ z. other (sym code ∙ z)), ne_eqb (get_or s 0 0) 2 other) (take_all (length (take m s)) (take m s) (omega arith))

-- In edition 1 a code has the words that the table says.
one_word : (c : ℕ) → more_words 0 c ≡ words_after c
one_word c = go (eqb c 1)
  where
    go : (b : Bool) → words_after c + pick b 0 0 ≡ words_after c
    go true = omega arith
    go false = omega arith

-- ── a row ──

-- the same of the end of t as of the last n words
pub last_again : (n : ℕ) (t s : List ℕ) → s ≡ last_of n t → s ≡ last_of (length s) t
last_again n t s e = sym (last_behind t s [] n (sym e))

-- b is what is left of s after m words
pub last_after : (n m : ℕ) (t s b : List ℕ) → s ≡ last_of n t → b ≡ take (length s - m) (drop m s) → b ≡ last_of (length b) t
last_after n m t s b e f = sym (last_behind t b (take m s) n (sym e ∙ sym (take-append-drop m s) ∙ ap (λ u. take m s ++ u) (sym (f ∙ part m s))))

pub part_size : (m : ℕ) (s : List ℕ) → length (take (length s - m) (drop m s)) ≡ length s - m
part_size m s = ap length (part m s) ∙ length-drop m s

pub last_size : (n : ℕ) (t s : List ℕ) → s ≡ last_of n t → length s ≡ min n (length t)
unfolding last_of
last_size n t s e = omega (arith, ap length e, length-drop (length t - n) t)

module _ (t σ : List ℕ) (count n : ℕ) where
  pub row_start : (s : List ℕ) (x : Writer) → s ≡ last_of n t → Putting (Instantiates t σ count n) (Instantiates t σ count (length s)) x x
  row_start s x e = putting_start _ _ x (λ ws rest h. record {
    row = h.row;
    counted = h.counted;
    all_plain = h.all_plain;
    spelled = ap (λ u. last_of (length u) t) e ∙ last_behind t (last_of n t) [] n refl ∙ h.spelled;
    instantiated = h.instantiated;
  })

  pub row_unknown : (k left : ℕ) (s : List ℕ) (x y : Writer) (r : Option ℕ) → Putting (Instantiates t σ count n) (Instantiates t σ k left) x y → 0 < k → s ≡ last_of left t → (0 < length s → 30 < get_or s 0 0)
      → r ≡ None → Puts (Instantiates t σ count n) x y r
  row_unknown k left s x y r p some e h z =
      subst (Puts (Instantiates t σ count n) x y) (sym z)
      (putting_stuck _ _ x y p (λ ws rest g. let o = row_known t σ s k left e some ws rest g in let l : 30 < get_or s 0 0 = h o.0 in omega (arith, l, o.1)))

  -- w is the number of words after the code c
  module _ (k left : ℕ) (s : List ℕ) (x y : Writer) (c w : ℕ) (p : Putting (Instantiates t σ count n) (Instantiates t σ k left) x y) (some : 0 < k) (is_s : s ≡ last_of left t) (is_c : c ≡ get_or s 0 0) (is_w : w ≡ more_words 0 c) where
    m_is : 1 + w ≡ front_width (get_or s 0 0)
    m_is = ap (λ j. 1 + j) is_w ∙ ap front_width is_c

    -- no code up to 13 has more than one word after it
    pub row_long : 2 < 1 + w → Puts (Instantiates t σ count n) x y None
    row_long h = putting_stuck _ _ x y p (λ ws rest g.
        let o = row_known t σ s k left is_s some ws rest g in
        let l : words_after (get_or s 0 0) ≤ 1 = expression_word (get_or s 0 0) o.1 in
        let z : w ≡ words_after (get_or s 0 0) = is_w ∙ ap (more_words 0) is_c ∙ one_word (get_or s 0 0) in
        omega (arith, l, z))

    pub row_short : length s < 1 + w → Puts (Instantiates t σ count n) x y None
    row_short h = putting_stuck _ _ x y p (λ ws rest g. let l : 1 + w ≤ length s = row_there t σ s k left (1 + w) is_s some m_is ws rest g in omega arith)

    module _ (long : 1 + w ≤ length s) (z : Writer) where
      put_whole : (r : Option ⊤) → Heads (front_words σ (take (1 + w) s) (length (take (1 + w) s))) y z r → Heads (front_words σ s (1 + w)) y z r
      put_whole r q = subst (λ ws. Heads ws y z r) (front_alone σ s (1 + w) m_is (omega arith) long) q

      pub row_none : (r : Option ℕ) → r ≡ None → Heads (front_words σ (take (1 + w) s) (length (take (1 + w) s))) y z None → Puts (Instantiates t σ count n) x z r
      row_none r e q = puts_lost _ x z r e (putting_fail _ _ x y p _ z _ (row_step t σ s k left (1 + w) is_s some m_is) (head_none _ (length s - (1 + w)) y z (put_whole None q)))

      pub row_next : (u : ⊤) (o : ℕ) (b : List ℕ) → Heads (front_words σ (take (1 + w) s) (length (take (1 + w) s))) y z (Some u) → o ≡ operands_after c → b ≡ take (length s - (1 + w)) (drop (1 + w) s) → Putting (Instantiates t σ count n) (Instantiates t σ (k - 1 + o) (length b)) x z
      row_next u o b q f g =
          subst (λ S. Putting (Instantiates t σ count n) S x z) (λ i. Instantiates t σ (k - 1 + sym (f ∙ ap operands_after is_c) i) (sym (ap length (g ∙ part (1 + w) s) ∙ length-drop (1 + w) s) i))
          (putting_next _ _ x y p _ z (λ j. Instantiates t σ (k - 1 + operands_after (get_or s 0 0)) (length s - (1 + w))) (length s - (1 + w)) (row_step t σ s k left (1 + w) is_s some m_is) (head_some _ (length s - (1 + w)) y z u (put_whole (Some u) q)))

  pub row_end : (k left : ℕ) (x y : Writer) → Putting (Instantiates t σ count n) (Instantiates t σ k left) x y → k ≤ 0 → left ≤ length t → Puts (Instantiates t σ count n) x y (Some left)
  row_end k left x y p z l =
      putting_all _ _ x y left p
      (λ ws rest g. let d = row_done t σ k left (let o : k ≡ 0 = omega arith in o) ws rest g in (d.0, let f : length (last_of left t) ≡ left = omega (arith, last_size left t (last_of left t) refl) in sym f ∙ d.1))

-- ── arguments, an action, and a condition ──

-- j arguments are put, and the others are to come
abbrev pub ArgumentsFrom : List ℕ → List ℕ → ℕ → ℕ → List ℕ → List ℕ → Type 0
ArgumentsFrom σ s count j = Exactly (arguments_words 1 (from j (count - j) (argument_at σ s))) (length s - 2 * count)

module _ (σ s : List ℕ) (count : ℕ) (x : Writer) where
  pub arguments_short : length s < 2 * count → Puts (Constants σ s count) x x None
  arguments_short h = where_none _ _ x (λ l. let z : ⊥ = omega arith in z)

  pub arguments_start : Putting (Constants σ s count) (ArgumentsFrom σ s count 0) x x
  arguments_start =
      putting_start (Constants σ s count) (ArgumentsFrom σ s count 0) x
      (λ ws rest h. record { same_words = h.says.same_words ∙ ap (λ k. arguments_words 1 (from 0 k (argument_at σ s))) (let z : count ≡ count - 0 = omega arith in z); same_left = h.says.same_left })

  module _ (j : ℕ) (y : Writer) (p : Putting (Constants σ s count) (ArgumentsFrom σ s count j) x y) where
    pub arguments_end : count ≤ j → Puts (Constants σ s count) x y (Some (length s - 2 * count))
    unfolding from arguments_words
    arguments_end l =
        putting_all _ _ x y _ p
        (λ ws rest h. (h.same_words ∙ ap (λ k. arguments_words 1 (from j k (argument_at σ s))) (let z : count - j ≡ 0 = omega arith in z), h.same_left))

    module _ (more : j < count) (v : ℕ) (is_v : v ≡ argument_at σ s j) (z : Writer) where
      argument_words_next : arguments_words 1 (from j (count - j) (argument_at σ s)) ≡ (1 ∷ v ∷ []) ++ arguments_words 1 (from (j + 1) (count - (j + 1)) (argument_at σ s))
      unfolding from arguments_words number_words
      argument_words_next =
          ap (λ k. arguments_words 1 (from j k (argument_at σ s))) (let e : count - j ≡ suc (count - (j + 1)) = omega arith in e)
          ∙ (λ i. 1 ∷ sym is_v i ∷ arguments_words 1 (from (sym (add-one j) i) (count - (j + 1)) (argument_at σ s)))

      argument_step : (ws rest : List ℕ) → ArgumentsFrom σ s count j ws rest → Then (Exactly (1 ∷ v ∷ []) (length s - 2 * count)) (λ m. ArgumentsFrom σ s count (j + 1)) ws rest
      argument_step ws rest h = record {
        front = 1 ∷ v ∷ [];
        back = arguments_words 1 (from (j + 1) (count - (j + 1)) (argument_at σ s));
        between = rest;
        one = record { same_words = refl; same_left = h.same_left };
        two = record { same_words = refl; same_left = h.same_left };
        joined = h.same_words ∙ argument_words_next;
      }

      pub arguments_full : (r : Option ℕ) → r ≡ None → Heads (1 ∷ v ∷ []) y z None → Puts (Constants σ s count) x z r
      arguments_full r e q = puts_lost _ x z r e (putting_fail _ _ x y p _ z _ argument_step (head_none _ (length s - 2 * count) y z q))

      pub arguments_next : (u : ⊤) → Heads (1 ∷ v ∷ []) y z (Some u) → Putting (Constants σ s count) (ArgumentsFrom σ s count (j + 1)) x z
      arguments_next u q = putting_next _ _ x y p _ z (λ m. ArgumentsFrom σ s count (j + 1)) (length s - 2 * count) argument_step (head_some _ (length s - 2 * count) y z u q)

module _ (t T σ s : List ℕ) (n : ℕ) (x : Writer) (is_s : s ≡ last_of n t) where
  module _ (y : Writer) where
    pub action_put : (u : ⊤) (l : ℕ) (ds b : List ℕ) (z : Writer) (r : Option ℕ) → Heads (21 ∷ take 1 s) x y (Some u) → l ≡ get_or s 0 0 → ds ≡ row T (label_place l) → b ≡ drop 1 s → Puts (Constants σ b (length ds)) y z r → Puts (Performs t T n σ) x z r
    action_put u l ds b z r p e f g q =
        let k : length ds ≡ length (row T (label_place (get_or (last_of n t) 0 0))) = ap length (f ∙ ap (λ j. row T (label_place j)) (e ∙ ap (λ u. get_or u 0 0) is_s)) in
        let b_is : b ≡ drop 1 (last_of n t) = g ∙ ap (drop 1) is_s in
        where_in _ _ x _ _
        (head_last _ _ (λ m. Constants σ (drop 1 (last_of n t)) (length (row T (label_place (get_or (last_of n t) 0 0))))) x y u z r (subst (λ v. Heads (21 ∷ take 1 v) x y (Some u)) is_s p)
        (subst (λ S. Puts S y z r) (λ i. Constants σ (b_is i) (k i)) q))

module _ (t T σ : List ℕ) (n : ℕ) (x y : Writer) where
  pub condition_put : (u : ⊤) (z : Writer) (r : Option ℕ) → Heads (26 ∷ []) x y (Some u) → Puts (Instantiates t σ 1 n) y z r → Puts (Conditions t T n σ) x z r
  condition_put u z r p q = head_last (26 ∷ []) n (Instantiates t σ 1) x y u z r p q

pub ruleset actions = (action_put, condition_put)

pub ruleset rows = (row_start, row_unknown, row_short, row_none, row_next, row_end)
