-- What the loops over a mask's words and over arguments keep: what is still to be checked answers as the whole does.
use Prim.Native.Nat.{ℕ, suc, ◌+◌, ◌-◌, ◌^◌, ◌≤◌, ◌<◌, min}
use native.Mathlib.Nat.{le_refl}
use native.Mathlib.Numerals.{add-one}
use native.Mathlib.Omega.{arith}
use mathlib.Core.Path.{◌≡◌, refl, sym, ap, ◌∙◌}
use mathlib.Core.List.{List, [], ◌∷◌}
use lib.ListN.{length, drop, get_or, length-drop, drop_of_length-le}
use lib.Seq.{drop-cons}
use borrow.Author.Tests.{lt-ltb, le-ltb}
use Rattle.words.specs.Checking.{checked, last_of, Checked}
use Rattle.words.specs.Ends.{Fine}
use Rattle.words.specs.Laws.Checking.{last_all, tail_short, checked_giving, both_in, both_out, last_length, last_last}
use Rattle.eb3.specs.Reading.{Read, refused, taken, pick, giving, then, both, number_of}
use Rattle.eb3.specs.TermReading.{mask_of}
use Rattle.eb3.specs.RuleReading.{argument_of, arguments_of}
use Rattle.tables.specs.Tables.{declared}
use Rattle.tables.specs.Laws.Tables.{argument_ends}
use Rattle.std.specs.Prelude.{Ok, Err}
use Rattle.refusals.specs.declared.Refusal.{Refusal}
use Rattle.refusals.specs.declared.Refusal.TheVariants.{Form, Reference}
use Rattle.refusals.specs.Numbers.{refusal}

-- ── masks ──

-- Of the k words of a mask of n labels i are below their limits, and l labels are left for the others.
pub record Masked (k n : ℕ) (t : List ℕ) (i l : ℕ) : Type 0 where
  pub within : i ≤ k
  pub some : i ≤ length t
  pub same : checked (mask_of k n t) ≡ checked (mask_of (k - i) l (drop i t))

word_below : (k n w : ℕ) (v : List ℕ) → w < 2 ^ min n 16 → checked (mask_of (suc k) n (w ∷ v)) ≡ checked (mask_of k (n - 16) v)
unfolding mask_of both then number_of
word_below k n w v h = checked_giving _ _
    ∙ ap (λ b. checked {A = ℕ × List ℕ} (then (pick b (taken w v) (refused 5)) (λ a u. giving (λ m. (a, m)) (mask_of k (n - 16) u)))) (lt-ltb w (2 ^ min n 16) h) ∙ checked_giving _ _

word_over : (k n w : ℕ) (v : List ℕ) → 2 ^ min n 16 ≤ w → checked (mask_of (suc k) n (w ∷ v)) ≡ Err Reference
unfolding mask_of both then number_of checked refusal
word_over k n w v h = checked_giving _ _
    ∙ ap (λ b. checked {A = ℕ × List ℕ} (then (pick b (taken w v) (refused 5)) (λ a u. giving (λ m. (a, m)) (mask_of k (n - 16) u)))) (le-ltb w (2 ^ min n 16) h)

word_none : (k n : ℕ) → checked (mask_of (suc k) n []) ≡ Err Form
unfolding mask_of both then number_of giving checked refusal
word_none k n = refl

module _ (k n : ℕ) (t : List ℕ) (i l : ℕ) (c : Masked k n t i l) where
  pub mask_end : k ≤ i → Ok (length t - k) ≡ checked (mask_of k n t)
  unfolding mask_of checked
  mask_end h =
      let e : k - i ≡ 0 = omega arith in
      let d : length t - k ≡ length (drop i t) = omega (arith, length-drop i t) in
      ap Ok d ∙ sym (c.same ∙ ap (λ j. checked (mask_of j l (drop i t))) e)

  module _ (h : i < k) where
    another : k - i ≡ suc (k - (i + 1))
    another = omega arith

    pub mask_short : length t ≤ i → Err Form ≡ checked (mask_of k n t)
    mask_short s = sym (c.same ∙ ap (λ j. checked (mask_of j l (drop i t))) another ∙ ap (λ u. checked (mask_of (suc (k - (i + 1))) l u)) (drop_of_length-le t {i = i} s) ∙ word_none (k - (i + 1)) l)

    -- m is the limit, w the word
    module _ (m w : ℕ) (d : m ≡ 2 ^ min l 16) (e : w ≡ get_or t i 0) (s : i < length t) where
      here : checked (mask_of k n t) ≡ checked (mask_of (suc (k - (i + 1))) l (w ∷ drop (suc i) t))
      here = c.same ∙ ap (λ j. checked (mask_of j l (drop i t))) another ∙ ap (λ u. checked (mask_of (suc (k - (i + 1))) l u)) (drop-cons t i 0 s ∙ ap (λ x. x ∷ drop (suc i) t) (sym e))

      pub mask_over : m ≤ w → Err Reference ≡ checked (mask_of k n t)
      mask_over o = sym (here ∙ word_over (k - (i + 1)) l w (drop (suc i) t) (rw (← d) o))

      pub mask_on : (o : ℕ) → w < m → o ≡ l - 16 → Masked k n t (i + 1) o
      mask_on o b f = record {
        within = omega arith;
        some = omega arith;
        same = here ∙ word_below (k - (i + 1)) l w (drop (suc i) t) (rw (← d) b) ∙ (λ j. checked (mask_of (k - (i + 1)) (sym f j) (drop (sym (add-one i) j) t)));
      }

-- ── arguments ──

-- Arguments of the first i domains are there, and n words are left after them.
pub record Passed (T Γ ds t : List ℕ) (i n : ℕ) : Type 0 where
  pub within : i ≤ length ds
  pub short : n ≤ length t
  pub same : checked (arguments_of (declared T) Γ ds t) ≡ checked (arguments_of (declared T) Γ (drop i ds) (last_of n t))

left_short : {A : Type 0} (u : List ℕ) (m : ℕ) (r : Read A) → Fine u r → Ok m ≡ checked r → m ≤ length u
unfolding checked
left_short u m (refused k) f e = absurd (let z : ◌≡◌ {A = ℕ} 0 1 = cc in omega arith)
left_short u m (taken a v) f e =
    let k : m ≡ length v = cc in
    omega (arith, k, tail_short v u f)

pub arguments_start : (T Γ ds t : List ℕ) → Passed T Γ ds t 0 (length t)
arguments_start T Γ ds t = record {
  within = omega arith;
  short = omega arith;
  same = ap (λ u. checked (arguments_of (declared T) Γ ds u)) (sym (last_all (length t) t (le_refl (length t))));
}

module _ (T Γ ds t : List ℕ) (i n : ℕ) (c : Passed T Γ ds t i n) where
  pub arguments_all : length ds ≤ i → Ok n ≡ checked (arguments_of (declared T) Γ ds t)
  unfolding arguments_of checked
  arguments_all h = ap Ok (sym (last_length n t c.short)) ∙ sym (c.same ∙ ap (λ es. checked (arguments_of (declared T) Γ es (last_of n t))) (drop_of_length-le ds {i = i} h))

  -- x is the domain, u the words left
  module _ (x : ℕ) (u : List ℕ) (p : Checked) (h : i < length ds) (d : x ≡ get_or ds i 0) (l : u ≡ last_of n t) (e : p ≡ checked (argument_of (declared T) Γ x u)) where
    one_first : checked (arguments_of (declared T) Γ ds t) ≡ checked (both (argument_of (declared T) Γ x) (arguments_of (declared T) Γ (drop (suc i) ds)) u)
    unfolding arguments_of
    one_first = c.same ∙ (λ j. checked (arguments_of (declared T) Γ ((drop-cons ds i 0 h ∙ ap (λ y. y ∷ drop (suc i) ds) (sym d)) j) (sym l j))) ∙ checked_giving _ _

    pub argument_refused : (k : Refusal) → p ≡ Err k → Err k ≡ checked (arguments_of (declared T) Γ ds t)
    argument_refused k f = both_out (argument_of (declared T) Γ x) (arguments_of (declared T) Γ (drop (suc i) ds)) u p k e f ∙ sym one_first

    pub argument_passed : (m : ℕ) → p ≡ Ok m → Passed T Γ ds t (i + 1) m
    argument_passed m f =
        let b : m ≤ length u = left_short u m (argument_of (declared T) Γ x u) (argument_ends (declared T) Γ x u) (sym f ∙ e) in
        let z : length u ≡ n = ap length l ∙ last_length n t c.short in
        let o : m ≤ n = omega arith in
        let s : n ≤ length t = c.short in
        record {
          within = omega arith;
          short = omega arith;
          same = one_first ∙ sym (both_in (argument_of (declared T) Γ x) (arguments_of (declared T) Γ (drop (suc i) ds)) u (last_of m u) p _ m (argument_ends (declared T) Γ x) e f refl refl)
              ∙ (λ j. checked (arguments_of (declared T) Γ (drop (sym (add-one i) j) ds) ((ap (last_of m) l ∙ last_last m n t s o) j)));
        }

pub ruleset a_mask = (mask_short, mask_over, mask_end)

pub ruleset all_arguments = (arguments_start, arguments_all)
