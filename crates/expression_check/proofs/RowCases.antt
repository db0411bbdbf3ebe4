-- The loop over a row of expressions: its invariant, and a case for each way that a turn or the loop ends.
-- Document 01, "Values and conditions"; refusals 4 and 5.
use Prim.Native.Nat.{ℕ, suc, ◌+◌, ◌-◌, ◌≤◌, ◌<◌}
use native.Mathlib.Omega.{arith}
use mathlib.Core.Path.{◌≡◌, refl, sym, ap, subst, ◌∙◌}
use mathlib.Core.List.{List}
use lib.ListN.{length, take, drop, length-drop}
use lib.Seq.{drop-drop}
use Rattle.eb3.specs.Scopes.{Scope}
use Rattle.eb3.specs.Reading.{Reader, repeat}
use Rattle.eb3.specs.ExpressionReading.{read_data, read_cond}
use Rattle.words.specs.Checking.{checked, last_of, Checked}
use Rattle.words.specs.Ends.{Ends}
use Rattle.words.specs.Laws.Checking.{part, tail_short, both_in, both_out}
use Rattle.words.specs.Laws.Rows.{passed, repeat_ends}
use Rattle.expression_check.specs.declared.Front.{Front}
use Rattle.expression_check.specs.declared.Front.TheVariants.{On, Other}
use Rattle.expression_check.specs.Fronts.{Facing}
use Rattle.expression_check.specs.Laws.Reading.{data_ends, cond_ends}
use Rattle.expression_check.specs.Laws.Rows.{one_checked}
use Rattle.std.specs.Prelude.{Ok, Err, Result}
use Rattle.refusals.specs.declared.Refusal.{Refusal}

-- A row of n is checked as the row of `more` that is still to come at the place `at`.
abbrev pub Going : {A : Type 0} → Reader A → List ℕ → ℕ → ℕ → ℕ → Type 0
Going f s n at more = (at ≤ length s) × (more ≤ at + 2) × (checked (repeat n f s) ≡ checked (repeat more f (drop at s)))

pub going_start : {A : Type 0} (f : Reader A) (s : List ℕ) (n : ℕ) → n ≤ 2 → Going f s n 0 n
going_start f s n h = (omega arith, omega (arith, h), refl)

pub going_end : {A : Type 0} (f : Reader A) (s : List ℕ) (n at more : ℕ) → Going f s n at more → more ≤ 0 → Ok (length s - at) ≡ checked (repeat n f s)
unfolding repeat checked
going_end f s n at more inv h =
    let z : more ≡ 0 = omega (arith, h) in
    sym (inv.2 ∙ ap (λ k. checked (repeat k f (drop at s))) z ∙ ap Ok (length-drop at s))

pub one_cond_ends : (P : Scope) → Ends (repeat 1 (read_cond P))
one_cond_ends P = repeat_ends 1 (read_cond P) (cond_ends P)

pub two_data_ends : (P : Scope) → Ends (repeat 2 (read_data P))
two_data_ends P = repeat_ends 2 (read_data P) (data_ends P)

module _ {A B : Type 0} (f : Reader A) (g : Reader B) (after : ℕ) (s : List ℕ) (n at more : ℕ) (inv : Going f s n at more) (lt : 0 < more) (r : Result Front Refusal) (e : Facing f g after s at (more - 1) r) where
  this : checked (repeat n f s) ≡ checked (repeat (suc (more - 1)) f (drop at s))
  this =
      let k : more ≡ suc (more - 1) = omega (arith, lt) in
      inv.2 ∙ ap (λ i. checked (repeat i f (drop at s))) k

  pub going_wrong : (k : Refusal) → r ≡ Err k → Err k ≡ checked (repeat n f s)
  going_wrong k h =
      subst (λ x. Facing f g after s at (more - 1) x) h e ∙ sym this

  on_front : (x : Front) (b m : ℕ) → r ≡ Ok x → x ≡ On b m → Facing f g after s at (more - 1) (Ok (On b m))
  on_front x b m h i = subst (λ x. Facing f g after s at (more - 1) x) (h ∙ ap Ok i) e

  pub going_on : (x : Front) (b m : ℕ) → r ≡ Ok x → x ≡ On b m → Going f s n b m
  going_on x b m h j =
      let i = on_front x b m h j in
      (i.0.1, i.0.2, this ∙ i.1)

  pub on_less : (x : Front) (b m : ℕ) → r ≡ Ok x → x ≡ On b m → length s - b < length s - at
  on_less x b m h j =
      let i = on_front x b m h j in
      omega (arith, i.0.0, i.0.1)

  other_front : (x : Front) (b : ℕ) → r ≡ Ok x → x ≡ Other b → Facing f g after s at (more - 1) (Ok (Other b))
  other_front x b h i = subst (λ x. Facing f g after s at (more - 1) x) (h ∙ ap Ok i) e

  pub other_within : (x : Front) (b : ℕ) → r ≡ Ok x → x ≡ Other b → b ≤ length s
  other_within x b h j = (other_front x b h j).0.1

  pub other_short : (x : Front) (b : ℕ) → r ≡ Ok x → x ≡ Other b → length (take (length s - b) (drop b s)) < length s
  other_short x b h j =
      let o = other_front x b h j in
      omega (arith, o.0.0, o.0.1, ap length (part b s), length-drop b s)

  -- g's expression, checked on the words from b on
  module _ (ends : Ends g) (x : Front) (b : ℕ) (h : r ≡ Ok x) (j : x ≡ Other b) (p : Checked) (c : p ≡ checked (g (take (length s - b) (drop b s)))) where
    asked : p ≡ checked (g (drop b s))
    asked = c ∙ ap (λ u. checked (g u)) (part b s)

    pub other_refused : (k : Refusal) → p ≡ Err k → Err k ≡ checked (repeat n f s)
    other_refused k i = both_out g (repeat after f) (drop b s) p k asked i ∙ sym (this ∙ (other_front x b h j).1)

    pub other_left : (left : ℕ) → p ≡ Ok left → left ≤ length s - b
    other_left left i =
        let w = passed (drop b s) left (g (drop b s)) (ends (drop b s)) (sym i ∙ asked) in
        omega (arith, w.1, tail_short (last_of left (drop b s)) (drop b s) w.0, length-drop b s)

    rest_at : (left : ℕ) → p ≡ Ok left → last_of left (drop b s) ≡ drop (length s - left) s
    unfolding last_of
    rest_at left i =
        let k : b + (length (drop b s) - left) ≡ length s - left = omega (arith, length-drop b s, other_left left i, (other_front x b h j).0.1) in
        drop-drop (length (drop b s) - left) b s ∙ ap (λ j. drop j s) k

    pub other_going : (left : ℕ) → p ≡ Ok left → Going f s n (length s - left) after
    other_going left i =
        let l = other_left left i in
        let o = other_front x b h j in (
          omega arith,
          omega (arith, l, o.0.1, o.0.2),
          this ∙ o.1 ∙ sym (both_in g (repeat after f) (drop b s) (last_of left (drop b s)) p (checked (repeat after f (last_of left (drop b s)))) left ends asked i refl refl) ∙ ap (λ u. checked (repeat after f u)) (rest_at left i),
        )

    pub other_less : (left : ℕ) → p ≡ Ok left → length s - (length s - left) < length s - at
    other_less left i =
        let l = other_left left i in
        let o = other_front x b h j in
        omega (arith, l, o.0.0, o.0.1)

-- A row of one.
pub row_of_one : {A : Type 0} (f : Reader A) (s : List ℕ) (p : Checked) → p ≡ checked (repeat 1 f s) → p ≡ checked (f s)
row_of_one f s p e = e ∙ one_checked f s

pub ruleset rows = (going_start, going_end, one_cond_ends, two_data_ends, going_wrong, going_on, on_less, other_within, other_short, other_refused, other_left, other_going, other_less, row_of_one)
