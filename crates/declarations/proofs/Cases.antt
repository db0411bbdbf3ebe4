-- Copies, and labels entered: a case for each way that these functions return.
-- Document 01, "Blocks and the rule stream", items 2 to 4; refusals 4 and 5.
use Prim.Native.Nat.{ℕ, zero, suc, ◌+◌, ◌-◌, ◌*◌, ◌≤◌, ◌<◌}
use native.Mathlib.Numerals.{add-one, sub-one}
use native.Mathlib.Omega.{arith}
use native.Mathlib.Nat.{le_refl}
use mathlib.Core.Path.{◌≡◌, refl, sym, ap, ◌∙◌, subst}
use mathlib.Core.List.{List, [], ◌∷◌}
use lib.ListN.{length, get_or, set, take}
use lib.Seq.{paste, paste-suc, length-paste, length-take-le}
use Rattle.eb3.specs.Reading.{Read, refused, taken, Reader, giving, then, both, number_of, repeat, counted}
use Rattle.words.specs.Checking.{checked, last_of, Checked}
use Rattle.words.specs.Ends.{Ends, Tail}
use Rattle.words.specs.Laws.Checking.{number_ends, last_all, last_length, last_tail, tail_at, tail_on, tail_short}
use Rattle.words.specs.Laws.Rows.{counted_ends, passed, repeat_out, repeat_in}
use Rattle.tables.specs.Layout.{label_words}
use Rattle.tables.specs.Tables.{row}
use Rattle.declarations.specs.Entering.{put_row, put_rows, Entered}
use Rattle.declarations.specs.Laws.Regions.{paste_front}
use Rattle.declarations.specs.Laws.Rows.{numbers_row}
use Rattle.std.specs.Prelude.{Ok, Err}
use Rattle.refusals.specs.declared.Refusal.{Refusal}

-- ── a copy ──

pub copy_more : (T T₀ s : List ℕ) (at i w : ℕ) → i < length s → at + length s ≤ length T₀ → w ≡ get_or s i 0 → T ≡ paste T₀ at s i → set T (at + i) w ≡ paste T₀ at s (i + 1)
copy_more T T₀ s at i w h a f e = rw (e, f) (rw (add-one i) (paste-suc T₀ at s i 0 (omega arith) (omega arith)))

-- ── labels entered ──

abbrev label_of : ℕ → Reader (List ℕ)
label_of d = counted 0 2 (number_of 5 d)

label_ends : (d : ℕ) → Ends (label_of d)
label_ends d = counted_ends 0 2 (number_of 5 d) (number_ends 5 d)

-- what the copy of a label's row asks
label_fits : (n at d m x : ℕ) (t T : List ℕ) (p : Checked) → (n ≡ 0 → ⊥) → at + label_words * n ≤ length T → x ≡ get_or t 0 0 → p ≡ checked (label_of d t) → p ≡ Ok m → (at + (x + 1) ≤ length T) × (x + 1 ≤ length t)
label_fits n at d m x t T p z l i e h =
    let row = numbers_row 0 2 5 d m t p e h in
    (omega (arith, row.small), omega (arith, row.room))

entered_none : (t T : List ℕ) (n at d : ℕ) → n ≡ 0 → Entered t T n at d (Ok (length t)) T
unfolding repeat checked put_rows
entered_none t T zero at d z = record { answer = refl; rows = λ ls u e. (let f : ls ≡ [] = cc in rw f); same_length = refl }
entered_none t T (suc n) at d z = absurd (omega arith)

entered_out : (t T : List ℕ) (n at d : ℕ) (j : Refusal) (p : Checked) → (n ≡ 0 → ⊥) → p ≡ checked (label_of d t) → p ≡ Err j → Entered t T n at d (Err j) T
unfolding checked
entered_out t T n at d j p z e h =
    let a : Err j ≡ checked (repeat n (label_of d) t) = repeat_out n (label_of d) t p j z e h in
    record { answer = a; rows = λ ls u f. absurd (let o : Err j ≡ Ok (length u) = a ∙ ap checked f in let y : ◌≡◌ {A = ℕ} 0 1 = cc in omega arith); same_length = refl }

rows_more : (f : Reader (List ℕ)) (n at m : ℕ) (t l T T₁ T₂ : List ℕ) → f t ≡ taken l (last_of m t) → T₁ ≡ put_row at l T
    → ((ls : List (List ℕ)) (u : List ℕ) → repeat n f (last_of m t) ≡ taken ls u → T₂ ≡ put_rows (at + label_words) ls T₁)
    → (ls : List (List ℕ)) (u : List ℕ) → repeat (suc n) f t ≡ taken ls u → T₂ ≡ put_rows at ls T
unfolding repeat both then giving put_rows
rows_more f n at m t l T T₁ T₂ e g ih ls u h = go (repeat n f (last_of m t)) refl (rw e at h)
  where
    go : (r : Read (List (List ℕ))) → repeat n f (last_of m t) ≡ r → giving {A = List ℕ × List (List ℕ)} (λ p. p.0 ∷ p.1) (giving (λ b. (l, b)) r) ≡ taken ls u → T₂ ≡ put_rows at ls T
    go (refused j) i k = absurd (let y : ◌≡◌ {A = ℕ} 0 1 = cc in omega arith)
    go (taken ls' v) i k =
        let s : ls ≡ l ∷ ls' = cc in
        rw s (ih ls' v i ∙ ap (put_rows (at + label_words) ls') g)

entered_in : (t r T T₁ T₂ : List ℕ) (n at d m x : ℕ) (p q : Checked) → (n ≡ 0 → ⊥) → at + label_words * n ≤ length T → x ≡ get_or t 0 0 → p ≡ checked (label_of d t) → p ≡ Ok m → T₁ ≡ paste T at t (x + 1) → r ≡ last_of m t
    → Entered r T₁ (n - 1) (at + label_words) d q T₂ → Entered t T n at d q T₂
entered_in t r T T₁ T₂ zero at d m x p q z f i e h g l k = absurd (z refl)
entered_in t r T T₁ T₂ (suc n) at d m x p q z f i e h g l k =
    let there = numbers_row 0 2 5 d m t p e h in
    let fits = label_fits (suc n) at d m x t T p z f i e h in
    let o : suc n - 1 ≡ n = sub-one (suc n) in
    record {
      answer = repeat_in (suc n) (label_of d) t r p q m z (label_ends d) e h l k.answer;
      rows = rows_more (label_of d) n at m t (row t 0) T T₁ T₂ there.is (g ∙ ap (λ y. paste T at t (y + 1)) i ∙ there.place at T)
          (λ ls u f. k.rows ls u (ap (λ y. repeat y (label_of d) r) o ∙ ap (repeat n (label_of d)) l ∙ f));
      same_length = k.same_length ∙ ap length g ∙ length-paste T at t (x + 1) fits.0 fits.1;
    }

-- ── labels entered by a loop ──

-- i of n labels are entered, and `left` words are left of t: what is then entered of the others makes what is entered of all.
pub record Entering (t T₀ : List ℕ) (n at d : ℕ) (T : List ℕ) (left i : ℕ) : Type 0 where
  pub few : i ≤ n
  pub short : left ≤ length t
  pub same_length : length T ≡ length T₀
  pub rest : (r : Checked) (T' : List ℕ) → Entered (last_of left t) T (n - i) (at + label_words * i) d r T' → Entered t T₀ n at d r T'

same_entered : (t u T T' : List ℕ) (n m at b d : ℕ) (r : Checked) → t ≡ u → n ≡ m → at ≡ b → Entered t T n at d r T' → Entered u T m b d r T'
same_entered t u T T' n m at b d r e f g h = rw (← e, ← f, ← g) h

pub entering_start : (t T : List ℕ) (n at d : ℕ) → Entering t T n at d T (length t) 0
entering_start t T n at d = record {
  few = omega arith;
  short = le_refl (length t);
  same_length = refl;
  rest = λ r T' h. same_entered _ t T T' (n - 0) n (at + label_words * 0) at d r (last_all (length t) t (le_refl (length t))) (omega arith) (omega arith) h;
}

module _ (t T₀ T u : List ℕ) (n at d left i x : ℕ) (p : Checked) (s : Entering t T₀ n at d T left i) (lt : i < n) (room : at + label_words * n ≤ length T₀) (is_u : u ≡ last_of left t) (e : p ≡ checked (label_of d u)) where
  some : n - i ≡ 0 → ⊥
  some z = omega (arith, z, lt)

  place_left : at + label_words * i + label_words * (n - i) ≤ length T
  place_left = omega (arith, room, lt, s.same_length)

  pub entering_fail : (j : Refusal) → p ≡ Err j → Entered t T₀ n at d (Err j) T
  entering_fail j h = s.rest (Err j) T (same_entered u _ T T (n - i) (n - i) (at + label_words * i) (at + label_words * i) d (Err j) is_u refl refl (entered_out u T (n - i) (at + label_words * i) d j p some e h))

  module _ (m : ℕ) (h : p ≡ Ok m) (first : x ≡ get_or u 0 0) where
    entering_fits : (at + label_words * i + (x + 1) ≤ length T) × (x + 1 ≤ length u)
    entering_fits = label_fits (n - i) (at + label_words * i) d m x u T p some place_left first e h

    -- those of them that are copied
    pub entering_front : (x + 1 ≡ length (take (x + 1) u)) × (at + label_words * i + length (take (x + 1) u) ≤ length T)
    entering_front = let e = length-take-le (x + 1) u entering_fits.1 in (sym e, rw e entering_fits.0)

    pub entering_next : (T₁ : List ℕ) → T₁ ≡ paste T (at + label_words * i) (take (x + 1) u) (length (take (x + 1) u)) → Entering t T₀ n at d T₁ m (i + 1)
    entering_next T₁ copied =
        let g = copied ∙ sym (paste_front T u (at + label_words * i) (x + 1) entering_fits.1) in
        let w = passed u m (label_of d u) (label_ends d u) (sym h ∙ e) in
        let tail : Tail (last_of m u) t = tail_on (last_of m u) u t (rw is_u (last_tail left t)) w.0 in
        let same : last_of m t ≡ last_of m u = ap (λ k. last_of k t) (sym w.1) ∙ tail_at (last_of m u) t tail in
        let fits = entering_fits in
        record {
          few = omega (arith, lt);
          short = omega (arith, w.1, tail_short (last_of m u) t tail);
          same_length = ap length g ∙ length-paste T (at + label_words * i) u (x + 1) fits.0 fits.1 ∙ s.same_length;
          rest = λ r T' k. s.rest r T' (same_entered u _ T T' (n - i) (n - i) (at + label_words * i) (at + label_words * i) d r is_u refl refl
              (entered_in u (last_of m u) T T₁ T' (n - i) (at + label_words * i) d m x p r some place_left first e h g refl
              (same_entered (last_of m t) (last_of m u) T₁ T' (n - (i + 1)) (n - i - 1) (at + label_words * (i + 1)) (at + label_words * i + label_words) d r same (omega arith) (omega arith) k)));
        }

pub entering_end : (t T₀ T : List ℕ) (n at d left i : ℕ) → Entering t T₀ n at d T left i → n ≤ i → Entered t T₀ n at d (Ok left) T
entering_end t T₀ T n at d left i s h = s.rest (Ok left) T (subst (λ y. Entered (last_of left t) T (n - i) (at + label_words * i) d (Ok y) T) (last_length left t s.short) (entered_none (last_of left t) T (n - i) (at + label_words * i) d (omega arith)))
