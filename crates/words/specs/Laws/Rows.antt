-- Laws of counts and of rows: as many readings as a count says (by recursion or by a loop), one for each entry, a series, a number of several words.
-- Document 01, "Operations": 4, 5 and 6 by the first offending word of the stream.
use Rattle.std.specs.Prelude.{ℕ, zero, suc, ◌+◌, ◌-◌, ◌*◌, ◌≤◌, ◌<◌, ◌≡◌, refl, Bool, true, false, List, [], ◌∷◌, length, drop, get_or, leb, Ok, Err}
use Rattle.std.proofs.Common.{le_refl, sub-one, arith, sym, ap, ◌∙◌, length-drop, leb-true}
use Rattle.eb3.specs.Reading.{Read, refused, taken, Reader, pick, giving, then, both, number_of, count_of, repeat, counted, for_each, series, number_in}
use Rattle.words.specs.Checking.{checked, last_of, Checked}
use Rattle.words.specs.Ends.{Ends, Fine, Tail}
use Rattle.words.specs.Laws.Checking.{nil_form, cons_form, tail_here, tail_on, tail_at, tail_short, giving_fine, then_fine, both_ends, number_ends, checked_giving, both_in, both_out, then_out, last_all, last_tail}
use Rattle.refusals.specs.declared.Refusal.{Refusal}

-- ── one count ──

pub count_ends : (lo hi : ℕ) → Ends (count_of lo hi)
unfolding count_of
count_ends lo hi [] = tt
count_ends lo hi (w ∷ t) = go (leb lo w) (leb w hi)
  where
    go : (a b : Bool) → Fine (w ∷ t) (pick a (pick b (taken w t) (refused 4)) (refused 4))
    go true true = (1, refl)
    go true false = tt
    go false b = tt

pub count_word : (lo hi n : ℕ) (t : List ℕ) → Ok n ≡ checked (count_of lo hi t) → count_of lo hi t ≡ taken (get_or t 0 0) (last_of n t)
unfolding count_of checked last_of
count_word lo hi n [] e = cc
count_word lo hi n (w ∷ t) e = go (leb lo w) (leb w hi) e
  where
    go : (a b : Bool) → Ok n ≡ checked (pick a (pick b (taken w t) (refused 4)) (refused 4)) → pick a (pick b (taken w t) (refused 4)) (refused 4) ≡ taken w (drop (suc (length t) - n) (w ∷ t))
    go true true f =
        let m : n ≡ length t = cc in
        let o : suc (length t) - n ≡ 1 = omega arith in
        ap (λ i. taken w (drop i (w ∷ t))) (sym o)
    go true false f = cc
    go false b f = cc

pub count_small : (lo hi m x : ℕ) (t : List ℕ) (p : Checked) → p ≡ checked (count_of lo hi t) → p ≡ Ok m → x ≡ get_or t 0 0 → x ≤ hi
unfolding count_of checked
count_small lo hi m x [] p e h i = absurd (let z : ◌≡◌ {A = ℕ} 0 1 = cc in omega arith)
count_small lo hi m x (w ∷ t) p e h i = go (leb lo w) (leb w hi) refl (sym h ∙ e)
  where
    go : (a b : Bool) → leb w hi ≡ b → Ok m ≡ checked (pick a (pick b (taken w t) (refused 4)) (refused 4)) → x ≤ hi
    go true true l f = omega (arith, leb-true w hi l, i)
    go true false l f = absurd (let z : ◌≡◌ {A = ℕ} 0 1 = cc in omega arith)
    go false b l f = absurd (let z : ◌≡◌ {A = ℕ} 0 1 = cc in omega arith)

pub count_pos : (lo hi n : ℕ) (t : List ℕ) (p : Checked) → p ≡ checked (count_of lo hi t) → p ≡ Ok n → 0 < length t
unfolding count_of checked
count_pos lo hi n [] p e h =
    let z : ◌≡◌ {A = ℕ} 0 1 = cc in
    omega arith
count_pos lo hi n (w ∷ t) p e h = omega arith

-- a count by which the reading goes on
module _ {B : Type 0} (lo hi : ℕ) (g : ℕ → Reader B) (t : List ℕ) (p : Checked) (e : p ≡ checked (count_of lo hi t)) where
  pub by_count_out : (j : Refusal) → p ≡ Err j → Err j ≡ checked (then (count_of lo hi t) g)
  by_count_out j h = then_out (count_of lo hi t) g j (sym h ∙ e)

  pub by_count_in : (m x : ℕ) (r : List ℕ) (q : Checked) → p ≡ Ok m → r ≡ last_of m t → x ≡ get_or t 0 0 → q ≡ checked (g x r) → q ≡ checked (then (count_of lo hi t) g)
  unfolding then
  by_count_in m x r q h s i k = rw (count_word lo hi m t (sym h ∙ e), ← i, ← s) k

-- ── a count, and as many of a kind ──

pub repeat_ends : {A : Type 0} (n : ℕ) (f : Reader A) → Ends f → Ends (repeat n f)
unfolding repeat
repeat_ends zero f h t = tail_here t
repeat_ends (suc n) f h t = giving_fine (λ p. p.0 ∷ p.1) t (both f (repeat n f) t) (both_ends f (repeat n f) h (repeat_ends n f h) t)

pub counted_ends : {A : Type 0} (lo hi : ℕ) (f : Reader A) → Ends f → Ends (counted lo hi f)
unfolding counted
counted_ends lo hi f h t = then_fine (λ n. repeat n f) (λ n. repeat_ends n f h) t (count_of lo hi t) (count_ends lo hi t)

module _ {A : Type 0} (lo hi : ℕ) (f : Reader A) (t : List ℕ) (p : Checked) (e : p ≡ checked (count_of lo hi t)) where
  pub counted_out : (j : Refusal) → p ≡ Err j → Err j ≡ checked (counted lo hi f t)
  unfolding counted
  counted_out j h = then_out (count_of lo hi t) _ j (sym h ∙ e)

  pub counted_in : (r : List ℕ) (q : Checked) (n k : ℕ) → p ≡ Ok n → r ≡ last_of n t → k ≡ get_or t 0 0 → q ≡ checked (repeat k f r) → q ≡ checked (counted lo hi f t)
  unfolding counted then
  counted_in r q n k h l i j = rw (count_word lo hi n t (sym h ∙ e), ← l, ← i) j

pub repeat_next : {A : Type 0} (n : ℕ) (f : Reader A) (t : List ℕ) → checked (repeat (suc n) f t) ≡ checked (both f (repeat n f) t)
unfolding repeat
repeat_next n f t = checked_giving (λ p. p.0 ∷ p.1) (both f (repeat n f) t)

-- by recursion
pub repeat_none : {A : Type 0} (n : ℕ) (f : Reader A) (t : List ℕ) → n ≡ 0 → Ok (length t) ≡ checked (repeat n f t)
unfolding repeat checked
repeat_none n f t h = rw h

pub repeat_out : {A : Type 0} (n : ℕ) (f : Reader A) (t : List ℕ) (p : Checked) (j : Refusal) → (n ≡ 0 → ⊥) → p ≡ checked (f t) → p ≡ Err j → Err j ≡ checked (repeat n f t)
repeat_out zero f t p j z e h = absurd (z refl)
repeat_out (suc n) f t p j z e h = both_out f (repeat n f) t p j e h ∙ sym (repeat_next n f t)

pub repeat_in : {A : Type 0} (n : ℕ) (f : Reader A) (t r : List ℕ) (p q : Checked) (m : ℕ) → (n ≡ 0 → ⊥) → Ends f → p ≡ checked (f t) → p ≡ Ok m → r ≡ last_of m t → q ≡ checked (repeat (n - 1) f r) → q ≡ checked (repeat n f t)
repeat_in zero f t r p q m z i e h l j = absurd (z refl)
repeat_in (suc n) f t r p q m z i e h l j =
    let k : q ≡ checked (repeat n f r) = rw (← sub-one (suc n)) j in
    both_in f (repeat n f) t r p q m i e h l k ∙ sym (repeat_next n f t)

-- ── one for each entry of a list, and a series ──

pub for_each_ends : {A B : Type 0} (bs : List B) (f : B → Reader A) → ((b : B) → Ends (f b)) → Ends (for_each bs f)
unfolding for_each
for_each_ends [] f h t = tail_here t
for_each_ends (b ∷ bs) f h t = giving_fine (λ p. p.0 ∷ p.1) t (both (f b) (for_each bs f) t) (both_ends (f b) (for_each bs f) (h b) (for_each_ends bs f h) t)

pub for_each_next : {A B : Type 0} (b : B) (bs : List B) (f : B → Reader A) (t : List ℕ) → checked (for_each (b ∷ bs) f t) ≡ checked (both (f b) (for_each bs f) t)
unfolding for_each
for_each_next b bs f t = checked_giving (λ p. p.0 ∷ p.1) (both (f b) (for_each bs f) t)

-- over words, each read as the code reads a list: the first word and those after it
module _ {A : Type 0} (ds : List ℕ) (f : ℕ → Reader A) (t : List ℕ) where
  pub for_each_none : length ds ≡ 0 → Ok (length t) ≡ checked (for_each ds f t)
  unfolding for_each checked
  for_each_none h = rw (nil_form ds h)

  pub for_each_out : (p : Checked) (k : Refusal) → (length ds ≡ 0 → ⊥) → p ≡ checked (f (get_or ds 0 0) t) → p ≡ Err k → Err k ≡ checked (for_each ds f t)
  for_each_out p k h e i = rw (cons_form ds h, for_each_next) (both_out (f (get_or ds 0 0)) (for_each (drop 1 ds) f) t p k e i)

  pub for_each_in : (es r : List ℕ) (p q : Checked) (n : ℕ) → (length ds ≡ 0 → ⊥) → Ends (f (get_or ds 0 0)) → p ≡ checked (f (get_or ds 0 0) t) → p ≡ Ok n → r ≡ last_of n t → es ≡ drop 1 ds → q ≡ checked (for_each es f r) → q ≡ checked (for_each ds f t)
  for_each_in es r p q n h i e g l d j =
      both_in (f (get_or ds 0 0)) (for_each (drop 1 ds) f) t r p q n i e g l (j ∙ ap (λ x. checked (for_each x f r)) d)
      ∙ sym (for_each_next (get_or ds 0 0) (drop 1 ds) f t)
      ∙ ap (λ x. checked (for_each x f t)) (sym (cons_form ds h))

pub series_ends : {A : Type 0} (n i : ℕ) (f : ℕ → Reader A) → ((j : ℕ) → Ends (f j)) → Ends (series n i f)
unfolding series
series_ends zero i f h t = tail_here t
series_ends (suc n) i f h t = giving_fine (λ p. p.0 ∷ p.1) t (both (f i) (series n (i + 1) f) t) (both_ends (f i) (series n (i + 1) f) (h i) (series_ends n (i + 1) f h) t)

pub series_next : {A : Type 0} (n i : ℕ) (f : ℕ → Reader A) (t : List ℕ) → (n ≡ 0 → ⊥) → checked (series n i f t) ≡ checked (both (f i) (series (n - 1) (i + 1) f) t)
unfolding series
series_next zero i f t z = absurd (z refl)
series_next (suc n) i f t z = rw (checked_giving, sub-one (suc n))

module _ {A : Type 0} (n i : ℕ) (f : ℕ → Reader A) (t : List ℕ) where
  pub series_none : n ≡ 0 → Ok (length t) ≡ checked (series n i f t)
  unfolding series checked
  series_none z = rw z

  pub series_out : (p : Checked) (j : Refusal) → (n ≡ 0 → ⊥) → p ≡ checked (f i t) → p ≡ Err j → Err j ≡ checked (series n i f t)
  series_out p j z e h = both_out (f i) (series (n - 1) (i + 1) f) t p j e h ∙ sym (series_next n i f t z)

  pub series_in : (r : List ℕ) (p q : Checked) (m : ℕ) → (n ≡ 0 → ⊥) → Ends (f i) → p ≡ checked (f i t) → p ≡ Ok m → r ≡ last_of m t → q ≡ checked (series (n - 1) (i + 1) f r) → q ≡ checked (series n i f t)
  series_in r p q m z d e h l k = both_in (f i) (series (n - 1) (i + 1) f) t r p q m d e h l k ∙ sym (series_next n i f t z)

-- ── a number of several words ──

pub number_in_ends : (n : ℕ) → Ends (number_in n)
unfolding number_in
number_in_ends zero t = tt
number_in_ends (suc zero) [] = tt
number_in_ends (suc zero) (w ∷ t) = (1, refl)
number_in_ends (suc (suc n)) t = then_fine (λ w u. giving (λ m. w + 65536 * m) (number_in (suc n) u)) (λ w u. giving_fine (λ m. w + 65536 * m) u (number_in (suc n) u) (number_in_ends (suc n) u)) t (number_of 4 65536 t) (number_ends 4 65536 t)

-- ── n of a kind by a loop: i of n are read, and `left` words are left of t ──
abbrev pub Repeating : {A : Type 0} → Reader A → List ℕ → ℕ → ℕ → ℕ → Type 0
Repeating f t n left i = (i ≤ n) × (left ≤ length t) × (checked (repeat n f t) ≡ checked (repeat (n - i) f (last_of left t)))

pub loop_start : {A : Type 0} (f : Reader A) (t : List ℕ) (n : ℕ) → Repeating f t n (length t) 0
loop_start f t n =
    let z : n - 0 ≡ n = omega arith in
    (omega arith, le_refl (length t), rw (z, last_all (length t) t (le_refl (length t))))

abbrev pub Passed : {A : Type 0} → List ℕ → ℕ → Read A → Type 0
Passed u m r = Fine u r → Ok m ≡ checked r → Tail (last_of m u) u × (length (last_of m u) ≡ m)

pub passed : {A : Type 0} (u : List ℕ) (m : ℕ) (r : Read A) → Passed u m r
unfolding checked
passed u m (refused k) h e = absurd (let z : ◌≡◌ {A = ℕ} 0 1 = cc in omega arith)
passed u m (taken a v) h e =
    let k : m ≡ length v = cc in
    let l : last_of m u ≡ v = ap (λ j. last_of j u) k ∙ tail_at v u h in
    rw l (h, sym k)

module _ {A : Type 0} (f : Reader A) (ends : Ends f) (t u : List ℕ) (n left i : ℕ) (p : Checked) (inv : Repeating f t n left i) (lt : i < n) (is_u : u ≡ last_of left t) (e : p ≡ checked (f u)) where
  one_more : n - i ≡ suc (n - (i + 1))
  one_more = omega arith

  pub loop_fail : (j : Refusal) → p ≡ Err j → Err j ≡ checked (repeat n f t)
  loop_fail j h = both_out f (repeat (n - (i + 1)) f) u p j e h ∙ sym (repeat_next (n - (i + 1)) f u) ∙ ap (λ k. checked (repeat k f u)) (sym one_more) ∙ ap (λ v. checked (repeat (n - i) f v)) is_u ∙ sym inv.2

  pub loop_next : (m : ℕ) → p ≡ Ok m → Repeating f t n m (i + 1)
  loop_next m h =
      let w = passed u m (f u) (ends u) (sym h ∙ e) in
      let tl : Tail (last_of m u) t = tail_on (last_of m u) u t (rw is_u (last_tail left t)) w.0 in
      let same : last_of m u ≡ last_of m t = sym (tail_at (last_of m u) t tl) ∙ ap (λ k. last_of k t) w.1 in
      let step : checked (repeat (n - (i + 1)) f (last_of m u)) ≡ checked (both f (repeat (n - (i + 1)) f) u) = both_in f (repeat (n - (i + 1)) f) u (last_of m u) p (checked (repeat (n - (i + 1)) f (last_of m u))) m ends e h refl refl in (
        omega arith,
        omega (arith, w.1, tail_short (last_of m u) t tl),
        inv.2 ∙ ap (λ v. checked (repeat (n - i) f v)) (sym is_u) ∙ ap (λ k. checked (repeat k f u)) one_more ∙ repeat_next (n - (i + 1)) f u ∙ sym step ∙ ap (λ v. checked (repeat (n - (i + 1)) f v)) same,
      )

pub loop_end : {A : Type 0} (f : Reader A) (t : List ℕ) (n left i : ℕ) → Repeating f t n left i → n ≤ i → Ok left ≡ checked (repeat n f t)
unfolding repeat checked last_of
loop_end f t n left i inv h =
    let z : n - i ≡ 0 = omega (arith, inv.0) in
    let l : length (drop (length t - left) t) ≡ left = omega (arith, inv.1, length-drop (length t - left) t) in
    sym (inv.2 ∙ ap (λ k. checked (repeat k f (last_of left t))) z ∙ ap Ok l)
