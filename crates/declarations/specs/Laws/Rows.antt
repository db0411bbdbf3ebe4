-- Laws of rows, a count and then that many words, each read by itself: a reader of one word gives the word back (`one_number`, `one_count`), and so what was
-- read is the row at the beginning of the words (`row_read`, `numbers_row`, `domains_row`).
-- Document 01, "Blocks and the rule stream", items 2 to 5; refusals 4 and 5.
use Rattle.std.specs.Prelude.{ℕ, zero, suc, ◌+◌, ◌≤◌, ◌≡◌, refl, Bool, true, false, List, [], ◌∷◌, ◌++◌, ◌⊎◌, length, take, drop, get_or, leb, ltb, Ok}
use Rattle.std.proofs.Common.{arith, sym, ap, ◌∙◌, inl, inr, ⊎_elim, length-append, leb-true}
use Rattle.std.proofs.Math.Seq.{paste, take-append_seam, take-length}
use Rattle.eb3.specs.Reading.{Read, refused, taken, Reader, pick, giving, then, both, number_of, count_of, repeat, counted}
use Rattle.eb3.specs.RuleReading.{read_domains}
use Rattle.words.specs.Checking.{checked, last_of, Checked}
use Rattle.words.specs.Ends.{Ends, Fine}
use Rattle.words.specs.Laws.Checking.{tail_at, number_ends}
use Rattle.words.specs.Laws.Rows.{counted_ends, count_ends}
use Rattle.tables.specs.Tables.{row}
use Rattle.declarations.specs.Entering.{put_row}
use Rattle.declarations.specs.Rows.{One, RowAt}

-- ── a reader of one word, which gives it back ──

pub one_number : (k d : ℕ) → One (number_of k d)
unfolding number_of
one_number k d = ((4, refl), λ w s. go w s (ltb w d))
  where
    go : (w : ℕ) (s : List ℕ) (b : Bool) → (pick b (taken w s) (refused k) ≡ taken w s) ⊎ ((j : ℕ) × (pick b (taken w s) (refused k) ≡ refused j))
    go w s true = inl refl
    go w s false = inr (k, refl)

pub one_count : (lo hi : ℕ) → One (count_of lo hi)
unfolding count_of
one_count lo hi = ((4, refl), λ w s. go w s (leb lo w) (leb w hi))
  where
    go : (w : ℕ) (s : List ℕ) (a b : Bool) → (pick a (pick b (taken w s) (refused 4)) (refused 4) ≡ taken w s) ⊎ ((j : ℕ) × (pick a (pick b (taken w s) (refused 4)) (refused 4) ≡ refused j))
    go w s true true = inl refl
    go w s true false = inr (4, refl)
    go w s false b = inr (4, refl)

-- ── the row at the beginning ──

abbrev Shape : ℕ → List ℕ → Read (List ℕ) → Type 0
Shape n s (refused j) = Unit {0}
Shape n s (taken l u) = (s ≡ l ++ u) × (length l ≡ n)

abbrev Row : ℕ → List ℕ → Read (List ℕ) → Type 0
Row hi t (refused j) = Unit {0}
Row hi t (taken l u) = (t ≡ length l ∷ (l ++ u)) × (length l ≤ hi)

longer : (n w : ℕ) (s : List ℕ) (r : Read (List ℕ)) → Shape n s r → Shape (suc n) (w ∷ s) (giving {A = ℕ × List ℕ} (λ p. p.0 ∷ p.1) (giving (λ b. (w, b)) r))
unfolding giving
longer n w s (refused j) h = tt
longer n w s (taken l u) h = (ap (λ x. w ∷ x) h.0, ap suc h.1)

shape_of : (f : Reader ℕ) → One f → (n : ℕ) (s : List ℕ) → Shape n s (repeat n f s)
unfolding repeat both then giving
shape_of f o zero s = (refl, refl)
shape_of f o (suc n) [] = rw o.0.1 tt
shape_of f o (suc n) (w ∷ s) = ⊎_elim (λ e. rw e (longer n w s (repeat n f s) (shape_of f o n s))) (λ e. rw e.1 tt) (o.1 w s)

row_shape : (hi w : ℕ) (s : List ℕ) → w ≤ hi → (r : Read (List ℕ)) → Shape w s r → Row hi (w ∷ s) r
row_shape hi w s h (refused j) p = tt
row_shape hi w s h (taken l u) p = (ap (λ x. x ∷ s) (sym p.1) ∙ ap (λ x. length l ∷ x) p.0, omega (arith, p.1))

row_any : (lo hi : ℕ) (f : Reader ℕ) → One f → (t : List ℕ) → Row hi t (counted lo hi f t)
unfolding counted count_of then
row_any lo hi f o [] = tt
row_any lo hi f o (w ∷ s) = go (leb lo w) (leb w hi) refl
  where
    go : (a b : Bool) → leb w hi ≡ b → Row hi (w ∷ s) (then (pick a (pick b (taken w s) (refused 4)) (refused 4)) λ n. repeat n f)
    go true true e = row_shape hi w s (leb-true w hi e) (repeat w f s) (shape_of f o w s)
    go true false e = tt
    go false b e = tt

row_from : (hi m : ℕ) (t : List ℕ) (c r : Read (List ℕ)) → c ≡ r → Fine t r → Row hi t r → Ok m ≡ checked r → RowAt hi t c m
unfolding checked row put_row
row_from hi m t c (refused j) is f h e = absurd (let z : ◌≡◌ {A = ℕ} 0 1 = cc in omega arith)
row_from hi m t c (taken l u) is f h e =
    let n : m ≡ length u = cc in
    let v : last_of m t ≡ u = ap (λ j. last_of j t) n ∙ tail_at u t f in
    let g : get_or t 0 0 ≡ length l = ap (λ x. get_or x 0 0) h.0 in
    let dr : drop 1 t ≡ l ++ u = ap (drop 1) h.0 in
    let q : take (get_or t 0 0) (drop (0 + 1) t) ≡ l = ap (λ x. take x (drop 1 t)) g ∙ ap (take (length l)) dr ∙ take-append_seam l u in
    let len : length t ≡ suc (length (l ++ u)) = ap length h.0 in
    let tk : take (suc (length l)) t ≡ length l ∷ l = ap (take (suc (length l))) h.0 ∙ ap (λ x. length l ∷ x) (take-append_seam l u) in
    let tl : take (suc (length l)) (length l ∷ l) ≡ length l ∷ l = ap (λ x. length l ∷ x) (take-length l) in
    let g1 : get_or t 0 0 + 1 ≡ suc (length l) = omega (arith, g) in
    record {
      is = is ∙ ap (λ x. taken x u) (sym q) ∙ ap (taken (take (get_or t 0 0) (drop (0 + 1) t))) (sym v);
      small = omega (arith, g, h.1);
      room = omega (arith, g, len, length-append l u);
      few = ap length q ∙ sym g;
      place = λ at T. ap (λ x. paste T at t x) g1 ∙ ap (λ x. take at T ++ x ++ drop (at + suc (length l)) T) (tk ∙ sym tl) ∙ ap (λ x. put_row at x T) (sym q);
    }

pub row_read : (lo hi : ℕ) (f : Reader ℕ) → One f → Ends f → (m : ℕ) (t : List ℕ) (p : Checked) → p ≡ checked (counted lo hi f t) → p ≡ Ok m → RowAt hi t (counted lo hi f t) m
row_read lo hi f o d m t p e h = row_from hi m t (counted lo hi f t) (counted lo hi f t) refl (counted_ends lo hi f d t) (row_any lo hi f o t) (sym h ∙ e)

-- The domains of a label or a process.
pub numbers_row : (lo hi k d m : ℕ) (t : List ℕ) (p : Checked) → p ≡ checked (counted lo hi (number_of k d) t) → p ≡ Ok m → RowAt hi t (counted lo hi (number_of k d) t) m
numbers_row lo hi k d = row_read lo hi (number_of k d) (one_number k d) (number_ends k d)

-- The sizes of all domains.
pub domains_row : (m : ℕ) (t : List ℕ) (p : Checked) → p ≡ checked (read_domains t) → p ≡ Ok m → RowAt 16 t (read_domains t) m
domains_row = row_read 1 16 (count_of 1 64) (one_count 1 64) (count_ends 1 64)
