-- One step of each loop over the table's records (document 02, K1): added, read, and put into bytes.
use Rattle.std.specs.Prelude.{◌≡◌, ℕ, zero, suc, ◌+◌, ◌-◌, ◌*◌, ◌%◌, ◌<◌, ◌≤◌, Bool, true, false, List, [], ◌∷◌, ◌++◌, length, get_or, set, replicate, ◌==◌, slice_index, slice_index_or, slice_set, refl}
use Rattle.std.proofs.Common.{arith, sym, ap, subst, ◌∙◌, length-set, length-append, get_or-set_same, get_or-set_other, eqb-true}
use Rattle.std.proofs.Math.Decide.{dec_lt}
use Rattle.std.proofs.Math.ListN.{get_or-append, get_or-eq_default}
use Rattle.std.proofs.lemmas.Bool.{eqb-false}
use Rattle.readers.specs.declared.Counts.{Counts}
use Rattle.readers.specs.Table.{none, Of32Bits, plus, added_to, counts_at, records, added_first}
use Rattle.readers.specs.Placing.{put_record, put_first}

one_more : (i : ℕ) → suc i ≡ i + 1
one_more i = omega arith

-- ── added, one reader after another ──

pub add_start : (ns : List ℕ) (t : List Counts) → t ≡ added_first 0 ns t
unfolding added_first
add_start ns t = refl

pub add_next : (ns : List ℕ) (i : ℕ) (t₀ t u : List Counts) (m : Counts) → t ≡ added_first i ns t₀ → m ≡ counts_at ns i → u ≡ added_to t i m → u ≡ added_first (i + 1) ns t₀
unfolding added_first
add_next ns i t₀ t u m e f g = g ∙ (λ j. added_to (e j) i (f j)) ∙ ap (λ (n : ℕ). added_first n ns t₀) (one_more i)

added_length : (n : ℕ) (ns : List ℕ) (t : List Counts) → length (added_first n ns t) ≡ length t
unfolding added_first added_to
added_length zero ns t = refl
added_length (suc n) ns t = length-set (added_first n ns t) n _ ∙ added_length n ns t

-- A record from n on is kept.
added_kept : (n r : ℕ) (ns : List ℕ) (t : List Counts) → n ≤ r → slice_index_or (added_first n ns t) r none ≡ slice_index_or t r none
unfolding added_first added_to
added_kept zero r ns t l = refl
added_kept (suc n) r ns t l =
    let apart : r ≡ n → ⊥ = λ e. absurd (omega (arith, e, l)) in
    let below : n ≤ r = omega (arith, l) in
    get_or-set_other (added_first n ns t) n r _ none apart ∙ added_kept n r ns t below

-- Where nothing was counted, the table stays as it is.
plus_none : (c : Counts) → Of32Bits c → plus c none ≡ c
plus_none c f =
    let v : (c.visible + 0) % 4294967296 ≡ c.visible = omega (arith, f.visible_fits) in
    let n : (c.internal + 0) % 4294967296 ≡ c.internal = omega (arith, f.internal_fits) in
    let r : (c.refused + 0) % 4294967296 ≡ c.refused = omega (arith, f.refused_fits) in
    λ i. record { visible = v i; internal = n i; refused = r i }

set_back : (t : List Counts) (i : ℕ) → slice_set t i (slice_index_or t i none) ≡ t
set_back [] i = refl
set_back (c ∷ t) zero = refl
set_back (c ∷ t) (suc i) = ap (λ (u : List Counts). c ∷ u) (set_back t i)

pub add_nothing : (ns : List ℕ) (i : ℕ) (t₀ t : List Counts) (m : Counts) (b : Bool) → ((r : ℕ) → Of32Bits (slice_index_or t₀ r none)) → t ≡ added_first i ns t₀ → m ≡ counts_at ns i → (b ≡ true → m ≡ none) → b ≡ true
    → t ≡ added_first (i + 1) ns t₀
unfolding added_first added_to
add_nothing ns i t₀ t m b small e f idle g =
    let low : i ≤ i = omega arith in
    let u = added_first i ns t₀ in
    let fits : Of32Bits (slice_index_or u i none) = subst Of32Bits (sym (added_kept i i ns t₀ low)) (small i) in
    let kept : set u i (plus (slice_index_or u i none) (counts_at ns i)) ≡ u = ap (λ (c : Counts). set u i (plus (slice_index_or u i none) c)) (sym f ∙ idle g) ∙ (ap (set u i) (plus_none (slice_index_or u i none) fits) ∙ set_back u i) in
    e ∙ (sym kept ∙ ap (λ (n : ℕ). added_first n ns t₀) (one_more i))

added_at : (n r : ℕ) (ns : List ℕ) (t : List Counts) (q : Bool) → (r == n) ≡ q → n < length t → r < suc n
    → (r < n → slice_index_or (added_first n ns t) r none ≡ plus (slice_index_or t r none) (counts_at ns r)) → slice_index_or (added_first (suc n) ns t) r none ≡ plus (slice_index_or t r none) (counts_at ns r)
unfolding added_first added_to
added_at n r ns t true e l m k =
    let here : r ≡ n = eqb-true r n e in
    let inside : n < length (added_first n ns t) = subst (λ (a : ℕ). n < a) (sym (added_length n ns t)) l in
    let low : n ≤ n = omega arith in
    subst (λ (j : ℕ). slice_index_or (slice_set (added_first n ns t) n (plus (slice_index_or (added_first n ns t) n none) (counts_at ns n))) j none ≡ plus (slice_index_or t j none) (counts_at ns j)) (sym here)
    (get_or-set_same (added_first n ns t) n _ none inside ∙ ap (λ (c : Counts). plus c (counts_at ns n)) (added_kept n n ns t low))
added_at n r ns t false e l m k = get_or-set_other (added_first n ns t) n r _ none (eqb-false r n e) ∙ k (omega (arith, m, eqb-false r n e))

-- Every record before n is increased once.
pub added_each : (n r : ℕ) (ns : List ℕ) (t : List Counts) → n ≤ length t → r < n → slice_index_or (added_first n ns t) r none ≡ plus (slice_index_or t r none) (counts_at ns r)
added_each zero r ns t l m = absurd (omega (arith, m))
added_each (suc n) r ns t l m =
    let inside : n < length t = omega (arith, l) in
    let less : n ≤ length t = omega (arith, l) in
    added_at n r ns t (r == n) refl inside m (λ k. added_each n r ns t less k)

-- ── read, one record after another ──

abbrev pub ReadTo : List ℕ → ℕ → List Counts → Type 0
ReadTo ns i t = t ≡ records i ns ++ replicate (32 - i) none

-- A store right after a list.
set_next : {A : Type 0} (xs ys : List A) (y v : A) → slice_set (xs ++ (y ∷ ys)) (length xs) v ≡ (xs ++ (v ∷ [])) ++ ys
set_next [] ys y v = refl
set_next {A} (x ∷ xs) ys y v = ap (λ (zs : List A). x ∷ zs) (set_next xs ys y v)

pub records_length : (n : ℕ) (ns : List ℕ) → length (records n ns) ≡ n
unfolding records
records_length zero ns = refl
records_length (suc n) ns = length-append (records n ns) (counts_at ns n ∷ []) ∙ ap (λ (k : ℕ). k + 1) (records_length n ns) ∙ sym (one_more n)

pub read_start : (ns : List ℕ) (c : Counts) → c ≡ none → ReadTo ns 0 (replicate 32 c)
unfolding records
read_start ns c e = ap (replicate 32) e

pub read_next : (ns : List ℕ) (i : ℕ) (t : List Counts) (c : Counts) → i < 32 → ReadTo ns i t → c ≡ counts_at ns i → ReadTo ns (i + 1) (slice_set t i c)
unfolding records
read_next ns i t c l e f =
    let more : 32 - i ≡ suc (31 - i) = omega arith in
    let less : 31 - i ≡ 32 - (i + 1) = omega arith in
    let here : i ≡ length (records i ns) = sym (records_length i ns) in
    (λ j. set (e j) i (f j))
    ∙ (λ j. set (records i ns ++ replicate (more j) none) (here j) (counts_at ns i))
    ∙ set_next (records i ns) (replicate (31 - i) none) none (counts_at ns i)
    ∙ (λ j. records (one_more i j) ns ++ replicate (less j) none)

getD_end : (xs : List Counts) (y : Counts) → slice_index_or (xs ++ (y ∷ [])) (length xs) none ≡ y
getD_end [] y = refl
getD_end (x ∷ xs) y = getD_end xs y

records_split : (n r : ℕ) (ns : List ℕ) (q : Bool) → (r == n) ≡ q → r < suc n → (r < n → slice_index_or (records n ns) r none ≡ counts_at ns r) → slice_index_or (records (suc n) ns) r none ≡ counts_at ns r
unfolding records
records_split n r ns true e l k =
    let here : r ≡ length (records n ns) = eqb-true r n e ∙ sym (records_length n ns) in
    ap (λ (j : ℕ). get_or (records n ns ++ (counts_at ns n ∷ [])) j none) here ∙ getD_end (records n ns) (counts_at ns n) ∙ ap (counts_at ns) (sym (eqb-true r n e))
records_split n r ns false e l k =
    let less : r < n = omega (arith, l, eqb-false r n e) in
    get_or-append (records n ns) (counts_at ns n ∷ []) none r (subst (λ (m : ℕ). r < m) (sym (records_length n ns)) less) ∙ k less

pub records_at : (n r : ℕ) (ns : List ℕ) → r < n → slice_index_or (records n ns) r none ≡ counts_at ns r
records_at zero r ns l = absurd (omega (arith, l))
records_at (suc n) r ns l = records_split n r ns (r == n) refl l (λ k. records_at n r ns k)

-- Records of numbers of 32 bits.
pub records_fit : (ns : List ℕ) → ((i : ℕ) → slice_index ns i < 4294967296) → (t : List Counts) → t ≡ records 32 ns → (r : ℕ) → Of32Bits (slice_index_or t r none)
records_fit ns small t e r = subst Of32Bits (ap (λ (u : List Counts). get_or u r none) (sym e)) (go (dec_lt r 32))
  where
    go : Dec (r < 32) → Of32Bits (slice_index_or (records 32 ns) r none)
    go (yes l) = subst Of32Bits (sym (records_at 32 r ns l)) (record { visible_fits = small (3 * r); internal_fits = small (3 * r + 1); refused_fits = small (3 * r + 2) })
    go (no l) = subst Of32Bits (sym (get_or-eq_default (records 32 ns) none (omega (arith, records_length 32 ns, l)))) (record { visible_fits = omega arith; internal_fits = omega arith; refused_fits = omega arith })

-- ── put into bytes, one record after another ──

pub put_start : (t : List Counts) (b : List ℕ) → b ≡ put_first 0 t b
unfolding put_first
put_start t b = refl

pub put_next : (t : List Counts) (i : ℕ) (b₀ b d : List ℕ) (c : Counts) → b ≡ put_first i t b₀ → c ≡ slice_index_or t i none → d ≡ put_record b i c → d ≡ put_first (i + 1) t b₀
unfolding put_first
put_next t i b₀ b d c e f g = g ∙ (λ j. put_record (e j) i (f j)) ∙ ap (λ (n : ℕ). put_first n t b₀) (one_more i)
