-- Read, added and put back, the whole table is increased (document 02, K1): `table_increased`.
use Rattle.std.specs.Prelude.{◌≡◌, ℕ, zero, suc, ◌+◌, ◌*◌, ◌%◌, ◌<◌, ◌≤◌, List, [], ◌∷◌, ◌++◌, length, get_or, take, slice_index, slice_index_or}
use native.Mathlib.Omega.{arith}
use Rattle.std.proofs.Math.Path.{refl, sym, ap}
use Rattle.std.proofs.Common.{◌∙◌, length-append, take-suc, take_all}
use mathlib.Core.List.{append_assoc}
use Rattle.eb3.specs.Bytes.{words_in, bytes_of, written, doubles_in, double_words}
use Rattle.eb3.proofs.Laws.Bytes.{words_counted}
use Rattle.eb3.specs.Readers.{sums, increased}
use Rattle.eb3.proofs.Laws.Readers.{doubles_length, sums_length, sums_at}
use Rattle.readers.specs.declared.Counts.{Counts}
use Rattle.readers.specs.Table.{none, plus, counts_at, records, added_first, numbers}
use Rattle.readers.specs.Placing.{put_number, put_first}
use Rattle.readers.proofs.Laws.Table.{added_each, records_length, records_at}
use Rattle.readers.proofs.Laws.Bytes.{number_written}

numbers_length : (n : ℕ) (t : List Counts) → length (numbers n t) ≡ 3 * n
unfolding numbers
numbers_length zero t = refl
numbers_length (suc n) t = omega (arith, length-append (numbers n t) ((get_or t n none).visible ∷ (get_or t n none).internal ∷ (get_or t n none).refused ∷ []), numbers_length n t)

nothing_written : (b : List ℕ) → b ≡ written (double_words []) b
unfolding written double_words bytes_of
nothing_written b = refl

-- Records put one after another are their numbers, written at the front.
put_written : (n : ℕ) (t : List Counts) (b : List ℕ) → 12 * n ≤ length b → put_first n t b ≡ written (double_words (numbers n t)) b
unfolding put_first numbers
put_written zero t b l = nothing_written b
put_written (suc n) t b l =
    let c = get_or t n none in
    let ns = numbers n t in
    let before : 12 * n ≤ length b = omega (arith, l) in
    let e₀ : 3 * n ≡ length ns = sym (numbers_length n t) in
    let e₁ : 3 * n + 1 ≡ length (ns ++ (c.visible ∷ [])) = omega (arith, numbers_length n t, length-append ns (c.visible ∷ [])) in
    let e₂ : 3 * n + 2 ≡ length ((ns ++ (c.visible ∷ [])) ++ (c.internal ∷ [])) = omega (arith, numbers_length n t, length-append ns (c.visible ∷ []), length-append (ns ++ (c.visible ∷ [])) (c.internal ∷ [])) in
    let r₀ : 4 * (3 * n) + 4 ≤ length b = omega (arith, l) in
    let r₁ : 4 * (3 * n + 1) + 4 ≤ length b = omega (arith, l) in
    let r₂ : 4 * (3 * n + 2) + 4 ≤ length b = omega (arith, l) in
    ap (λ (x : List ℕ). put_number (put_number (put_number x (3 * n) c.visible) (3 * n + 1) c.internal) (3 * n + 2) c.refused) (put_written n t b before)
    ∙ (ap (λ (x : List ℕ). put_number (put_number x (3 * n + 1) c.internal) (3 * n + 2) c.refused) (number_written ns b (3 * n) c.visible e₀ r₀)
    ∙ (ap (λ (x : List ℕ). put_number x (3 * n + 2) c.refused) (number_written (ns ++ (c.visible ∷ [])) b (3 * n + 1) c.internal e₁ r₁)
    ∙ (number_written ((ns ++ (c.visible ∷ [])) ++ (c.internal ∷ [])) b (3 * n + 2) c.refused e₂ r₂
    ∙ ap (λ (x : List ℕ). written (double_words x) b)
    (append_assoc (ns ++ (c.visible ∷ [])) (c.internal ∷ []) (c.refused ∷ []) ∙ append_assoc ns (c.visible ∷ []) (c.internal ∷ c.refused ∷ [])))))

-- ── the numbers of the increased records are the sums ──

module _ (ds counted : List ℕ) (room : 96 ≤ length ds) (many : length counted ≡ 96) where
  abbrev increased_records : List Counts
  increased_records = added_first 32 counted (records 32 ds)

  record_is : (r : ℕ) → r < 32 → slice_index_or increased_records r none ≡ plus (counts_at ds r) (counts_at counted r)
  record_is r l =
      let all : 32 ≤ length (records 32 ds) = omega (arith, records_length 32 ds) in
      added_each 32 r counted (records 32 ds) all l ∙ ap (λ (c : Counts). plus c (counts_at counted r)) (records_at 32 r ds l)

  sum_is : (i : ℕ) → i < 96 → slice_index (sums ds counted) i ≡ (slice_index ds i + slice_index counted i) % 4294967296
  sum_is i l = sums_at ds counted i (omega (arith, room, many)) (omega (arith, many, l))

  sums_many : length (sums ds counted) ≡ 96
  sums_many = sums_length ds counted (omega (arith, room, many)) ∙ many

  one_more : (i : ℕ) → i < 96 → take (suc i) (sums ds counted) ≡ take i (sums ds counted) ++ ((slice_index ds i + slice_index counted i) % 4294967296 ∷ [])
  one_more i l = take-suc (sums ds counted) i 0 (omega (arith, sums_many, l)) ∙ ap (λ (x : ℕ). take i (sums ds counted) ++ (x ∷ [])) (sum_is i l)

  numbers_so_far : (n : ℕ) → n ≤ 32 → numbers n increased_records ≡ take (3 * n) (sums ds counted)
  unfolding numbers
  numbers_so_far zero l = refl
  numbers_so_far (suc n) l =
      let S = sums ds counted in
      let before : n ≤ 32 = omega (arith, l) in
      let here : n < 32 = omega (arith, l) in
      let s₀ : 3 * n < 96 = omega (arith, l) in
      let s₁ : 3 * n + 1 < 96 = omega (arith, l) in
      let s₂ : 3 * n + 2 < 96 = omega (arith, l) in
      let x = (slice_index ds (3 * n) + slice_index counted (3 * n)) % 4294967296 in
      let y = (slice_index ds (3 * n + 1) + slice_index counted (3 * n + 1)) % 4294967296 in
      let z = (slice_index ds (3 * n + 2) + slice_index counted (3 * n + 2)) % 4294967296 in
      let a₁ : suc (3 * n) ≡ 3 * n + 1 = omega arith in
      let a₂ : suc (3 * n + 1) ≡ 3 * n + 2 = omega arith in
      let a₃ : suc (3 * n + 2) ≡ 3 * suc n = omega arith in
      let t₁ : take (3 * n + 1) S ≡ take (3 * n) S ++ (x ∷ []) = ap (λ (k : ℕ). take k S) (sym a₁) ∙ one_more (3 * n) s₀ in
      let t₂ : take (3 * n + 2) S ≡ take (3 * n + 1) S ++ (y ∷ []) = ap (λ (k : ℕ). take k S) (sym a₂) ∙ one_more (3 * n + 1) s₁ in
      let t₃ : take (3 * suc n) S ≡ take (3 * n + 2) S ++ (z ∷ []) = ap (λ (k : ℕ). take k S) (sym a₃) ∙ one_more (3 * n + 2) s₂ in
      let all : take (3 * suc n) S ≡ take (3 * n) S ++ (x ∷ y ∷ z ∷ []) =
      t₃ ∙ (ap (λ (u : List ℕ). u ++ (z ∷ [])) (t₂ ∙ (ap (λ (u : List ℕ). u ++ (y ∷ [])) t₁ ∙ append_assoc (take (3 * n) S) (x ∷ []) (y ∷ []))) ∙ append_assoc (take (3 * n) S) (x ∷ y ∷ []) (z ∷ [])) in
      ap (λ (u : List ℕ). u ++ ((get_or increased_records n none).visible ∷ (get_or increased_records n none).internal ∷ (get_or increased_records n none).refused ∷ [])) (numbers_so_far n before)
      ∙ (ap (λ (c : Counts). take (3 * n) S ++ (c.visible ∷ c.internal ∷ c.refused ∷ [])) (record_is n here) ∙ sym all)

  pub numbers_are : numbers 32 increased_records ≡ sums ds counted
  numbers_are = numbers_so_far 32 (omega arith) ∙ take_all 96 (sums ds counted) (omega (arith, sums_many))

-- Read, added, written.
pub table_increased : (b counted : List ℕ) (t u : List Counts) (d : List ℕ) → 384 ≤ length b → length counted ≡ 96 → t ≡ records 32 (doubles_in (words_in b)) → u ≡ added_first 32 counted t → d ≡ put_first 32 u b
    → d ≡ increased counted b
unfolding increased
table_increased b counted t u d room many p q r =
    let ds = doubles_in (words_in b) in
    let enough : 96 ≤ length ds = omega (arith, doubles_length (words_in b), words_counted b, room) in
    r ∙ (ap (λ (v : List Counts). put_first 32 v b) (q ∙ ap (added_first 32 counted) p)
    ∙ (put_written 32 (added_first 32 counted (records 32 ds)) b room ∙ ap (λ (ns : List ℕ). written (double_words ns) b) (numbers_are ds counted enough many)))
