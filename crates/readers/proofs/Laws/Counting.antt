-- What a run counts by reader is what the specification counts, modulo 4,294,967,296, and so is what it adds to the table (document 02, K1):
-- `counted_increases`. One number more is counted at the end (`counted_next`).
use Rattle.std.specs.Prelude.{◌≡◌, ℕ, zero, suc, ◌+◌, ◌-◌, ◌*◌, ◌/◌, ◌%◌, ◌<◌, Bool, true, false, cond, List, [], ◌∷◌, ◌++◌, length, replicate, ◌==◌, ◌≢◌, slice_index, slice_index_or, slice_set, refl}
use Rattle.std.proofs.Common.{arith, ◌∙◌, length-set, get_or-set_same, get_or-set_other, eqb-true, eq-eqb, ne_eqb}
use Rattle.std.proofs.Math.Path.{sym, ap}
use Rattle.std.proofs.lemmas.List.{length-replicate}
use Rattle.std.proofs.lemmas.Bool.{eqb-false}
use Rattle.eb3.specs.Generic.AllLists.{All}
use Rattle.eb3.specs.Limits.{readers}
use Rattle.eb3.specs.TransitionSystems.{Outcome, took_visible, took_internal, refused, visible?, internal?, refused?, tally}
use Rattle.eb3.specs.Bytes.{double_words, written}
use Rattle.eb3.specs.Readers.{at_reader, counts_of, counts_by_reader, sums, increased}
use Rattle.eb3.proofs.Laws.Readers.{CardReader, counts_length, counts_at}
use Rattle.readers.specs.Table.{one_more, outcome_place, counted_by}

-- ── one number more ──

pub counted_next : (ns rs : List ℕ) (os : List Outcome) (r : ℕ) (o : Outcome) → length rs ≡ length os
    → counted_by ns (rs ++ (r ∷ [])) (os ++ (o ∷ [])) ≡ one_more (counted_by ns rs os) ((r + 31) % 32) (outcome_place o)
unfolding counted_by
counted_next ns [] [] r o l = refl
counted_next ns [] (p ∷ os) r o l = let z : ⊥ = omega (arith, l) in absurd z
counted_next ns (x ∷ rs) [] r o l = let z : ⊥ = omega (arith, l) in absurd z
counted_next ns (x ∷ rs) (p ∷ os) r o l = let k : length rs ≡ length os = omega (arith, l) in counted_next (one_more ns ((x + 31) % 32) (outcome_place p)) rs os r o k

one_more_length : (ns : List ℕ) (q p : ℕ) → length (one_more ns q p) ≡ length ns
unfolding one_more
one_more_length ns q p = length-set ns _ _

counted_length : (ns rs : List ℕ) (os : List Outcome) → length (counted_by ns rs os) ≡ length ns
unfolding counted_by
counted_length ns [] os = refl
counted_length ns (r ∷ rs) [] = refl
counted_length ns (r ∷ rs) (o ∷ os) = counted_length (one_more ns ((r + 31) % 32) (outcome_place o)) rs os ∙ one_more_length ns ((r + 31) % 32) (outcome_place o)

-- ── entry by entry ──

place_below : (o : Outcome) → outcome_place o < 3
place_below took_visible = omega arith
place_below took_internal = omega arith
place_below refused = omega arith

-- One at its own place, 0 at others.
abbrev here : ℕ → ℕ → ℕ
here a b = cond (a == b) 1 0

one_more_at : (ns : List ℕ) (q p i : ℕ) → 3 * q + p < length ns → slice_index (one_more ns q p) i % 4294967296 ≡ (slice_index ns i + here i (3 * q + p)) % 4294967296
unfolding one_more
one_more_at ns q p i l = go (i == 3 * q + p) refl
  where
    go : (b : Bool) → (i == 3 * q + p) ≡ b → slice_index (slice_set ns (3 * q + p) ((slice_index ns (3 * q + p) + 1) % 4294967296)) i % 4294967296 ≡ (slice_index ns i + cond b 1 0) % 4294967296
    go true e =
        let is : i ≡ 3 * q + p = eqb-true i (3 * q + p) e in
        let at : slice_index_or (slice_set ns (3 * q + p) ((slice_index ns (3 * q + p) + 1) % 4294967296)) i 0 ≡ (slice_index ns (3 * q + p) + 1) % 4294967296 =
        ap (λ (k : ℕ). slice_index (slice_set ns (3 * q + p) ((slice_index ns (3 * q + p) + 1) % 4294967296)) k) is ∙ get_or-set_same ns (3 * q + p) _ 0 l in
        let same : slice_index_or ns i 0 ≡ slice_index_or ns (3 * q + p) 0 = ap (λ (k : ℕ). slice_index ns k) is in
        omega (arith, at, same)
    go false e =
        let at : slice_index_or (slice_set ns (3 * q + p) ((slice_index ns (3 * q + p) + 1) % 4294967296)) i 0 ≡ slice_index_or ns i 0 = get_or-set_other ns (3 * q + p) i _ 0 (eqb-false i (3 * q + p) e) in
        omega (arith, at)

-- How often the entry at place 3 q + p is counted.
unfoldable pub times : ℕ → ℕ → List ℕ → List Outcome → ℕ
times q p [] os = 0
times q p (r ∷ rs) [] = 0
times q p (r ∷ rs) (o ∷ os) = here (3 * q + p) (3 * ((r + 31) % 32) + outcome_place o) + times q p rs os

counted_entry : (ns rs : List ℕ) (os : List Outcome) (q p : ℕ) → length ns ≡ 96 → slice_index (counted_by ns rs os) (3 * q + p) % 4294967296 ≡ (slice_index ns (3 * q + p) + times q p rs os) % 4294967296
unfolding counted_by times
counted_entry ns [] os q p l = let z : slice_index_or ns (3 * q + p) 0 + 0 ≡ slice_index_or ns (3 * q + p) 0 = omega arith in ap (λ (n : ℕ). n % 4294967296) (sym z)
counted_entry ns (r ∷ rs) [] q p l = let z : slice_index_or ns (3 * q + p) 0 + 0 ≡ slice_index_or ns (3 * q + p) 0 = omega arith in ap (λ (n : ℕ). n % 4294967296) (sym z)
counted_entry ns (r ∷ rs) (o ∷ os) q p l =
    let next = one_more ns ((r + 31) % 32) (outcome_place o) in
    let inside : 3 * ((r + 31) % 32) + outcome_place o < length ns = omega (arith, l, place_below o) in
    let longer : length next ≡ 96 = one_more_length ns ((r + 31) % 32) (outcome_place o) ∙ l in
    let x : slice_index_or next (3 * q + p) 0 % 4294967296 ≡ (slice_index ns (3 * q + p) + here (3 * q + p) (3 * ((r + 31) % 32) + outcome_place o)) % 4294967296 = one_more_at ns ((r + 31) % 32) (outcome_place o) (3 * q + p) inside in
    let y = counted_entry next rs os q p longer in
    omega (arith, x, y)

-- ── as often as the specification counts ──

abbrev kind : ℕ → Outcome → Bool
kind zero o = visible? o
kind (suc zero) o = internal? o
kind (suc (suc p)) o = refused? o

-- A number is counted at reader q + 1 and outcome p exactly if it is that reader's and did that.
counted_here : (q p r : ℕ) (o : Outcome) → q < 32 → p < 3 → CardReader r → here (3 * q + p) (3 * ((r + 31) % 32) + outcome_place o) ≡ cond (r == suc q) (cond (kind p o) 1 0) 0
counted_here q p r o l m h = go (r == suc q) refl
  where
    place_is : (r + 31) % 32 ≡ r - 1
    place_is = omega (arith, h.0, h.1)

    here_is : (a b : ℕ) → a ≡ b → here a b ≡ 1
    here_is a b e = ap (λ c. cond c 1 0) (eq-eqb a b e)

    not_here : (a b : ℕ) → (a ≢ b) → here a b ≡ 0
    not_here a b n = ap (λ c. cond c 1 0) (ne_eqb a b n)

    same_reader : r ≡ suc q → (p : ℕ) (o : Outcome) → p < 3 → here (3 * q + p) (3 * ((r + 31) % 32) + outcome_place o) ≡ cond (kind p o) 1 0
    same_reader e zero took_visible n = here_is (3 * q + 0) (3 * ((r + 31) % 32) + 0) (omega (arith, place_is, e))
    same_reader e zero took_internal n = not_here (3 * q + 0) (3 * ((r + 31) % 32) + 1) (λ x. absurd (omega (arith, place_is, e, x)))
    same_reader e zero refused n = not_here (3 * q + 0) (3 * ((r + 31) % 32) + 2) (λ x. absurd (omega (arith, place_is, e, x)))
    same_reader e (suc zero) took_visible n = not_here (3 * q + 1) (3 * ((r + 31) % 32) + 0) (λ x. absurd (omega (arith, place_is, e, x)))
    same_reader e (suc zero) took_internal n = here_is (3 * q + 1) (3 * ((r + 31) % 32) + 1) (omega (arith, place_is, e))
    same_reader e (suc zero) refused n = not_here (3 * q + 1) (3 * ((r + 31) % 32) + 2) (λ x. absurd (omega (arith, place_is, e, x)))
    same_reader e (suc (suc zero)) took_visible n = not_here (3 * q + 2) (3 * ((r + 31) % 32) + 0) (λ x. absurd (omega (arith, place_is, e, x)))
    same_reader e (suc (suc zero)) took_internal n = not_here (3 * q + 2) (3 * ((r + 31) % 32) + 1) (λ x. absurd (omega (arith, place_is, e, x)))
    same_reader e (suc (suc zero)) refused n = here_is (3 * q + 2) (3 * ((r + 31) % 32) + 2) (omega (arith, place_is, e))
    same_reader e (suc (suc (suc p))) o n = let z : ⊥ = omega (arith, n) in absurd z

    go : (b : Bool) → (r == suc q) ≡ b → here (3 * q + p) (3 * ((r + 31) % 32) + outcome_place o) ≡ cond b (cond (kind p o) 1 0) 0
    go true e = same_reader (eqb-true r (suc q) e) p o m
    go false e =
        let n : r ≡ suc q → ⊥ = eqb-false r (suc q) e in
        not_here (3 * q + p) (3 * ((r + 31) % 32) + outcome_place o) (λ x. n (omega (arith, place_is, h.0, m, place_below o, x)))

times_tally : (q p : ℕ) (rs : List ℕ) (os : List Outcome) → q < 32 → p < 3 → All CardReader rs → times q p rs os ≡ tally (kind p) (at_reader (suc q) rs os)
unfolding times tally at_reader
times_tally q p [] os l m h = refl
times_tally q p (r ∷ rs) [] l m h = refl
times_tally q p (r ∷ rs) (o ∷ os) l m h = go (r == suc q) (counted_here q p r o l m h.0) (times_tally q p rs os l m h.1)
  where
    inner : (c : Bool) {n k : ℕ} → n ≡ cond c 1 0 → k ≡ tally (kind p) (at_reader (suc q) rs os) → n + k ≡ cond c (suc (tally (kind p) (at_reader (suc q) rs os))) (tally (kind p) (at_reader (suc q) rs os))
    inner true e f = omega (arith, e, f)
    inner false e f = omega (arith, e, f)

    go : (b : Bool) {n k : ℕ} → n ≡ cond b (cond (kind p o) 1 0) 0 → k ≡ tally (kind p) (at_reader (suc q) rs os)
        → n + k ≡ tally (kind p) (cond b (o ∷ at_reader (suc q) rs os) (at_reader (suc q) rs os))
    go true e f = inner (kind p o) e f
    go false e f = omega (arith, e, f)

kind_count : (p : ℕ) (os : List Outcome) → p < 3 → slice_index (counts_of os) p ≡ tally (kind p) os
kind_count zero os l = refl
kind_count (suc zero) os l = refl
kind_count (suc (suc zero)) os l = refl
kind_count (suc (suc (suc p))) os l = let z : ⊥ = omega (arith, l) in absurd z

-- ── the table ──

-- Counts may be reduced before they are added.
sums_alike : (xs ys zs : List ℕ) → length ys ≡ length zs → ((i : ℕ) → i < length ys → slice_index ys i % 4294967296 ≡ slice_index zs i % 4294967296) → sums xs ys ≡ sums xs zs
unfolding sums
sums_alike [] ys zs l e = refl
sums_alike (x ∷ xs) [] [] l e = refl
sums_alike (x ∷ xs) [] (z ∷ zs) l e = let q : ⊥ = omega (arith, l) in absurd q
sums_alike (x ∷ xs) (y ∷ ys) [] l e = let q : ⊥ = omega (arith, l) in absurd q
sums_alike (x ∷ xs) (y ∷ ys) (z ∷ zs) l e =
    let first : y % 4294967296 ≡ z % 4294967296 = e 0 (omega arith) in
    let sum : (x + y) % 4294967296 ≡ (x + z) % 4294967296 = omega (arith, first) in
    let k : length ys ≡ length zs = omega (arith, l) in
    λ j. sum j ∷ sums_alike xs ys zs k (λ i h. e (suc i) (omega (arith, h))) j

-- What a run counts, from nothing, increases the table as the specification says.
abbrev pub zeros : List ℕ
zeros = replicate 96 0

zero_at : (n i : ℕ) → ◌≡◌ {A = ℕ} (slice_index (replicate n 0) i) 0
zero_at zero i = refl
zero_at (suc n) zero = refl
zero_at (suc n) (suc i) = zero_at n i

zeros_length : length zeros ≡ 96
zeros_length = length-replicate {A = ℕ} 96 0

module _ (rs : List ℕ) (os : List Outcome) (right : All CardReader rs) where
  abbrev counted : List ℕ
  counted = counted_by zeros rs os

  entry_right : (i : ℕ) → i < 96 → slice_index counted i % 4294967296 ≡ slice_index (counts_by_reader rs os) i % 4294967296
  entry_right i l =
      let q = i / 3 in
      let p = i % 3 in
      let is : 3 * q + p ≡ i = omega arith in
      let m : q < 32 = omega (arith, l) in
      let n : p < 3 = omega arith in
      let none : slice_index_or zeros (3 * q + p) 0 + times q p rs os ≡ times q p rs os = omega (arith, zero_at 96 (3 * q + p)) in
      let one : 1 + q ≡ suc q = omega arith in
      ap (λ (k : ℕ). slice_index counted k % 4294967296) (sym is)
      ∙ (counted_entry zeros rs os q p zeros_length
      ∙ (ap (λ (k : ℕ). k % 4294967296) (none ∙ (times_tally q p rs os m n right ∙ sym (kind_count p (at_reader (suc q) rs os) n)))
      ∙ (ap (λ (k : ℕ). slice_index (counts_of (at_reader k rs os)) p % 4294967296) (sym one)
      ∙ (ap (λ (k : ℕ). k % 4294967296) (sym (counts_at readers q p 1 rs os m n)) ∙ ap (λ (k : ℕ). slice_index (counts_by_reader rs os) k % 4294967296) is))))

  pub counted_increases : (table : List ℕ) → increased counted table ≡ increased (counts_by_reader rs os) table
  unfolding increased
  counted_increases table =
      let many : length counted ≡ 96 = counted_length zeros rs os ∙ zeros_length in
      ap (λ (ns : List ℕ). written (double_words ns) table)
      (sums_alike _ counted (counts_by_reader rs os) (many ∙ sym (counts_length readers 1 rs os)) (λ i l. entry_right i (omega (arith, many, l))))
