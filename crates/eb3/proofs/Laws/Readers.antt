-- Run's list and table by card reader (document 02, K1): lists one after the other; after a run every reader's record is increased by its counts, the rest
-- keeps its value, and the readers' counts add up to the machine's (`table_after`).
use Rattle.std.specs.Prelude.{◌≡◌, Bool, T, eqb, leb}
use Rattle.std.proofs.Math.Path.{refl, ap, sym}
use Rattle.std.proofs.Common.{◌∙◌, le→leb, eqb-true, ne_eqb}
use Rattle.std.proofs.Math.Bool.{true, false, cond}
use mathlib.Core.List.{List, [], ◌∷◌, ◌++◌}
use Prim.Native.Nat.{ℕ, zero, suc, ◌+◌, ◌-◌, ◌*◌, ◌/◌, ◌%◌, ◌≤◌, ◌<◌}
use native.Mathlib.Omega.{arith}
use Rattle.std.proofs.Math.Dec.{leb→le}
use Rattle.std.proofs.Math.ListN.{length, get_or, drop, get_or-append}
use Rattle.std.proofs.Math.Seq.{drop-append_seam}
use Rattle.std.proofs.lemmas.Bool.{eqb-false}
use Rattle.eb3.specs.Generic.AllLists.{All}
use Rattle.eb3.specs.Generic.Booleans.{T_and, T_fst, T_snd}
use Rattle.eb3.specs.Limits
use Rattle.eb3.specs.TransitionSystems.{TransitionSystem, Outcome, outcomes, visible?, internal?, refused?, tally}
use Rattle.eb3.proofs.Laws.TransitionSystems.{outcomes_length}
use Rattle.eb3.specs.Bytes.{words_in, bytes_of, doubles_in, double_words, written}
use Rattle.eb3.proofs.Laws.Bytes.{words_counted, bytes_length, written_length, written_words}
use Rattle.eb3.proofs.Laws.Spelling.{Small}
use Rattle.eb3.specs.Readers.{numbers_of, readers_of, reader?, all_read, record_count, lets_through, at_reader, counts_of, counts_from, counts_by_reader, sums, increased, record_number, sum_to, column_sum}
use Rattle.eb3.specs.Demands.{TableAfter}

-- ── the list ──

-- As many numbers as readers, half as many as words.
pub numbers_length : (ws : List ℕ) → length (numbers_of ws) ≡ length ws / 2
unfolding numbers_of
numbers_length [] = refl
numbers_length (k ∷ []) = refl
numbers_length (k ∷ r ∷ ws) = omega (arith, numbers_length ws)

pub readers_length : (ws : List ℕ) → length (readers_of ws) ≡ length ws / 2
unfolding readers_of
readers_length [] = refl
readers_length (k ∷ []) = refl
readers_length (k ∷ r ∷ ws) = omega (arith, readers_length ws)

-- Number i and its reader are words 2 i and 2 i + 1.
pub numbers_at : (ws : List ℕ) (i : ℕ) → 2 * i + 1 < length ws → get_or (numbers_of ws) i 0 ≡ get_or ws (2 * i) 0
unfolding numbers_of
numbers_at [] i l = let z : ⊥ = omega (arith, l) in absurd z
numbers_at (k ∷ []) i l = let z : ⊥ = omega (arith, l) in absurd z
numbers_at (k ∷ r ∷ ws) zero l = refl
numbers_at (k ∷ r ∷ ws) (suc i) l =
    let less : 2 * i + 1 < length ws = omega (arith, l) in
    let e : suc (suc (2 * i)) ≡ 2 * suc i = omega arith in
    numbers_at ws i less ∙ ap (λ (n : ℕ). get_or (k ∷ r ∷ ws) n 0) e

pub readers_at : (ws : List ℕ) (i : ℕ) → 2 * i + 1 < length ws → get_or (readers_of ws) i 0 ≡ get_or ws (2 * i + 1) 0
unfolding readers_of
readers_at [] i l = let z : ⊥ = omega (arith, l) in absurd z
readers_at (k ∷ []) i l = let z : ⊥ = omega (arith, l) in absurd z
readers_at (k ∷ r ∷ ws) zero l = refl
readers_at (k ∷ r ∷ ws) (suc i) l =
    let less : 2 * i + 1 < length ws = omega (arith, l) in
    let e : suc (suc (2 * i + 1)) ≡ 2 * suc i + 1 = omega arith in
    readers_at ws i less ∙ ap (λ (n : ℕ). get_or (k ∷ r ∷ ws) n 0) e

-- One outcome a reader.
pub one_outcome_each : (L : TransitionSystem) (s : L.State) (ws : List ℕ) → length (readers_of ws) ≡ length (outcomes L s (numbers_of ws))
one_outcome_each L s ws = readers_length ws ∙ sym (outcomes_length L s (numbers_of ws) ∙ numbers_length ws)

-- After a list that lacks no reader a number comes next.
pub numbers_append : (ws us : List ℕ) → T (all_read ws) → numbers_of (ws ++ us) ≡ numbers_of ws ++ numbers_of us
unfolding all_read numbers_of
numbers_append [] us t = refl
numbers_append (k ∷ []) us t = absurd t
numbers_append (k ∷ r ∷ ws) us t = ap (λ ks. k ∷ ks) (numbers_append ws us (T_snd (reader? r) (all_read ws) t))

pub readers_append : (ws us : List ℕ) → T (all_read ws) → readers_of (ws ++ us) ≡ readers_of ws ++ readers_of us
unfolding all_read readers_of
readers_append [] us t = refl
readers_append (k ∷ []) us t = absurd t
readers_append (k ∷ r ∷ ws) us t = ap (λ rs. r ∷ rs) (readers_append ws us (T_snd (reader? r) (all_read ws) t))

pub all_read_append : (ws us : List ℕ) → T (all_read ws) → T (all_read us) → T (all_read (ws ++ us))
unfolding all_read
all_read_append [] us t u = u
all_read_append (k ∷ []) us t u = absurd t
all_read_append (k ∷ r ∷ ws) us t u =
    T_and (reader? r) (all_read (ws ++ us)) (T_fst (reader? r) (all_read ws) t) (all_read_append ws us (T_snd (reader? r) (all_read ws) t) u)

-- Every reader of a list that 13 lets through is 1 to 32.
abbrev pub CardReader : ℕ → Type 0
CardReader r = (1 ≤ r) × (r ≤ Limits.readers)

pub is_reader : (r : ℕ) → T (reader? r) → CardReader r
is_reader r t = (leb→le 1 r (T_fst (leb 1 r) (leb r Limits.readers) t), leb→le r Limits.readers (T_snd (leb 1 r) (leb r Limits.readers) t))

pub readers_right : (ws : List ℕ) → T (all_read ws) → All CardReader (readers_of ws)
unfolding all_read readers_of
readers_right [] t = tt
readers_right (k ∷ []) t = absurd t
readers_right (k ∷ r ∷ ws) t = (is_reader r (T_fst (reader? r) (all_read ws) t), readers_right ws (T_snd (reader? r) (all_read ws) t))

-- ── numbers of 32 bits in words ──

abbrev Small_32 : List ℕ → Type 0
Small_32 ns = All (λ n. n < 4294967296) ns

pub double_length : (ns : List ℕ) → length (double_words ns) ≡ 2 * length ns
unfolding double_words
double_length [] = refl
double_length (n ∷ ns) = omega (arith, double_length ns)

pub doubles_length : (ws : List ℕ) → length (doubles_in ws) ≡ length ws / 2
unfolding doubles_in
doubles_length [] = refl
doubles_length (a ∷ []) = refl
doubles_length (a ∷ b ∷ ws) = omega (arith, doubles_length ws)

double_small : (ns : List ℕ) → Small_32 ns → Small (double_words ns)
unfolding double_words
double_small [] h = tt
double_small (n ∷ ns) h = let l : n < 4294967296 = h.0 in (omega arith, (omega arith, double_small ns h.1))

doubles_back : (ns rest : List ℕ) → doubles_in (double_words ns ++ rest) ≡ ns ++ doubles_in rest
unfolding doubles_in double_words
doubles_back [] rest = refl
doubles_back (n ∷ ns) rest = let e : n % 65536 + 65536 * (n / 65536) ≡ n = omega arith in λ i. e i ∷ doubles_back ns rest i

-- ── sums ──

pub sums_length : (xs ys : List ℕ) → length ys ≤ length xs → length (sums xs ys) ≡ length ys
unfolding sums
sums_length [] [] l = refl
sums_length [] (y ∷ ys) l = let z : ⊥ = omega (arith, l) in absurd z
sums_length (x ∷ xs) [] l = refl
sums_length (x ∷ xs) (y ∷ ys) l = let k : length ys ≤ length xs = omega (arith, l) in omega (arith, sums_length xs ys k)

sums_small : (xs ys : List ℕ) → Small_32 (sums xs ys)
unfolding sums
sums_small [] ys = tt
sums_small (x ∷ xs) [] = tt
sums_small (x ∷ xs) (y ∷ ys) = (omega arith, sums_small xs ys)

pub sums_at : (xs ys : List ℕ) (i : ℕ) → length ys ≤ length xs → i < length ys → get_or (sums xs ys) i 0 ≡ (get_or xs i 0 + get_or ys i 0) % 4294967296
unfolding sums
sums_at [] [] i l h = let z : ⊥ = omega (arith, h) in absurd z
sums_at [] (y ∷ ys) i l h = let z : ⊥ = omega (arith, l) in absurd z
sums_at (x ∷ xs) [] i l h = let z : ⊥ = omega (arith, h) in absurd z
sums_at (x ∷ xs) (y ∷ ys) zero l h = refl
sums_at (x ∷ xs) (y ∷ ys) (suc i) l h = let k : length ys ≤ length xs = omega (arith, l) in let j : i < length ys = omega (arith, h) in sums_at xs ys i k j

-- ── counts by reader ──

pub counts_length : (n r : ℕ) (rs : List ℕ) (os : List Outcome) → length (counts_from n r rs os) ≡ 3 * n
unfolding counts_from
counts_length zero r rs os = refl
counts_length (suc n) r rs os = omega (arith, counts_length n (suc r) rs os)

-- The counts of reader r + i are at place 3 i.
pub counts_at : (n i j r : ℕ) (rs : List ℕ) (os : List Outcome) → i < n → j < 3 → get_or (counts_from n r rs os) (3 * i + j) 0 ≡ get_or (counts_of (at_reader (r + i) rs os)) j 0
unfolding counts_from
counts_at zero i j r rs os l h = let z : ⊥ = omega (arith, l) in absurd z
counts_at (suc n) zero j r rs os l h =
    let here : 3 * 0 + j ≡ j = omega arith in
    let same : r ≡ r + 0 = omega arith in
    ap (λ (k : ℕ). get_or (counts_from (suc n) r rs os) k 0) here ∙ (get_or-append (counts_of (at_reader r rs os)) (counts_from n (suc r) rs os) 0 j h
    ∙ ap (λ (k : ℕ). get_or (counts_of (at_reader k rs os)) j 0) same)
counts_at (suc n) (suc i) j r rs os l h =
    let past : 3 * suc i + j ≡ suc (suc (suc (3 * i + j))) = omega arith in
    let same : suc r + i ≡ r + suc i = omega arith in
    let less : i < n = omega (arith, l) in
    ap (λ (k : ℕ). get_or (counts_from (suc n) r rs os) k 0) past ∙ (counts_at n i j (suc r) rs os less h
    ∙ ap (λ (k : ℕ). get_or (counts_of (at_reader k rs os)) j 0) same)

-- ── the table ──

module _ (counts table : List ℕ) (room : 12 * Limits.readers ≤ length table) (many : length counts ≡ 3 * Limits.readers) where
  abbrev added : List ℕ
  added = sums (doubles_in (words_in table)) counts

  enough : length counts ≤ length (doubles_in (words_in table))
  enough = omega (arith, doubles_length (words_in table), words_counted table, room, many)

  added_many : length added ≡ 3 * Limits.readers
  added_many = sums_length (doubles_in (words_in table)) counts enough ∙ many

  words_many : length (double_words added) ≡ 6 * Limits.readers
  words_many = omega (arith, double_length added, added_many)

  increased_length : length (increased counts table) ≡ length table
  unfolding increased
  increased_length = written_length (double_words added) table (omega (arith, words_many, room))

  -- Number i of the table's first 96.
  increased_at : (i : ℕ) → i < 3 * Limits.readers → get_or (doubles_in (words_in (increased counts table))) i 0 ≡ (get_or (doubles_in (words_in table)) i 0 + get_or counts i 0) % 4294967296
  unfolding increased
  increased_at i h =
      let inside : i < length added = omega (arith, added_many, h) in
      let counted : i < length counts = omega (arith, many, h) in
      ap (λ (ws : List ℕ). get_or (doubles_in ws) i 0) (written_words (double_words added) table (double_small added (sums_small (doubles_in (words_in table)) counts)))
      ∙ (ap (λ (ns : List ℕ). get_or ns i 0) (doubles_back added (words_in (drop (2 * length (double_words added)) table)))
      ∙ (get_or-append added (doubles_in (words_in (drop (2 * length (double_words added)) table))) 0 i inside
      ∙ sums_at (doubles_in (words_in table)) counts i enough counted))

  increased_rest : drop (12 * Limits.readers) (increased counts table) ≡ drop (12 * Limits.readers) table
  unfolding increased written
  increased_rest =
      let n : 12 * Limits.readers ≡ length (bytes_of (double_words added)) = omega (arith, bytes_length (double_words added), words_many) in
      let m : 2 * length (double_words added) ≡ 12 * Limits.readers = omega (arith, words_many) in
      ap (λ (k : ℕ). drop k (bytes_of (double_words added) ++ drop (2 * length (double_words added)) table)) n
      ∙ (drop-append_seam (bytes_of (double_words added)) (drop (2 * length (double_words added)) table) ∙ ap (λ (k : ℕ). drop k table) m)

-- ── the readers' counts add up ──

sum_plus : (n : ℕ) (f g h : ℕ → ℕ) → ((r : ℕ) → f r ≡ g r + h r) → sum_to n f ≡ sum_to n g + sum_to n h
unfolding sum_to
sum_plus zero f g h e = refl
sum_plus (suc n) f g h e = omega (arith, sum_plus n f g h e, e (suc n))

-- One reader's part.
abbrev only : ℕ → ℕ → ℕ → ℕ
only x c r = cond (eqb x r) c 0

sum_none : (n x c : ℕ) → n < x → sum_to n (only x c) ≡ 0
unfolding sum_to
sum_none zero x c l = refl
sum_none (suc n) x c l =
    let less : n < x = omega (arith, l) in
    let apart : eqb x (suc n) ≡ false = ne_eqb x (suc n) (λ e. absurd (omega (arith, e, l))) in
    let here : only x c (suc n) ≡ 0 = ap (λ b. cond b c 0) apart in
    omega (arith, sum_none n x c less, here)

sum_one : (n x c : ℕ) → 1 ≤ x → x ≤ n → sum_to n (only x c) ≡ c
unfolding sum_to
sum_one zero x c l h = let z : ⊥ = omega (arith, l, h) in absurd z
sum_one (suc n) x c l h = go (eqb x (suc n)) refl (λ k. sum_one n x c l k)
  where
    go : (b : Bool) → eqb x (suc n) ≡ b → (x ≤ n → sum_to n (only x c) ≡ c) → sum_to n (only x c) + only x c (suc n) ≡ c
    go true e f =
        let is : x ≡ suc n = eqb-true x (suc n) e in
        let less : n < x = omega (arith, is) in
        let here : only x c (suc n) ≡ c = ap (λ b. cond b c 0) e in
        omega (arith, sum_none n x c less, here)
    go false e f =
        let less : x ≤ n = let d : x ≡ suc n → ⊥ = eqb-false x (suc n) e in omega (arith, h, d) in
        let here : only x c (suc n) ≡ 0 = ap (λ b. cond b c 0) e in
        omega (arith, f less, here)

module _ (p : Outcome → Bool) where
  one_if : Outcome → ℕ
  one_if o = cond (p o) 1 0

  tally_more : (o : Outcome) (os : List Outcome) → tally p (o ∷ os) ≡ one_if o + tally p os
  unfolding tally one_if
  tally_more o os = go (p o)
    where
      go : (b : Bool) → cond b (suc (tally p os)) (tally p os) ≡ cond b 1 0 + tally p os
      go true = omega arith
      go false = omega arith

  at_more : (x r : ℕ) (rs : List ℕ) (o : Outcome) (os : List Outcome) → tally p (at_reader r (x ∷ rs) (o ∷ os)) ≡ only x (one_if o) r + tally p (at_reader r rs os)
  unfolding at_reader
  at_more x r rs o os = go (eqb x r)
    where
      go : (b : Bool) → tally p (cond b (o ∷ at_reader r rs os) (at_reader r rs os)) ≡ cond b (one_if o) 0 + tally p (at_reader r rs os)
      go true = tally_more o (at_reader r rs os)
      go false = omega arith

  none_at : (r : ℕ) (os : List Outcome) → tally p (at_reader r [] os) ≡ 0
  unfolding at_reader tally
  none_at r os = refl

  sum_zero : (n : ℕ) (f : ℕ → ℕ) → ((r : ℕ) → f r ≡ 0) → sum_to n f ≡ 0
  unfolding sum_to
  sum_zero zero f e = refl
  sum_zero (suc n) f e = omega (arith, sum_zero n f e, e (suc n))

  readers_add_up : (rs : List ℕ) (os : List Outcome) → length rs ≡ length os → All CardReader rs → sum_to Limits.readers (λ r. tally p (at_reader r rs os)) ≡ tally p os
  unfolding tally
  readers_add_up [] [] l h = sum_zero Limits.readers (λ r. tally p (at_reader r [] [])) (λ r. none_at r [])
  readers_add_up [] (o ∷ os) l h = let z : ⊥ = omega (arith, l) in absurd z
  readers_add_up (x ∷ rs) [] l h = let z : ⊥ = omega (arith, l) in absurd z
  readers_add_up (x ∷ rs) (o ∷ os) l h =
      let k : length rs ≡ length os = omega (arith, l) in
      sum_plus Limits.readers (λ r. tally p (at_reader r (x ∷ rs) (o ∷ os))) (only x (one_if o)) (λ r. tally p (at_reader r rs os)) (λ r. at_more x r rs o os)
      ∙ (ap (λ (n : ℕ). n + sum_to Limits.readers (λ r. tally p (at_reader r rs os))) (sum_one Limits.readers x (one_if o) h.0.0 h.0.1)
      ∙ (ap (λ (n : ℕ). one_if o + n) (readers_add_up rs os k h.1) ∙ sym (tally_more o os)))

-- Sums of remainders.
sum_remainders : (n : ℕ) (f g h : ℕ → ℕ) → ((r : ℕ) → 1 ≤ r → r ≤ n → f r ≡ (g r + h r) % 4294967296) → sum_to n f % 4294967296 ≡ (sum_to n g + sum_to n h) % 4294967296
unfolding sum_to
sum_remainders zero f g h e = refl
sum_remainders (suc n) f g h e =
    let low : 1 ≤ suc n = omega arith in
    let high : suc n ≤ suc n = omega arith in
    let x : f (suc n) ≡ (g (suc n) + h (suc n)) % 4294967296 = e (suc n) low high in
    let y : sum_to n f % 4294967296 ≡ (sum_to n g + sum_to n h) % 4294967296 = sum_remainders n f g h (λ r l m. e r l (wider r n m)) in
    omega (arith, x, y)
  where
    wider : (r n : ℕ) → r ≤ n → r ≤ suc n
    wider r n l = omega (arith, l)

-- ── all of it ──

module _ (rs : List ℕ) (os : List Outcome) (table : List ℕ) (room : 12 * Limits.readers ≤ length table) (same : length rs ≡ length os) (right : All CardReader rs) where
  abbrev counts : List ℕ
  counts = counts_by_reader rs os

  many : length counts ≡ 3 * Limits.readers
  many = counts_length Limits.readers 1 rs os

  pub number_increase : (r j : ℕ) → 1 ≤ r → r ≤ Limits.readers → j < 3
      → record_number (increased counts table) r j ≡ (record_number table r j + get_or (counts_of (at_reader r rs os)) j 0) % 4294967296
  number_increase r j l h m =
      let i : 3 * (r - 1) + j < 3 * Limits.readers = omega (arith, l, h, m) in
      let less : r - 1 < Limits.readers = omega (arith, l, h) in
      let back : 1 + (r - 1) ≡ r = omega (arith, l) in
      increased_at counts table room many (3 * (r - 1) + j) i
      ∙ ap (λ (n : ℕ). (record_number table r j + n) % 4294967296) (counts_at Limits.readers (r - 1) j 1 rs os less m ∙ ap (λ (n : ℕ). get_or (counts_of (at_reader n rs os)) j 0) back)

  adds_up : (j : ℕ) (p : Outcome → Bool) → j < 3 → ((r : ℕ) → get_or (counts_of (at_reader r rs os)) j 0 ≡ tally p (at_reader r rs os))
      → column_sum j (increased counts table) % 4294967296 ≡ (column_sum j table + tally p os) % 4294967296
  adds_up j p m e =
      sum_remainders Limits.readers (λ r. record_number (increased counts table) r j) (λ r. record_number table r j) (λ r. tally p (at_reader r rs os))
      (λ r l h. number_increase r j l h m ∙ ap (λ (n : ℕ). (record_number table r j + n) % 4294967296) (e r))
      ∙ ap (λ (n : ℕ). (column_sum j table + n) % 4294967296) (readers_add_up p rs os same right)

  pub table_after : TableAfter rs os table (increased counts table)
  table_after = record {
    table_is = refl;
    visible_increase = λ r l h. number_increase r 0 l h (omega arith);
    internal_increase = λ r l h. number_increase r 1 l h (omega arith);
    refused_increase = λ r l h. number_increase r 2 l h (omega arith);
    rest_kept = increased_rest counts table room many;
    same_length = increased_length counts table room many;
    visible_adds_up = adds_up 0 visible? (omega arith) (λ r. refl);
    internal_adds_up = adds_up 1 internal? (omega arith) (λ r. refl);
    refused_adds_up = adds_up 2 refused? (omega arith) (λ r. refl);
  }

-- ── what 13 lets through ──

module _ (list table : List ℕ) where
  pub through_read : T (lets_through list table) → T (all_read (words_in list))
  unfolding lets_through
  through_read t = T_fst (all_read (words_in list)) (leb Limits.readers (record_count table)) t

  pub through_records : T (lets_through list table) → Limits.readers ≤ record_count table
  unfolding lets_through
  through_records t = leb→le Limits.readers (record_count table) (T_snd (all_read (words_in list)) (leb Limits.readers (record_count table)) t)

  pub let_through : T (all_read (words_in list)) → Limits.readers ≤ record_count table → T (lets_through list table)
  unfolding lets_through
  let_through t l = T_and (all_read (words_in list)) (leb Limits.readers (record_count table)) t (le→leb Limits.readers (record_count table) l)

  pub through_readers : T (lets_through list table) → All CardReader (readers_of (words_in list))
  through_readers t = readers_right (words_in list) (through_read t)

  pub through_room : T (lets_through list table) → 12 * Limits.readers ≤ length table
  through_room t = let h : Limits.readers ≤ record_count table = through_records t in omega (arith, h)
