-- Run's list and table by card reader (document 02, K1): what 13 lets through in the terms of Demanded (`lets`, `through`, `let_through?`), the list with one
-- number more (`through_more`, `numbers_more`), and the table that a run leaves (`table_left`).
use Rattle.std.specs.Prelude.{◌≡◌, refl, Bool, true, false, ◌&&◌, cond, List, [], ◌∷◌, ◌++◌, ◌⊎◌, ℕ, suc, ◌+◌, ◌*◌, ◌/◌, ◌%◌, ◌≤◌, T, eqb, leb, length, drop}
use Rattle.std.proofs.Common.{ap, sym, ◌∙◌, subst, inl, inr, arith, le→leb}
use Rattle.std.proofs.Math.Path.{fun_ext}
use Rattle.eb3.specs.Generic.Booleans.{T_and, T_fst, T_snd}
use Rattle.eb3.specs.Generic.Lists.{concat_map}
use Rattle.eb3.specs.TransitionSystems.{Outcome, visible?, internal?, refused?, tally}
use Rattle.eb3.specs.Bytes.{words_in, bytes_of, doubles_in, double_words, written}
use Rattle.eb3.specs.Readers.{numbers_of, readers_of, numbers_in, readers_in, reader?, all_read, lets_through, at_reader, counts_of, counts_from, counts_by_reader, sums, increased}
use Rattle.eb3.proofs.Laws.Readers.{is_reader, numbers_append, all_read_append, through_read, through_records, let_through}
use Rattle.demanded.specs.Demanded.{Paired, LetThrough, counted_at, all_readers, counts, four_bytes, counted_up}

-- ── refusal 13 ──

pub paired_numbers : {ws ns rs : List ℕ} → Paired ws ns rs → ns ≡ numbers_of ws
unfolding numbers_of
paired_numbers Paired.none = refl
paired_numbers (Paired.pair {k} l h p) = ap (λ ns. k ∷ ns) (paired_numbers p)

pub paired_readers : {ws ns rs : List ℕ} → Paired ws ns rs → rs ≡ readers_of ws
unfolding readers_of
paired_readers Paired.none = refl
paired_readers (Paired.pair {r = r} l h p) = ap (λ rs. r ∷ rs) (paired_readers p)

paired_read : {ws ns rs : List ℕ} → Paired ws ns rs → T (all_read ws)
unfolding all_read
paired_read Paired.none = tt
paired_read (Paired.pair {r = r} {ws} l h p) = T_and (reader? r) (all_read ws) (T_and (leb 1 r) (leb r 32) (le→leb 1 r l) (le→leb r 32 h)) (paired_read p)

read_paired : (ws : List ℕ) → T (all_read ws) → Paired ws (numbers_of ws) (readers_of ws)
unfolding all_read numbers_of readers_of
read_paired [] t = Paired.none
read_paired (k ∷ []) t = absurd t
read_paired (k ∷ r ∷ ws) t = let b = is_reader r (T_fst (reader? r) (all_read ws) t) in Paired.pair b.0 b.1 (read_paired ws (T_snd (reader? r) (all_read ws) t))

module _ (list table : List ℕ) where
  pub lets : T (lets_through list table) → LetThrough list table (numbers_in list) (readers_in list)
  lets t = record { paired = read_paired (words_in list) (through_read list table t); records = through_records list table t }

  pub through : {ns rs : List ℕ} → LetThrough list table ns rs → T (lets_through list table)
  through x = let_through list table (paired_read x.paired) x.records

  pub let_through? : LetThrough list table (numbers_in list) (readers_in list) ⊎ ((ns rs : List ℕ) → LetThrough list table ns rs → ⊥)
  let_through? = go (lets_through list table) lets (λ ns rs x. through x)
    where
      go : (b : Bool) → (T b → LetThrough list table (numbers_in list) (readers_in list)) → ((ns rs : List ℕ) → LetThrough list table ns rs → T b)
          → LetThrough list table (numbers_in list) (readers_in list) ⊎ ((ns rs : List ℕ) → LetThrough list table ns rs → ⊥)
      go true f g = inl (f tt)
      go false f g = inr g

-- ── one number more, at a reader ──

one_read : (k r : ℕ) → T (reader? r) → T (all_read (k ∷ r ∷ []))
unfolding all_read
one_read k r q = T_and (reader? r) true q tt

one_number : (k r : ℕ) → numbers_of (k ∷ r ∷ []) ≡ k ∷ []
unfolding numbers_of
one_number k r = refl

module _ (list list' table : List ℕ) (k r : ℕ) (t : T (lets_through list table)) (f : words_in list' ≡ words_in list ++ (k ∷ r ∷ [])) where
  pub through_more : T (reader? r) → T (lets_through list' table)
  through_more q = let_through list' table (subst (λ ws. T (all_read ws)) (sym f) (all_read_append (words_in list) (k ∷ r ∷ []) (through_read list table t) (one_read k r q))) (through_records list table t)

  pub numbers_more : numbers_in list' ≡ numbers_in list ++ (k ∷ [])
  numbers_more = ap numbers_of f ∙ (numbers_append (words_in list) (k ∷ r ∷ []) (through_read list table t) ∙ ap (λ ks. numbers_in list ++ ks) (one_number k r))

-- ── counts by reader ──

-- A reader's count is eb3's, and so are all of them.
counted_is : (kind : Outcome → Bool) (r : ℕ) (rs : List ℕ) (os : List Outcome) → counted_at kind r rs os ≡ tally kind (at_reader r rs os)
unfolding counted_at at_reader tally
counted_is kind r [] os = refl
counted_is kind r (x ∷ rs) [] = refl
counted_is kind r (x ∷ rs) (o ∷ os) = go (eqb x r) (counted_is kind r rs os)
  where
    one : (c : Bool) → counted_at kind r rs os ≡ tally kind (at_reader r rs os)
        → cond c 1 0 + counted_at kind r rs os ≡ cond c (suc (tally kind (at_reader r rs os))) (tally kind (at_reader r rs os))
    one true e = omega (arith, e)
    one false e = omega (arith, e)

    go : (b : Bool) → counted_at kind r rs os ≡ tally kind (at_reader r rs os)
        → cond (b && kind o) 1 0 + counted_at kind r rs os ≡ tally kind (cond b (o ∷ at_reader r rs os) (at_reader r rs os))
    go true e = one (kind o) e
    go false e = omega (arith, e)

counts_are : (rs : List ℕ) (os : List Outcome) → counts rs os ≡ counts_by_reader rs os
unfolding counts_from
counts_are rs os = ap (λ f. concat_map f all_readers) (fun_ext record_is)
  where
    record_is : (r : ℕ) → Path (List ℕ) (counted_at visible? r rs os ∷ counted_at internal? r rs os ∷ counted_at refused? r rs os ∷ []) (counts_of (at_reader r rs os))
    record_is r = λ i. counted_is visible? r rs os i ∷ counted_is internal? r rs os i ∷ counted_is refused? r rs os i ∷ []

-- ── the table ──

-- The four bytes of a number are those of its two words.
high_byte : (n : ℕ) → n / 256 % 256 ≡ n % 65536 / 256 % 256
high_byte n = omega arith

module _ (n : ℕ) where
  abbrev low_word : ℕ
  low_word = n % 4294967296 % 65536

  abbrev high_word : ℕ
  high_word = n % 4294967296 / 65536

  low_is : n % 65536 ≡ low_word
  low_is = omega arith

  high_is : n / 65536 % 65536 ≡ high_word
  high_is = omega arith

  byte_0 : n % 256 ≡ low_word % 256
  byte_0 = omega arith

  byte_1 : n / 256 % 256 ≡ low_word / 256 % 256
  byte_1 = high_byte n ∙ ap (λ (w : ℕ). w / 256 % 256) low_is

  byte_2 : n / 65536 % 256 ≡ high_word % 256
  byte_2 = omega (arith, high_is)

  byte_3 : n / 16777216 % 256 ≡ high_word / 256 % 256
  byte_3 = let e : n / 16777216 ≡ n / 65536 / 256 = omega arith in ap (λ (w : ℕ). w % 256) e ∙ (high_byte (n / 65536) ∙ ap (λ (w : ℕ). w / 256 % 256) high_is)

none_summed : (xs : List ℕ) → sums xs [] ≡ []
unfolding sums
none_summed [] = refl
none_summed (x ∷ xs) = refl

-- Four bytes at a time.
counted_up_is : (ns table : List ℕ) → 4 * length ns ≤ length table → counted_up ns table ≡ increased ns table
unfolding counted_up increased written bytes_of double_words doubles_in words_in sums
counted_up_is [] table l = sym (ap (λ ms. written (double_words ms) table) (none_summed (doubles_in (words_in table))))
counted_up_is (n ∷ ns) [] l = let z : ⊥ = omega (arith, l) in absurd z
counted_up_is (n ∷ ns) (a ∷ []) l = let z : ⊥ = omega (arith, l) in absurd z
counted_up_is (n ∷ ns) (a ∷ b ∷ []) l = let z : ⊥ = omega (arith, l) in absurd z
counted_up_is (n ∷ ns) (a ∷ b ∷ c ∷ []) l = let z : ⊥ = omega (arith, l) in absurd z
counted_up_is (n ∷ ns) (a ∷ b ∷ c ∷ d ∷ table) l =
    let m = a + 256 * b + 65536 * (c + 256 * d) + n in
    let sum : a + 256 * b + 65536 * c + 16777216 * d + n ≡ m = omega arith in
    let ws = double_words (sums (doubles_in (words_in table)) ns) in
    let past : suc (suc (suc (suc (2 * length ws)))) ≡ 2 * suc (suc (length ws)) = omega arith in
    let fewer : 4 * length ns ≤ length table = omega (arith, l) in
    let rest : counted_up ns table ≡ bytes_of ws ++ drop (2 * suc (suc (length ws))) (a ∷ b ∷ c ∷ d ∷ table) =
    counted_up_is ns table fewer ∙ ap (λ (k : ℕ). bytes_of ws ++ drop k (a ∷ b ∷ c ∷ d ∷ table)) past in
    ap (λ (k : ℕ). four_bytes k ++ counted_up ns table) sum ∙ (λ i. byte_0 m i ∷ byte_1 m i ∷ byte_2 m i ∷ byte_3 m i ∷ rest i)

pub table_left : (rs : List ℕ) (os : List Outcome) (table : List ℕ) → 32 ≤ length table / 12 → counted_up (counts rs os) table ≡ increased (counts_by_reader rs os) table
table_left rs os table l = counted_up_is (counts rs os) table (omega (arith, l)) ∙ ap (λ ns. increased ns table) (counts_are rs os)
