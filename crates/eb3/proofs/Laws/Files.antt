-- Every well-formed rule set that fits into 64 blocks is admitted from its file, as itself (document 01, "Blocks and the rule stream");
-- so admission refuses no file that it should admit.
use Rattle.std.specs.Prelude.{◌≡◌, refl, List, [], ◌∷◌, ◌++◌, ℕ, zero, suc, ◌+◌, ◌-◌, ◌*◌, ◌/◌, ◌%◌, ◌≤◌, ◌<◌, eqb, leb, ltb, length, take, replicate}
use Rattle.std.proofs.Math.Path.{ap, sym}
use Rattle.std.proofs.Common.{◌∙◌, subst, arith, le→leb, lt→ltb, length-append, length-drop, take-append-drop, drop_of_length-le, take_at, drop_at, length-take-le}
use Rattle.std.proofs.Math.Dec.{T, eqb_refl}
use Rattle.std.proofs.Math.ListN.{drop, get_or}
use Rattle.std.proofs.lemmas.List.{length-replicate}
use Rattle.eb3.specs.Limits
use Rattle.eb3.specs.Generic.Booleans.{T_and}
use Rattle.eb3.specs.Sizes.{reach, breadth}
use Rattle.eb3.specs.Editions.{Edition, edition_of, Defined}
use Rattle.eb3.proofs.Laws.Editions.{edition_proper}
use Rattle.eb3.specs.Refusal
use Rattle.eb3.specs.RuleSets.{RuleSet}
use Rattle.eb3.specs.Unfolding.{unfold_main}
use Rattle.eb3.specs.WellFormedness.{WellFormed}
use Rattle.eb3.specs.RuleSpelling.{rules_words, stream_words}
use Rattle.eb3.specs.RuleReading.{read_rules}
use Rattle.eb3.specs.Bytes.{words_in, bytes_of}
use Rattle.eb3.specs.Answers.{Answer, answered, and_then, or_refused}
use Rattle.eb3.specs.Blocks.{Sums, add_byte, sums_from, block_bytes, content_bytes, content_words, content, block_right, blocks_right, contents, block_count, stream, whole_blocks, edition_in, Opened, open_blocks}
use Rattle.eb3.specs.Files.{block_sums, block_of, blocks_from, words_used, blocks_needed, file_of}
use Rattle.eb3.specs.Admission.{all_zero, ends_right, ended, within_limits, admission}
use Rattle.eb3.proofs.Laws.Bytes.{bytes_length, bytes_back}
use Rattle.eb3.proofs.Laws.Reading.{pick_true}
use Rattle.eb3.proofs.Laws.RuleReadingComplete.{rules_takes}
use Rattle.eb3.proofs.Laws.RuleSpelling.{rules_small}
use Rattle.eb3.proofs.Laws.Spelling.{Small, small_append}
use Rattle.eb3.specs.Generic.AllLists.{All, all_append}

pub eq→eqb : (m n : ℕ) → m ≡ n → T (eqb m n)
eq→eqb m n e = subst (λ x. T (eqb m x)) e (eqb_refl m)

-- ── one block ──

block_length : (i : ℕ) (c : List ℕ) → length (block_of i c) ≡ 4 + length c
unfolding block_of bytes_of
block_length i c = omega arith

-- A block made by `block_of` passes the tests of a block: its number is i and its sums are right.
block_good : (i : ℕ) (c : List ℕ) → i < 65536 → T (block_right i (block_of i c))
unfolding block_right block_of bytes_of
block_good i c h =
    let e : i % 256 + 256 * (i / 256 % 256) ≡ i = omega arith in
    T_and (eqb (i % 256 + 256 * (i / 256 % 256)) i) _ (eq→eqb (i % 256 + 256 * (i / 256 % 256)) i e)
    (T_and (eqb (block_sums i c).a (block_sums i c).a) _ (eqb_refl (block_sums i c).a) (eqb_refl (block_sums i c).b))

block_content : (i : ℕ) (c : List ℕ) → content (block_of i c) ≡ c
unfolding block_of bytes_of
block_content i c = refl

-- ── n blocks ──

-- The first of n + 1 blocks and the rest, cut apart again.
module _ (i n : ℕ) (bytes : List ℕ) (l : length bytes ≡ content_bytes * suc n) where
  abbrev first : List ℕ
  first = block_of i (take content_bytes bytes)

  abbrev others : List ℕ
  others = blocks_from (suc i) n (drop content_bytes bytes)

  first_length : length first ≡ block_bytes
  first_length = omega (arith, block_length i (take content_bytes bytes), length-take-le content_bytes bytes (omega arith))

  first_cut : take block_bytes (first ++ others) ≡ first
  first_cut = take_at first others block_bytes first_length

  others_cut : drop block_bytes (first ++ others) ≡ others
  others_cut = drop_at first others block_bytes first_length

  others_bytes : length (drop content_bytes bytes) ≡ content_bytes * n
  others_bytes = omega (arith, length-drop content_bytes bytes)

blocks_length : (i n : ℕ) (bytes : List ℕ) → length bytes ≡ content_bytes * n → length (blocks_from i n bytes) ≡ block_bytes * n
unfolding blocks_from
blocks_length i zero bytes l = refl
blocks_length i (suc n) bytes l =
    omega (arith, length-append (first i n bytes l) (others i n bytes l), first_length i n bytes l, blocks_length (suc i) n (drop content_bytes bytes) (others_bytes i n bytes l))

blocks_good : (i n : ℕ) (bytes : List ℕ) → length bytes ≡ content_bytes * n → i + n ≤ 65536 → T (blocks_right i n (blocks_from i n bytes))
unfolding blocks_from blocks_right
blocks_good i zero bytes l h = tt
blocks_good i (suc n) bytes l h =
    T_and (block_right i (take block_bytes (first i n bytes l ++ others i n bytes l))) (blocks_right (suc i) n (drop block_bytes (first i n bytes l ++ others i n bytes l)))
    (subst (λ s. T (block_right i s)) (sym (first_cut i n bytes l)) (block_good i (take content_bytes bytes) (omega arith)))
    (subst (λ s. T (blocks_right (suc i) n s)) (sym (others_cut i n bytes l)) (blocks_good (suc i) n (drop content_bytes bytes) (others_bytes i n bytes l) (omega arith)))

blocks_contents : (i n : ℕ) (bytes : List ℕ) → length bytes ≡ content_bytes * n → contents n (blocks_from i n bytes) ≡ bytes
unfolding blocks_from contents
blocks_contents i zero bytes l = let h : length bytes ≤ 0 = omega arith in sym (drop_of_length-le bytes h)
blocks_contents i (suc n) bytes l =
    ap (λ s. content s ++ contents n (drop block_bytes (first i n bytes l ++ others i n bytes l))) (first_cut i n bytes l)
    ∙ (ap (λ s. content (first i n bytes l) ++ contents n s) (others_cut i n bytes l)
    ∙ (ap (λ s. content (first i n bytes l) ++ s) (blocks_contents (suc i) n (drop content_bytes bytes) (others_bytes i n bytes l))
    ∙ (ap (λ s. s ++ drop content_bytes bytes) (block_content i (take content_bytes bytes)) ∙ take-append-drop content_bytes bytes)))

-- ── the stream ──

-- The blocks of a stream of the edition, the number n of blocks, and then the words us.
module _ (L : Edition) (defined : Defined L) (n : ℕ) (us : List ℕ) (small : Small us) (l : 2 + length us ≡ content_words * n) (few : n ≤ 64) where
  abbrev all_words : List ℕ
  all_words = L.number ∷ n ∷ us

  abbrev file : List ℕ
  file = blocks_from 0 n (bytes_of all_words)

  bytes_fill : length (bytes_of all_words) ≡ content_bytes * n
  bytes_fill = omega (arith, bytes_length all_words)

  file_length : length file ≡ block_bytes * n
  file_length = blocks_length 0 n (bytes_of all_words) bytes_fill

  file_blocks : block_count file ≡ n
  file_blocks = omega (arith, file_length)

  file_stream : stream file ≡ all_words
  file_stream =
      ap (λ m. words_in (contents m file)) file_blocks
      ∙ (ap words_in (blocks_contents 0 n (bytes_of all_words) bytes_fill) ∙ bytes_back all_words ((edition_proper L defined).numbered.1, (omega arith, small)))

  edition_there : edition_in file ≡ answered L
  unfolding edition_in
  edition_there =
      pick_true _ _ (eqb (get_or (stream file) 1 0) (block_count file)) (eq→eqb (get_or (stream file) 1 0) (block_count file) (ap (λ s. get_or s 1 0) file_stream ∙ sym file_blocks))
      ∙ ap (or_refused Refusal.edition) (ap (λ s. edition_of (get_or s 0 0)) file_stream ∙ defined)

  abbrev reopened : List ℕ → Answer Opened
  reopened s = answered (record { edition = L; words = drop 2 s })

  file_opens : open_blocks file ≡ answered (record { edition = L; words = us })
  unfolding open_blocks and_then
  file_opens =
      pick_true _ _ (whole_blocks file) whole
      ∙ (pick_true _ _ (blocks_right 0 (block_count file) file) right
      ∙ (ap (λ a. and_then a λ L. answered (record { edition = L; words = drop 2 (stream file) })) edition_there ∙ ap reopened file_stream))
    where
      whole : T (whole_blocks file)
      whole =
          T_and (eqb (length file % block_bytes) 0) _ (eq→eqb (length file % block_bytes) 0 (omega (arith, file_length)))
          (T_and (leb 1 (block_count file)) (leb (block_count file) 64) (le→leb 1 (block_count file) (omega (arith, file_blocks))) (le→leb (block_count file) 64 (omega (arith, file_blocks))))

      right : T (blocks_right 0 (block_count file) file)
      right = subst (λ m. T (blocks_right 0 m file)) (sym file_blocks) (blocks_good 0 n (bytes_of all_words) bytes_fill (omega arith))

-- ── admission ──

zeros_good : (m : ℕ) → T (all_zero (replicate m 0))
unfolding all_zero
zeros_good zero = tt
zeros_good (suc m) = zeros_good m

-- The words after the last used word are fewer than a block's content has, and zero.
pub ends_good : (m : ℕ) → m < content_words → T (ends_right (replicate m 0))
ends_good m h = T_and (ltb (length (replicate m 0)) content_words) (all_zero (replicate m 0)) (lt→ltb (length (replicate m 0)) content_words (omega (arith, length-replicate {A = ℕ} m 0))) (zeros_good m)

zeros_small : (m : ℕ) → Small (replicate m 0)
zeros_small zero = tt
zeros_small (suc m) = (omega arith, zeros_small m)

rules_end : (R : RuleSet) (m : ℕ) → WellFormed R → m < content_words → ended (read_rules R.edition (rules_words R ++ replicate m 0)) ≡ answered R
unfolding ended
rules_end R m w h = ap ended (rules_takes R.edition R (replicate m 0) (w.form, refl)) ∙ pick_true _ _ (ends_right (replicate m 0)) (ends_good m h)

limits_kept : (R : RuleSet) → WellFormed R → within_limits R ≡ answered R
unfolding within_limits
limits_kept R w =
    (pick_true _ _ (leb (reach R.edition.width (unfold_main R)) Limits.reach) (le→leb (reach R.edition.width (unfold_main R)) Limits.reach w.reach_limit)
    ∙ pick_true _ _ (leb (breadth (unfold_main R)) Limits.breadth) (le→leb (breadth (unfold_main R)) Limits.breadth w.breadth_limit))

pub file_admitted : (R : RuleSet) → WellFormed R → blocks_needed R ≤ 64 → admission (file_of R) ≡ answered R
unfolding admission file_of stream_words and_then
file_admitted R w few =
    ap (λ r. and_then (and_then r λ o. ended (read_rules o.edition o.words)) within_limits) opens
    ∙ (ap (λ r. and_then r within_limits) (rules_end R unused w (omega arith)) ∙ limits_kept R w)
  where
    unused : ℕ
    unused = content_words * blocks_needed R - words_used R

    filled : 2 + length (rules_words R ++ replicate unused 0) ≡ content_words * blocks_needed R
    filled = omega (arith, length-append (rules_words R) (replicate unused 0), length-replicate {A = ℕ} unused 0)

    opens : open_blocks (file_of R) ≡ answered (record { edition = R.edition; words = rules_words R ++ replicate unused 0 })
    opens = file_opens R.edition w.defined (blocks_needed R) (rules_words R ++ replicate unused 0) (small_append (rules_words R) (replicate unused 0) (rules_small R w.form) (zeros_small unused)) filled few

-- ── bytes ──

abbrev Bytes : List ℕ → Type 0
Bytes s = All (λ b. b < 256) s

bytes_small : (ws : List ℕ) → Bytes (bytes_of ws)
unfolding bytes_of
bytes_small [] = tt
bytes_small (w ∷ ws) = (omega arith, (omega arith, bytes_small ws))

all_take : (n : ℕ) (s : List ℕ) → Bytes s → Bytes (take n s)
all_take zero s p = tt
all_take (suc n) [] p = tt
all_take (suc n) (b ∷ s) p = (p.0, all_take n s p.1)

all_drop : (n : ℕ) (s : List ℕ) → Bytes s → Bytes (drop n s)
all_drop zero s p = p
all_drop (suc n) [] p = tt
all_drop (suc n) (b ∷ s) p = all_drop n s p.1

sums_small : (m : Sums) (s : List ℕ) → (m.a < 256) × (m.b < 256) → ((sums_from m s).a < 256) × ((sums_from m s).b < 256)
unfolding sums_from
sums_small m [] h = h
sums_small m (b ∷ s) h = sums_small (add_byte m b) s (omega arith, omega arith)

blocks_small : (i n : ℕ) (s : List ℕ) → Bytes s → Bytes (blocks_from i n s)
unfolding blocks_from block_of
blocks_small i zero s p = tt
blocks_small i (suc n) s p =
    let h = sums_small (record { a = 0; b = 0 }) (bytes_of (i ∷ []) ++ take content_bytes s) (omega arith, omega arith) in
    all_append (λ b. b < 256) (block_of i (take content_bytes s)) (blocks_from (suc i) n (drop content_bytes s))
    (all_append (λ b. b < 256) (bytes_of (i ∷ [])) _ (bytes_small (i ∷ [])) (h.0, (h.1, all_take content_bytes s p))) (blocks_small (suc i) n (drop content_bytes s) (all_drop content_bytes s p))

-- A file is made of bytes.
pub file_bytes : (R : RuleSet) → Bytes (file_of R)
unfolding file_of
file_bytes R = blocks_small 0 (blocks_needed R) _ (bytes_small _)
