-- Admission's answers are exactly what a file is admitted as or refused by (Admitting: `Admits`, `Refuses`, `AdmissionExact`; document 01, "Blocks and the rule
-- stream" and refusals 1 to 8).
use Rattle.std.specs.Prelude.{◌≡◌, Bool, ◌&&◌, List, [], ◌∷◌, ◌++◌, ◌⊎◌, leb, length, take, replicate}
use Rattle.std.proofs.Math.Path.{refl, ap, sym, subst}
use Rattle.std.proofs.Common.{◌∙◌, inl, inr, le→leb, drop-drop}
use Rattle.std.proofs.Math.Bool.{true, false}
use Rattle.std.proofs.Math.Option.{none, some}
use Prim.Native.Nat.{ℕ, zero, suc, ◌+◌, ◌*◌, ◌/◌, ◌%◌, ◌≤◌, ◌<◌}
use native.Mathlib.Omega.{arith}
use Rattle.std.proofs.Math.Dec.{T, eqb, eqb→eq, leb→le}
use Rattle.std.proofs.Math.ListN.{get_or, drop}
use Rattle.eb3.specs.Generic.Booleans.{T_and, T_fst, T_snd, T_or}
use Rattle.eb3.specs.Generic.Lists.{one_of}
use Rattle.eb3.specs.Editions.{edition_1, edition_of}
use Rattle.eb3.proofs.Laws.Editions.{edition_1_defined}
use Rattle.eb3.specs.RuleSets.{RuleSet}
use Rattle.eb3.specs.Reading.{Read, pick}
use Rattle.eb3.proofs.Laws.Reading.{pick_true, pick_false}
use Rattle.eb3.specs.RuleReading.{read_rules}
use Rattle.eb3.proofs.Laws.RuleReadingComplete.{rules_takes}
use Rattle.eb3.proofs.Laws.Refusals.{rules_refuse}
use Rattle.eb3.specs.Answers.{Answer, refused, answered, and_then, or_refused}
use Rattle.eb3.proofs.Laws.Answers.{answered_injective, refused_injective, not_both}
use Rattle.eb3.specs.Blocks.{Sums, sums, sums_from, block_right, blocks_right, block_count, stream, whole_blocks, edition_in, Opened, open_blocks}
use Rattle.eb3.specs.Admission.{ends_right, ended, within_limits, admission}
use Rattle.eb3.proofs.Laws.Admission.{two_words, read_whole}
use Rattle.eb3.proofs.Laws.Files.{eq→eqb, ends_good}
use Rattle.first_word.proofs.Laws.StreamRefusals.{refused_by_first}
use Rattle.demanded.specs.Admitting.{Whole, sums_over, block, BlockRight, BlocksRight, EditionRight, Holds, G, W, Admits, Refuses, by_length, by_block, by_edition, by_word, by_size, by_breadth, AdmissionExact}

pub at_most_or : (m n : ℕ) → (m ≤ n) ⊎ (n < m)
at_most_or zero n = inl (omega arith)
at_most_or (suc m) zero = inr (omega arith)
at_most_or (suc m) (suc n) = go (at_most_or m n)
  where
    go : (m ≤ n) ⊎ (n < m) → (suc m ≤ suc n) ⊎ (suc n < suc m)
    go (inl h) = inl (omega arith)
    go (inr h) = inr (omega arith)

-- ── the tests are what they say ──

sums_alike : (m : Sums) (xs : List ℕ) → ((sums_from m xs).a ≡ (sums_over m.a m.b xs).a) × ((sums_from m xs).b ≡ (sums_over m.a m.b xs).b)
unfolding sums_from sums_over
sums_alike m [] = (refl, refl)
sums_alike m (x ∷ xs) = sums_alike (record { a = (m.a + x) % 255; b = (m.b + (m.a + x) % 255) % 255 }) xs

module _ (rules : List ℕ) where
  whole_in : T (whole_blocks rules) → Whole rules
  whole_in t =
      let u = T_snd (eqb (length rules % 512) 0) (leb 1 (length rules / 512) && leb (length rules / 512) 64) t in
      record {
        whole = eqb→eq (length rules % 512) 0 (T_fst (eqb (length rules % 512) 0) (leb 1 (length rules / 512) && leb (length rules / 512) 64) t);
        some_block = leb→le 1 (length rules / 512) (T_fst (leb 1 (length rules / 512)) (leb (length rules / 512) 64) u);
        few_blocks = leb→le (length rules / 512) 64 (T_snd (leb 1 (length rules / 512)) (leb (length rules / 512) 64) u);
      }

  whole_out : Whole rules → T (whole_blocks rules)
  whole_out w =
      T_and (eqb (length rules % 512) 0) (leb 1 (length rules / 512) && leb (length rules / 512) 64) (eq→eqb (length rules % 512) 0 w.whole)
      (T_and (leb 1 (length rules / 512)) (leb (length rules / 512) 64) (le→leb 1 (length rules / 512) w.some_block) (le→leb (length rules / 512) 64 w.few_blocks))

  abbrev edition_test : Bool
  edition_test = eqb (get_or (stream rules) 0 0) 1 && eqb (get_or (stream rules) 1 0) (length rules / 512)

  edition_tested : T edition_test → EditionRight rules
  edition_tested t = record {
    edition = eqb→eq (get_or (stream rules) 0 0) 1 (T_fst (eqb (get_or (stream rules) 0 0) 1) (eqb (get_or (stream rules) 1 0) (length rules / 512)) t);
    blocks = eqb→eq (get_or (stream rules) 1 0) (length rules / 512) (T_snd (eqb (get_or (stream rules) 0 0) 1) (eqb (get_or (stream rules) 1 0) (length rules / 512)) t);
  }

  edition_right : EditionRight rules → T edition_test
  edition_right e = T_and (eqb (get_or (stream rules) 0 0) 1) (eqb (get_or (stream rules) 1 0) (length rules / 512))
      (eq→eqb (get_or (stream rules) 0 0) 1 e.edition) (eq→eqb (get_or (stream rules) 1 0) (length rules / 512) e.blocks)

  edition_is : edition_in rules ≡ pick edition_test (answered edition_1) (refused 3)
  unfolding edition_in edition_of
  edition_is = go (eqb (get_or (stream rules) 0 0) 1) (eqb (get_or (stream rules) 1 0) (length rules / 512))
    where
      go : (x y : Bool) → pick y (or_refused 3 (pick x (some edition_1) none)) (refused 3) ≡ pick (x && y) (answered edition_1) (refused 3)
      go true true = refl
      go true false = refl
      go false true = refl
      go false false = refl

  block_in : (i : ℕ) → T (block_right i (block rules i)) → BlockRight rules i
  unfolding block_right
  block_in i t =
      let b = block rules i in
      let s = sums_alike (record { a = 0; b = 0 }) (take 2 b ++ drop 4 b) in
      let u = T_snd (eqb (get_or b 0 0 + 256 * get_or b 1 0) i) (eqb (get_or b 2 0) (sums b).a && eqb (get_or b 3 0) (sums b).b) t in
      record {
        number = eqb→eq (get_or b 0 0 + 256 * get_or b 1 0) i (T_fst (eqb (get_or b 0 0 + 256 * get_or b 1 0) i) (eqb (get_or b 2 0) (sums b).a && eqb (get_or b 3 0) (sums b).b) t);
        sum_a = eqb→eq (get_or b 2 0) (sums b).a (T_fst (eqb (get_or b 2 0) (sums b).a) (eqb (get_or b 3 0) (sums b).b) u) ∙ s.0;
        sum_b = eqb→eq (get_or b 3 0) (sums b).b (T_snd (eqb (get_or b 2 0) (sums b).a) (eqb (get_or b 3 0) (sums b).b) u) ∙ s.1;
      }

  block_out : (i : ℕ) → BlockRight rules i → T (block_right i (block rules i))
  unfolding block_right
  block_out i r =
      let b = block rules i in
      let s = sums_alike (record { a = 0; b = 0 }) (take 2 b ++ drop 4 b) in
      T_and (eqb (get_or b 0 0 + 256 * get_or b 1 0) i) (eqb (get_or b 2 0) (sums b).a && eqb (get_or b 3 0) (sums b).b) (eq→eqb (get_or b 0 0 + 256 * get_or b 1 0) i r.number)
      (T_and (eqb (get_or b 2 0) (sums b).a) (eqb (get_or b 3 0) (sums b).b) (eq→eqb (get_or b 2 0) (sums b).a (r.sum_a ∙ sym s.0)) (eq→eqb (get_or b 3 0) (sums b).b (r.sum_b ∙ sym s.1)))

  -- n blocks from number j on, where the first j are dropped.
  next_block : (j : ℕ) → drop 512 (drop (512 * j) rules) ≡ drop (512 * suc j) rules
  next_block j = let e : 512 * j + 512 ≡ 512 * suc j = omega arith in drop-drop 512 (512 * j) rules ∙ ap (λ n. drop n rules) e

  first_or : (i j : ℕ) → (suc j ≤ i) ⊎ (i < suc j) → j ≤ i → BlockRight rules j → (suc j ≤ i → BlockRight rules i) → BlockRight rules i
  first_or i j (inl k) l first others = others k
  first_or i j (inr k) l first others = let e : j ≡ i = omega arith in subst (BlockRight rules) e first

  from_in : (j n : ℕ) → T (blocks_right j n (drop (512 * j) rules)) → (i : ℕ) → j ≤ i → i < j + n → BlockRight rules i
  unfolding blocks_right
  from_in j zero t i l h = let z : ⊥ = omega arith in absurd z
  from_in j (suc n) t i l h =
      let first = T_fst (block_right j (block rules j)) (blocks_right (suc j) n (drop 512 (drop (512 * j) rules))) t in
      let others = subst (λ s. T (blocks_right (suc j) n s)) (next_block j) (T_snd (block_right j (block rules j)) (blocks_right (suc j) n (drop 512 (drop (512 * j) rules))) t) in
      first_or i j (at_most_or (suc j) i) l (block_in j first) (λ k. from_in (suc j) n others i k (omega arith))

  from_out : (j n : ℕ) → ((i : ℕ) → j ≤ i → i < j + n → BlockRight rules i) → T (blocks_right j n (drop (512 * j) rules))
  unfolding blocks_right
  from_out j zero r = tt
  from_out j (suc n) r = T_and (block_right j (block rules j)) (blocks_right (suc j) n (drop 512 (drop (512 * j) rules))) (block_out j (r j (omega arith) (omega arith)))
      (subst (λ s. T (blocks_right (suc j) n s)) (sym (next_block j)) (from_out (suc j) n (λ i l h. r i (omega arith) (omega arith))))

  -- The first wrong one of n blocks from number j on.
  wrong_from : (j n : ℕ) → (((i : ℕ) → j ≤ i → i < j + n → BlockRight rules i) → ⊥) → (i : ℕ) × (j ≤ i) × (i < j + n) × (BlockRight rules i → ⊥)
  wrong_from j zero h = absurd (h λ i l m. let z : ⊥ = omega arith in absurd z)
  wrong_from j (suc n) h = go (block_right j (block rules j)) (block_in j) (block_out j) (wrong_from (suc j) n)
    where
      go : (b : Bool) → (T b → BlockRight rules j) → (BlockRight rules j → T b)
          → ((((i : ℕ) → suc j ≤ i → i < suc j + n → BlockRight rules i) → ⊥) → (i : ℕ) × (suc j ≤ i) × (i < suc j + n) × (BlockRight rules i → ⊥))
          → (i : ℕ) × (j ≤ i) × (i < j + suc n) × (BlockRight rules i → ⊥)
      go false f g ih = (j, omega arith, omega arith, g)
      go true f g ih =
          let x = ih (λ r. h (λ i l m. first_or i j (at_most_or (suc j) i) l (f tt) (λ k. r i k (omega arith)))) in
          let p = x.1 in
          let q = x.2 in
          (x.0, omega (arith, p), omega (arith, q), x.3)

  blocks_in : T (blocks_right 0 (length rules / 512) rules) → BlocksRight rules
  blocks_in t i h = from_in 0 (length rules / 512) t i (omega arith) (omega arith)

  blocks_out : BlocksRight rules → T (blocks_right 0 (length rules / 512) rules)
  blocks_out r = from_out 0 (length rules / 512) (λ i l h. r i (omega arith))

  -- ── the reader, where the blocks are right ──

  abbrev words : List ℕ
  words = drop 2 (stream rules)

  held : Whole rules → BlocksRight rules → EditionRight rules → (R : RuleSet) → ended (read_rules edition_1 words) ≡ answered R → Holds rules R
  held w b e R h =
      let t = read_whole rules edition_1 edition_1_defined words R h in
      record {
        whole = w;
        blocks_right = b;
        of_edition_1 = t.1.1;
        form = t.1.0;
        zeros = t.0.0;
        in_last_block = t.0.1;
        spelled = two_words (stream rules) 1 (length rules / 512) (omega arith) w.some_block e.edition e.blocks ∙ ap (λ s. 1 ∷ length rules / 512 ∷ s) t.0.2;
      }

  held_edition : (R : RuleSet) → Holds rules R → EditionRight rules
  held_edition R h = record { edition = ap (λ s. get_or s 0 0) h.spelled; blocks = ap (λ s. get_or s 1 0) h.spelled }

  held_read : (R : RuleSet) → Holds rules R → ended (read_rules edition_1 words) ≡ answered R
  unfolding ended
  held_read R h =
      ap (λ s. ended (read_rules edition_1 (drop 2 s))) h.spelled
      ∙ (ap ended (rules_takes edition_1 R (replicate h.zeros 0) (h.form, h.of_edition_1)) ∙ pick_true _ _ (ends_right (replicate h.zeros 0)) (ends_good h.zeros h.in_last_block))

  -- ── from the answer to the verdict ──

  abbrev pub Verdict : Answer RuleSet → Type 0
  Verdict (refused k) = Refuses rules k
  Verdict (answered R) = Admits rules R

  limits_verdict : (R : RuleSet) → Holds rules R → Verdict (within_limits R)
  unfolding within_limits
  limits_verdict R h = go (leb (G R) 8192) (leb (W R) 65535) (leb→le (G R) 8192) (le→leb (G R) 8192) (leb→le (W R) 65535) (le→leb (W R) 65535)
    where
      go : (a b : Bool) → (T a → G R ≤ 8192) → (G R ≤ 8192 → T a) → (T b → W R ≤ 65535) → (W R ≤ 65535 → T b) → Verdict (pick a (pick b (answered R) (refused 8)) (refused 7))
      go true true p p' q q' = record { holds = h; reach_limit = p tt; breadth_limit = q tt }
      go true false p p' q q' = over (at_most_or (W R) 65535)
        where
          over : (W R ≤ 65535) ⊎ (65535 < W R) → Refuses rules 8
          over (inl l) = absurd (q' l)
          over (inr l) = by_breadth h (p tt) l
      go false b p p' q q' = over (at_most_or (G R) 8192)
        where
          over : (G R ≤ 8192) ⊎ (8192 < G R) → Refuses rules 7
          over (inl l) = absurd (p' l)
          over (inr l) = by_size h l

  read_verdict : Whole rules → BlocksRight rules → EditionRight rules → (a : Answer RuleSet) → ended (read_rules edition_1 words) ≡ a → Verdict (and_then a within_limits)
  unfolding and_then
  read_verdict w b e (refused k) h = by_word w b e ((refused_by_first edition_1 (omega arith) words k).0 h)
  read_verdict w b e (answered R) h = limits_verdict R (held w b e R h)

  -- Admission by its tests.
  abbrev opened_1 : Answer Opened
  opened_1 = answered (record { edition = edition_1; words = words })

  unfoldable after : Answer Opened → Answer RuleSet
  after a = and_then (and_then a λ o. ended (read_rules o.edition o.words)) within_limits

  by_tests : admission rules ≡ after (pick (whole_blocks rules) (pick (blocks_right 0 (block_count rules) rules) (pick edition_test opened_1 (refused 3)) (refused 2)) (refused 1))
  unfolding admission open_blocks after and_then
  by_tests =
      ap (λ a. after (pick (whole_blocks rules) (pick (blocks_right 0 (block_count rules) rules) (and_then a λ L. answered (record { edition = L; words = words })) (refused 2)) (refused 1))) edition_is
      ∙ ap (λ a. after (pick (whole_blocks rules) (pick (blocks_right 0 (block_count rules) rules) a (refused 2)) (refused 1))) (go edition_test)
    where
      go : (b : Bool) → and_then (pick b (answered edition_1) (refused 3)) (λ L. answered (record { edition = L; words = words })) ≡ pick b opened_1 (refused 3)
      go true = refl
      go false = refl

  pub verdict : Verdict (admission rules)
  unfolding after and_then
  verdict = subst Verdict (sym by_tests) (go (whole_blocks rules) (blocks_right 0 (block_count rules) rules) edition_test whole_in whole_out blocks_in blocks_out edition_tested edition_right)
    where
      go : (a b c : Bool) → (T a → Whole rules) → (Whole rules → T a) → (T b → BlocksRight rules) → (BlocksRight rules → T b) → (T c → EditionRight rules) → (EditionRight rules → T c)
          → Verdict (after (pick a (pick b (pick c opened_1 (refused 3)) (refused 2)) (refused 1)))
      go true true true p p' q q' r r' = read_verdict (p tt) (q tt) (r tt) (ended (read_rules edition_1 words)) refl
      go true true false p p' q q' r r' = by_edition (p tt) (q tt) r'
      go true false c p p' q q' r r' = by_block (p tt) q'
      go false b c p p' q q' r r' = by_length p'

  -- ── from the verdict to the answer ──

  after_reading : Whole rules → BlocksRight rules → EditionRight rules → (r : Answer RuleSet) → ended (read_rules edition_1 words) ≡ r → admission rules ≡ and_then r within_limits
  unfolding after and_then
  after_reading w b e r h =
      by_tests ∙ (ap after (pick_true _ _ (whole_blocks rules) (whole_out w) ∙ (pick_true _ _ (blocks_right 0 (block_count rules) rules) (blocks_out b) ∙ pick_true _ _ edition_test (edition_right e)))
      ∙ ap (λ x. and_then x within_limits) h)

  after_holding : (R : RuleSet) → Holds rules R → admission rules ≡ within_limits R
  unfolding and_then
  after_holding R h = after_reading h.whole h.blocks_right (held_edition R h) (answered R) (held_read R h)

  pub admits_answer : (R : RuleSet) → Admits rules R → admission rules ≡ answered R
  unfolding within_limits
  admits_answer R a = after_holding R a.holds ∙ (pick_true _ _ (leb (G R) 8192) (le→leb (G R) 8192 a.reach_limit) ∙ pick_true _ _ (leb (W R) 65535) (le→leb (W R) 65535 a.breadth_limit))

  pub refuses_answer : (k : ℕ) → Refuses rules k → admission rules ≡ refused k
  unfolding within_limits after and_then
  refuses_answer k (by_length n) = by_tests ∙ ap after (pick_false _ _ (whole_blocks rules) (λ t. n (whole_in t)))
  refuses_answer k (by_block w n) = by_tests ∙ ap after (pick_true _ _ (whole_blocks rules) (whole_out w) ∙ pick_false _ _ (blocks_right 0 (block_count rules) rules) (λ t. n (blocks_in t)))
  refuses_answer k (by_edition w b n) = by_tests
      ∙ ap after (pick_true _ _ (whole_blocks rules) (whole_out w) ∙ (pick_true _ _ (blocks_right 0 (block_count rules) rules) (blocks_out b) ∙ pick_false _ _ edition_test (λ t. n (edition_tested t))))
  refuses_answer k (by_word w b e h) = after_reading w b e (refused k) ((refused_by_first edition_1 (omega arith) words k).1 h)
  refuses_answer k (by_size {R} h l) = after_holding R h ∙ pick_false _ _ (leb (G R) 8192) (λ t. let m = leb→le (G R) 8192 t in let z : ⊥ = omega (arith, m) in z)
  refuses_answer k (by_breadth {R} h g l) = after_holding R h
      ∙ (pick_true _ _ (leb (G R) 8192) (le→leb (G R) 8192 g) ∙ pick_false _ _ (leb (W R) 65535) (λ t. let m = leb→le (W R) 65535 t in let z : ⊥ = omega (arith, m) in z))

  -- ── exact ──

  -- The reader's numbers.
  by_three : (a : Answer RuleSet) (k : ℕ) → ended (read_rules edition_1 words) ≡ a → a ≡ refused k → (4 ≤ k) × (k ≤ 6)
  unfolding one_of ended
  by_three a k h e = go (read_rules edition_1 words) (rules_refuse edition_1 words) (h ∙ e)
    where
      of_three : (j : ℕ) → T (one_of (4 ∷ 5 ∷ 6 ∷ []) j) → (4 ≤ j) × (j ≤ 6)
      of_three j t = T_or (eqb j 4) _ t (λ u. let e : j ≡ 4 = eqb→eq j 4 u in (omega arith, omega arith))
          (λ t. T_or (eqb j 5) _ t (λ u. let e : j ≡ 5 = eqb→eq j 5 u in (omega arith, omega arith)) (λ t. T_or (eqb j 6) _ t (λ u. let e : j ≡ 6 = eqb→eq j 6 u in (omega arith, omega arith)) (λ t. absurd t)))

      ends : (b : Bool) (R : RuleSet) → pick b (answered R) (refused 4) ≡ refused k → (4 ≤ k) × (k ≤ 6)
      ends true R e = absurd (not_both k R (sym e))
      ends false R e = let z : 4 ≡ k = refused_injective {X = RuleSet} 4 k e in (omega arith, omega arith)

      go : (r : Read RuleSet) → Rattle.eb3.proofs.Laws.Refusals.Refuses r → ended r ≡ refused k → (4 ≤ k) × (k ≤ 6)
      go (Read.refused j) s e = subst (λ n. (4 ≤ n) × (n ≤ 6)) (refused_injective {X = RuleSet} j k e) (of_three j s)
      go (Read.taken R rest) s e = ends (ends_right rest) R e

  not_by_limits : (R : RuleSet) (k : ℕ) → 4 ≤ k → k ≤ 6 → within_limits R ≡ refused k → ⊥
  unfolding within_limits
  not_by_limits R k lo hi e = go (leb (G R) 8192) (leb (W R) 65535) e
    where
      go : (a b : Bool) → pick a (pick b (answered R) (refused 8)) (refused 7) ≡ refused k → ⊥
      go true true e = not_both k R (sym e)
      go true false e = let z : 8 ≡ k = refused_injective {X = RuleSet} 8 k e in omega arith
      go false b e = let z : 7 ≡ k = refused_injective {X = RuleSet} 7 k e in omega arith

  pub admission_exact : AdmissionExact rules
  unfolding and_then
  admission_exact = record {
    refused_exactly = λ k. ((λ e. subst Verdict e verdict), refuses_answer k);
    answered_exactly = λ R. ((λ e. subst Verdict e verdict), admits_answer R);
    no_rule_set = λ w b e. (
      (λ x R h. not_by_limits R x.0 x.1 x.2 (sym (after_holding R h) ∙ x.3)),
      (λ n. go n w b e (ended (read_rules edition_1 words)) refl),
    );
    one_rule_set = λ Q R h g. answered_injective Q R (sym (held_read Q h) ∙ held_read R g);
    wrong_block = λ e. wrong (subst Verdict e verdict);
  }
    where
      go : ((R : RuleSet) → Holds rules R → ⊥) → Whole rules → BlocksRight rules → EditionRight rules → (a : Answer RuleSet) → ended (read_rules edition_1 words) ≡ a
          → (k : ℕ) × (4 ≤ k) × (k ≤ 6) × (admission rules ≡ refused k)
      go n w b e (refused k) h = let x = by_three (refused k) k h refl in (k, x.0, x.1, after_reading w b e (refused k) h)
      go n w b e (answered R) h = absurd (n R (held w b e R h))

      wrong_in : (BlocksRight rules → ⊥) → (i : ℕ) × (i < length rules / 512) × (BlockRight rules i → ⊥)
      wrong_in n = let x = wrong_from 0 (length rules / 512) (λ r. n (λ i h. r i (omega arith) (omega arith))) in let l = x.2 in (x.0, omega (arith, l), x.3)

      wrong : Refuses rules 2 → (i : ℕ) × (i < length rules / 512) × (BlockRight rules i → ⊥)
      wrong r = go_by 2 r refl
        where
          go_by : (k : ℕ) → Refuses rules k → k ≡ 2 → (i : ℕ) × (i < length rules / 512) × (BlockRight rules i → ⊥)
          go_by k (by_length n) z = let f : ⊥ = omega arith in absurd f
          go_by k (by_block w n) z = wrong_in n
          go_by k (by_edition w b n) z = let f : ⊥ = omega arith in absurd f
          go_by k (by_word w b e h) z = let x = by_three (refused k) k ((refused_by_first edition_1 (omega arith) words k).1 h) refl in let f : ⊥ = omega (arith, x) in absurd f
          go_by k (by_size h l) z = let f : ⊥ = omega arith in absurd f
          go_by k (by_breadth h g l) z = let f : ⊥ = omega arith in absurd f
