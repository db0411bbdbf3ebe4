-- What a file is admitted as, and by which number it is refused, as conditions on its bytes (document 01, "Blocks and the rule stream" and the table's
-- rows 1 to 8); and that admission answers exactly so (`AdmissionExact`, proved in Laws/Verdicts).
use Rattle.std.specs.Prelude.{◌≡◌, ◌↔◌, List, [], ◌∷◌, ◌++◌, ℕ, ◌+◌, ◌*◌, ◌/◌, ◌%◌, ◌≤◌, ◌<◌, length, get_or, take, drop, replicate}
use Rattle.std.proofs.Math.Option.{some}
use Rattle.eb3.specs.Sizes.{reach, breadth}
use Rattle.eb3.specs.Editions.{edition_1}
use Rattle.eb3.specs.RuleSets.{RuleSet}
use Rattle.eb3.specs.Unfolding.{unfold_main}
use Rattle.eb3.specs.WellFormedness.{Form}
use Rattle.eb3.specs.RuleSpelling.{rules_words}
use Rattle.eb3.specs.Blocks.{stream}
use Rattle.eb3.specs.Answers.{refused, answered}
use Rattle.eb3.specs.Admission.{admission}
use Rattle.first_word.specs.FirstOffendingWord.{first_offending}

-- ── the conditions ──

-- 1: 1 to 64 whole blocks of 512 bytes.
pub record Whole (rules : List ℕ) : Type 0 where
  pub whole : length rules % 512 ≡ 0
  pub some_block : 1 ≤ length rules / 512
  pub few_blocks : length rules / 512 ≤ 64

-- 2: bytes 0 and 1 of block i are its number; byte 2 is sum A, byte 3 sum B, over bytes 0, 1, 4 to 511 in order: for each, A = (A + byte) mod 255, then
-- B = (B + A) mod 255, both from 0.
pub record SumsAB : Type 0 where
  pub a : ℕ
  pub b : ℕ

unfoldable pub sums_over : ℕ → ℕ → List ℕ → SumsAB
sums_over a b [] = record { a = a; b = b }
sums_over a b (x ∷ xs) = sums_over ((a + x) % 255) ((b + (a + x) % 255) % 255) xs

abbrev pub block : List ℕ → ℕ → List ℕ
block rules i = take 512 (drop (512 * i) rules)

abbrev pub block_sums : List ℕ → ℕ → SumsAB
block_sums rules i = sums_over 0 0 (take 2 (block rules i) ++ drop 4 (block rules i))

pub record BlockRight (rules : List ℕ) (i : ℕ) : Type 0 where
  pub number : get_or (block rules i) 0 0 + 256 * get_or (block rules i) 1 0 ≡ i
  pub sum_a : get_or (block rules i) 2 0 ≡ (block_sums rules i).a
  pub sum_b : get_or (block rules i) 3 0 ≡ (block_sums rules i).b

abbrev pub BlocksRight : List ℕ → Type 0
BlocksRight rules = (i : ℕ) → i < length rules / 512 → BlockRight rules i

-- 3: word 0 is 1, word 1 the number of blocks.
pub record EditionRight (rules : List ℕ) : Type 0 where
  pub edition : get_or (stream rules) 0 0 ≡ 1
  pub blocks : get_or (stream rules) 1 0 ≡ length rules / 512

-- The blocks are right, and the stream is exactly the spelling of R, of the form that 4, 5 and 6 ask, with zeros after it, fewer than a block's words.
pub record Holds (rules : List ℕ) (R : RuleSet) : Type 0 where
  pub whole : Whole rules
  pub blocks_right : BlocksRight rules
  pub of_edition_1 : R.edition ≡ edition_1
  pub form : Form R
  pub zeros : ℕ
  pub in_last_block : zeros < 254
  pub spelled : stream rules ≡ 1 ∷ length rules / 512 ∷ (rules_words R ++ replicate zeros 0)

-- Main's G and W.
abbrev pub G : RuleSet → ℕ
G R = reach R.edition.width (unfold_main R)

abbrev pub W : RuleSet → ℕ
W R = breadth (unfold_main R)

pub record Admits (rules : List ℕ) (R : RuleSet) : Type 0 where
  pub holds : Holds rules R
  pub reach_limit : G R ≤ 8192
  pub breadth_limit : W R ≤ 65535

-- By the first condition of the table that holds; 4, 5 and 6 by the first offending word (the crate first_word says it word by word).
pub data Refuses (rules : List ℕ) : ℕ → Type 0 where
  by_length : (Whole rules → ⊥) → Refuses rules 1
  by_block : Whole rules → (BlocksRight rules → ⊥) → Refuses rules 2
  by_edition : Whole rules → BlocksRight rules → (EditionRight rules → ⊥) → Refuses rules 3
  by_word : {k : ℕ} → Whole rules → BlocksRight rules → EditionRight rules → first_offending edition_1 (drop 2 (stream rules)) ≡ some k → Refuses rules k
  by_size : {R : RuleSet} → Holds rules R → 8192 < G R → Refuses rules 7
  by_breadth : {R : RuleSet} → Holds rules R → G R ≤ 8192 → 65535 < W R → Refuses rules 8

-- ── exact, of all bytes ──

pub record AdmissionExact (rules : List ℕ) : Type 0 where
  pub refused_exactly : (k : ℕ) → (admission rules ≡ refused k) ↔ Refuses rules k
  pub answered_exactly : (R : RuleSet) → (admission rules ≡ answered R) ↔ Admits rules R
  -- Where the first three conditions do not hold: refused 4, 5 or 6 exactly if the stream spells no rule set. It spells one at the most.
  pub no_rule_set : Whole rules → BlocksRight rules → EditionRight rules
      → ((k : ℕ) × (4 ≤ k) × (k ≤ 6) × (admission rules ≡ refused k)) ↔ ((R : RuleSet) → Holds rules R → ⊥)
  pub one_rule_set : (Q R : RuleSet) → Holds rules Q → Holds rules R → Q ≡ R
  -- Refusal 2 has a block to show.
  pub wrong_block : admission rules ≡ refused 2 → (i : ℕ) × (i < length rules / 512) × (BlockRight rules i → ⊥)
