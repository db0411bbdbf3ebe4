-- What is demanded of refusals 4, 5 and 6 (document 01, "Operations"): the reader of rule streams and Admit refuse by the number of the first
-- offending word (FirstOffendingWord). Shown in Laws/StreamRefusals.
use Rattle.std.specs.Prelude.{◌≡◌, ◌↔◌, List, ◌++◌, ℕ, suc, ◌≤◌, ◌<◌, length, take}
use Rattle.std.proofs.Math.Option.{none, some}
use Rattle.eb3.specs.Editions.{Edition}
use Rattle.eb3.specs.RuleSets.{RuleSet}
use Rattle.eb3.specs.RuleReading.{read_rules}
use Rattle.eb3.specs.Answers.{refused, answered}
use Rattle.eb3.specs.Blocks.{Opened, open_blocks}
use Rattle.eb3.specs.Admission.{ended, admission}
use Rattle.first_word.specs.FirstOffendingWord.{first_offending, first_place}

pub record StreamRefusals (L : Edition) : Type 0 where
  -- Refused by k exactly if the first offending word's number is k; accepted exactly if no word offends and none is missing.
  pub refused_exactly : (words : List ℕ) (k : ℕ) → (ended (read_rules L words) ≡ refused k) ↔ (first_offending L words ≡ some k)
  pub accepted_exactly : (words : List ℕ) → ((R : RuleSet) × (ended (read_rules L words) ≡ answered R)) ↔ (first_offending L words ≡ none)
  -- No word before the place offends; with a word at the place, the words after it do not matter.
  pub words_before : (words : List ℕ) (i : ℕ) → i ≤ first_place L words → first_place L (take i words) ≡ i
  pub words_after : (words rest : List ℕ) → first_place L words < length words → first_offending L (take (suc (first_place L words)) words ++ rest) ≡ first_offending L words

-- Admit: by 4, 5 or 6 exactly if the blocks are right and the stream after its first two words is refused so, by the edition that it says.
pub record AdmissionRefusals : Type 0 where
  pub refused_exactly : (rules : List ℕ) (k : ℕ) → 4 ≤ k → k ≤ 6
      → (admission rules ≡ refused k) ↔ ((o : Opened) × (open_blocks rules ≡ answered o) × (first_offending o.edition o.words ≡ some k))
