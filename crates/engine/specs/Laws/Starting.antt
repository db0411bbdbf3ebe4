-- Start, case by case: refused as Admit is, refused for want of space, or done (document 01, "Operations").
use Rattle.std.specs.Prelude.{◌≡◌, Bool, ◌&&◌, List, ℕ, ◌≤◌, ◌<◌, Ok, Err, Result}
use Rattle.std.proofs.Math.Path.{refl, ap}
use Rattle.std.proofs.Common.{sym, ◌∙◌, subst}
use Rattle.std.proofs.Math.Bool.{true, false}
use borrow.Author.Tests.{le-leb, lt-leb}
use Rattle.eb3.specs.Refusal
use Rattle.eb3.specs.RuleSets.{RuleSet, attributes}
use Rattle.eb3.specs.Sizes.{size}
use Rattle.eb3.specs.Unfolding.{unfold_main}
use Rattle.eb3.specs.Spelling.{words}
use Rattle.eb3.specs.Cells.{initial_cells}
use Rattle.eb3.specs.Bytes.{written, word_count}
use Rattle.eb3.specs.Memory.{cell_room, memory_words}
use Rattle.eb3.specs.Reading.{pick}
use Rattle.eb3.specs.Admission.{admission}
use Rattle.eb3.specs.Answers.{Written, unwritten}
use Rattle.eb3.specs.Operations.{cells_needed, main_reach, term_fits, memory_fits, writing, started, started_at, start}
use Rattle.engine.specs.Starting.{started_as, Started}
use Rattle.refusals.specs.declared.Refusal.{Refusal}
use Rattle.refusals.specs.declared.Refusal.TheVariants.{Space}
use Rattle.refusals.specs.Numbers.{refusal}

module _ (term memory : List ℕ) where
  pub start_admitted : (rules : List ℕ) → start rules term memory ≡ writing term memory (admission rules) (started_at term memory)
  unfolding start
  start_admitted rules = refl

  module _ (R : RuleSet) where
    by_room : (b : Bool) → (term_fits (main_reach R) term && memory_fits R memory) ≡ b → started_at term memory R ≡ pick b (started term memory R) (unwritten term memory Refusal.space)
    by_room b h = ap (λ x. pick x (started term memory R) (unwritten term memory Refusal.space)) h

    by_whole : (w : Written ℕ) (r : Result ℕ Refusal) (term' memory' : List ℕ) → started_at term memory R ≡ w → Started w r term' memory' → Started (started_at term memory R) r term' memory'
    by_whole w r term' memory' e d = subst (λ v. Started v r term' memory') (sym e) d

    pub start_short_term : word_count term < main_reach R → Started (started_at term memory R) (Err Space) term memory
    unfolding started_as refusal
    start_short_term h = by_whole (unwritten term memory Refusal.space) (Err Space) term memory (by_room false (ap (λ b. b && memory_fits R memory) (lt-leb (main_reach R) (word_count term) h)))
        (record { answer = refl; term_after = refl; memory_after = refl })

    pub start_short_memory : main_reach R ≤ word_count term → cell_room memory < cells_needed R → Started (started_at term memory R) (Err Space) term memory
    unfolding started_as refusal
    start_short_memory h k = by_whole (unwritten term memory Refusal.space) (Err Space) term memory
        (by_room false (ap (λ b. b && memory_fits R memory) (le-leb (main_reach R) (word_count term) h) ∙ lt-leb (cells_needed R) (cell_room memory) k))
        (record { answer = refl; term_after = refl; memory_after = refl })

    pub start_done : main_reach R ≤ word_count term → cells_needed R ≤ cell_room memory → (n : ℕ) (term' memory' : List ℕ) → n ≡ size R.edition.width (unfold_main R)
        → term' ≡ written (words R.edition.width (unfold_main R)) term → memory' ≡ written (memory_words (initial_cells (attributes R))) memory → Started (started_at term memory R) (Ok n) term' memory'
    unfolding started_as
    start_done h k n term' memory' s t m = by_whole (started term memory R) (Ok n) term' memory'
        (by_room true (ap (λ b. b && memory_fits R memory) (le-leb (main_reach R) (word_count term) h) ∙ le-leb (cells_needed R) (cell_room memory) k))
        (record { answer = ap Ok s; term_after = t; memory_after = m })
