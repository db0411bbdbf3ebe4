-- The memory at the start, made of a store (document 01, "Memory and the history machine":
-- at start the empty-trace expressions fill the cells, function by function).
use Rattle.std.specs.Prelude.{◌≡◌, List, ℕ, ◌+◌, ◌≤◌}
use Rattle.std.proofs.Math.ListN.{length}
use Rattle.eb3.specs.Cells.{initial_cells}
use Rattle.eb3.specs.RuleSets.{RuleSet, attributes}
use Rattle.eb3.specs.WellFormedness.{Form}
use Rattle.eb3.specs.Unfolding.{unfold_main}
use Rattle.eb3.specs.Spelling.{words}
use Rattle.eb3.specs.Bytes.{word_count, written}
use Rattle.eb3.specs.Memory.{cell_room, memory_words}
use Rattle.eb3.specs.Operations.{cells_needed}
use Rattle.declarations.specs.Directory.{Directory}
use Rattle.expressions.specs.Stores.{now_place}

-- A lent memory of enough cells holds those of the start, for a rule set of c cells whose stream, tables and directory these are.
abbrev pub MemoryStarted : List ℕ → List ℕ → List ℕ → ℕ → ℕ → List ℕ → List ℕ → Type 0
MemoryStarted t T D room c B B' = (R : RuleSet) → Form R → Directory t T D R → c ≡ cells_needed R → now_place + c ≤ room → c ≤ cell_room B → B' ≡ written (memory_words (initial_cells (attributes R))) B

-- Lent buffers with enough room hold main's unfolding and the cells of the start.
abbrev pub Begun : List ℕ → List ℕ → List ℕ → ℕ → List ℕ → List ℕ → List ℕ → List ℕ → Type 0
Begun t T D c term memory term' memory' = (R : RuleSet) → Form R → Directory t T D R → c ≡ cells_needed R → c ≤ 1024 → length (words R.edition.width (unfold_main R)) ≤ 65535 → length (words R.edition.width (unfold_main R)) ≤ word_count term
    → c ≤ cell_room memory
    → (term' ≡ written (words R.edition.width (unfold_main R)) term) × (memory' ≡ written (memory_words (initial_cells (attributes R))) memory)
