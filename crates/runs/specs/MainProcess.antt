-- The run of main from the start by a list of numbers is the history machine's (document 01, "Operations": Run; "Memory and the history machine"), and what
-- is counted at each reader is what the history machine does there (document 02, K1).
use Rattle.std.specs.Prelude.{◌≡◌, List, ◌++◌, ℕ, ◌+◌, ◌-◌, ◌%◌, ◌≤◌, length, take, drop, replicate}
use Rattle.eb3.specs.Machines.{history_outcomes}
use Rattle.eb3.specs.RuleSets.{RuleSet, attributes}
use Rattle.eb3.specs.Unfolding.{unfold_main}
use Rattle.eb3.specs.WellFormedness.{WellFormed}
use Rattle.eb3.specs.Bytes.{word_count, written}
use Rattle.eb3.specs.Memory.{cell_room}
use Rattle.eb3.specs.Answers.{answered, Ran}
use Rattle.eb3.specs.Readers.{numbers_in, readers_in}
use Rattle.eb3.specs.Operations.{cells_needed, main_reach, ran}
use Rattle.declarations.specs.Directory.{Directory}
use Rattle.expressions.specs.Stores.{now_place}
use Rattle.readers.specs.Table.{counted_by}
use Rattle.runs.specs.Scratch.{WordsOnly}
use Rattle.runs.specs.declared.Tally.{Tally}
use Rattle.runs.specs.declared.main_process.Totals.{Totals}

-- A tally as Run returns it: its size in 32 bits.
abbrev pub totals : Tally → Totals
totals t = record { size = t.size % 4294967296; visible = t.visible; internal = t.internal; refused = t.refused }

-- The last term's size and the three counts.
abbrev pub told : Totals → Ran
told r = record { size = r.size; visible = r.visible; internal = r.internal; refusals = r.refused }

-- What the run leaves in buffers with room; in the spare one successors are built. From by on it counts each number at its reader.
pub record RanRight (list term memory spare by : List ℕ) (R : RuleSet) (r : Totals) (term' memory' spare' by' : List ℕ) : Type 0 where
  pub answer : (ran (numbers_in list) term memory R).answer ≡ answered (told r)
  pub term_after : term' ≡ (ran (numbers_in list) term memory R).term
  pub memory_after : memory' ≡ (ran (numbers_in list) term memory R).memory
  pub words_only : WordsOnly spare spare'
  pub counted : by' ≡ counted_by by (readers_in list) (history_outcomes (attributes R) (unfold_main R) (numbers_in list))

-- Of the stream t, the tables T, the directory D, c cells and main's reach; there is room for `room` words.
abbrev pub RunsMain : (list t T D : List ℕ) (c reach room : ℕ) (term memory spare by : List ℕ) (r : Totals) (term' memory' spare' by' : List ℕ) → Type 0
RunsMain list t T D c reach room term memory spare by r term' memory' spare' by' =
    (R : RuleSet) → WellFormed R → Directory t T D R → c ≡ cells_needed R → reach ≡ main_reach R → reach ≤ room → reach ≤ word_count term → c ≤ cell_room memory → reach ≤ word_count spare
    → RanRight list term memory spare by R r term' memory' spare' by'

-- ── the end of it ──

-- The words up to a place, zeros after them up to another.
abbrev pub Padded : (ws : List ℕ) (from to : ℕ) (ws' : List ℕ) → Type 0
Padded ws from to ws' = from ≤ to → to ≤ length ws → take to ws' ≡ take from ws ++ replicate (to - from) 0

-- The first words of ws, zeros up to main's reach after them, and the c cells of the store M, written into the lent buffers.
pub record Finished (ws : List ℕ) (size reach : ℕ) (M : List ℕ) (c : ℕ) (term memory term' memory' : List ℕ) : Type 0 where
  pub term_written : size ≤ reach → reach ≤ length ws → reach ≤ word_count term → term' ≡ written (take size ws ++ replicate (reach - size) 0) term
  pub memory_written : now_place + c ≤ length M → c ≤ cell_room memory → memory' ≡ written (take c (drop now_place M)) memory
