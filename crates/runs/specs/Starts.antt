-- The run of main from its unfolding and the cells of the start, the term held in one way or the other (document 01, "Operations": Run; "Memory and the history
-- machine"). What is returned and written at the end is the same.
use Rattle.std.specs.Prelude.{◌≡◌, ℕ, ◌≤◌}
use mathlib.Core.List.{List}
use Rattle.eb3.specs.Cells.{initial_cells}
use Rattle.eb3.specs.RuleSets.{RuleSet, attributes}
use Rattle.eb3.specs.WellFormedness.{WellFormed}
use Rattle.eb3.specs.Unfolding.{unfold_main}
use Rattle.eb3.specs.Spelling.{words}
use Rattle.eb3.specs.Bytes.{word_count}
use Rattle.eb3.specs.Memory.{cell_room}
use Rattle.eb3.specs.Operations.{main_reach}
use Rattle.steps.specs.Storing.{Stored, Ruled}
use Rattle.sharing.specs.Shared.{Unmasked}
use Rattle.runs.specs.Running.{Spelled, Roomy}
use Rattle.runs.specs.Sharing.{RoomyOver}
use Rattle.runs.specs.MainProcess.{RanRight, RunsMain}
use Rattle.runs.specs.declared.main_process.Totals.{Totals}
use Rattle.runs.specs.declared.admitted.Course.{Course}

-- The store M holds the cells of the start, and the lent buffers have room for main's reach and for the cells.
pub record AtStart (R : RuleSet) (t T D : List ℕ) (w functions c reach : ℕ) (M term memory : List ℕ) : Type 0 where
  pub well : WellFormed R
  pub ruled : Ruled R t T D w functions c
  pub reach_is : reach ≡ main_reach R
  pub stored : Stored R (initial_cells (attributes R)) M
  pub term_room : reach ≤ word_count term
  pub memory_room : c ≤ cell_room memory

-- From the words u of an unfolding that has no masks; no spare bytes are written.
abbrev pub RunsMaskFree : (list t D : List ℕ) (w functions c reach : ℕ) (u d M : List ℕ) (paths acts middle : ℕ) (term memory by : List ℕ) (r : Totals) (term' memory' by' : List ℕ) → Type 0
RunsMaskFree list t D w functions c reach u d M paths acts middle term memory by r term' memory' by' =
    (R : RuleSet) (T : List ℕ) → AtStart R t T D w functions c reach M term memory → RoomyOver reach u d paths acts middle → u ≡ words R.edition.width (unfold_main R) → Unmasked (unfold_main R)
    → (spare : List ℕ) → RanRight list term memory spare by R r term' memory' spare by'

-- From its first n words, in which the run goes on.
abbrev pub RunsMasked : (list t D : List ℕ) (w functions c reach n : ℕ) (ws M path term memory spare by : List ℕ) (r : Totals) (term' memory' spare' by' : List ℕ) → Type 0
RunsMasked list t D w functions c reach n ws M path term memory spare by r term' memory' spare' by' =
    (R : RuleSet) (T : List ℕ) → AtStart R t T D w functions c reach M term memory → Roomy reach ws spare path → Spelled R (unfold_main R) n ws
    → RanRight list term memory spare by R r term' memory' spare' by'

-- ── the same of a course ──

-- By the course's list, rule set and reach.
abbrev pub CourseMaskFree : (course : Course) (u d M : List ℕ) (paths acts middle : ℕ) (term memory by : List ℕ) (r : Totals) (term' memory' by' : List ℕ) → Type 0
CourseMaskFree course u d M paths acts middle term memory by r term' memory' by' =
    let functions = course.rules.functions in
    RunsMaskFree course.list.now functions.words.now functions.directory.now functions.width functions.count functions.cells course.reach u d M paths acts middle term memory by r term' memory' by'

abbrev pub CourseMasked : (course : Course) (n : ℕ) (ws M path term memory spare by : List ℕ) (r : Totals) (term' memory' spare' by' : List ℕ) → Type 0
CourseMasked course n ws M path term memory spare by r term' memory' spare' by' =
    let functions = course.rules.functions in
    RunsMasked course.list.now functions.words.now functions.directory.now functions.width functions.count functions.cells course.reach n ws M path term memory spare by r term' memory' spare' by'

-- There is room for `room` words.
abbrev pub CourseMain : (course : Course) (room : ℕ) (term memory spare by : List ℕ) (r : Totals) (term' memory' spare' by' : List ℕ) → Type 0
CourseMain course room term memory spare by r term' memory' spare' by' =
    let functions = course.rules.functions in
    RunsMain course.list.now functions.words.now course.rules.tables.now functions.directory.now functions.cells course.reach room term memory spare by r term' memory' spare' by'
