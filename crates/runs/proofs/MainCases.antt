-- The run of main put together: its unfolding and the cells of the start are a situation of the memory machine, and where that machine ends by the numbers
-- is where the history machine does (document 01, "Memory and the history machine"; "Operations": Run).
use mathlib.Core.Path.{◌≡◌, sym, ap, ◌∙◌, subst}
use mathlib.Core.Bool.{Bool, true}
use mathlib.Core.List.{List, [], ◌++◌}
use Prim.Native.Nat.{ℕ, ◌+◌, ◌-◌, ◌*◌, ◌%◌, ◌≤◌}
use native.Mathlib.Omega.{arith}
use lib.ListN.{length, take, drop, replicate}
use Rattle.eb3.specs.Terms.{Term}
use Rattle.eb3.specs.Cells.{initial_cells, all_values}
use Rattle.eb3.specs.RuleSets.{RuleSet, attributes}
use Rattle.eb3.specs.Sizes.{size}
use Rattle.eb3.proofs.Laws.Sizes.{size_below_reach, run_reach}
use Rattle.eb3.specs.Unfolding.{unfold_main}
use Rattle.eb3.specs.Spelling.{words}
use Rattle.eb3.proofs.Laws.Spelling.{Small, words_length}
use Rattle.eb3.proofs.Laws.Operations.{spelling_small}
use Rattle.eb3.proofs.Laws.MainRunning.{main_running}
use Rattle.eb3.specs.Bytes.{word_count, written}
use Rattle.eb3.specs.Memory.{cell_room, memory_words}
use Rattle.eb3.specs.Semantics.{Sem_M, Sem_T, Situation, situation, system}
use Rattle.eb3.specs.TransitionSystems.{TransitionSystem, initial, outcomes}
use Rattle.eb3.specs.Machines.{Machine, history_run, memory_run, Agreement, history_outcomes}
use Rattle.eb3.proofs.Laws.Machines.{machines_agree}
use Rattle.eb3.specs.Readers.{numbers_in, readers_in}
use Rattle.eb3.specs.WellFormedness.{WellFormed, Running}
use Rattle.eb3.specs.Answers.{answered, Ran}
use Rattle.eb3.specs.Operations.{cells_needed, main_reach}
use Rattle.tables.specs.Layout.{label_count, function_count}
use Rattle.expressions.specs.Stores.{now_place, store_length}
use Rattle.cells.specs.Preparing.{Loaded}
use Rattle.cells.specs.Laws.Memory.{held_words, written_loaded}
use Rattle.declarations.specs.Directory.{Directory, row_width}
use Rattle.unfold.specs.Unfolded.{MainUnfolded}
use Rattle.steps.specs.Storing.{Stored, Ruled}
use Rattle.steps.specs.Laws.Ruled.{ruled_there}
use Rattle.steps.specs.Laws.Judging.{whole}
use Rattle.sharing.specs.Masks.{Shareable}
use Rattle.readers.specs.Table.{counted_by}
use Rattle.runs.specs.Scratch.{WordsOnly}
use Rattle.runs.specs.Laws.Scratch.{words_written, words_then}
use Rattle.derivation.specs.declared.scratch.Scratch.{Scratch}
use Rattle.runs.specs.Running.{Holding, Spelled, Ended, CountedBy}
use Rattle.runs.specs.Held.{Runs}
use Rattle.runs.specs.declared.held.Held.TheVariants.{InFull}
use Rattle.runs.specs.declared.admitted.Course.{Course}
use Rattle.runs.specs.MainProcess.{RanRight, RunsMain, Finished}
use Rattle.runs.specs.Starts.{AtStart, RunsMaskFree, RunsMasked, CourseMasked}
use Rattle.runs.specs.declared.main_process.Totals.{Totals}
use Rattle.runs.specs.declared.Tally.{Tally}

-- ── main and its run ──

module _ (R : RuleSet) (well : WellFormed R) where
  abbrev main : Term
  main = unfold_main R

  abbrev L : TransitionSystem
  L = system (Sem_M (attributes R))

  abbrev pub start : Situation (Sem_M (attributes R))
  start = situation main (initial_cells (attributes R))

  pub spelled_length : (E : Term) → Running R E → length (words R.edition.width E) ≡ size R.edition.width E
  spelled_length E h = words_length R E h.form

  pub main_there : Running R main
  main_there = main_running R well

  main_small : Small (words R.edition.width main)
  main_small = spelling_small R well.form main main_there.form

  pub main_size : length (words R.edition.width main) ≤ main_reach R
  main_size = omega (arith, spelled_length main main_there, size_below_reach R.edition.width main)

  -- Its words loaded.
  pub main_spelled : (n : ℕ) (spare spare₁ ws ws₁ : List ℕ) → n ≡ length (words R.edition.width main) → spare₁ ≡ written (words R.edition.width main) spare → main_reach R ≤ length ws → Loaded spare₁ ws ws₁ 0 n
      → Spelled R main n ws₁
  main_spelled n spare spare₁ ws ws₁ e buffer room loaded = record {
    size_is = e;
    spelled = written_loaded (words R.edition.width main) spare ws ws₁ n e main_small (omega (arith, main_size)) (subst (λ B. Loaded B ws ws₁ 0 n) buffer loaded);
  }

  -- No term of the run has more words than main reaches.
  pub run_fits : (ks : List ℕ) → Running R (memory_run (attributes R) main ks).state.term → length (words R.edition.width (memory_run (attributes R) main ks).state.term) ≤ main_reach R
  unfolding memory_run
  run_fits ks h =
      let E : Term = (memory_run (attributes R) main ks).state.term in
      omega (arith, spelled_length E h, size_below_reach R.edition.width E, run_reach R.edition.width (Sem_M (attributes R)) (initial L start) ks)

  -- What the memory machine ends with is what the history machine does; the first n words of xs are its last term, spelled out.
  module _ {H : Holding} (ks ws M : List ℕ) (tally : Tally) (ended : Ended H R (memory_run (attributes R) main ks) ws M tally) (n : ℕ) (xs : List ℕ)
      (spelled : Spelled R (memory_run (attributes R) main ks).state.term n xs) where
    abbrev last : Machine (Sem_T (attributes R))
    last = history_run (attributes R) main ks

    agree : Agreement (attributes R) main ks (memory_run (attributes R) main ks) last
    agree = machines_agree (attributes R) main ks

    last_running : Running R last.state.term
    last_running = subst (Running R) agree.same_term ended.after.running

    last_size : n ≡ size R.edition.width last.state.term
    last_size = spelled.size_is ∙ ap (λ E. length (words R.edition.width E)) agree.same_term ∙ spelled_length last.state.term last_running

    last_words : take n xs ≡ words R.edition.width last.state.term
    last_words = spelled.spelled ∙ ap (words R.edition.width) agree.same_term

    last_fits : n ≤ main_reach R
    last_fits = omega (arith, spelled.size_is, run_fits ks ended.after.running)

    last_cells : now_place + cells_needed R ≤ length M → take (cells_needed R) (drop now_place M) ≡ memory_words (all_values (attributes R) last.state.state)
    last_cells room =
        held_words M (memory_run (attributes R) main ks).state.state (cells_needed R) ended.after.stored.counted room ended.after.stored.holds
        ∙ ap memory_words agree.cells_are_values

    last_told : (low : ℕ) → low ≡ n % 4294967296
        → ◌≡◌ {A = Ran} (record { size = size R.edition.width last.state.term; visible = last.visible_count; internal = last.internal_count; refusals = last.refused_count })
        (record { size = low; visible = tally.visible; internal = tally.internal; refusals = tally.refused })
    last_told low e =
        let s : size R.edition.width last.state.term ≡ low = omega (arith, e, last_size, last_fits, well.reach_limit) in
        let v : last.visible_count ≡ tally.visible = sym (ended.visible_is ∙ agree.same_visible) in
        let i : last.internal_count ≡ tally.internal = sym (ended.internal_is ∙ agree.same_internal) in
        let f : last.refused_count ≡ tally.refused = sym (ended.refused_is ∙ agree.same_refused) in
        λ j. record { size = s j; visible = v j; internal = i j; refusals = f j }

  -- What is returned and written at the end.
  pub main_ended : {H : Holding} (list : List ℕ) {ws M : List ℕ} {tally : Tally} {n : ℕ} {xs : List ℕ} {c reach : ℕ} {term memory spare by term' memory' spare' by' : List ℕ} {low : ℕ}
      → Ended H R (memory_run (attributes R) main (numbers_in list)) ws M tally → Spelled R (memory_run (attributes R) main (numbers_in list)).state.term n xs
      → c ≡ cells_needed R → reach ≡ main_reach R → reach ≤ length xs → now_place + c ≤ length M → reach ≤ word_count term → c ≤ cell_room memory
      → Finished xs n reach M c term memory term' memory' → low ≡ n % 4294967296 → WordsOnly spare spare' → CountedBy by (readers_in list) (outcomes L start (numbers_in list)) by'
      → RanRight list term memory spare by R (record { size = low; visible = tally.visible; internal = tally.internal; refused = tally.refused }) term' memory' spare' by'
  unfolding history_outcomes
  main_ended list {ws} {M} {tally} {n} {xs} {c} {reach} {term} {memory} {by = by} {low = low} e spelled ec er room store_room term_room memory_room done el only counted =
      let ks = numbers_in list in
      let fits = last_fits ks ws M tally e n xs spelled in
      let size_is = last_size ks ws M tally e n xs spelled in
      let words_are = last_words ks ws M tally e n xs spelled in
      let cells_are = last_cells ks ws M tally e n xs spelled (omega (arith, ec)) in
      record {
        answer = ap answered (last_told ks ws M tally e n xs spelled low el);
        term_after = done.term_written (omega (arith, fits, er)) room term_room ∙ (λ i. written (words_are i ++ replicate (er i - size_is i) 0) term);
        memory_after = done.memory_written store_room memory_room ∙ ap (λ k. written (take k (drop now_place M)) memory) ec ∙ ap (λ us. written us memory) cells_are;
        words_only = only;
        counted = counted.counted_so ∙ ap (counted_by by (readers_in list)) (machines_agree (attributes R) main ks).same_outcomes;
      }

-- ── from the start, in its own words ──

module _ (course : Course) (a : Scratch) {n : ℕ} {ws ws₂ M M₂ term memory spare by term' memory' spare' by' : List ℕ} {tally : Tally} {low : ℕ} where
  pub masked_run : length ws₂ ≡ length ws → Runs course InFull n ws M spare a by ws₂ M₂ spare' by' tally
      → Finished ws₂ tally.size course.reach M₂ course.rules.functions.cells term memory term' memory'
      → low ≡ tally.size % 4294967296
      → CourseMasked course n ws M a.path.now term memory spare by (record { size = low; visible = tally.visible; internal = tally.internal; refused = tally.refused }) term' memory' spare' by'
  unfolding memory_run
  masked_run same runs done el R T at room held =
      let list = course.list.now in
      let well = at.well in
      let er = at.reach_is in
      let ec = at.ruled.cells_are in
      let e : Ended Spelled R (memory_run (attributes R) (unfold_main R) (numbers_in list)) ws₂ M₂ tally × CountedBy by (readers_in list) (outcomes (system (Sem_M (attributes R))) (start R well) (numbers_in list)) by' × WordsOnly spare spare' =
      runs course.reach room R T at.ruled (start R well) (record { running = main_there R well; held = held; stored = at.stored }) (omega (arith, er)) in
      main_ended R well list e.0 e.0.after.held ec er (omega (arith, room.words_room)) (omega (arith, ec, e.0.after.stored.room)) at.term_room at.memory_room done el e.2 e.1

-- ── main's unfolding and the cells of the start ──

-- What making the cells of the start says, of a store with room for the most cells that there may be, twice.
abbrev pub CellsStarted : (t D M' : List ℕ) (w functions c : ℕ) → Type 0
CellsStarted t D M' w functions c = (R : RuleSet) (T : List ℕ) → Ruled R t T D w functions c → now_place + 2 * c ≤ store_length → Stored R (initial_cells (attributes R)) M'

-- What was done before the run.
pub record Begun (t T D : List ℕ) (w functions c n : ℕ) (ws ws₁ M spare spare₁ : List ℕ) : Type 0 where
  pub width_is : w ≡ row_width (label_count T)
  pub functions_are : functions ≡ function_count T
  pub few : c ≤ 1024
  pub unfolded : MainUnfolded t T spare spare₁ n
  pub loaded : Loaded spare₁ ws ws₁ 0 n
  pub started : CellsStarted t D M w functions c

module _ {t T D : List ℕ} {w functions c n : ℕ} {ws ws₁ M spare spare₁ : List ℕ} (begun : Begun t T D w functions c n ws ws₁ M spare spare₁) {reach : ℕ}
    (R : RuleSet) (well : WellFormed R) (d : Directory t T D R) (ec : c ≡ cells_needed R) (er : reach ≡ main_reach R) where
  main_unfolded : reach ≤ word_count spare → (n ≡ length (words R.edition.width (unfold_main R))) × (spare₁ ≡ written (words R.edition.width (unfold_main R)) spare)
  main_unfolded room = begun.unfolded R (record { form = well.form; declares = d.declares; processes = d.processes }) (omega (arith, main_size R well, well.reach_limit)) (omega (arith, main_size R well, er))

  spare_words : reach ≤ word_count spare → WordsOnly spare spare₁
  spare_words room = words_written (words R.edition.width (unfold_main R)) spare spare₁ (omega (arith, main_size R well, er)) (main_unfolded room).1

  main_held : reach ≤ word_count spare → reach ≤ length ws → Spelled R (unfold_main R) n ws₁
  main_held spare_room room =
      let u = main_unfolded spare_room in
      main_spelled R well n spare spare₁ ws ws₁ u.0 u.1 (omega (arith, er)) begun.loaded

  at_start : {term memory : List ℕ} → reach ≤ word_count term → c ≤ cell_room memory → AtStart R t T D w functions c reach M term memory
  at_start term_room memory_room =
      let ruled : Ruled R t T D w functions c = ruled_there R well.form t T D d w functions c begun.width_is begun.functions_are ec in
      record { well = well; ruled = ruled; reach_is = er; stored = begun.started R T ruled (omega (arith, begun.few)); term_room = term_room; memory_room = memory_room }

-- ── the two returns ──

module _ {list t T D : List ℕ} {w functions c reach n : ℕ} {ws ws₁ M spare spare₁ term memory by term' memory' by' : List ℕ} {r : Totals} where
  -- With a label in some mask.
  pub words_masked : {path spare₂ : List ℕ} → Begun t T D w functions c n ws ws₁ M spare spare₁ → length path ≡ length ws
      → RunsMasked list t D w functions c reach n ws₁ M path term memory spare₁ by r term' memory' spare₂ by' → RunsMain list t T D c reach (length ws) term memory spare by r term' memory' spare₂ by'
  words_masked {path} {spare₂} begun same_path runs R well d ec er room term_room memory_room spare_room =
      let only = spare_words begun R well d ec er spare_room in
      let q = runs R T (at_start begun R well d ec er term_room memory_room)
      (record { words_room = omega (arith, begun.loaded.same_length); bytes_room = omega (arith, only.same_length); path_room = omega arith }) (main_held begun R well d ec er spare_room room) in
      record { answer = q.answer; term_after = q.term_after; memory_after = q.memory_after; words_only = words_then spare spare₁ spare₂ only q.words_only; counted = q.counted }

  -- Without: the unfolding stays as it is, and no more is written into the spare bytes.
  pub words_mask_free : {f u d₁ : List ℕ} {ok : Bool} {paths acts middle : ℕ} → Begun t T D w functions c n ws ws₁ M spare spare₁ → f ≡ take n ws₁ → Shareable f ok → ok ≡ true → u ≡ take n ws₁
      → length d₁ ≡ length ws → paths ≡ length ws → acts ≡ length ws → middle ≡ length ws → RunsMaskFree list t D w functions c reach u d₁ M paths acts middle term memory by r term' memory' by'
      → RunsMain list t T D c reach (length ws) term memory spare by r term' memory' spare₁ by'
  words_mask_free {f} {u} begun ef shareable yes_ok eu same same_path same_acts same_middle runs R well d ec er room term_room memory_room spare_room =
      let held = main_held begun R well d ec er spare_room room in
      let only = spare_words begun R well d ec er spare_room in
      let there = (whole R well.form T d.declares (unfold_main R) (main_there R well) f (ef ∙ held.spelled)).there in
      let l : length u ≤ length ws = omega (arith, ap length (eu ∙ held.spelled), main_size R well, er) in
      let q = runs R T (at_start begun R well d ec er term_room memory_room)
      (record { words_room = omega arith; middle_room = omega arith; path_room = omega arith; numbers_room = omega arith })
      (eu ∙ held.spelled) (shareable yes_ok _ (unfold_main R) [] there) spare₁ in
      record { answer = q.answer; term_after = q.term_after; memory_after = q.memory_after; words_only = words_then spare spare₁ spare₁ only q.words_only; counted = q.counted }
