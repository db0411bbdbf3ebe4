-- Main's unfolding and the cells of the start, and the run from there, the term held in one way (`words_mask_free`) or the other (`words_masked`).
use Rattle.runs.proofs.MainCases.{words_mask_free, words_masked}
use Rattle.runs.proofs.main_process.run_words.Goals as goal

pub returns-then-shareable : goal.returns-then-shareable
returns-then-shareable c = words_mask_free (record { width_is = c.args.course.now.rules.labels_counted; functions_are = c.args.course.now.rules.functions_counted; few = c.args.course.now.rules.few_cells; unfolded = c.unfold_main-n.ensures.1; loaded = c.load.ensures; started = c.start_store.ensures.1 }) c.front.ensures c.shareable.ensures c.if-shareable.true c.front-then-shareable.ensures c.requires.1 c.requires.2 c.requires.3 c.requires.4 c.run_mask_free.ensures

pub returns : goal.returns
returns c = words_masked (record { width_is = c.args.course.now.rules.labels_counted; functions_are = c.args.course.now.rules.functions_counted; few = c.args.course.now.rules.few_cells; unfolded = c.unfold_main-n.ensures.1; loaded = c.load.ensures; started = c.start_store.ensures.1 }) c.requires.2 c.run_masked.ensures.1
