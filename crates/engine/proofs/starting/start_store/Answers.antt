use mathlib.Core.Option.{none}
use Rattle.eb3.specs.Expressions.{no_reading}
use Rattle.eb3.specs.RuleSets.{attributes}
use Rattle.engine.specs.Laws.Memories.{memory_started}
use Rattle.engine.proofs.starting.start_store.Goals as goal

pub returns : goal.returns
returns c =
    let rules = c.args.rules.now in
    memory_started rules.functions.words.now rules.tables.now rules.functions.directory.now _ _ _ _ _ _ _ _ rules.labels_counted rules.functions_counted c.lay.ensures.0 c.fill.ensures.0 c.lay.ensures.1
    (λ R f. c.fill.ensures.1 (attributes R) none no_reading f) c.save.ensures
