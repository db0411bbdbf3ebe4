-- A store made ready, and filled by the expressions for the empty trace (`store_started`).
use mathlib.Core.Path.{◌∙◌}
use Rattle.steps.proofs.Stores.{store_started}
use Rattle.steps.proofs.storing.start_store.Goals as goal

pub returns : goal.returns
returns c = (c.fill.ensures.0 ∙ c.lay.ensures.0, store_started c.args.functions.now.words.now c.args.functions.now.directory.now _ _ _ _ _ _ c.lay.ensures.0 c.fill.ensures.0 c.lay.ensures.1 c.fill.ensures.1)
