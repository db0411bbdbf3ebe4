-- A store made ready, and the words of a memory put into it (`store_loaded`).
use mathlib.Core.Path.{◌∙◌}
use Rattle.steps.proofs.Stores.{store_loaded}
use Rattle.steps.proofs.storing.load_store.Goals as goal

pub returns : goal.returns
returns c = (c.load.ensures.same_length ∙ c.lay.ensures.0, store_loaded _ _ _ _ _ _ _ _ (λ i. (c.type_inv.memory i).fits) c.lay.ensures.0 c.lay.ensures.1 c.load.ensures)
