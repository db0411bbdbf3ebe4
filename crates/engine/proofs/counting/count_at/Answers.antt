use mathlib.Core.Path.{refl}
use native.Mathlib.Omega.{arith}
use Rattle.engine.proofs.CountCases.{counted_loaded}
use Rattle.engine.proofs.counting.count_at.Goals as goal

pub returns : goal.returns
returns c = counted_loaded c.args.rules.now _ c.args.memory.now _ _ _ (λ R t T r e. c.load_store.ensures.1 R t T r e (omega (arith, c.args.rules.now.few_cells))) c.count_moves.ensures refl
