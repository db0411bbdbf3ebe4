use native.Mathlib.Omega.{arith}
use Rattle.given.specs.Laws.Handing.{handed_some, handed_none}
use Rattle.engine.proofs.StepCases.{step_loaded, step_unwanted}
use Rattle.engine.proofs.stepping.step_at.Goals as goal

pub returns-in_err-k-clause-done : goal.returns-in_err-k-clause-done
returns-in_err-k-clause-done c =
    let h = handed_none _ c.ok_or.ensures.value c.in_err-k.was _ c.from_residual.ensures in
    rw h.1 (step_unwanted c.args.rules.now _ _ c.args.memory.now c.args.wanted _ (λ R t T r e. c.load_store.ensures.1 R t T r e (omega (arith, c.args.rules.now.few_cells))) c.find.ensures _ _ h.0)

pub returns-clause-done : goal.returns-clause-done
returns-clause-done c =
    step_loaded c.args.rules.now _ _ c.args.memory.now c.args.wanted _ (λ R t T r e. c.load_store.ensures.1 R t T r e (omega (arith, c.args.rules.now.few_cells))) c.find.ensures _ _ _ _ _ _ (handed_some _ c.ok_or.ensures.value c.in_ok-k.was) c.step_from.ensures.done
