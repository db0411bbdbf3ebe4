use mathlib.Core.Path.{refl, ◌∙◌}
use native.Mathlib.Omega.{arith}
use Rattle.given.proofs.AskCases.{asked_odd, asked_long, asked_stranger, asked_action}
use Rattle.given.proofs.asking.read_event.Goals as goal

pub returns-then-event-ne0 : goal.returns-then-event-ne0
returns-then-event-ne0 c = asked_odd _ c.args.event.now (λ e. let z : ⊥ = omega arith in z)

pub returns-then-n-gt6 : goal.returns-then-n-gt6
returns-then-n-gt6 c = asked_long _ c.args.event.now (omega arith)

pub returns-in_err-code : goal.returns-in_err-code
returns-in_err-code c = λ R f d. c.from_residual.ensures ∙ asked_stranger _ c.args.event.now _ _ _ (omega arith) c.load.ensures c.front.ensures _ c.given_event.ensures c.in_err-code.was R f d

pub returns : goal.returns
returns c = let x = c.in_ok-code.was in asked_action _ c.args.event.now _ _ _ (omega arith) c.load.ensures c.front.ensures _ c.given_event.ensures (omega arith) _ _ x refl
