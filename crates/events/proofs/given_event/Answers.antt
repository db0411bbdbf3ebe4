use mathlib.Core.Path.{◌∙◌}
use Rattle.events.proofs.Cases.{cases, given_none}
use Rattle.events.proofs.given_event.Goals as goal

pub returns-in_err-given_term : goal.returns-in_err-given_term
returns-in_err-given_term c = λ R form d. c.from_residual.ensures ∙ given_none _ _ _ c.given_term.ensures c.in_err-given_term.was R form d

pub returns-in-20 : goal.returns-in-20
returns-in-20 c = let x = c.in_ok-given_term.was in search cases

pub returns-in-21 : goal.returns-in-21
returns-in-21 c = let x = c.in_ok-given_term.was in search cases

pub returns-in_default : goal.returns-in_default
returns-in_default c = let x = c.in_ok-given_term.was in search cases
