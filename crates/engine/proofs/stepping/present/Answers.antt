use mathlib.Core.Path.{sym, subst}
use borrow.Author.Rules.{rules}
use Rattle.engine.specs.Stepping.{Done}
use Rattle.engine.proofs.StepGivenCases.{done_there}
use Rattle.engine.specs.Laws.Stepping.{present_stepped}
use Rattle.engine.proofs.stepping.present.Goals as goal

pub returns : goal.returns
returns c = done_there (search rules) (search rules) (subst (λ w. Done w c.step_by.result c.step_by.new.next.term.now c.step_by.new.next.memory.now) (sym (present_stepped c.args.rules.now c.args.term.now c.args.memory.now c.args.next_term.now c.args.next_memory.now c.args.event)) c.step_by.ensures.done)
