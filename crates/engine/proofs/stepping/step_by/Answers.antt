use Rattle.std.proofs.Common.{rules, ◌≡◌, refl}
use Rattle.engine.specs.Stepping.{SameBuffers}
use Rattle.engine.specs.contracts.stepping.fn.step_by.with_given.{captures}
use Rattle.engine.proofs.EnvelopeCases.{leaves}
use Rattle.engine.proofs.StepGivenCases.{stepped_given}
use Rattle.engine.proofs.stepping.step_by.Goals as goal

pub returns-clause-buffers : goal.returns-clause-buffers
returns-clause-buffers c =
    let same = leaves _ _ c.with_given.ensures (λ f f'. (captures f').next.ghost_name ≡ (captures f).next.ghost_name) refl (λ x k. let h = k.called in search rules) in
    let kept = leaves _ _ c.with_given.ensures (λ f f'. SameBuffers (captures f).next.now (captures f').next.now) (record { term_is = refl; memory_is = refl }) (λ x k. let h = k.called in search rules) in
    search rules

pub returns-clause-done : goal.returns-clause-done
returns-clause-done c =
    let asked = c.args.asked.now in
    let same = leaves _ _ c.with_given.ensures (λ f f'. (captures f').next.ghost_name ≡ (captures f).next.ghost_name) refl (λ x k. let h = k.called in search rules) in
    let done =
    stepped_given _ c.args.rules.now asked.term.now c.with_given.ensures asked.memory.now asked.request (λ f. (captures f).next.now.term.now) (λ f. (captures f).next.now.memory.now)
    (λ x s g h. search rules) in
    search rules
