use Rattle.std.proofs.Common.{rules, ◌≡◌, refl}
use Rattle.engine.specs.contracts.starting.fn.start.with_admitted.{captures}
use Rattle.engine.proofs.EnvelopeCases.{leaves}
use Rattle.engine.proofs.StartCases.{started_given}
use Rattle.engine.proofs.starting.start.Goals as goal

pub returns : goal.returns
returns c =
    let term = leaves _ _ c.with_admitted.ensures (λ f f'. (captures f').term.ghost_name ≡ (captures f).term.ghost_name) refl (λ x k. let h = k.called in search rules) in
    let memory = leaves _ _ c.with_admitted.ensures (λ f f'. (captures f').memory.ghost_name ≡ (captures f).memory.ghost_name) refl (λ x k. let h = k.called in search rules) in
    let done = started_given _ c.args.rules.now c.with_admitted.ensures (λ f. (captures f).term.now) (λ f. (captures f).memory.now) (λ x l h. search rules) in
    search rules
