use Rattle.std.proofs.Common.{rules, ◌≡◌, refl}
use Rattle.engine.specs.contracts.running.fn.run.with_admitted.{captures}
use Rattle.engine.proofs.EnvelopeCases.{leaves}
use Rattle.engine.proofs.RunCases.{ran_given}
use Rattle.engine.proofs.running.run.Goals as goal

pub returns : goal.returns
returns c =
    let table = leaves _ _ c.with_admitted.ensures (λ f f'. (captures f').table.ghost_name ≡ (captures f).table.ghost_name) refl (λ x k. let h = k.called in search rules) in
    let term = leaves _ _ c.with_admitted.ensures (λ f f'. (captures f').term.ghost_name ≡ (captures f).term.ghost_name) refl (λ x k. let h = k.called in search rules) in
    let memory = leaves _ _ c.with_admitted.ensures (λ f f'. (captures f').memory.ghost_name ≡ (captures f).memory.ghost_name) refl (λ x k. let h = k.called in search rules) in
    let spare = leaves _ _ c.with_admitted.ensures (λ f f'. (captures f').spare.ghost_name ≡ (captures f).spare.ghost_name) refl (λ x k. let h = k.called in search rules) in
    let done =
    ran_given _ c.args.rules.now c.with_admitted.ensures c.args.list.now c.args.cells.now (λ f. (captures f).table.now) (λ f. (captures f).term.now) (λ f. (captures f).memory.now) (λ f. (captures f).spare.now)
    (λ x l h. search rules) in
    search rules
