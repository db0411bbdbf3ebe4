use mathlib.Core.Path.{◌≡◌}
use Rattle.eb3.specs.Measures.{Measure}
use Rattle.measures.specs.declared.Weight.{Weight}
use Rattle.measures.specs.Weighing.{measure, steps}
use Rattle.measures.proofs.repeated.Given as goal

-- So many steps are done, whatever a step does.
abbrev pub invariant-loop : goal.invariant-loop
invariant-loop g l =
    (f : Measure → Measure) → ((w v : Weight) → goal.F-post g l.step w v → measure v ≡ f (measure w)) → measure l.w ≡ steps f l.counter (measure l.fn.from)
