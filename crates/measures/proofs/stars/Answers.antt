use mathlib.Core.Path.{◌∙◌}
use Rattle.std.proofs.Common.{rules}
use Rattle.eb3.specs.Measures.{sat, star_of}
use Rattle.measures.specs.Weighing.{measure, cap}
use Rattle.measures.proofs.Steps.{laid}
use Rattle.measures.proofs.stars.Goals as goal

pub returns : goal.returns
returns c = c.repeated.ensures (star_of (sat cap)) (λ w v k. search rules) ∙ laid c.args.n (measure c.args.a)
