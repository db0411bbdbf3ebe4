use Rattle.std.proofs.Common.{arith}
use Rattle.std.proofs.lemmas.Grind.{common_steps}
use Rattle.words.proofs.Cases.{count_out}
use Rattle.words.proofs.count.Goals as goal

pub returns-in_default-2 : goal.returns-in_default-2
returns-in_default-2 c = count_out _ _ c.args.t.now (λ l u. grind (arith, common_steps))
