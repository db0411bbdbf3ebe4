use mathlib.Core.Path.{refl}
use lib.Seq.{paste-zero}
use lib.ListN.{length-set}
use native.Mathlib.Omega.{arith}
use Rattle.sharing.proofs.SplicingCases.{copy_more, copy_last}
use Rattle.sharing.proofs.splicing.copy_words.Goals as goal

pub loop-i-init : goal.loop-i-init
loop-i-init c = (refl, paste-zero c.args.dst.now c.args.at c.args.src.now)

pub loop-i-preserved : goal.loop-i-preserved
loop-i-preserved c = (simp length-set (omega arith), search copy_more)

pub returns : goal.returns
returns c = search copy_last
