use mathlib.Core.List.{[]}
use Rattle.unfold.proofs.ValueCases.{values_none}
use Rattle.unfold.proofs.values.arguments_of.Goals as goal

pub loop-j-init : goal.loop-j-init
loop-j-init c = values_none [] _
