use native.Mathlib.Omega.{arith}
use Rattle.codes.specs.Laws.Table.{operands_few}
use Rattle.codes.proofs.Cases.{operands_coded}
use Rattle.codes.proofs.operands_after.Goals as goal

pub returns : goal.returns
returns c = (operands_coded c.args.w c.requires, omega (arith, operands_coded c.args.w c.requires, operands_few c.args.w c.requires))
