use Rattle.cabinet.proofs.Cases.{move_told}
use Rattle.cabinet.proofs.eb3_move.Goals as goal

pub returns : goal.returns
returns c = let q = move_told _ _ _ _ _ _ _ _ _ c.from.ensures c.args.k c.make_move.ensures in record { answer = q.0; term_after = q.1; memory_after = q.2 }
