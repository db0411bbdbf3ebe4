use Rattle.cabinet.proofs.Cases.{present_told}
use Rattle.cabinet.proofs.eb3_present.Goals as goal

pub returns : goal.returns
returns c = let q = present_told _ _ _ _ _ _ _ _ _ c.from.ensures _ c.present.ensures in record { answer = q.0; term_after = q.1; memory_after = q.2 }
