use Rattle.admission.specs.Laws.Opening.{stream_part}
use Rattle.admission.proofs.Cases.{file_admitted}
use Rattle.admission.proofs.admit_in.Goals as goal

pub returns : goal.returns
returns c = let p = c.requires in file_admitted _ _ _ _ _ _ _ _ _ c.join.ensures (stream_part c.args.rules.now _ p.0 p.2 p.3 _ c.args.words.now c.join.ensures) c.admit_words.ensures
