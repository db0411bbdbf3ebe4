use mathlib.Core.Path.{refl}
use Rattle.unfold.proofs.MainCases.{main_none, main_many, main_put}
use Rattle.unfold.proofs.unfold_main.Goals as goal
use Rattle.unfold.proofs.unfold_main.Goals.{then-count-eq0-via-then-count-eq0, then-count-eq0-via-else-count-eq0+then-count-gt32}

pub returns-then-count-eq0 : goal.returns-then-count-eq0
returns-then-count-eq0 c =
    elim c.then-count-eq0.branch [
      | then-count-eq0-via-then-count-eq0 w ↦ main_none _ _ _ _ c.processes-count.ensures.0 w.if-count-eq0.true
      | then-count-eq0-via-else-count-eq0+then-count-gt32 w ↦ main_many _ _ _ _ c.processes-count.ensures.0 w.if-count-gt32.true
    ]

pub returns : goal.returns
returns c = main_put _ _ _ _ c.processes-count.ensures.0 _ _ _ c.process_entry-start.ensures refl c.min-room.ensures _ _ _ c.unfold_into.ensures c.unwrap_or.ensures
