use Rattle.std.proofs.Common.{◌∙◌}
use Rattle.readers.proofs.Laws.Table.{add_start, add_next, add_nothing}
use Rattle.readers.proofs.add_all.Goals as goal
use Rattle.readers.proofs.add_all.Goals.{then-not-idle, else-not-idle}

pub loop-i-init : goal.loop-i-init
loop-i-init c = add_start _ _

pub loop-i-preserved : goal.loop-i-preserved
loop-i-preserved c =
    elim c.if-not-idle.branch [
      | then-not-idle w ↦ w.table-is ∙ add_next _ _ _ _ _ _ c.loop-i.invariant c.counts_at-more.ensures w.add_to.ensures
      | else-not-idle w ↦ w.table-is ∙ add_nothing _ _ _ _ _ _ c.requires c.loop-i.invariant c.counts_at-more.ensures c.idle.ensures w.if-not-idle.false
    ]
