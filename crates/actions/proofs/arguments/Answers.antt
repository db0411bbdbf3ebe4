-- A word that is not the code of a constant holds no argument, and where there are too few words none is read (`Cases`).
use Rattle.actions.proofs.Cases.{count_none_short, count_none, count_one_short, count_one, count_two, is_one, not_one, not_short}
use Rattle.actions.proofs.arguments.Goals as goal
use Rattle.actions.proofs.arguments.Goals.{then-t-lt3, else-t-lt3, then-t-lt5, else-t-lt5}

pub returns-then-t : goal.returns-then-t
returns-then-t c =
    elim c.if-t-lt3.branch [ then-t-lt3 w ↦ count_none_short _ w.if-t-lt3.true | else-t-lt3 w ↦ count_none _ (not_one _ _ w.value-is c.if-t.true) ]

pub returns-then-t-2 : goal.returns-then-t-2
returns-then-t-2 c =
    elim c.if-t-lt3.branch [
      | then-t-lt3 w ↦ absurd (not_short _ _ _ w.value-is w.if-t-lt3.true c.if-t.false)
      | else-t-lt3 w ↦
          let one = is_one _ _ w.value-is c.if-t.false in
          elim c.if-t-lt5.branch [ then-t-lt5 v ↦ count_one_short _ one v.if-t-lt5.true | else-t-lt5 v ↦ count_one _ one (not_one _ _ v.value-is c.if-t-2.true) ]
    ]

pub returns-else-t-2 : goal.returns-else-t-2
returns-else-t-2 c =
    elim c.if-t-lt3.branch [
      | then-t-lt3 w ↦ absurd (not_short _ _ _ w.value-is w.if-t-lt3.true c.if-t.false)
      | else-t-lt3 w ↦
          elim c.if-t-lt5.branch [
            | then-t-lt5 v ↦ absurd (not_short _ _ _ v.value-is v.if-t-lt5.true c.if-t-2.false)
            | else-t-lt5 v ↦ count_two _ (is_one _ _ w.value-is c.if-t.false) (is_one _ _ v.value-is c.if-t-2.false)
          ]
    ]
