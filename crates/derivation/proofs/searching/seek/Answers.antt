use Rattle.std.proofs.Common.{arith, sym, ap, ◌∙◌, drop, ◌+◌}
use Rattle.derivation.specs.Searching.{nth_place}
use Rattle.derivation.proofs.Searches.{search_end, search_skip, search_here, search_pass}
use Rattle.derivation.proofs.searching.seek.Goals as goal
use Rattle.derivation.proofs.searching.seek.Goals.{then-test+else-due-eq0, else-test}

pub returns-then-due-eq0-clause-told : goal.returns-then-due-eq0-clause-told
returns-then-due-eq0-clause-told g c = λ q f. sym (c.loop-i.invariant.1 q f ∙ search_here c.loop-i.i c.args.acts.now c.loop-i-test.true q c.loop-i.due (f _ _ (omega (arith, c.type_inv.acts c.loop-i.i)) c.if-test.ensures) c.if-due-eq0.true)

pub loop-i-preserved : goal.loop-i-preserved
loop-i-preserved g c = elim c.if-test.branch [
  | then-test+else-due-eq0 w ↦ (omega arith, λ q f. c.loop-i.invariant.1 q f ∙ search_pass c.loop-i.i c.args.acts.now c.loop-i-test.true q c.loop-i.due (f _ _ (omega (arith, c.type_inv.acts c.loop-i.i)) w.if-test.ensures) w.if-due-eq0.false ∙ ap (nth_place q (c.loop-i.i + 1) (drop (c.loop-i.i + 1) c.args.acts.now)) (sym w.due-is))
  | else-test w ↦ (omega arith, λ q f. c.loop-i.invariant.1 q f ∙ search_skip c.loop-i.i c.args.acts.now c.loop-i-test.true q c.loop-i.due (f _ _ (omega (arith, c.type_inv.acts c.loop-i.i)) w.if-test.ensures) ∙ ap (nth_place q (c.loop-i.i + 1) (drop (c.loop-i.i + 1) c.args.acts.now)) (sym w.due-is))
]

pub returns-clause-told : goal.returns-clause-told
returns-clause-told g c = λ q f. sym (c.loop-i.invariant.1 q f ∙ search_end q c.loop-i.i c.loop-i.due c.args.acts.now c.loop-i-test.false)
