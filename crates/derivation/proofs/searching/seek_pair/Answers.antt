use Rattle.std.proofs.Common.{rules, arith, sym, ap, ◌∙◌, drop, get_or, eqb, ◌+◌}
use Rattle.paths.specs.Paths.{paired}
use Rattle.derivation.specs.Searching.{nth_pair}
use Rattle.derivation.proofs.Searches.{pairs_end, pairs_skip, pairs_here, pairs_pass}
use Rattle.derivation.proofs.searching.seek_pair.Goals as goal
use Rattle.derivation.proofs.searching.seek_pair.Goals.{then-together+in-Err, else-together}

pub returns-in-Ok-clause-told : goal.returns-in-Ok-clause-told
returns-in-Ok-clause-told c =
    let a = c.args in
    sym (c.loop-i.invariant.1 ∙ pairs_here c.loop-i.i a.left.now c.loop-i-test.true (paired a.x a.mask) a.right.now c.loop-i.due c.if-together.ensures _
    (c.in-Ok.ensures.told (eqb (get_or a.left.now c.loop-i.i 0)) (λ a b h p. search rules)))

pub loop-i-preserved : goal.loop-i-preserved
loop-i-preserved c = elim c.if-together.branch [
  | then-together+in-Err w ↦
      let a = c.args in (
        omega (arith, w.in-Err.ensures.within, w.due-is),
        c.loop-i.invariant.1 ∙ pairs_pass c.loop-i.i a.left.now c.loop-i-test.true (paired a.x a.mask) a.right.now c.loop-i.due w.if-together.ensures _ (w.in-Err.ensures.told (eqb (get_or a.left.now c.loop-i.i 0)) (λ a b h p. search rules))
            ∙ ap (nth_pair (paired a.x a.mask) (c.loop-i.i + 1) (drop (c.loop-i.i + 1) a.left.now) a.right.now) (omega (arith, w.due-is)),
      )
  | else-together w ↦
      let a = c.args in (
        omega arith,
        c.loop-i.invariant.1 ∙ pairs_skip c.loop-i.i a.left.now c.loop-i-test.true (paired a.x a.mask) a.right.now c.loop-i.due w.if-together.ensures
            ∙ ap (nth_pair (paired a.x a.mask) (c.loop-i.i + 1) (drop (c.loop-i.i + 1) a.left.now) a.right.now) (sym w.due-is),
      )
]

pub returns-clause-told : goal.returns-clause-told
returns-clause-told c = sym (c.loop-i.invariant.1 ∙ pairs_end (paired c.args.x c.args.mask) c.loop-i.i c.loop-i.due c.args.left.now c.args.right.now c.loop-i-test.false)
