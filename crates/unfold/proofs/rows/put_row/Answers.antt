use native.Mathlib.Omega.{arith}
use mathlib.Core.Path.{◌≡◌, refl, ◌∙◌}
use Rattle.unfold.proofs.RowCases.{rows, last_size, last_again, last_after, part_size, row_unknown, row_long, row_short, row_none, row_next}
use Rattle.unfold.proofs.rows.put_row.Goals as goal

pub loop-k-init : goal.loop-k-init
loop-k-init c = (omega (arith, last_size), omega (arith, last_size), omega (arith, last_size), last_again _ _ _ c.last-s.ensures, search rows)

pub returns-in_err-c-clause-puts : goal.returns-in_err-c-clause-puts
returns-in_err-c-clause-puts c = row_unknown _ _ _ _ _ _ _ _ _ _ c.loop-k.invariant.4 c.loop-k-test.true c.loop-k.invariant.3 c.in_err-c.ensures c.from_residual.ensures

pub returns-then-m-gt2-clause-puts : goal.returns-then-m-gt2-clause-puts
returns-then-m-gt2-clause-puts c = row_long _ _ _ _ _ _ _ _ _ _ _ c.loop-k.invariant.4 c.loop-k-test.true c.loop-k.invariant.3 c.in_ok-c.ensures.0 c.words_after-m.ensures.0 c.if-m-gt2.true

pub returns-then-s-m-clause-puts : goal.returns-then-s-m-clause-puts
returns-then-s-m-clause-puts c = row_short _ _ _ _ _ _ _ _ _ _ _ c.loop-k.invariant.4 c.loop-k-test.true c.loop-k.invariant.3 c.in_ok-c.ensures.0 c.words_after-m.ensures.0 c.if-s-m.true

pub returns-in_err-put_front-clause-puts : goal.returns-in_err-put_front-clause-puts
returns-in_err-put_front-clause-puts c =
    let none : 0 ≡ c.words_after-m.result = let e = c.if-m-eq1.true in omega arith in
    row_none _ _ _ _ _ _ _ _ _ _ 0 c.loop-k.invariant.4 c.loop-k-test.true c.loop-k.invariant.3 c.in_ok-c.ensures.0 (none ∙ c.words_after-m.ensures.0) (omega (arith, c.in_ok-c.ensures)) _ _ c.from_residual-in_err-put_front.ensures c.in_err-put_front.ensures

pub returns-in_err-put_front-2-clause-puts : goal.returns-in_err-put_front-2-clause-puts
returns-in_err-put_front-2-clause-puts c = row_none _ _ _ _ _ _ _ _ _ _ _ c.loop-k.invariant.4 c.loop-k-test.true c.loop-k.invariant.3 c.in_ok-c.ensures.0 c.words_after-m.ensures.0 c.if-s-m.false _ _ c.from_residual-in_err-put_front-2.ensures c.in_err-put_front-2.ensures

pub loop-k-preserved-then-m-eq1 : goal.loop-k-preserved-then-m-eq1
loop-k-preserved-then-m-eq1 c =
    let none : 0 ≡ c.words_after-m.result = let e = c.if-m-eq1.true in omega arith in (
      omega (arith, part_size),
      omega (arith, part_size),
      omega (arith, part_size),
      last_after _ _ _ _ _ c.loop-k.invariant.3 refl,
      row_next _ _ _ _ _ _ _ _ _ _ 0 c.loop-k.invariant.4 c.loop-k-test.true c.loop-k.invariant.3 c.in_ok-c.ensures.0 (none ∙ c.words_after-m.ensures.0) (omega (arith, c.in_ok-c.ensures)) _ _ _ _ c.in_ok-put_front.ensures c.operands_after.ensures.0 refl,
    )

pub loop-k-smaller : goal.loop-k-smaller
loop-k-smaller c = omega (arith, part_size)

pub loop-k-preserved : goal.loop-k-preserved
loop-k-preserved c = (
  omega (arith, part_size),
  omega (arith, part_size),
  omega (arith, part_size),
  last_after _ _ _ _ _ c.loop-k.invariant.3 refl,
  row_next _ _ _ _ _ _ _ _ _ _ _ c.loop-k.invariant.4 c.loop-k-test.true c.loop-k.invariant.3 c.in_ok-c.ensures.0 c.words_after-m.ensures.0 c.if-s-m.false _ _ _ _ c.in_ok-put_front-2.ensures c.operands_after-in-loop-k.ensures.0 refl,
)

pub returns-clause-puts : goal.returns-clause-puts
returns-clause-puts c = search rows
