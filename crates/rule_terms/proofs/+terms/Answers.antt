use mathlib.Core.Path.{ap}
use native.Mathlib.Omega.{arith}
use lib.ListN.{length, length-drop}
use Rattle.words.specs.Laws.Checking.{last_len, by_number_pos}
use Rattle.words.specs.Laws.Reading.{handed_on}
use Rattle.rule_terms.proofs.Codes.{term_refused, term_internal, parts, binders}
use Rattle.rule_terms.proofs.Stars.{around}
use Rattle.rule_terms.proofs.+terms.Goals as goal

pub two_terms-returns-in_err-b : goal.two_terms-returns-in_err-b
two_terms-returns-in_err-b t c = let x = c.in_ok-a.was in let z = c.in_err-b.was in handed_on _ _ _ c.from_residual-in_err-b.ensures (search parts)

pub two_terms-operand-requires-2 : goal.two_terms-operand-requires-2
two_terms-operand-requires-2 t c = omega (arith, last_len)

pub two_terms-returns : goal.two_terms-returns
two_terms-returns t c = let x = c.in_ok-a.was in let y = c.in_ok-b.was in search parts

pub in_parallel-returns-in_err-n : goal.in_parallel-returns-in_err-n
in_parallel-returns-in_err-n t c = let z = c.in_err-n.was in handed_on _ _ _ c.from_residual.ensures (search parts)

pub in_parallel-two_terms-requires : goal.in_parallel-two_terms-requires
in_parallel-two_terms-requires t c = omega (arith, last_len)

pub guarded-returns-in_err-n : goal.guarded-returns-in_err-n
guarded-returns-in_err-n t c = let z = c.in_err-n.was in handed_on _ _ _ c.from_residual.ensures (search binders)

pub guarded-returns-in_err-a : goal.guarded-returns-in_err-a
guarded-returns-in_err-a t c = let x = c.in_ok-n.was in let z = c.in_err-a.was in handed_on _ _ _ c.from_residual-in_err-a.ensures (search binders)

pub guarded-operand-requires : goal.guarded-operand-requires
guarded-operand-requires t c = omega (arith, last_len)

pub guarded-returns : goal.guarded-returns
guarded-returns t c = let x = c.in_ok-n.was in let y = c.in_ok-a.was in search binders

pub copies-returns-in_err-a : goal.copies-returns-in_err-a
copies-returns-in_err-a t c = let x = c.in_ok-m.was in let z = c.in_err-a.was in handed_on _ _ _ c.from_residual-in_err-a.ensures (search parts)

pub copies-operand-requires : goal.copies-operand-requires
copies-operand-requires t c = omega (arith, last_len)

pub copies-returns : goal.copies-returns
copies-returns t c = let x = c.in_ok-m.was in let y = c.in_ok-a.was in search parts

pub quantified-returns-in_err-n : goal.quantified-returns-in_err-n
quantified-returns-in_err-n t c = let z = c.in_err-n.was in handed_on _ _ _ c.from_residual.ensures (search binders)

pub quantified-bounds-t-0 : goal.quantified-bounds-t-0
quantified-bounds-t-0 t c = let x = c.in_ok-n.was in search by_number_pos

pub check_term-returns-in_err-a : goal.check_term-returns-in_err-a
check_term-returns-in_err-a t c = let z = c.in_err-a.was in handed_on _ _ _ c.from_residual.ensures (search around)

pub check_term-returns : goal.check_term-returns
check_term-returns t c = let x = c.in_ok-a.was in search around

pub check_term-check_plain-requires : goal.check_term-check_plain-requires
check_term-check_plain-requires t c = (omega (arith, ap length c.after.ensures, length-drop c.leading-k.result c.args.s.now), search around)

pub check_plain-returns-in-20 : goal.check_plain-returns-in-20
check_plain-returns-in-20 t c = term_internal _ _ _ _ _ c.in_ok-w.ensures.coded c.behind-t.ensures _ c.in-20.is c.single.ensures

pub quantified-copies-requires : goal.quantified-copies-requires
quantified-copies-requires t c = (omega (arith, last_len), tt)

pub check_plain-returns-in_err-w : goal.check_plain-returns-in_err-w
check_plain-returns-in_err-w t c = term_refused _ _ _ _ _ c.from_residual.ensures c.in_err-w.ensures.coded
