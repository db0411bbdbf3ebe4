use mathlib.Core.List.{◌∷◌}
use mathlib.Core.Path.{refl, ap, ◌∙◌}
use lib.Seq.{length-take-le}
use Rattle.tables.specs.Tables.{from}
use Rattle.unfold.specs.Saying.{argument_at}
use Rattle.unfold.proofs.TermCases.{term_none, body_put, values_kept, values_start, copied, copies_full, copies_lost, copies_next, copies_last, terms, parts, quantifiers}
use Rattle.unfold.proofs.RowCases.{last_size}
use native.Mathlib.Omega.{arith}
use borrow.Author.Rules.{rules}
use Rattle.unfold.proofs.+unfolding_terms.Goals as goal

pub body-returns : goal.body-returns
body-returns t c = body_put _ _ _ _ _ _ _ _ c.last-s.ensures c.parameters_row-k.ensures _ _ _ _ (c.arguments_of.ensures ∙ ap (λ k. from 0 k (argument_at c.args.scope.now.context.variables.now c.last-s.result.now)) (length-take-le _ _ (omega arith))) c.process_entry-start.ensures refl _ c.in_ok-enter.ensures

pub copies-loop-x-init : goal.copies-loop-x-init
copies-loop-x-init t c = (values_start _ _ _ c.with-more.ensures, search quantifiers)

pub copies-returns-in_err-head : goal.copies-returns-in_err-head
copies-returns-in_err-head t c = copies_full _ _ _ _ _ _ _ _ _ _ c.loop-x.invariant.1 (omega arith) _ _ (ap (λ k. k ∷ c.args.mask.now) c.code.ensures) _ c.from_residual.ensures c.in_err-head.ensures

pub copies-returns-in_err-copy : goal.copies-returns-in_err-copy
copies-returns-in_err-copy t c = copies_lost _ _ _ _ _ _ _ _ _ _ c.loop-x.invariant.1 (omega arith) _ _ (ap (λ k. k ∷ c.args.mask.now) c.code.ensures) _ c.in_ok-head.ensures _ _ c.from_residual-in_err-copy.ensures (copied _ _ _ _ _ _ _ _ _ _ c.loop-x.invariant.0 c.in_err-copy.ensures)

pub copies-loop-x-preserved : goal.copies-loop-x-preserved
copies-loop-x-preserved t c = (values_kept _ _ _ c.loop-x.invariant.0, copies_next _ _ _ _ _ _ _ _ _ _ c.loop-x.invariant.1 (omega arith) _ _ (ap (λ k. k ∷ c.args.mask.now) c.code.ensures) _ c.in_ok-head.ensures _ _ (copied _ _ _ _ _ _ _ _ _ _ c.loop-x.invariant.0 c.in_ok-copy.ensures))

pub copies-returns : goal.copies-returns
copies-returns t c = copies_last _ _ _ _ _ _ _ _ _ _ c.loop-x.invariant.1 _ _ _ (omega arith) (omega arith) (copied _ _ _ _ _ _ _ _ _ _ c.loop-x.invariant.0 c.copy-2.ensures)

pub enter-returns-then-is_empty : goal.enter-returns-then-is_empty
enter-returns-then-is_empty t c = term_none _ _ _ _ _ _ c.last-s.ensures _ (search rules)

pub enter-returns-then-s-eq-CALL : goal.enter-returns-then-s-eq-CALL
enter-returns-then-s-eq-CALL t c = search terms

pub guarded-returns : goal.guarded-returns
guarded-returns t c = search (parts, c.in_ok-left.ensures)

pub joined-two_terms-requires : goal.joined-two_terms-requires
joined-two_terms-requires t c = (omega (arith, last_size), search rules)

pub joined-returns : goal.joined-returns
joined-returns t c = search (parts, c.in_ok-head.ensures)

pub over-copies-requires : goal.over-copies-requires
over-copies-requires t c = (omega (arith, last_size), search rules)

pub starred-returns : goal.starred-returns
starred-returns t c = search (parts, c.in_ok-head.ensures)

pub two_terms-returns-then-n-left : goal.two_terms-returns-then-n-left
two_terms-returns-then-n-left t c = search (parts, c.in_ok-left.ensures)

pub two_terms-returns : goal.two_terms-returns
two_terms-returns t c = search (parts, c.in_ok-left.ensures)

pub unfold-returns-then-is_empty : goal.unfold-returns-then-is_empty
unfold-returns-then-is_empty t c = term_none _ _ _ _ _ _ c.last-s.ensures _ (search rules)

pub unfold-returns-in_err-head-in-20 : goal.unfold-returns-in_err-head-in-20
unfold-returns-in_err-head-in-20 t c = search (terms, c.in_err-head-in-20.ensures)

pub unfold-returns-in_ok-head-in-20 : goal.unfold-returns-in_ok-head-in-20
unfold-returns-in_ok-head-in-20 t c = search (terms, c.in_ok-head-in-20.ensures)

pub unfold-returns-in-21 : goal.unfold-returns-in-21
unfold-returns-in-21 t c = search terms

pub unfold-returns-in-22 : goal.unfold-returns-in-22
unfold-returns-in-22 t c = search terms

pub unfold-returns-in-23 : goal.unfold-returns-in-23
unfold-returns-in-23 t c = search terms

pub unfold-returns-in-24 : goal.unfold-returns-in-24
unfold-returns-in-24 t c = search terms

pub unfold-returns-in-25 : goal.unfold-returns-in-25
unfold-returns-in-25 t c = search terms

pub unfold-returns-in-26 : goal.unfold-returns-in-26
unfold-returns-in-26 t c = search terms

pub unfold-returns-in-27 : goal.unfold-returns-in-27
unfold-returns-in-27 t c = search terms

pub unfold-returns-in-28 : goal.unfold-returns-in-28
unfold-returns-in-28 t c = search terms

pub unfold-returns-in-29 : goal.unfold-returns-in-29
unfold-returns-in-29 t c = search terms

pub unfold-returns-in_default : goal.unfold-returns-in_default
unfold-returns-in_default t c = search terms
