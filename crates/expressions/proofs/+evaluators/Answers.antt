use Rattle.words.specs.Laws.Checking.{last_len, behind_len}
use Rattle.expressions.proofs.Cases.{paired, joined, negated, named, select_second, select_first}
use Rattle.expressions.proofs.Fronts.{handed, data_constant, data_variable, data_sum, data_difference, data_selection, data_present, data_past, data_none, cond_equality, cond_order, cond_conjunction, cond_disjunction, cond_negation, cond_truism}
use Rattle.expressions.specs.Operands.{operated, connected}
use native.Mathlib.Omega.{arith}
use mathlib.Core.Path.{refl, ap, sym, ◌∙◌}
use lib.Dec.{eqb}
use mir.Val.{bool_byte}
use Rattle.words.specs.Checking.{last_of}
use Rattle.expressions.specs.Answering.{answer}
use Rattle.expressions.proofs.+evaluators.Goals as goal
use Rattle.expressions.proofs.+evaluators.Goals.{eval_data-in-1, eval_data-in-2, eval_data-in-3, eval_data-in-4, eval_data-in-5, eval_data-in-6, eval_data-in-7, eval_data-in_default, selected-then-truth_of-eq0, selected-else-truth_of-eq0}

pub attribute-returns : goal.attribute-returns
attribute-returns t c = (named c.args.t.now _ _ _ _ _ _ c.behind.ensures c.operand-x.ensures.0 c.first.ensures.0 c.cell.ensures.0 refl, omega (arith, behind_len))

pub eval_cond-returns-in-8 : goal.eval_cond-returns-in-8
eval_cond-returns-in-8 t c = (cond_equality _ _ _ _ c.behind-t.ensures _ c.first-w.ensures.0 c.in-8.is c.compared.ensures.0, c.compared.ensures.1)

pub eval_cond-returns-in-9 : goal.eval_cond-returns-in-9
eval_cond-returns-in-9 t c = (cond_order _ _ _ _ c.behind-t.ensures _ c.first-w.ensures.0 c.in-9.is c.compared-in-9.ensures.0, c.compared-in-9.ensures.1)

pub eval_cond-returns-in-10 : goal.eval_cond-returns-in-10
eval_cond-returns-in-10 t c = (cond_conjunction _ _ _ _ c.behind-t.ensures _ c.first-w.ensures.0 c.in-10.is c.joined.ensures.0, c.joined.ensures.1)

pub eval_cond-returns-in-11 : goal.eval_cond-returns-in-11
eval_cond-returns-in-11 t c = (cond_disjunction _ _ _ _ c.behind-t.ensures _ c.first-w.ensures.0 c.in-11.is c.joined-in-11.ensures.0, c.joined-in-11.ensures.1)

pub eval_cond-returns-in-12 : goal.eval_cond-returns-in-12
eval_cond-returns-in-12 t c = (cond_negation _ _ _ _ c.behind-t.ensures _ c.first-w.ensures.0 c.in-12.is c.negated.ensures.0, c.negated.ensures.1)

pub eval_cond-returns-in_default : goal.eval_cond-returns-in_default
eval_cond-returns-in_default t c = (search cond_truism, c.pack.ensures.1)

pub joined-eval_cond-y-requires : goal.joined-eval_cond-y-requires
joined-eval_cond-y-requires t c = (omega (arith, last_len), omega (arith, last_len))

pub joined-returns : goal.joined-returns
joined-returns t c = (
  joined _ _ _ _ _ (connected c.args.connective) _ _ c.eval_cond-x.ensures.0 (c.last.ensures ∙ ap (λ n. last_of n c.args.t.now) c.words_left.ensures) c.eval_cond-y.ensures.0
      (λ p q e f. c.connect.ensures.0 p q (c.truth_of.ensures ∙ e) (c.truth_of-2.ensures ∙ f)) (c.pack.ensures.0 ∙ ap (answer c.connect.result) c.words_left-2.ensures),
  c.pack.ensures.1,
)

pub negated-returns : goal.negated-returns
negated-returns t c =
    (negated _ _ _ c.eval_cond-x.ensures.0 _ _ (c.from.ensures ∙ ap (λ n. bool_byte (eqb n 0)) c.truth_of.ensures) (c.pack.ensures.0 ∙ ap (answer c.from.result) c.words_left.ensures), c.pack.ensures.1)

pub operand-returns-in-1 : goal.operand-returns-in-1
operand-returns-in-1 t c = (data_constant _ _ _ _ c.behind-t.ensures _ c.first-w.ensures.0 c.in-1.is c.constant.ensures.0, omega (arith, behind_len))

pub operand-returns-in-2 : goal.operand-returns-in-2
operand-returns-in-2 t c = (data_variable _ _ _ _ c.behind-t.ensures _ c.first-w.ensures.0 c.in-2.is c.variable.ensures.0, omega (arith, behind_len))

pub paired-operand-y-requires : goal.paired-operand-y-requires
paired-operand-y-requires t c = (omega (arith, last_len), omega (arith, last_len))

pub paired-returns : goal.paired-returns
paired-returns t c = (paired _ _ _ _ _ (operated c.args.operation) _ c.operand-x.ensures.0 c.last.ensures c.operand-y.ensures.0 c.operate.ensures.0 refl, omega (arith, last_len))

pub selected-operand-x-requires : goal.selected-operand-x-requires
selected-operand-x-requires t c = (omega (arith, last_len), omega (arith, last_len))

pub selected-operand-y-requires : goal.selected-operand-y-requires
selected-operand-y-requires t c = (omega (arith, last_len), omega (arith, last_len))

pub eval_data-returns : goal.eval_data-returns
eval_data-returns t c = elim c.match-w.branch [
  | eval_data-in-1 w ↦ (handed _ _ w.constant.result _ (ap (λ y. y.0) w.result-is) (ap (λ y. y.1.0) w.result-is) (data_constant _ _ _ _ c.behind-t.ensures _ c.first-w.ensures.0 w.in-1.is w.constant.ensures.0), omega (arith, behind_len, ap (λ y. y.1.0) w.result-is))
  | eval_data-in-2 w ↦ (handed _ _ w.variable.result _ (ap (λ y. y.0) w.result-is) (ap (λ y. y.1.0) w.result-is) (data_variable _ _ _ _ c.behind-t.ensures _ c.first-w.ensures.0 w.in-2.is w.variable.ensures.0), omega (arith, behind_len, ap (λ y. y.1.0) w.result-is))
  | eval_data-in-3 w ↦ (handed _ _ w.paired.result _ (ap (λ y. y.0) w.result-is) (ap (λ y. y.1.0) w.result-is) (data_sum _ _ _ _ c.behind-t.ensures _ c.first-w.ensures.0 w.in-3.is w.paired.ensures.0), omega (arith, behind_len, ap (λ y. y.1.0) w.result-is))
  | eval_data-in-4 w ↦ (handed _ _ w.paired-in-4.result _ (ap (λ y. y.0) w.result-is) (ap (λ y. y.1.0) w.result-is) (data_difference _ _ _ _ c.behind-t.ensures _ c.first-w.ensures.0 w.in-4.is w.paired-in-4.ensures.0), omega (arith, behind_len, ap (λ y. y.1.0) w.result-is))
  | eval_data-in-5 w ↦ (handed _ _ w.selected.result _ (ap (λ y. y.0) w.result-is) (ap (λ y. y.1.0) w.result-is) (data_selection _ _ _ _ c.behind-t.ensures _ c.first-w.ensures.0 w.in-5.is w.selected.ensures.0), omega (arith, behind_len, ap (λ y. y.1.0) w.result-is))
  | eval_data-in-6 w ↦ (handed _ _ w.attribute.result _ (ap (λ y. y.0) w.result-is) (ap (λ y. y.1.0) w.result-is) (data_present _ _ _ _ c.behind-t.ensures _ c.first-w.ensures.0 w.in-6.is w.attribute.ensures.0), omega (arith, behind_len, ap (λ y. y.1.0) w.result-is))
  | eval_data-in-7 w ↦ (handed _ _ w.attribute-in-7.result _ (ap (λ y. y.0) w.result-is) (ap (λ y. y.1.0) w.result-is) (data_past _ _ _ _ c.behind-t.ensures _ c.first-w.ensures.0 _ w.in-7.is w.old_cells.ensures.0 w.attribute-in-7.ensures.0), omega (arith, behind_len, ap (λ y. y.1.0) w.result-is))
  | eval_data-in_default w ↦ (data_none _ _ _ _ c.behind-t.ensures _ c.first-w.ensures.0 (search w) (record { value = ap (λ y. y.0) w.result-is; left = ap (λ y. y.1.0) w.result-is }), omega (arith, behind_len, ap (λ y. y.1.0) w.result-is))
]

pub selected-returns : goal.selected-returns
selected-returns t c = elim c.if-truth_of-eq0.branch [
  | selected-then-truth_of-eq0 w ↦ (select_second _ _ _ _ _ _ _ c.eval_cond-c.ensures.0 (c.last-u.ensures ∙ ap (λ n. last_of n c.args.t.now) c.words_left.ensures) c.operand-x.ensures.0 c.last.ensures c.operand-y.ensures.0 _ (ap (λ y. y.0) w.result-is) (ap (λ y. y.1.0) w.result-is) (sym c.truth_of.ensures ∙ w.if-truth_of-eq0.true), omega (arith, last_len, ap (λ y. y.1.0) w.result-is))
  | selected-else-truth_of-eq0 w ↦ (select_first _ _ _ _ _ _ _ c.eval_cond-c.ensures.0 (c.last-u.ensures ∙ ap (λ n. last_of n c.args.t.now) c.words_left.ensures) c.operand-x.ensures.0 c.last.ensures c.operand-y.ensures.0 _ (ap (λ y. y.0) w.result-is) (ap (λ y. y.1.0) w.result-is) (λ z. w.if-truth_of-eq0.false (c.truth_of.ensures ∙ z)), omega (arith, last_len, ap (λ y. y.1.0) w.result-is))
]
