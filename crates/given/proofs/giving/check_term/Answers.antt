use mathlib.Core.Path.{refl, sym, ◌∙◌}
use Rattle.cells.specs.Laws.Memory.{loaded_words}
use Rattle.given.specs.Laws.Handing.{handed_some, handed_none}
use Rattle.given.proofs.GivingCases.{loaded_part, checked_odd, checked_long, checked_wrong, checked_running, over_limit}
use borrow.Author.Rules.{rules}
use Rattle.given.proofs.giving.check_term.Goals as goal

pub returns-then-term-ne0 : goal.returns-then-term-ne0
returns-then-term-ne0 c = (search rules, λ R f d. checked_odd R f _ _ _ c.if-term-ne0.true)

pub returns-then-ws-n : goal.returns-then-ws-n
returns-then-ws-n c = (search rules, λ R f d. checked_long R f _ _ _ c.if-term-ne0.false (over_limit _ _ c.requires c.if-ws-n.true))

pub returns-in_err-weighed : goal.returns-in_err-weighed
returns-in_err-weighed c = (
  c.load.ensures.same_length,
  λ R f d.
      let p = loaded_part c.args.term.now _ _ _ refl c.if-ws-n.false c.load.ensures in
      let h = handed_none _ c.ok_or.ensures.value c.in_err-weighed.was _ c.from_residual.ensures in
      rw h.1 (checked_wrong R f _ _ _ c.if-term-ne0.false _ d _ p _ c.given_term.ensures h.0),
)

pub returns : goal.returns
returns c = (
  c.load.ensures.same_length,
  λ R f d.
      let p = loaded_part c.args.term.now _ _ _ refl c.if-ws-n.false c.load.ensures in
      let q = loaded_words c.args.term.now _ _ _ refl c.if-ws-n.false c.load.ensures in
      checked_running R f _ _ _ c.if-term-ne0.false _ d _ p _ c.given_term.ensures _ _ (handed_some _ c.ok_or.ensures.value c.in_ok-weighed.was) refl (q ∙ sym p),
)
