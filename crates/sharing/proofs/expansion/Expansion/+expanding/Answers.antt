use Rattle.std.proofs.Common.{rules}
use mathlib.Core.Path.{ap, refl}
use lib.Dec.{lit<}
use Rattle.words.specs.Laws.Checking.{last_len}
use Rattle.sharing.proofs.ExpandingCases.{expand_front, expand_none, done_expanded, part_expanded, then_lost, then_expanded}
use Rattle.sharing.proofs.BesideCases.{beside_short, beside_lost, beside_expanded}
use native.Mathlib.Omega.{arith}
use Rattle.sharing.proofs.expansion.Expansion.+expanding.Goals as goal

pub expand-returns-in-30-clause-expanded : goal.expand-returns-in-30-clause-expanded
expand-returns-in-30-clause-expanded t c = expand_front _ _ _ _ _ _ 30 _ _ c.first-w.ensures.0 c.behind-t.ensures c.in-30.is (lit< tt) (done_expanded _ _ _ _ _ _ c.expand_done.ensures.expanded)

pub expand-returns-in_default-clause-expanded : goal.expand-returns-in_default-clause-expanded
expand-returns-in_default-clause-expanded t c = part_expanded _ _ _ _ _ _ _ _ c.first-w.ensures.0 c.behind-t.ensures c.expand_part.ensures.expanded (search rules)

pub expand_beside-returns-then-self-at-lt5-clause-expanded : goal.expand_beside-returns-then-self-at-lt5-clause-expanded
expand_beside-returns-then-self-at-lt5-clause-expanded t c = beside_short _ _ _ _ c.if-self-at-lt5.true

pub expand_beside-returns-in_err-left-clause-expanded : goal.expand_beside-returns-in_err-left-clause-expanded
expand_beside-returns-in_err-left-clause-expanded t c = rw c.from_residual.ensures (beside_lost _ _ _ _ _ _ _ (omega arith) c.copy_words.ensures c.in_err-left.ensures.expanded refl)

pub expand_beside-expand-requires-2 : goal.expand_beside-expand-requires-2
expand_beside-expand-requires-2 t c = let m = last_len _ _ _ c.last.ensures in (omega (arith, m), omega (arith, m))

pub expand_beside-returns-clause-expanded : goal.expand_beside-returns-clause-expanded
expand_beside-returns-clause-expanded t c = beside_expanded _ _ _ _ _ _ _ (omega arith) c.copy_words.ensures c.in_ok-left.ensures.expanded _ _ _ _ _ refl c.last.ensures _ (ap (λ s. s.now) c.in_ok-left.ensures.kept.same_unfolding) c.expand-2.ensures.expanded

pub expand_then-returns-then-self-at-clause-expanded : goal.expand_then-returns-then-self-at-clause-expanded
expand_then-returns-then-self-at-clause-expanded t c = expand_none _ _ _ _ c.if-self-at.true

pub expand_then-returns-in_err-left-clause-expanded : goal.expand_then-returns-in_err-left-clause-expanded
expand_then-returns-in_err-left-clause-expanded t c = rw c.from_residual.ensures (then_lost _ _ _ _ _ _ _ c.if-self-at.false c.behind.ensures c.in_err-left.ensures.expanded refl)

pub expand_then-returns-clause-expanded : goal.expand_then-returns-clause-expanded
expand_then-returns-clause-expanded t c = then_expanded _ _ _ _ _ _ _ c.if-self-at.false c.behind.ensures c.in_ok-left.ensures.expanded _ _ _ _ _ refl c.first.ensures.0 _ (ap (λ s. s.now) c.in_ok-left.ensures.kept.same_unfolding) c.expand_part.ensures.expanded
