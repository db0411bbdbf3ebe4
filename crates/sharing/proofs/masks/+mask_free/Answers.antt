use Rattle.std.proofs.Common.{rules}
use lib.Dec.{lit<}
use Rattle.std.proofs.Common.{arith, sym, ◌∙◌}
use Rattle.words.specs.Laws.Checking.{last_len}
use Rattle.sharing.proofs.MasksCases.{passing_none, goes_on, goes_less, behind_mask_less, at_front, action_mask_free, sequence_mask_free, choice_mask_free, star_mask_free, parallel_mask_free, guard_mask_free, leaf_mask_free, two_mask_free}
use Rattle.sharing.proofs.masks.+mask_free.Goals as goal

pub loop-s-init : goal.loop-s-init
loop-s-init t c = passing_none _

pub returns-in-21 : goal.returns-in-21
returns-in-21 t c = at_front _ _ _ _ 21 c.loop-s.invariant c.first.ensures.0 c.behind-t.ensures c.in-21.is (lit< tt) _ (action_mask_free _ _ c.behind_action.ensures)

pub loop-s-smaller-in-22 : goal.loop-s-smaller-in-22
loop-s-smaller-in-22 t c = goes_less _ _ _ _ 22 c.first.ensures c.behind-t.ensures c.in-22.is (lit< tt) (last_len _ _ _ c.last-s.ensures)

pub loop-s-smaller-in-23 : goal.loop-s-smaller-in-23
loop-s-smaller-in-23 t c = goes_less _ _ _ _ 23 c.first.ensures c.behind-t.ensures c.in-23.is (lit< tt) (last_len _ _ _ c.last-s-in-23.ensures)

pub loop-s-smaller-in-25 : goal.loop-s-smaller-in-25
loop-s-smaller-in-25 t c = goes_less _ _ _ _ 25 c.first.ensures c.behind-t.ensures c.in-25.is (lit< tt) (behind_mask_less _ _ _ _ c.behind_mask-e.ensures c.last-s-in-25.ensures)

pub loop-s-smaller : goal.loop-s-smaller
loop-s-smaller t c = goes_less _ _ _ _ 26 c.first.ensures c.behind-t.ensures c.in-26.is (lit< tt) (last_len _ _ _ c.last-s-in-26.ensures)

pub loop-s-preserved-in-22 : goal.loop-s-preserved-in-22
loop-s-preserved-in-22 t c = goes_on _ _ _ _ _ 22 c.loop-s.invariant c.first.ensures.0 c.behind-t.ensures c.in-22.is (lit< tt) (last_len _ _ _ c.last-s.ensures) (λ n g. sequence_mask_free _ n (two_mask_free _ _ _ c.in_ok-mask_free-in-22.ensures c.last-s.ensures n g))

pub loop-s-preserved-in-23 : goal.loop-s-preserved-in-23
loop-s-preserved-in-23 t c = goes_on _ _ _ _ _ 23 c.loop-s.invariant c.first.ensures.0 c.behind-t.ensures c.in-23.is (lit< tt) (last_len _ _ _ c.last-s-in-23.ensures) (λ n g. choice_mask_free _ n (two_mask_free _ _ _ c.in_ok-mask_free-in-23.ensures c.last-s-in-23.ensures n g))

pub loop-s-preserved-in-24 : goal.loop-s-preserved-in-24
loop-s-preserved-in-24 t c = goes_on _ _ _ _ _ 24 c.loop-s.invariant c.first.ensures.0 c.behind-t.ensures c.in-24.is (lit< tt) (omega arith) (star_mask_free _)

pub loop-s-preserved-in-25 : goal.loop-s-preserved-in-25
loop-s-preserved-in-25 t c =
    goes_on _ _ _ _ _ 25 c.loop-s.invariant c.first.ensures.0 c.behind-t.ensures c.in-25.is (lit< tt) (behind_mask_less _ _ _ _ c.behind_mask-e.ensures c.last-s-in-25.ensures)
    (λ n g. parallel_mask_free _ _ (sym c.mask_zero.ensures ∙ c.if-not-mask_zero.false) c.behind_mask-e.ensures n (two_mask_free _ _ _ c.in_ok-mask_free-in-25.ensures c.last-s-in-25.ensures n g))

pub loop-s-preserved : goal.loop-s-preserved
loop-s-preserved t c = goes_on _ _ _ _ _ 26 c.loop-s.invariant c.first.ensures.0 c.behind-t.ensures c.in-26.is (lit< tt) (last_len _ _ _ c.last-s-in-26.ensures) (guard_mask_free _ _ _ c.behind_condition.ensures c.last-s-in-26.ensures)

pub returns-in_default : goal.returns-in_default
returns-in_default t c = c.loop-s.invariant.carries _ (leaf_mask_free _ _ _ c.first.ensures.0 c.behind-t.ensures (search rules))
