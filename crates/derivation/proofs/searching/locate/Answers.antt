-- The left moves that show alone, then the right ones, then the pairs: where the search ends is a case of Locating.
use Rattle.std.proofs.Common.{rules, arith, not, ap, ◌∙◌}
use Rattle.paths.specs.Paths.{paired}
use Rattle.derivation.specs.Searching.{nth_place, nth_pair}
use Rattle.actions.specs.Sets.{in_set}
use Rattle.derivation.proofs.Locating.{located_left, located_right, located_both, located_none}
use Rattle.derivation.proofs.searching.locate.Goals as goal

pub returns-in-Ok-clause-located : goal.returns-in-Ok-clause-located
returns-in-Ok-clause-located c = let a = c.args in located_left a.x a.mask _ c.join-y.ensures a.left.now a.right.now a.k _ (c.in-Ok.ensures.told (λ w. not (in_set c.join-y.result w)) (λ a b h p. search rules))

pub returns-in-Ok-seek-clause-located : goal.returns-in-Ok-seek-clause-located
returns-in-Ok-seek-clause-located c = let a = c.args in located_right a.x a.mask _ c.join-y.ensures a.left.now a.right.now a.k _ (c.in-Err.ensures.told (λ w. not (in_set c.join-y.result w)) (λ a b h p. search rules)) _ (c.in-Ok-seek.ensures.told (λ w. not (in_set c.join-y.result w)) (λ a b h p. search rules) ∙ ap (nth_place (λ w. not (in_set c.join-y.result w)) 0 c.args.right.now) (omega arith))

pub returns-in-Ok-seek_pair-clause-located : goal.returns-in-Ok-seek_pair-clause-located
returns-in-Ok-seek_pair-clause-located c = let a = c.args in located_both a.x a.mask _ c.join-y.ensures a.left.now a.right.now a.k _ (c.in-Err.ensures.told (λ w. not (in_set c.join-y.result w)) (λ a b h p. search rules)) _ (c.in-Err-seek.ensures.told (λ w. not (in_set c.join-y.result w)) (λ a b h p. search rules) ∙ ap (nth_place (λ w. not (in_set c.join-y.result w)) 0 c.args.right.now) (omega arith)) _ _ (c.in-Ok-seek_pair.ensures.told ∙ ap (nth_pair (paired c.args.x c.args.mask) 0 c.args.left.now c.args.right.now) (omega arith))

pub returns-in-Err-seek_pair-clause-located : goal.returns-in-Err-seek_pair-clause-located
returns-in-Err-seek_pair-clause-located c = let a = c.args in located_none a.x a.mask _ c.join-y.ensures a.left.now a.right.now a.k _ (c.in-Err.ensures.told (λ w. not (in_set c.join-y.result w)) (λ a b h p. search rules)) _ (c.in-Err-seek.ensures.told (λ w. not (in_set c.join-y.result w)) (λ a b h p. search rules) ∙ ap (nth_place (λ w. not (in_set c.join-y.result w)) 0 c.args.right.now) (omega arith)) _ (c.in-Err-seek_pair.ensures.told ∙ ap (nth_pair (paired c.args.x c.args.mask) 0 c.args.left.now c.args.right.now) (omega arith))
