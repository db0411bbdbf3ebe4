use mathlib.Core.Path.{◌≡◌}
use native.Mathlib.Omega.{arith}
use borrow.Author.Rules.{rules}
use Rattle.listing.proofs.Answers.{all_lost, all_listed}
use Rattle.listing.proofs.list.Goals as goal

pub returns-in_err-left : goal.returns-in_err-left
returns-in_err-left c =
    let e : c.in_err-left.acts-1-own.given.0 ≡ c.list_shown.new.self.acts.now = search rules in
    rw c.from_residual.ensures (rw e (all_lost _ _ _ _ _ c.in_err-left.ensures.listed (omega arith)))

pub returns : goal.returns
returns c =
    let e : c.acts-2-1.given.0 ≡ c.list_shown.new.self.acts.now = search rules in
    rw e (all_listed _ _ _ _ _ _ c.in_ok-left.ensures.listed (omega arith) (omega arith) c.in_ok-left.ensures.kept.few_left)
