use Rattle.words.specs.Laws.Reading.{handed_err}
use mathlib.Core.Path.{refl}
use native.Mathlib.Omega.{arith}
use Rattle.admission.specs.Laws.Knowing.{known, known_refused}
use Rattle.given.specs.Laws.Giving.{given_refused, given_checked}
use borrow.Author.Rules.{rules}
use Rattle.given.proofs.giving.given_in.Goals as goal

pub returns : goal.returns
returns c = let file = c.args.file.now in (c.check_term.ensures.0, given_checked file.bytes.now c.args.term.now c.args.words.now file.count _ _ _ _ c.admit_in.ensures.decoded _ (known file.bytes.now _ _ _ _ _ _ _ file.opened c.admit_in.ensures _ c.in_ok-sizes.was (omega arith)) _ _ refl c.check_term.ensures.1)

pub returns-in_err-sizes : goal.returns-in_err-sizes
returns-in_err-sizes c = let file = c.args.file.now in rw (handed_err _ _ c.from_residual.ensures) (search rules, given_refused file.bytes.now c.args.term.now c.args.words.now file.count _ _ _ _ c.admit_in.ensures.decoded _ (known_refused file.bytes.now _ _ _ _ _ _ _ file.opened c.admit_in.ensures _ c.in_err-sizes.was))
