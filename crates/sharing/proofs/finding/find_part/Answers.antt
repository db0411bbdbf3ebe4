-- A move looked for in one part meets its contract: FindingParts says what is answered where it returns (document 01, "Moves, in order").
use native.Mathlib.Omega.{arith}
use mathlib.Core.Path.{refl, ap}
use Rattle.words.specs.Laws.Checking.{last_len}
use Rattle.derivation.specs.Lending.{answered}
use Rattle.sharing.proofs.WalkingCases.{sought_as}
use Rattle.sharing.proofs.FindingParts.{part_never, part_lost, part_placed, part_passed}
use Rattle.sharing.proofs.finding.find_part.Goals as goal

pub returns-then-w-lt32-clause-found : goal.returns-then-w-lt32-clause-found
returns-then-w-lt32-clause-found c = part_never _ _ _ _ _ _ _ _ c.if-w-lt32.true

pub seek-r-requires : goal.seek-r-requires
seek-r-requires c = omega (arith, last_len _ _ _ c.last.ensures, c.requires.0)

pub returns-in-Found-clause-found : goal.returns-in-Found-clause-found
returns-in-Found-clause-found c = part_placed _ _ _ _ _ _ _ _ _ _ _ c.if-w-lt32.false c.last.ensures refl _ (sought_as (ap (answered c.seek-r.new.arrays) c.in-Found.is) c.seek-r.ensures.sought)

pub returns-in-Full-clause-found : goal.returns-in-Full-clause-found
returns-in-Full-clause-found c = part_lost _ _ _ _ _ _ _ _ _ _ _ c.if-w-lt32.false c.last.ensures refl (sought_as (ap (answered c.seek-r.new.arrays) c.in-Full.is) c.seek-r.ensures.sought)

pub returns-in-Passed-clause-found : goal.returns-in-Passed-clause-found
returns-in-Passed-clause-found c = part_passed _ _ _ _ _ _ _ _ _ _ _ c.if-w-lt32.false c.last.ensures refl _ _ (sought_as (ap (answered c.seek-r.new.arrays) c.in-Passed.is) c.seek-r.ensures.sought)
