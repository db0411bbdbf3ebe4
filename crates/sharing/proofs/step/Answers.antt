use mathlib.Core.Path.{◌≡◌, ap}
use Rattle.std.proofs.Common.{rules}
use Rattle.words.specs.Laws.Checking.{part}
use Rattle.sharing.specs.Walking.{found_in}
use Rattle.sharing.proofs.WalkingCases.{no_place}
use Rattle.sharing.proofs.SteppingCases.{not_found, place_beyond, place_empty, path_beyond, place_changed}
use Rattle.sharing.proofs.step.Goals as goal
use Rattle.sharing.proofs.step.Goals.{then-n-left-via-then-n-left, then-n-left-via-else-n-left+then-left-eq0, then-n-left-via-else-n-left+else-left-eq0+then-path-q}

pub returns-in_default-clause-stepped : goal.returns-in_default-clause-stepped
returns-in_default-clause-stepped c = not_found _ _ _ _ _ _ _ _ _ _ c.front.ensures c.find-r.ensures.found (no_place c.find-r.new.arrays _ c.in_default.not-Found)

pub returns-then-n-left-clause-stepped : goal.returns-then-n-left-clause-stepped
returns-then-n-left-clause-stepped c =
    let e : c.path-2-1.given.0 ≡ c.find-r.new.arrays.path.now = search rules in
    let p = ap (found_in c.find-r.new.arrays) c.in-Found.is in
    elim c.then-n-left.branch [
      | then-n-left-via-then-n-left w ↦ place_beyond _ _ _ _ _ _ _ _ _ _ c.front.ensures c.find-r.ensures.found _ _ p w.if-n-left.true
      | then-n-left-via-else-n-left+then-left-eq0 w ↦ place_empty _ _ _ _ _ _ _ _ _ _ c.front.ensures c.find-r.ensures.found _ _ p w.if-left-eq0.true
      | then-n-left-via-else-n-left+else-left-eq0+then-path-q w ↦ path_beyond _ _ _ _ _ _ _ _ c.path-2-1.given.0 _ c.front.ensures (rw e c.find-r.ensures.found) _ _ p w.if-path-q.true
    ]

pub returns-clause-stepped : goal.returns-clause-stepped
returns-clause-stepped c =
    let e : c.path-2-1.given.0 ≡ c.find-r.new.arrays.path.now = search rules in
    let a = c.find-r.new.arrays in
    place_changed _ _ _ _ _ _ _ _ _ _ c.front.ensures (rw e c.find-r.ensures.found) _ _ (ap (found_in a) c.in-Found.is) (part a.at c.path-2-1.given.0) c.change.ensures
