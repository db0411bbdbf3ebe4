use Rattle.std.proofs.Common.{rules}
use mathlib.Core.Path.{refl, sym, ap, ◌∙◌}
use lib.Dec.{lit<}
use Rattle.words.specs.Laws.Checking.{last_len}
use Rattle.sharing.specs.Walking.{found_in}
use Rattle.sharing.proofs.WalkingCases.{found_as, passing_found, found_path}
use Rattle.sharing.proofs.FindingCases.{done_found, part_found, then_resumed, then_found, at_front}
use Rattle.sharing.proofs.FindingSides.{Apart, at_store, beside_joined, beside_past, apart_first, apart_second, beside_left, beside_lost, beside_right}
use native.Mathlib.Omega.{arith}
use Prim.Native.Nat.{ℕ}
use lib.ListN.{length, drop}
use Rattle.sharing.proofs.finding.+finding.Goals as goal
use Rattle.sharing.proofs.finding.+finding.Goals.{find_beside-Joined-else-first-eq-DONE, find_beside-else-first-eq-DONE-via-then-first-eq-DONE+else-first-eq-DONE-2, find_beside-else-first-eq-DONE-via-else-first-eq-DONE}

-- Not both operands are done.
apart : (t : ℕ) (c : find_beside-Joined-else-first-eq-DONE t) → Apart c.args.t.now
apart t c = elim c.else-first-eq-DONE.branch [
  | find_beside-else-first-eq-DONE-via-then-first-eq-DONE+else-first-eq-DONE-2 w ↦ apart_second c.args.t.now _ _ w.behind.ensures w.first-then-first-eq-DONE.ensures.0 w.if-first-eq-DONE-2.false
  | find_beside-else-first-eq-DONE-via-else-first-eq-DONE w ↦ apart_first c.args.t.now _ c.first.ensures.0 w.if-first-eq-DONE.false
]

pub find-returns-in-30-clause-found : goal.find-returns-in-30-clause-found
find-returns-in-30-clause-found t c = at_front _ _ _ _ _ _ _ _ _ 30 _ c.first-w.ensures.0 c.behind-t.ensures c.in-30.is (lit< tt) (found_path c.passing.ensures.path (done_found _ _ _ _ _ _ _ (passing_found c.passing.new.self _ c.passing.ensures.passed)))

pub find-returns-in_default-clause-found : goal.find-returns-in_default-clause-found
find-returns-in_default-clause-found t c = part_found _ _ _ _ _ _ _ _ _ _ _ _ c.first-w.ensures.0 c.behind-t.ensures (search rules) (search rules) (search rules) refl refl c.find_part.ensures.found

pub find_beside-returns-then-arrays-eq0-clause-found : goal.find_beside-returns-then-arrays-eq0-clause-found
find_beside-returns-then-arrays-eq0-clause-found t c = beside_joined _ _ _ _ _ _ _ c.behind.ensures (sym c.first.ensures.0 ∙ c.if-first-eq-DONE.true) (sym c.first-then-first-eq-DONE.ensures.0 ∙ c.if-first-eq-DONE-2.true) _ c.if-arrays-eq0.true refl

pub find_beside-returns-then-first-eq-DONE-2-clause-found : goal.find_beside-returns-then-first-eq-DONE-2-clause-found
find_beside-returns-then-first-eq-DONE-2-clause-found t c = found_path c.passing.ensures.path (beside_past _ _ _ _ _ _ _ c.behind.ensures (sym c.first.ensures.0 ∙ c.if-first-eq-DONE.true) (sym c.first-then-first-eq-DONE.ensures.0 ∙ c.if-first-eq-DONE-2.true) _ _ c.if-arrays-eq0.false (ap length (c.behind-then-first-eq-DONE-2-2.ensures ∙ ap (drop 1) (c.behind-then-first-eq-DONE-2.ensures ∙ sym c.behind.ensures))) (passing_found c.passing.new.self _ c.passing.ensures.passed))

pub find_beside-returns-in-Found-clause-found : goal.find_beside-returns-in-Found-clause-found
find_beside-returns-in-Found-clause-found t c =
    let e = c.find-l.new.arrays in
    let p = ap (found_in e) c.in-Found.is in
    found_as (sym p) (beside_left _ _ _ _ _ _ _ (apart t ((goal.at.find_beside-returns-in-Found-clause-found t c).Joined-else-first-eq-DONE)) _ _ (found_as p c.find-l.ensures.found))

pub find_beside-returns-in-Full-clause-found : goal.find_beside-returns-in-Full-clause-found
find_beside-returns-in-Full-clause-found t c = beside_lost _ _ _ _ _ _ _ (apart t ((goal.at.find_beside-returns-in-Full-clause-found t c).Joined-else-first-eq-DONE)) (found_as (ap (found_in c.find-l.new.arrays) c.in-Full.is) c.find-l.ensures.found)

pub find_beside-find-requires : goal.find_beside-find-requires
find_beside-find-requires t c = (omega (arith, last_len _ _ _ c.last.ensures), (omega arith, omega (arith, last_len _ _ _ c.last.ensures)))

pub find_beside-returns-in-Passed-clause-found : goal.find_beside-returns-in-Passed-clause-found
find_beside-returns-in-Passed-clause-found t c = beside_right _ _ _ _ _ _ _ (apart t ((goal.at.find_beside-returns-in-Passed-clause-found t c).Joined-else-first-eq-DONE)) _ _ (found_as (ap (found_in c.find-l.new.arrays) c.in-Passed.is) c.find-l.ensures.found) _ _ _ _ c.last.ensures c.find-l.ensures.kept.acts_length (at_store c.find-l.ensures.kept.store c.find.ensures.found)

pub find_then-returns-then-first-eq-DONE-clause-found : goal.find_then-returns-then-first-eq-DONE-clause-found
find_then-returns-then-first-eq-DONE-clause-found t c = then_resumed _ _ _ c.behind-q.ensures _ _ _ _ _ _ _ _ _ (sym c.first.ensures.0 ∙ c.if-first-eq-DONE.true) c.first-then-first-eq-DONE.ensures.0 refl (ap length c.behind.ensures) c.find_part.ensures.found

pub find_then-returns-clause-found : goal.find_then-returns-clause-found
find_then-returns-clause-found t c = then_found _ _ _ c.behind-q.ensures _ _ _ _ _ _ (λ z. c.if-first-eq-DONE.false (c.first.ensures.0 ∙ z)) c.find.ensures.found
