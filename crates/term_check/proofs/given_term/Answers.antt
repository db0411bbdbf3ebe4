-- Each test is stated with the limit that it must have (document 01, refusals 7, 8 and 10), so that the proof fails there if the code has another limit.
use Prim.Native.Nat.{◌≤◌, ◌<◌}
use native.Mathlib.Omega.{arith}
use lib.ListN.{length}
use Rattle.term_check.proofs.Limits.{given_long, given_none, given_more, given_far, given_broad, given_in}
use Rattle.term_check.proofs.given_term.Goals as goal

-- Each test is stated with the limit that it must have, so that the proof fails there if the code has another limit.
pub returns-then-s : goal.returns-then-s
returns-then-s c =
    let l : 8192 < length c.args.s.now = omega (arith, c.if-s.true) in
    given_long _ _ l

pub returns-in_err-left : goal.returns-in_err-left
returns-in_err-left c = rw c.from_residual.ensures (given_none _ _ c.in_err-left.ensures.read)

pub returns-then-left-ne0 : goal.returns-then-left-ne0
returns-then-left-ne0 c =
    let s : length c.args.s.now ≤ 8192 = omega (arith, c.if-s.false) in
    given_more _ _ _ s c.in_ok-left.ensures.read c.if-left-ne0.true

pub returns-then-w-gt-REACH : goal.returns-then-w-gt-REACH
returns-then-w-gt-REACH c =
    let s : length c.args.s.now ≤ 8192 = omega (arith, c.if-s.false) in
    let l : 8192 < c.check.new.self.reach = omega arith in
    given_far _ _ _ s c.in_ok-left.ensures.read c.if-left-ne0.false l

pub returns-then-w-gt-BREADTH : goal.returns-then-w-gt-BREADTH
returns-then-w-gt-BREADTH c =
    let s : length c.args.s.now ≤ 8192 = omega (arith, c.if-s.false) in
    let r : c.check.new.self.reach ≤ 8192 = omega arith in
    let l : 65535 < c.check.new.self.breadth = omega arith in
    given_broad _ _ _ s c.in_ok-left.ensures.read c.if-left-ne0.false r l

pub returns : goal.returns
returns c =
    let s : length c.args.s.now ≤ 8192 = omega (arith, c.if-s.false) in
    let r : c.check.new.self.reach ≤ 8192 = omega arith in
    let l : c.check.new.self.breadth ≤ 65535 = omega arith in
    given_in _ _ _ s c.in_ok-left.ensures.read c.if-left-ne0.false r l
