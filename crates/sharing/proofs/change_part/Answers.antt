use Rattle.std.proofs.Common.{◌≡◌, refl, rules}
use Rattle.words.specs.Laws.Checking.{last_len}
use Rattle.sharing.proofs.ChangingParts.{part_written, part_unplaced, part_lost}
use native.Mathlib.Omega.{arith}
use Rattle.sharing.proofs.change_part.Goals as goal

pub begin-requires : goal.begin-requires
begin-requires c = (omega (arith, c.requires.3, last_len _ _ _ c.last.ensures), c.requires.5)

pub returns-in_err-begin : goal.returns-in_err-begin
returns-in_err-begin c = part_lost _ c.requires.0 c.requires.1 c.requires.2 c.requires.3 c.requires.5 c.last.ensures c.in_err-begin.ensures.begun (search rules)

pub returns-in_err-words : goal.returns-in_err-words
returns-in_err-words c =
    let e : c.mid-2-1.given.0 ≡ c.begin.new.self.out.now = search rules in
    part_unplaced _ c.requires.0 c.requires.1 c.requires.2 c.requires.3 c.requires.5 c.last.ensures c.begin.new.self.at c.in_ok-begin.field-0 c.begin.new.self.action (rw e c.in_ok-begin.ensures.begun) c.in_err-words.ensures

pub returns : goal.returns
returns c =
    let e : c.mid-2-1.given.0 ≡ c.begin.new.self.out.now = search rules in
    part_written _ c.requires.0 c.requires.1 c.requires.2 c.requires.3 c.requires.5 c.last.ensures c.begin.new.self.at c.in_ok-begin.field-0 c.begin.new.self.action (rw e c.in_ok-begin.ensures.begun) c.in_ok-words.ensures refl
