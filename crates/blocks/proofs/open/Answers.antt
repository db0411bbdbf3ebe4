-- The tests in order: the length, then the blocks, then the edition.
use Rattle.std.proofs.Common.{arith, refl}
use Rattle.std.proofs.lemmas.Grind.{common_steps}
use Rattle.blocks.proofs.Cases.{open_length, open_wrong, open_other, open_fine}
use Rattle.blocks.specs.Laws.Opening.{admit_blocks, admit_opens}
use Rattle.blocks.proofs.open.Goals as goal
use Rattle.blocks.proofs.open.Goals.{then-rules-ne0-via-then-rules-ne0, then-rules-ne0-via-else-rules-ne0+then-not-contains}

pub returns-then-rules-ne0-clause-answer : goal.returns-then-rules-ne0-clause-answer
returns-then-rules-ne0-clause-answer c =
    open_length c.args.rules.now λ even any few. elim c.then-rules-ne0.branch [
      | then-rules-ne0-via-then-rules-ne0 w ↦ w.if-rules-ne0.true even
      | then-rules-ne0-via-else-rules-ne0+then-not-contains w ↦ grind (arith, common_steps)
    ]

pub returns-then-not-check_blocks-clause-answer : goal.returns-then-not-check_blocks-clause-answer
returns-then-not-check_blocks-clause-answer c =
    open_wrong c.args.rules.now c.if-rules-ne0.false (grind (arith, common_steps)) (grind (arith, common_steps)) c.check_blocks.ensures c.if-not-check_blocks.true

pub returns-then-not-check_edition-clause-answer : goal.returns-then-not-check_edition-clause-answer
returns-then-not-check_edition-clause-answer c = open_other c.args.rules.now c.if-rules-ne0.false (grind (arith, common_steps)) (grind (arith, common_steps)) c.check_blocks.ensures c.if-not-check_blocks.false c.check_edition.ensures c.if-not-check_edition.true

pub returns-clause-answer : goal.returns-clause-answer
returns-clause-answer c = open_fine c.args.rules.now c.if-rules-ne0.false (grind (arith, common_steps)) (grind (arith, common_steps)) c.check_blocks.ensures c.if-not-check_blocks.false c.check_edition.ensures c.if-not-check_edition.false

pub invariant_of-result : goal.invariant_of-result
invariant_of-result c =
    let e = open_fine c.args.rules.now c.if-rules-ne0.false (grind (arith, common_steps)) (grind (arith, common_steps)) c.check_blocks.ensures c.if-not-check_blocks.false c.check_edition.ensures c.if-not-check_edition.false in
    let b = admit_blocks c.args.rules.now _ e _ refl in
    record { whole = b.0; some = b.1; few = b.2; opened = admit_opens c.args.rules.now _ e _ refl }
