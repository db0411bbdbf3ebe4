-- Words 2 and 3 of the file are at bytes 4 and 6.
use mathlib.Core.Path.{◌≡◌, ◌∙◌}
use Prim.Native.Nat.{◌+◌, ◌*◌}
use native.Mathlib.Omega.{arith}
use lib.ListN.{get_or}
use borrow.Author.Tests.{ne_eqb}
use Rattle.words.specs.Laws.Words.{word_at}
use Rattle.blocks.proofs.Right.{wrong, right}
use Rattle.blocks.proofs.check_edition.Goals as goal

pub returns-then-word_at-eq1 : goal.returns-then-word_at-eq1
returns-then-word_at-eq1 c =
    let s = c.args.rules.now in
    let e : c.word_at.result ≡ get_or s 4 0 + 256 * get_or s 5 0 = c.word_at.ensures ∙ word_at s 2 (omega arith) in
    let f : c.word_at-then-word_at-eq1.result ≡ get_or s 6 0 + 256 * get_or s 7 0 = c.word_at-then-word_at-eq1.ensures ∙ word_at s 3 (omega arith) in
    rw (← e, ← f) (right _ c.if-word_at-eq1.true)

pub returns-else-word_at-eq1 : goal.returns-else-word_at-eq1
returns-else-word_at-eq1 c =
    let s = c.args.rules.now in
    let e : c.word_at.result ≡ get_or s 4 0 + 256 * get_or s 5 0 = c.word_at.ensures ∙ word_at s 2 (omega arith) in
    rw (← e) (ne_eqb _ _ c.if-word_at-eq1.false ∙ wrong _ c.if-word_at-eq1.false)
