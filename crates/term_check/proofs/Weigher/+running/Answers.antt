use native.Mathlib.Omega.{arith}
use borrow.Author.Rules.{rules}
use mathlib.Core.Path.{refl}
use Rattle.words.specs.Laws.Checking.{last_len}
use Rattle.term_check.specs.Laws.Answers.{got}
use Rattle.term_check.proofs.Codes.{term_internal, term_done}
use Rattle.term_check.proofs.Parts.{pair_short, pair_second, pair_in, guarded_behind, guarded_in}
use Rattle.term_check.proofs.Nested.{star_in}
use Rattle.term_check.proofs.Weigher.+running.Goals as goal

pub check-returns-in-20-clause-read : goal.check-returns-in-20-clause-read
check-returns-in-20-clause-read t c = term_internal _ _ _ _ c.in-Ok.ensures.coded c.behind-t.ensures _ _ c.in-20.is c.single.ensures c.leaf.ensures.read

pub check-returns-in_default-w-clause-read : goal.check-returns-in_default-w-clause-read
check-returns-in_default-w-clause-read t c = term_done _ _ _ _ c.in-Ok.ensures.coded c.behind-t.ensures _ _ (search rules) c.empty.ensures c.leaf-in_default-w.ensures.read

pub guarded-check-requires : goal.guarded-check-requires
guarded-check-requires t c = (omega (arith, last_len), omega (arith, last_len))

pub in_parallel-two_terms-requires : goal.in_parallel-two_terms-requires
in_parallel-two_terms-requires t c = (omega (arith, last_len), omega (arith, last_len))

pub starred-check-requires : goal.starred-check-requires
starred-check-requires t c = (omega (arith, last_len), omega (arith, last_len))

pub two_terms-check-requires-2 : goal.two_terms-check-requires-2
two_terms-check-requires-2 t c = (omega (arith, last_len), omega (arith, last_len))

pub two_terms-overflow_sub-t : goal.two_terms-overflow_sub-t
two_terms-overflow_sub-t t c = (got _ _ _ c.requires c.in_ok-n.ensures.read).short

pub two_terms-overflow_sub-n : goal.two_terms-overflow_sub-n
two_terms-overflow_sub-n t c =
    let k = c.in_ok-n.ensures in
    pair_short _ _ c.args.joint _ c.requires k.read _ k.kept.same_tables _ c.last.ensures _ c.in_ok-left.ensures.read

pub two_terms-weight-requires : goal.two_terms-weight-requires
two_terms-weight-requires t c = omega (arith, (got _ _ _ c.requires c.in_ok-n.ensures.read).short)

pub two_terms-returns-in_err-left-clause-read : goal.two_terms-returns-in_err-left-clause-read
two_terms-returns-in_err-left-clause-read t c =
    let k = c.in_ok-n.ensures in
    rw c.from_residual-in_err-left.ensures (pair_second _ _ c.args.joint _ c.requires k.read _ k.kept.same_tables _ c.last.ensures c.in_err-left.ensures.read)

pub two_terms-returns-clause-read : goal.two_terms-returns-clause-read
two_terms-returns-clause-read t c =
    let k = c.in_ok-n.ensures in
    pair_in _ _ c.args.joint _ c.requires k.read _ k.kept.same_tables _ c.last.ensures _ c.in_ok-left.ensures.read
    _ _ _ c.weight-w.ensures c.weight.ensures c.joined.ensures _ c.leaf.ensures.read

pub starred-returns-clause-read : goal.starred-returns-clause-read
starred-returns-clause-read t c =
    star_in _ _ _ _ c.leading-k.ensures c.last.ensures c.requires _ c.in_ok-left.ensures.read _ _ c.weight.ensures c.stars.ensures _ c.leaf.ensures.read

pub guarded-overflow_sub-t : goal.guarded-overflow_sub-t
guarded-overflow_sub-t t c = guarded_behind c.args.self.now.tables.now _ _ _ c.functions.ensures c.in-Ok.ensures _ refl

pub guarded-weight-requires : goal.guarded-weight-requires
guarded-weight-requires t c = omega (arith, guarded_behind c.args.self.now.tables.now _ _ _ c.functions.ensures c.in-Ok.ensures _ refl)

pub guarded-returns-clause-read : goal.guarded-returns-clause-read
guarded-returns-clause-read t c =
    guarded_in _ _ _ _ c.functions.ensures c.in-Ok.ensures _ refl _ c.last.ensures c.requires _ c.in_ok-left.ensures.read
    _ _ c.weight.ensures c.guard.ensures _ c.leaf.ensures.read
