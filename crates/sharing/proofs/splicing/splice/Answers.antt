-- Words put in the place of others (document 01, "Moves, in order"): each test that fails rules out what is asked for, and both ways of putting them are cases
-- of proofs/SplicingCases.antt.
use Prim.Native.Nat.{◌+◌, ◌-◌}
use Rattle.sharing.proofs.SplicingCases.{slice_cut, back_length}
use mathlib.Core.Path.{refl, sym}
use lib.Seq.{length-take-le, length-slice}
use Rattle.sharing.proofs.SplicingCases.{splice_none, splice_same, splice_moved}
use native.Mathlib.Omega.{arith}
use Rattle.sharing.proofs.splicing.splice.Goals as goal

pub returns-then-n-e : goal.returns-then-n-e
returns-then-n-e c = splice_none _ _ _ _ _ _ (λ a b d f g. omega (arith, c.if-n-e.true))

pub returns-then-e-i : goal.returns-then-e-i
returns-then-e-i c = splice_none _ _ _ _ _ _ (λ a b d f g. omega (arith, c.if-e-i.true))

pub returns-then-d-n : goal.returns-then-d-n
returns-then-d-n c = splice_none _ _ _ _ _ _ (λ a b d f g. omega (arith, c.if-d-n.true))

pub returns-then-d-i : goal.returns-then-d-i
returns-then-d-i c = splice_none _ _ _ _ _ _ (λ a b d f g. omega (arith, c.if-d-i.true))

pub returns-then-mid-all : goal.returns-then-mid-all
returns-then-mid-all c = splice_none _ _ _ _ _ _ (λ a b d f g. omega (arith, c.if-mid-all.true))

pub slice_bounds-copy_words-end-then-e-i-2 : goal.slice_bounds-copy_words-end-then-e-i-2
slice_bounds-copy_words-end-then-e-i-2 c = sym (length-take-le _ _ (omega arith))

pub copy_words-requires : goal.copy_words-requires
copy_words-requires c = omega (arith, length-take-le c.args.k c.args.mid.now (omega arith))

pub returns-then-e-i-2 : goal.returns-then-e-i-2
returns-then-e-i-2 c = splice_same _ _ _ _ _ _ (omega arith) (omega arith) (omega arith) (omega arith) (omega arith) _ _ refl c.if-e-i-2.true c.copy_words.ensures

pub copy_words-requires-2 : goal.copy_words-requires-2
copy_words-requires-2 c = omega (arith, length-slice c.args.e c.args.n c.args.d.now (omega arith))

pub slice_bounds-copy_words-end-4 : goal.slice_bounds-copy_words-end-4
slice_bounds-copy_words-end-4 c = let a = c.args in let l = back_length a.d.now a.mid.now _ a.n a.e a.k c.copy_words-2.ensures (omega arith) (omega arith) (omega arith) in sym (length-take-le (a.k + (a.n - a.e)) c.copy_words-2.new.dst (omega (arith, l)))

pub copy_words-requires-3 : goal.copy_words-requires-3
copy_words-requires-3 c = let a = c.args in let l = back_length a.d.now a.mid.now _ a.n a.e a.k c.copy_words-2.ensures (omega arith) (omega arith) (omega arith) in omega (arith, length-take-le (a.k + (a.n - a.e)) c.copy_words-2.new.dst (omega (arith, l)))

pub returns : goal.returns
returns c = let a = c.args in splice_moved a.d.now a.mid.now a.n a.i a.e a.k (omega arith) (omega arith) (omega arith) (omega arith) (omega arith) _ _ _ _ (slice_cut a.e a.n a.d.now (omega arith) (omega arith)) c.copy_words-2.ensures refl c.copy_words-3.ensures
