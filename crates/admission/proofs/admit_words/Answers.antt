use native.Mathlib.Omega.{arith}
use mathlib.Core.Path.{refl}
use Rattle.words.specs.Laws.Reading.{handed_err}
use Rattle.admission.proofs.Cases.{words_refused, words_few, words_long, words_behind, words_judged}
use Rattle.admission.proofs.admit_words.Goals as goal

pub returns-in_err-r : goal.returns-in_err-r
returns-in_err-r c = rw (handed_err _ _ c.from_residual.ensures) (record { answer = words_refused c.args.t.now _ c.read.ensures.answer _ c.in_err-r.was; described = c.read.ensures.directory })

pub returns-then-r-ge-CONTENT_WORDS : goal.returns-then-r-ge-CONTENT_WORDS
returns-then-r-ge-CONTENT_WORDS c = record { answer = words_long c.args.t.now _ c.read.ensures.answer _ _ _ c.in_ok-r.was (omega (arith, c.if-r-ge-CONTENT_WORDS.true)); described = c.read.ensures.directory }

pub returns-then-not-zeros : goal.returns-then-not-zeros
returns-then-not-zeros c = record { answer = words_behind c.args.t.now _ c.read.ensures.answer _ _ _ c.in_ok-r.was _ c.last.ensures _ c.zeros.ensures c.if-not-zeros.true-raw; described = c.read.ensures.directory }

pub overflow_cast-r : goal.overflow_cast-r
overflow_cast-r c = omega (arith, words_few c.args.t.now _ c.read.ensures.answer _ _ _ c.in_ok-r.was)

pub returns : goal.returns
returns c = record { answer = words_judged c.args.t.now _ c.read.ensures.answer _ _ _ c.in_ok-r.was _ c.last.ensures _ c.zeros.ensures _ _ (omega (arith, c.if-r-ge-CONTENT_WORDS.false)) c.if-not-zeros.false-raw refl c.judge.ensures; described = c.read.ensures.directory }
