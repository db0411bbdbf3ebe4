-- A word is two bytes (`loaded_word`).
use Rattle.std.proofs.Common.{◌≡◌, ◌∙◌, ◌+◌, ◌*◌, refl, arith}
use Rattle.std.specs.Prelude.{slice_index}
use Rattle.words.specs.Laws.Words.{loaded_word}
use Rattle.words.proofs.word_at.Goals as goal

pub returns : goal.returns
returns c =
    let s = c.args.bytes.now in
    let i = c.args.i in
    let e : c.from_le_bytes.result ≡ slice_index s (2 * i) + 256 * slice_index s (2 * i + 1) = omega (arith, c.from_le_bytes.ensures) in
    e ∙ loaded_word _ _ _ _ (omega arith) refl refl
