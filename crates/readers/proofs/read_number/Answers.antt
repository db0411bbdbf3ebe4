-- Four bytes are a number (`number_there`).
use Rattle.std.proofs.Common.{◌≡◌, ◌∙◌, ◌+◌, ◌*◌, sym, arith}
use Rattle.std.specs.Prelude.{slice_index}
use Rattle.readers.proofs.Laws.Bytes.{number_there}
use Rattle.readers.proofs.read_number.Goals as goal

pub returns : goal.returns
returns c =
    let s = c.args.table.now in
    let i = c.args.i in
    let e : c.from_le_bytes.result ≡ slice_index s (4 * i) + 256 * slice_index s (4 * i + 1) + 65536 * slice_index s (4 * i + 2) + 16777216 * slice_index s (4 * i + 3) = omega (arith, c.from_le_bytes.ensures) in
    e ∙ sym (number_there s i (omega arith))
