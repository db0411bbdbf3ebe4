-- Four bytes, low byte first (`number_put`).
use Rattle.std.proofs.Common.{◌≡◌, ◌∙◌, ◌+◌, ◌*◌, ◌-◌, arith, ap, length}
use Rattle.readers.proofs.Laws.Bytes.{number_put, put_length}
use Rattle.readers.proofs.write_number.Goals as goal

pub returns : goal.returns
returns c =
    let four : 4 * c.args.i + 4 - 4 * c.args.i ≡ 4 = omega arith in
    let put = number_put c.args.table.now c.args.i c.args.n _ _ (omega arith) four (c.copy_from_slice.ensures.after ∙ c.to_le_bytes.ensures) in
    (put, ap length put ∙ put_length c.args.table.now c.args.i c.args.n)
