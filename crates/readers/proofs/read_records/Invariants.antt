use Rattle.eb3.specs.Bytes.{words_in, doubles_in}
use Rattle.readers.proofs.Laws.Table.{ReadTo}
use Rattle.readers.proofs.read_records.Given as goal

-- Each turn of the loop reads one record more (`read_next`).
abbrev pub invariant-loop-i : goal.invariant-loop-i
invariant-loop-i l = ReadTo (doubles_in (words_in l.table)) l.i l.t
