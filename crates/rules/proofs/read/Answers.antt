use Rattle.words.specs.Laws.Checking.{last_len}
use Rattle.rules.proofs.SectionCases.{read_front, read_asks, read_in, read_out}
use native.Mathlib.Omega.{arith}
use Rattle.words.specs.Laws.Reading.{handed_err}
use Rattle.rules.proofs.read.Goals as goal

pub slice_bounds-copy-end-2 : goal.slice_bounds-copy-end-2
slice_bounds-copy-end-2 c = (read_front c.args.tb.now c.args.t.now _ c.check_domains.ensures _ _ c.told-tb c.in_ok-m.was c.first-k.ensures.0).0

pub copy-requires : goal.copy-requires
copy-requires c = (read_front c.args.tb.now c.args.t.now _ c.check_domains.ensures _ _ c.told-tb c.in_ok-m.was c.first-k.ensures.0).1

pub label_section-requires : goal.label_section-requires
label_section-requires c = (omega (arith, last_len _ _ _ c.last.ensures), read_asks c.args.tb.now c.args.t.now _ c.check_domains.ensures _ _ c.told-tb c.in_ok-m.was c.first-k.ensures.0 _ c.copy.ensures)

pub returns : goal.returns
returns c = read_in c.args.tb.now c.args.t.now _ c.check_domains.ensures _ _ c.told-tb c.in_ok-m.was c.first-k.ensures.0 _ c.copy.ensures _ _ c.args.dir.now _ _ c.requires c.last.ensures c.label_section.ensures

pub returns-in_err-m : goal.returns-in_err-m
returns-in_err-m c = rw (handed_err _ _ c.from_residual.ensures) (read_out c.args.tb.now c.args.t.now _ c.check_domains.ensures c.args.dir.now _ c.in_err-m.was)
