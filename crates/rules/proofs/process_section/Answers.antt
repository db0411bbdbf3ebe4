use Rattle.words.specs.Laws.Checking.{last_len}
use Rattle.rules.proofs.SectionCases.{section_asks, section_in, section_out}
use native.Mathlib.Omega.{arith}
use Rattle.words.specs.Laws.Reading.{handed_err}
use Rattle.rules.proofs.process_section.Goals as goal

pub processes-requires : goal.processes-requires
processes-requires c = let h = section_asks c.args.tb.now c.args.t.now _ c.count.ensures _ _ c.told-tb c.requires.1 c.in_ok-m.was c.first-n.ensures.0 in (h.0, h.1, omega (arith, last_len _ _ _ c.last.ensures), h.2, h.3)

pub returns : goal.returns
returns c = section_in c.args.tb.now c.args.t.now _ c.count.ensures _ _ _ _ _ (omega arith) c.requires.1 c.in_ok-m.was c.first-n.ensures.0 c.last.ensures c.processes.ensures

pub returns-in_err-m : goal.returns-in_err-m
returns-in_err-m c = rw (handed_err _ _ c.from_residual.ensures) (section_out c.args.tb.now c.args.t.now _ c.count.ensures _ c.in_err-m.was)
