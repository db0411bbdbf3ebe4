use Rattle.words.specs.Laws.Checking.{last_len}
use Rattle.rules.proofs.SectionCases.{labels_asks, labels_none, labels_in, labels_out, labels_bounded}
use native.Mathlib.Omega.{arith}
use Rattle.words.specs.Laws.Reading.{handed_err}
use mathlib.Core.Path.{refl}
use Rattle.rules.proofs.label_section.Goals as goal

pub enter_labels-requires : goal.enter_labels-requires
enter_labels-requires c = rw c.label_place.ensures (labels_asks c.args.tb.now c.args.t.now _ c.count.ensures _ _ _ _ _ c.told-tb c.requires.1 c.in_ok-m.was c.first-n.ensures.0 refl refl c.domains-d.ensures)

pub function_section-requires : goal.function_section-requires
function_section-requires c = (omega (arith, last_len _ _ _ c.last.ensures, last_len _ _ _ c.last-u.ensures), labels_bounded c.args.tb.now c.args.t.now _ c.count.ensures _ _ _ _ _ c.told-tb c.requires.1 c.in_ok-m.was c.first-n.ensures.0 refl refl c.domains-d.ensures _ _ _ _ c.last-u.ensures (rw c.label_place.ensures at c.enter_labels.ensures) c.in_ok-j.was)

pub returns : goal.returns
returns c = labels_in c.args.tb.now c.args.t.now _ c.count.ensures _ _ _ _ _ c.told-tb c.requires.1 c.in_ok-m.was c.first-n.ensures.0 refl refl c.domains-d.ensures _ _ _ _ c.args.dir.now _ _ _ _ c.last-u.ensures (rw c.label_place.ensures at c.enter_labels.ensures) c.in_ok-j.was c.last.ensures c.function_section.ensures

pub returns-in_err-j : goal.returns-in_err-j
returns-in_err-j c = rw (handed_err _ _ c.from_residual-in_err-j.ensures) (labels_out c.args.tb.now c.args.t.now _ c.count.ensures _ _ _ _ _ c.told-tb c.requires.1 c.in_ok-m.was c.first-n.ensures.0 refl refl c.domains-d.ensures _ _ c.args.dir.now _ _ c.last-u.ensures (rw c.label_place.ensures at c.enter_labels.ensures) c.in_err-j.was)

pub returns-in_err-m : goal.returns-in_err-m
returns-in_err-m c = rw (handed_err _ _ c.from_residual.ensures) (labels_none c.args.tb.now c.args.t.now _ c.count.ensures c.args.dir.now _ c.in_err-m.was)
