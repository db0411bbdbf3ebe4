use Rattle.words.specs.Laws.Checking.{last_len}
use Rattle.rules.proofs.FunctionCases.{functions_bounded, functions_none, functions_in, functions_out, joined_found, joined_refused}
use native.Mathlib.Omega.{arith}
use Rattle.words.specs.Laws.Reading.{handed_err}
use mathlib.Core.Path.{refl}
use Rattle.rules.proofs.function_section.Goals as goal

pub process_section-requires : goal.process_section-requires
process_section-requires c = (omega (arith, last_len _ _ _ c.last.ensures, last_len _ _ _ c.last-u.ensures), functions_bounded c.args.tb.now c.args.t.now _ c.count.ensures _ _ _ c.told-tb c.requires.1 c.in_ok-m.was c.first-n.ensures.0 refl)

pub returns : goal.returns
returns c = functions_in c.args.tb.now c.args.t.now _ c.count.ensures _ _ _ c.told-tb c.requires.1 c.in_ok-m.was c.first-n.ensures.0 refl _ _ c.args.dir.now _ _ _ _ _ _ _ c.last-u.ensures c.functions.ensures.0 c.in_ok-counted.was c.last.ensures c.process_section.ensures (joined_found _ _ _ c.in_ok-main.was)

pub returns-in_err-main : goal.returns-in_err-main
returns-in_err-main c = rw (handed_err _ _ c.from_residual-in_err-main.ensures) (functions_in c.args.tb.now c.args.t.now _ c.count.ensures _ _ _ c.told-tb c.requires.1 c.in_ok-m.was c.first-n.ensures.0 refl _ _ c.args.dir.now _ _ _ _ _ _ _ c.last-u.ensures c.functions.ensures.0 c.in_ok-counted.was c.last.ensures c.process_section.ensures (joined_refused _ _ _ c.in_err-main.was))

pub returns-in_err-counted : goal.returns-in_err-counted
returns-in_err-counted c = rw (handed_err _ _ c.from_residual-in_err-counted.ensures) (functions_out c.args.tb.now c.args.t.now _ c.count.ensures _ _ _ c.told-tb c.requires.1 c.in_ok-m.was c.first-n.ensures.0 refl _ c.args.dir.now _ _ _ c.last-u.ensures c.functions.ensures.0 c.in_err-counted.was)

pub returns-in_err-m : goal.returns-in_err-m
returns-in_err-m c = rw (handed_err _ _ c.from_residual.ensures) (functions_none c.args.tb.now c.args.t.now _ c.count.ensures c.args.dir.now _ c.in_err-m.was)
