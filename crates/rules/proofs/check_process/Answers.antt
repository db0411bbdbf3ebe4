use Prim.Native.Nat.{◌+◌, ◌-◌}
use lib.ListN.{drop}
use Rattle.rules.proofs.ProcessCases.{row_ends, process_in, processing}
use lib.ListN.{length-take}
use native.Mathlib.Omega.{arith}
use Rattle.words.specs.Laws.Reading.{handed_on}
use mathlib.Core.Path.{refl}
use Rattle.rules.proofs.check_process.Goals as goal

pub slice_bounds-context-end : goal.slice_bounds-context-end
slice_bounds-context-end c = let h = row_ends c.args.tb.now c.args.t.now _ _ _ _ c.parameters.ensures refl c.domains.ensures _ _ c.in_ok-m.was c.first-k.ensures.0 in omega (arith, h.0)

pub invariant_of-context : goal.invariant_of-context
invariant_of-context c = let h = row_ends c.args.tb.now c.args.t.now _ _ _ _ c.parameters.ensures refl c.domains.ensures _ _ c.in_ok-m.was c.first-k.ensures.0 in omega (arith, h.1, length-take (c.first-k.result + 1 - 1) (drop 1 c.args.t.now))

pub returns : goal.returns
returns c = process_in _ _ _ _ _ _ c.parameters.ensures refl c.domains.ensures _ _ c.in_ok-m.was c.first-k.ensures.0 _ _ c.last.ensures c.check_term.ensures

pub returns-in_err-m : goal.returns-in_err-m
returns-in_err-m c = let z = c.in_err-m.was in handed_on _ _ _ c.from_residual.ensures (search processing)
