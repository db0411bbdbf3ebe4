use Prim.Native.Nat.{◌-◌, ◌*◌}
use native.Mathlib.Omega.{arith}
use mathlib.Core.Path.{◌∙◌}
use lib.ListN.{drop, length-take}
use Rattle.admission.specs.Laws.Knowing.{known, known_refused}
use Rattle.admission.specs.Laws.Opening.{stream_part}
use Rattle.engine.proofs.MadeCases.{known_few, known_as}
use Rattle.engine.proofs.EnvelopeCases.{refused_at, called_at}
use Rattle.words.specs.Laws.Reading.{handed_err}
use Rattle.engine.proofs.envelope.admitted_in.Goals as goal

pub returns-in_err-sizes : goal.returns-in_err-sizes
returns-in_err-sizes g c = rw (handed_err _ _ c.from_residual.ensures) (refused_at _ _ _ _ (known_refused c.args.file.now.bytes.now _ _ _ _ _ _ _ c.args.file.now.opened c.admit_in.ensures _ c.in_err-sizes.was))

pub of-rules-requires : goal.of-rules-requires
of-rules-requires g c =
    let file = c.args.file.now in
    let h = known_few (known file.bytes.now _ _ _ _ _ _ _ file.opened c.admit_in.ensures _ c.in_ok-sizes.was (omega arith)) in
    (omega (arith, file.few, length-take (254 * file.count - 2) (drop 2 c.admit_in.new.words)), h.0, h.1, h.2)

pub returns : goal.returns
returns g c =
    let file = c.args.file.now in
    let m = c.of-rules.ensures in
    let k = known file.bytes.now _ _ _ _ _ _ _ file.opened c.admit_in.ensures _ c.in_ok-sizes.was (omega arith) in
    let t = stream_part file.bytes.now _ file.whole file.some file.few _ c.args.words.now c.admit_in.ensures.decoded in
    called_at _ _ _ _ _ _ k.admitted_as (record {
      rules = _;
      sizes = _;
      described = known_as k (m.stream ∙ t) m.declared m.places m.memory;
      sizes_are = k.sizes;
      called = c.then.ensures;
    })
