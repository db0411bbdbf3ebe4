use Prim.Native.Nat.{◌-◌, ◌*◌}
use native.Mathlib.Omega.{arith}
use mathlib.Core.Path.{◌∙◌}
use lib.ListN.{drop, length-take}
use Rattle.admission.specs.Laws.Opening.{stream_part}
use Rattle.given.specs.Laws.Giving.{told_refused}
use Rattle.engine.proofs.MadeCases.{found, given_few, given_made}
use Rattle.engine.proofs.EnvelopeCases.{refused_at, called_at}
use Rattle.words.specs.Laws.Reading.{handed_err}
use Rattle.engine.proofs.envelope.given_at.Goals as goal

pub returns-in_err-given : goal.returns-in_err-given
returns-in_err-given g c = rw (handed_err _ _ c.from_residual.ensures) (refused_at _ _ _ _ (told_refused _ _ _ _ _ _ _ _ _ c.given_in.ensures.1 _ c.in_err-given.was))

pub of-rules-requires : goal.of-rules-requires
of-rules-requires g c =
    let file = c.args.file.now in
    let h = given_few c.given_in.ensures.1 c.in_ok-given.was c.front-s.ensures in
    (omega (arith, file.few, length-take (254 * file.count - 2) (drop 2 c.given_in.new.words)), h.1, h.2, h.3)

pub then-requires : goal.then-requires
then-requires g c = c.requires.callable _ _ _ (given_few c.given_in.ensures.1 c.in_ok-given.was c.front-s.ensures).0

pub returns : goal.returns
returns g c =
    let file = c.args.file.now in
    let m = c.of-rules.ensures in
    let given = c.given_in.ensures.1 in
    let t = stream_part file.bytes.now _ file.whole file.some file.few _ c.args.words.now given.decoded in
    let f = found given c.in_ok-given.was in
    called_at _ _ _ _ _ _ f.given_so (record {
      rules = _;
      words = _;
      most = _;
      described = given_made given c.in_ok-given.was c.front-s.ensures (m.stream ∙ t) m.declared m.places m.memory;
      most_is = f.reach_is;
      called = c.then.ensures;
    })
