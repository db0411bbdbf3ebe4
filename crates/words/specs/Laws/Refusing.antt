-- What a reader of the stream is refused by is the number of the refusal that the check answers.
-- Document 01, "Operations": the table of refusals.
use Rattle.std.specs.Prelude.{◌≡◌, [], ◌∷◌, T}
use Rattle.std.proofs.Common.{sym, ap, ◌∙◌, subst}
use Rattle.eb3.specs.Refusal as named
use Rattle.eb3.specs.Reading.{Read, refused}
use Rattle.eb3.specs.Generic.Lists.{one_of, all_of, one_of_more}
use Rattle.eb3.proofs.Laws.Refusals.{Refuses}
use Rattle.words.specs.Readings.{RefusedAs}
use Rattle.refusals.specs.declared.Refusal.{Refusal}
use Rattle.refusals.specs.Numbers.{number}
use Rattle.refusals.specs.Laws.Numbers.{number_refusal}

pub refused_number : {A : Type 0} (r : Read A) (k : Refusal) → Refuses r → RefusedAs k r → r ≡ refused (number k)
unfolding all_of one_of
refused_number r k within h =
    let among : T (one_of named.of_any h.code) = one_of_more named.of_any (4 ∷ 5 ∷ 6 ∷ []) tt h.code (subst Refuses h.read within) in
    h.read ∙ ap refused (sym (ap number h.named ∙ number_refusal h.code among))
