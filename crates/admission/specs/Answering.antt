-- What the engine answers, in the specification's words: the refusal of a number or document 01's values for each case of an answer.
use Rattle.std.specs.Prelude.{List, ℕ, Ok, Err, Result}
use Rattle.eb3.specs.Editions.{edition_1}
use Rattle.eb3.specs.RuleReading.{read_rules}
use Rattle.eb3.specs.Answers.{Answer, refused, answered, Sizes}
use Rattle.eb3.specs.Judging.{whole_of}
use Rattle.measures.specs.declared.Limits.{Limits}
use Rattle.refusals.specs.declared.Refusal.{Refusal}
use Rattle.refusals.specs.Numbers.{refusal}

abbrev pub limits : Sizes → Limits
limits S = record { cells = S.cells; reach = S.reach; breadth = S.breadth; size = S.size }

-- Admit: C, G, W and the start term's size, or the refusal of this number.
unfoldable pub admitted : Answer Sizes → Result Limits Refusal
admitted (refused k) = Err (refusal k)
admitted (answered S) = Ok (limits S)

-- The stream after its first two words: read, ended, judged.
abbrev pub read_whole : List ℕ → Result Limits Refusal
read_whole t = admitted (whole_of (read_rules edition_1 t))
