-- The memory machine with its term in words and its cells in a store, fed move numbers (document 01, "Memory and the history machine"; "Operations": Run), each
-- with its reader (document 02, K1).
use Rattle.std.specs.Prelude.{◌≡◌, List, ℕ, ◌+◌, ◌≤◌, length, take, Option, None, Some}
use Rattle.eb3.specs.RuleSets.{RuleSet, attributes}
use Rattle.eb3.specs.Terms.{Term}
use Rattle.eb3.specs.Sizes.{reach}
use Rattle.eb3.specs.Spelling.{words}
use Rattle.eb3.specs.Bytes.{word_count}
use Rattle.eb3.specs.Semantics.{Sem_M, Situation, system}
use Rattle.eb3.specs.Machines.{Machine}
use Rattle.eb3.specs.TransitionSystems.{Outcome, took_visible, took_internal, refused, initial, reply, run, outcomes}
use Rattle.eb3.specs.WellFormedness.{Running}
use Rattle.steps.specs.Storing.{Stored, Ruled}
use Rattle.readers.specs.Table.{counted_by}
use Rattle.readers.specs.declared.Outcome.{Outcome as Counted}
use Rattle.readers.specs.declared.Outcome.TheVariants.{Visible as CountedVisible, Internal as CountedInternal, Refused as CountedRefused}
use Rattle.runs.specs.declared.Done.{Done}
use Rattle.runs.specs.declared.Done.TheVariants.{Visible, Internal}
use Rattle.runs.specs.declared.Tally.{Tally}

-- How a term of a rule set is held in the first n words of an array. In its own words it is `Spelled`; what holds of a run whatever the way is said once.
abbrev pub Holding : Type 1
Holding = RuleSet → Term → ℕ → List ℕ → Type 0

pub record Spelled (R : RuleSet) (E : Term) (n : ℕ) (ws : List ℕ) : Type 0 where
  pub size_is : n ≡ length (words R.edition.width E)
  pub spelled : take n ws ≡ words R.edition.width E

-- A situation of the memory machine: the first n words of ws hold its term, and the store M holds its cells.
pub record Situated (H : Holding) (R : RuleSet) (s : Situation (Sem_M (attributes R))) (n : ℕ) (ws M : List ℕ) : Type 0 where
  pub running : Running R s.term
  pub held : H R s.term n ws
  pub stored : Stored R s.state M

-- There is room for every term of up to `bound` words: in the words, in the lent bytes that a successor is built in, and in a lent array for a move's path,
-- which has no more words than the term.
pub record Roomy (bound : ℕ) (ws out path : List ℕ) : Type 0 where
  pub words_room : bound ≤ length ws
  pub bytes_room : bound ≤ word_count out
  pub path_room : bound ≤ length path

-- ── one number ──

-- What a number did, and how many words the term has then; None where there is no such move.
unfoldable pub done_as : Outcome → ℕ → Option Done
done_as took_visible n = Some (Visible n)
done_as took_internal n = Some (Internal n)
done_as refused n = None

-- What a number did, as it is counted at its reader.
abbrev pub outcome_of : Option Done → Counted
outcome_of (Some (Visible n)) = CountedVisible
outcome_of (Some (Internal n)) = CountedInternal
outcome_of None = CountedRefused

-- A number that is refused leaves the size as it was.
pub record Once (H : Holding) (R : RuleSet) (s : Situation (Sem_M (attributes R))) (n k : ℕ) (ws' M' : List ℕ) (r : Option Done) : Type 0 where
  pub size : ℕ
  pub answer : r ≡ done_as (reply (system (Sem_M (attributes R))) s k).0 size
  pub kept : (reply (system (Sem_M (attributes R))) s k).0 ≡ refused → size ≡ n
  pub after : Situated H R (reply (system (Sem_M (attributes R))) s k).1 size ws' M'

-- Of the stream t, the directory D, n words of ws and the store M, which are ws' and M' afterwards, where no successor has more words than the bound; and Z
-- besides.
abbrev pub Steps : (H : Holding) (bound : ℕ) (Z : Type 0) (t D : List ℕ) (w functions c n k : ℕ) (ws M ws' M' : List ℕ) (r : Option Done) → Type 0
Steps H bound Z t D w functions c n k ws M ws' M' r =
    (R : RuleSet) (T : List ℕ) → Ruled R t T D w functions c → (s : Situation (Sem_M (attributes R))) → Situated H R s n ws M → reach R.edition.width s.term ≤ bound → Once H R s n k ws' M' r × Z

-- ── a list of numbers ──

-- The tally after one number more, by what it did.
abbrev pub counted : Tally → Option Done → Tally
counted r (Some (Visible n)) = record { size = n; visible = r.visible + 1; internal = r.internal; refused = r.refused }
counted r (Some (Internal n)) = record { size = n; visible = r.visible; internal = r.internal + 1; refused = r.refused }
counted r None = record { size = r.size; visible = r.visible; internal = r.internal; refused = r.refused + 1 }

-- The size of the last term and the three counts, and what is left in the words and the store.
pub record Ended (H : Holding) (R : RuleSet) (h : Machine (Sem_M (attributes R))) (ws' M' : List ℕ) (r : Tally) : Type 0 where
  pub visible_is : r.visible ≡ h.visible_count
  pub internal_is : r.internal ≡ h.internal_count
  pub refused_is : r.refused ≡ h.refused_count
  pub after : Situated H R h.state r.size ws' M'

-- What is counted by reader, from by on: by', where os is what each number did and rs are their readers.
pub record CountedBy (by rs : List ℕ) (os : List Outcome) (by' : List ℕ) : Type 0 where
  pub counted_so : by' ≡ counted_by by rs os

-- By the numbers ks with the readers rs.
abbrev pub RunsBy : (H : Holding) (bound : ℕ) (Z : Type 0) (ks rs t D : List ℕ) (w functions c n : ℕ) (ws M by ws' M' by' : List ℕ) (r : Tally) → Type 0
RunsBy H bound Z ks rs t D w functions c n ws M by ws' M' by' r =
    (R : RuleSet) (T : List ℕ) → Ruled R t T D w functions c → (s : Situation (Sem_M (attributes R))) → Situated H R s n ws M → reach R.edition.width s.term ≤ bound
    → Ended H R (run (system (Sem_M (attributes R))) (initial (system (Sem_M (attributes R))) s) ks) ws' M' r × CountedBy by rs (outcomes (system (Sem_M (attributes R))) s ks) by' × Z
