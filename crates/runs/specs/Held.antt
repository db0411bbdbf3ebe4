-- A run of the memory machine, its term held in one of the two ways (document 01, "Memory and the history machine"; "Operations": Run): one move, one
-- number, and a list of them.
use Rattle.std.specs.Prelude.{◌≡◌, List, ℕ, ◌≤◌, length, Option, None, Some}
use Rattle.std.proofs.Math.Option.{Option as Maybe, none, some}
use Rattle.std.proofs.Math.ListN.{get_elem?}
use Rattle.eb3.specs.Moves.{Move, moves}
use Rattle.eb3.specs.RuleSets.{RuleSet, attributes}
use Rattle.eb3.specs.Terms.{Term}
use Rattle.eb3.specs.Sizes.{reach}
use Rattle.eb3.specs.Readers.{numbers_in, readers_in}
use Rattle.eb3.specs.Semantics.{Sem_M, Situation}
use Rattle.actions.specs.Codes.{action_code}
use Rattle.cells.specs.declared.Functions.{Functions}
use Rattle.derivation.specs.declared.scratch.Scratch.{Scratch}
use Rattle.listing.specs.Listing.{holding}
use Rattle.steps.specs.Storing.{Ruled}
use Rattle.steps.specs.declared.moving.Taken.{Taken}
use Rattle.runs.specs.Scratch.{WordsOnly}
use Rattle.runs.specs.Running.{Holding, Spelled, Situated, Roomy, Steps, RunsBy}
use Rattle.runs.specs.Sharing.{SharedOver, RoomyOver}
use Rattle.runs.specs.declared.Done.{Done}
use Rattle.runs.specs.declared.Tally.{Tally}
use Rattle.runs.specs.declared.admitted.Course.{Course}
use Rattle.runs.specs.declared.held.Held.{Held}
use Rattle.runs.specs.declared.held.Held.TheVariants.{InFull, Over}

abbrev pub holding_of : Held → Holding
holding_of InFull = Spelled
holding_of (Over u) = SharedOver u.now

-- The unfolding has no more words than sharing asks.
abbrev pub Short : Held → Type 0
Short InFull = Unit
Short (Over u) = length u.now ≤ 65503

-- There is room for every term of up to `bound` words: in the words ws, in the lent bytes out and in the arrays a.
abbrev pub RoomFor : (h : Held) (bound : ℕ) (ws out : List ℕ) (a : Scratch) → Type 0
RoomFor InFull bound ws out a = Roomy bound ws out a.path.now
RoomFor (Over u) bound ws out a = RoomyOver bound u.now ws (length a.path.now) (length a.acts.now) (length a.mid.now)

-- The offered move that was taken, or that there is none, and what n words of ws hold then.
abbrev pub MovedTo : (H : Holding) (R : RuleSet) (E : Term) (n : ℕ) (ws : List ℕ) → Maybe Move → Option Taken → Type 0
MovedTo H R E n ws none r = (r ≡ None) × H R E n ws
MovedTo H R E n ws (some x) r = (m : Taken) × (r ≡ Some m) × (m.action ≡ action_code x.action) × H R x.successor m.size ws

-- Of the words ws and the bytes out, which are ws' and out' afterwards, and the store M.
abbrev pub TakesMove : (h : Held) (n k : ℕ) (ws M out : List ℕ) (a : Scratch) (ws' out' : List ℕ) (r : Option Taken) → Type 0
TakesMove h n k ws M out a ws' out' r =
    (bound : ℕ) → RoomFor h bound ws out a → (t D : List ℕ) (w functions c : ℕ) (R : RuleSet) (T : List ℕ) → Ruled R t T D w functions c
    → (s : Situation (Sem_M (attributes R))) → Situated (holding_of h) R s n ws M → reach R.edition.width s.term ≤ bound
    → MovedTo (holding_of h) R s.term n ws' (get_elem? (moves (holding M) s.term) k) r × WordsOnly out out'

abbrev pub StepsOnce : (F : Functions) (h : Held) (n k : ℕ) (ws M out : List ℕ) (a : Scratch) (ws' M' out' : List ℕ) (r : Option Done) → Type 0
StepsOnce F h n k ws M out a ws' M' out' r =
    (bound : ℕ) → RoomFor h bound ws out a → Steps (holding_of h) bound (WordsOnly out out') F.words.now F.directory.now F.width F.count F.cells n k ws M ws' M' r

abbrev pub Runs : (course : Course) (h : Held) (n : ℕ) (ws M out : List ℕ) (a : Scratch) (by ws' M' out' by' : List ℕ) (r : Tally) → Type 0
Runs course h n ws M out a by ws' M' out' by' r =
    let F = course.rules.functions in
    (bound : ℕ) → RoomFor h bound ws out a
    → RunsBy (holding_of h) bound (WordsOnly out out') (numbers_in course.list.now) (readers_in course.list.now) F.words.now F.directory.now F.width F.count F.cells n ws M by ws' M' by' r
