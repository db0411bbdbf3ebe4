-- What Move and Present answer and leave, by the specification's operations (document 01, "Operations"). Both are one operation, asked in two ways: for
-- the move of a number, or for the first whose action is an event.
use Rattle.std.specs.Prelude.{◌≡◌, List, ℕ, ◌≤◌, length, get_or, Ok, Err, Result, Some, None, Option}
use Rattle.std.proofs.Math.Option.{Option as Maybe, none}
use Rattle.std.proofs.Math.ListN.{get_elem?}
use Rattle.eb3.specs.Refusal
use Rattle.eb3.specs.Values.{Value}
use Rattle.eb3.specs.Terms.{Term, VisibleAction, Action, internal, visible}
use Rattle.eb3.specs.Moves.{Move, moves}
use Rattle.eb3.specs.RuleSets.{RuleSet, attributes}
use Rattle.eb3.specs.Semantics.{Sem_M}
use Rattle.eb3.specs.Sizes.{reach}
use Rattle.eb3.specs.Bytes.{word_count}
use Rattle.eb3.specs.Memory.{cell_room}
use Rattle.eb3.specs.Answers.{Answer, refused, answered, or_refused, Moved as Answer_moved, Written}
use Rattle.eb3.specs.Operations.{listed, writing, moved, moved_from, stepped_from}
use Rattle.steps.specs.Storing.{Stored}
use Rattle.runs.specs.declared.admitted.Admitted.{Admitted}
use Rattle.engine.specs.declared.stepping.Step.{Step}
use Rattle.engine.specs.declared.stepping.Next.{Next}
use Rattle.engine.specs.declared.stepping.Visible.{Visible}
use Rattle.engine.specs.Describing.{DescribedBy}
use Rattle.given.specs.Giving.{given_in}
use Rattle.given.specs.declared.asking.Request.{Request}
use Rattle.given.specs.declared.asking.Wanted.{Wanted}
use Rattle.given.specs.Asking.{asked_of, Chooses}
use Rattle.refusals.specs.declared.Refusal.{Refusal}
use Rattle.refusals.specs.Numbers.{refusal}

-- ── the answer ──

-- A visible action's label and arguments.
abbrev pub shown : VisibleAction → Visible
shown a = record { label = a.label; arguments = length a.arguments; first = get_or a.arguments 0 0; second = get_or a.arguments 1 0 }

unfoldable pub step_as : Action → ℕ → Step
step_as internal n = record { size = n; action = None }
step_as (visible a) n = record { size = n; action = Some (shown a) }

unfoldable pub moved_as : Answer Answer_moved → Result Step Refusal
moved_as (refused k) = Err (refusal k)
moved_as (answered m) = Ok (step_as m.action m.size)

-- The two lent buffers of a step, afterwards: they are the same buffers, whatever they hold.
pub record SameBuffers (b e : Next) : Type 0 where
  pub term_is : e.term.ghost_name ≡ b.term.ghost_name
  pub memory_is : e.memory.ghost_name ≡ b.memory.ghost_name

-- With what the lent buffers hold afterwards.
pub record Done (w : Written Answer_moved) (r : Result Step Refusal) (term' memory' : List ℕ) : Type 0 where
  pub answer : r ≡ moved_as w.answer
  pub term_after : term' ≡ w.term
  pub memory_after : memory' ≡ w.memory

-- ── the operation ──

unfoldable pub stepped : List ℕ → List ℕ → List ℕ → Request → List ℕ → List ℕ → Written Answer_moved
stepped rules term memory request next_term next_memory =
    writing next_term next_memory (given_in rules term) λ p. stepped_from p.0 p.1 memory next_term next_memory (asked_of request p.0)

-- The move of a number, or none where there is none.
abbrev pub move_at : List Move → Option ℕ → Maybe Move
move_at xs (Some k) = get_elem? xs k
move_at xs None = none

-- ── each part of it, at the admitted rule set ──

-- What a step from the store M answers, and leaves in the buffers B and C: of the memory semantics' move k at the cells that the store holds.
abbrev pub SteppedFrom : (rules : Admitted) (s M : List ℕ) (k : ℕ) (B C : List ℕ) (r : Result Step Refusal) (B' C' : List ℕ) → Type 0
SteppedFrom rules s M k B C r B' C' =
    (R : RuleSet) (E : Term) (cells : List Value) → DescribedBy rules R E s → Stored R cells M → reach R.edition.width E ≤ word_count B → rules.functions.cells ≤ cell_room C
    → Done (writing B C (or_refused Refusal.not_offered (get_elem? (moves ((Sem_M (attributes R)).satisfies cells) E) k)) (moved_from R cells B C)) r B' C'

-- From the cells of a memory: of the move that is wanted among those listed.
abbrev pub SteppedAt : (rules : Admitted) (s memory : List ℕ) (wanted : Wanted) (B C : List ℕ) (r : Result Step Refusal) (B' C' : List ℕ) → Type 0
SteppedAt rules s memory wanted B C r B' C' =
    (R : RuleSet) (E : Term) (choose : List Move → Maybe Move) → DescribedBy rules R E s → rules.functions.cells ≤ cell_room memory → reach R.edition.width E ≤ word_count B → rules.functions.cells ≤ cell_room C → Chooses wanted choose
    → Done (writing B C (or_refused Refusal.not_offered (choose (listed R E memory))) (moved R memory B C)) r B' C'

-- From a term of reach g: of what is asked for.
abbrev pub Steps : (rules : Admitted) (s : List ℕ) (g : ℕ) (memory : List ℕ) (request : Request) (B C : List ℕ) (r : Result Step Refusal) (B' C' : List ℕ) → Type 0
Steps rules s g memory request B C r B' C' = (R : RuleSet) (E : Term) → DescribedBy rules R E s → g ≡ reach R.edition.width E → Done (stepped_from R E memory B C (asked_of request R)) r B' C'
