-- What the memory machine replies to a number, by the list of its term's moves, however the term is held: the outcome that is returned for the number, and
-- the term that is held then (document 01, "Memory and the history machine"; "Operations": Run).
use mathlib.Core.Path.{◌≡◌, refl, sym, ap, ◌∙◌, subst}
use mathlib.Core.List.{List, [], ◌∷◌, map}
use mathlib.Core.Option.{Option as Maybe, none, some, none-ne-some}
use Rattle.std.specs.Prelude.{Option, None, Some}
use Prim.Native.Nat.{ℕ, zero, suc, ◌≤◌, ◌<◌}
use native.Mathlib.Omega.{arith}
use lib.ListN.{length, get_elem?}
use Rattle.eb3.specs.Terms.{Term, Action, internal, visible}
use Rattle.eb3.specs.Moves.{Move, moves}
use Rattle.eb3.specs.Derivations.{DataState, state_after}
use Rattle.eb3.specs.RuleSets.{RuleSet, attributes}
use Rattle.eb3.specs.Sizes.{size, reach}
use Rattle.eb3.proofs.Laws.Sizes.{move_size}
use Rattle.eb3.specs.Spelling.{words}
use Rattle.eb3.proofs.Laws.Spelling.{words_length}
use Rattle.eb3.proofs.Laws.Running.{move_running, move_action}
use Rattle.eb3.specs.Semantics.{Sem_M, Situation, situation, transition, system}
use Rattle.eb3.specs.TransitionSystems.{Outcome, took_visible, took_internal, refused, taken, reply, respond}
use Rattle.eb3.proofs.Laws.TransitionSystems.{getElem?_map}
use Rattle.eb3.specs.WellFormedness.{WellFormedTerm, Running}
use Rattle.actions.specs.Codes.{action_code}
use Rattle.listing.specs.Listing.{holding}
use Rattle.steps.specs.Storing.{Ruled, StoreRenewed}
use Rattle.steps.specs.Laws.Judging.{moves_judged}
use Rattle.runs.specs.Running.{Holding, Situated, done_as, Once}
use Rattle.runs.specs.declared.Done.{Done}
use Rattle.runs.specs.declared.Done.TheVariants.{Visible, Internal}

mapped_none : {X Y : Type 0} (f : X → Y) (l : List X) (k : ℕ) → get_elem? l k ≡ none → get_elem? (map f l) k ≡ none
mapped_none f [] k e = refl
mapped_none f (x ∷ l) zero e = absurd (none-ne-some x (sym e))
mapped_none f (x ∷ l) (suc k) e = mapped_none f l k e

module _ (S : DataState) (s : Situation S) (k : ℕ) where
  reply_none : get_elem? (moves (S.satisfies s.state) s.term) k ≡ none → Path (Outcome × Situation S) (reply (system S) s k) (refused, s)
  reply_none e = ap (respond (system S) s) (mapped_none (transition S s.state) (moves (S.satisfies s.state) s.term) k e)

  reply_some : (x : Move) → get_elem? (moves (S.satisfies s.state) s.term) k ≡ some x
      → Path (Outcome × Situation S) (reply (system S) s k) (taken x.action, situation x.successor (state_after S s.state x.action))
  reply_some x e = ap (respond (system S) s) (getElem?_map (transition S s.state) (moves (S.satisfies s.state) s.term) k x e)

-- ── the outcome that is returned ──

abbrev outcome_number : Outcome → ℕ
outcome_number took_visible = 0
outcome_number took_internal = 0
outcome_number refused = 1

-- A move that is taken is not refused.
taken_not_refused : (ρ : Action) → taken ρ ≡ refused → ⊥
taken_not_refused internal e = absurd (let z : ◌≡◌ {A = ℕ} 0 1 = ap outcome_number e in omega arith)
taken_not_refused (visible a) e = absurd (let z : ◌≡◌ {A = ℕ} 0 1 = ap outcome_number e in omega arith)

pub done_internal : (ρ : Action) (a n : ℕ) → a ≡ action_code ρ → a ≤ 0 → Some (Internal n) ≡ done_as (taken ρ) n
unfolding action_code done_as
done_internal internal a n e h = refl
done_internal (visible b) a n e h = absurd (let z : ⊥ = omega (arith, e) in z)

pub done_visible : (ρ : Action) (a n : ℕ) → a ≡ action_code ρ → 0 < a → Some (Visible n) ≡ done_as (taken ρ) n
unfolding action_code done_as
done_visible internal a n e h = absurd (let z : ⊥ = omega (arith, e) in z)
done_visible (visible b) a n e h = refl

once_by : (H : Holding) (R : RuleSet) (s : Situation (Sem_M (attributes R))) (n k : ℕ) (ws' M' : List ℕ) (r : Option Done) (o : Outcome) (z : Situation (Sem_M (attributes R))) (size : ℕ)
    → Path (Outcome × Situation (Sem_M (attributes R))) (reply (system (Sem_M (attributes R))) s k) (o, z)
    → r ≡ done_as o size → (o ≡ refused → size ≡ n) → Situated H R z size ws' M' → Once H R s n k ws' M' r
once_by H R s n k ws' M' r o z size e a kept h = record {
  size = size;
  answer = subst (λ (p : Outcome × Situation (Sem_M (attributes R))). r ≡ done_as p.0 size) (sym e) a;
  kept = subst (λ (p : Outcome × Situation (Sem_M (attributes R))). p.0 ≡ refused → size ≡ n) (sym e) kept;
  after = subst (λ (p : Outcome × Situation (Sem_M (attributes R))). Situated H R p.1 size ws' M') (sym e) h;
}

-- ── in a situation ──

module _ {H : Holding} (t D : List ℕ) (w functions c n k : ℕ) (ws M : List ℕ) (R : RuleSet) (T : List ℕ) (ruled : Ruled R t T D w functions c) (s : Situation (Sem_M (attributes R)))
    (at : Situated H R s n ws M) where
  abbrev pub offered : Maybe Move
  offered = get_elem? (moves (holding M) s.term) k

  pub spelled_length : (E : Term) → WellFormedTerm R E → length (words R.edition.width E) ≡ size R.edition.width E
  spelled_length E h = words_length R E h

  module _ (x : Move) (listed : offered ≡ some x) where
    pub next_running : Running R x.successor
    next_running = move_running R (holding M) s.term k x listed at.running

    -- A successor has no more words than the term reaches.
    pub next_length : length (words R.edition.width x.successor) ≤ reach R.edition.width s.term
    next_length = omega (arith, spelled_length x.successor next_running.form, move_size R.edition.width (holding M) s.term k x listed)

  same_moves : moves ((Sem_M (attributes R)).satisfies s.state) s.term ≡ moves (holding M) s.term
  same_moves = sym (moves_judged R ruled.form T ruled.directory.declares s.term at.running.form s.state M at.stored)

  -- No such move: all stays as it is.
  pub refused_once : offered ≡ none → Once H R s n k ws M None
  unfolding done_as
  refused_once e = once_by H R s n k ws M None refused s n (reply_none (Sem_M (attributes R)) s k (ap (λ l. get_elem? l k) same_moves ∙ e)) refl (λ _. refl) at

  -- The move x is made: its successor is held and the cells are renewed.
  pub made_once : (x : Move) → offered ≡ some x → {ws' M' : List ℕ} {a size' : ℕ} {d : Option Done} → a ≡ action_code x.action → StoreRenewed t D M M' w functions c a → H R x.successor size' ws'
      → d ≡ done_as (taken x.action) size' → Once H R s n k ws' M' d
  made_once x listed {ws'} {M'} {a} {size'} {d} number renewed held told =
      once_by H R s n k ws' M' d (taken x.action) (situation x.successor (state_after (Sem_M (attributes R)) s.state x.action)) size'
      (reply_some (Sem_M (attributes R)) s k x (ap (λ l. get_elem? l k) same_moves ∙ listed)) told (λ e. absurd (taken_not_refused x.action e))
      (record {
        running = next_running x listed;
        held = held;
        stored = renewed R T ruled x.action (move_action R (holding M) s.term k x listed at.running.form) number s.state at.stored;
      })
