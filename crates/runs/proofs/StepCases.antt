-- A case for each way that one number's step returns: what it does to the term and to the cells in the store is what the memory machine does, however the
-- term is held (document 01, "Memory and the history machine"; "Operations": Run).
use mathlib.Core.Path.{◌≡◌, refl, sym, subst}
use mathlib.Core.List.{List}
use mathlib.Core.Option.{Option as Maybe, none, some}
use Rattle.std.specs.Prelude.{Option, None, Some}
use Rattle.std.proofs.lemmas.Option.{none-some, same_Some}
use Prim.Native.Nat.{ℕ, ◌≤◌, ◌<◌}
use lib.ListN.{get_elem?}
use Rattle.eb3.specs.Moves.{Move, moves}
use Rattle.eb3.specs.RuleSets.{RuleSet, attributes}
use Rattle.eb3.specs.Semantics.{Sem_M, Situation}
use Rattle.eb3.specs.Terms.{Action}
use Rattle.eb3.specs.TransitionSystems.{taken}
use Rattle.actions.specs.Codes.{action_code}
use Rattle.cells.specs.declared.Functions.{Functions}
use Rattle.derivation.specs.declared.scratch.Scratch.{Scratch}
use Rattle.listing.specs.Listing.{holding}
use Rattle.steps.specs.Storing.{Ruled, StoreRenewed}
use Rattle.steps.specs.declared.moving.Taken.{Taken}
use Rattle.runs.specs.Running.{Holding, Situated, done_as, Once}
use Rattle.runs.specs.Held.{holding_of, MovedTo, TakesMove, StepsOnce}
use Rattle.runs.specs.declared.Done.{Done}
use Rattle.runs.specs.declared.Done.TheVariants.{Visible, Internal}
use Rattle.runs.specs.declared.held.Held.{Held}
use Rattle.runs.proofs.Replies.{done_internal, done_visible, refused_once, made_once}

module _ {H : Holding} (t D : List ℕ) (w functions c n k : ℕ) (ws M : List ℕ) (R : RuleSet) (T : List ℕ) (ruled : Ruled R t T D w functions c) (s : Situation (Sem_M (attributes R)))
    (at : Situated H R s n ws M) (ws' : List ℕ) where
  abbrev offered : Maybe Move
  offered = get_elem? (moves (holding M) s.term) k

  -- No move was offered: the term is the same, whatever the words are.
  none_once : (o : Maybe Move) → offered ≡ o → MovedTo H R s.term n ws' o None → Once H R s n k ws' M None
  none_once none e moved = refused_once t D w functions c n k ws' M R T ruled s (record { running = at.running; held = moved.1; stored = at.stored }) e
  none_once (some x) e moved = absurd (none-some moved.0 moved.1)

  made_so : (o : Maybe Move) → offered ≡ o → (m : Taken) → MovedTo H R s.term n ws' o (Some m) → (M' : List ℕ) → StoreRenewed t D M M' w functions c m.action → (d : Option Done)
      → ((ρ : Action) → m.action ≡ action_code ρ → d ≡ done_as (taken ρ) m.size) → Once H R s n k ws' M' d
  made_so none e m moved M' renewed d told = absurd (none-some m (sym moved.0))
  made_so (some x) e m moved M' renewed d told =
      let same : moved.0 ≡ m = sym (same_Some m moved.0 moved.1) in
      let code : m.action ≡ action_code x.action = subst (λ (y : Taken). y.action ≡ action_code x.action) same moved.2 in
      made_once t D w functions c n k ws M R T ruled s at x e code renewed (subst (λ (y : Taken). H R x.successor y.size ws') same moved.3) (told x.action code)

-- ── the three returns ──

module _ (F : Functions) (h : Held) (a : Scratch) {n k : ℕ} {ws M out ws' out' : List ℕ} where
  pub step_refused : {d : Option Done} → TakesMove h n k ws M out a ws' out' None → d ≡ None → StepsOnce F h n k ws M out a ws' M out' d
  step_refused moved e bound room R T ruled s at reaches =
      let q = moved bound room _ _ _ _ _ R T ruled s at reaches in
      (subst (λ d. Once (holding_of h) R s n k ws' M d) (sym e) (none_once _ _ _ _ _ n k ws M R T ruled s at ws' _ refl q.0), q.1)

  step_made : (m : Taken) (d : Option Done) → ((ρ : Action) → m.action ≡ action_code ρ → d ≡ done_as (taken ρ) m.size) → TakesMove h n k ws M out a ws' out' (Some m) → (M' : List ℕ)
      → StoreRenewed F.words.now F.directory.now M M' F.width F.count F.cells m.action → StepsOnce F h n k ws M out a ws' M' out' d
  step_made m d told moved M' renewed bound room R T ruled s at reaches =
      let q = moved bound room _ _ _ _ _ R T ruled s at reaches in
      (made_so _ _ _ _ _ n k ws M R T ruled s at ws' _ refl m q.0 M' renewed d told, q.1)

  pub step_internal : {M' : List ℕ} {m : Taken} → TakesMove h n k ws M out a ws' out' (Some m) → StoreRenewed F.words.now F.directory.now M M' F.width F.count F.cells m.action
      → m.action ≤ 0 → StepsOnce F h n k ws M out a ws' M' out' (Some (Internal m.size))
  step_internal {M'} {m} moved renewed z = step_made m _ (λ ρ e. done_internal ρ m.action m.size e z) moved M' renewed

  pub step_visible : {M' : List ℕ} {m : Taken} → TakesMove h n k ws M out a ws' out' (Some m) → StoreRenewed F.words.now F.directory.now M M' F.width F.count F.cells m.action
      → 0 < m.action → StepsOnce F h n k ws M out a ws' M' out' (Some (Visible m.size))
  step_visible {M'} {m} moved renewed z = step_made m _ (λ ρ e. done_visible ρ m.action m.size e z) moved M' renewed
