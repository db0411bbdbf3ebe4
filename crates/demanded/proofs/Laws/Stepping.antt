-- A host's steps are the run (`one_more`, `run_then_move`, `steps_are_the_run`; document 01, "Operations": Start, Move and Run; document 02, K1).
use Rattle.std.specs.Prelude.{◌≡◌, T, length, drop, replicate}
use Rattle.std.proofs.Math.Path.{refl, ap, subst}
use Rattle.std.proofs.Common.{sym, ◌∙◌, arith, length-append, take-append-drop, take_at}
use mathlib.Core.List.{List, [], ◌∷◌, ◌++◌, map, append_assoc, append-nil}
use Rattle.std.proofs.Math.Option.{Option, none, some}
use Prim.Native.Nat.{ℕ, suc, ◌-◌, ◌*◌, ◌≤◌}
use Rattle.std.proofs.Math.ListN.{get_elem?, take}
use Rattle.std.proofs.lemmas.List.{length-map, length-replicate}
use Rattle.eb3.specs.Generic.PositionsLaws.{none_beyond, beyond_none}
use Rattle.eb3.specs.Refusal
use Rattle.eb3.specs.Terms.{Term, Action, internal, visible}
use Rattle.eb3.specs.Moves.{Move}
use Rattle.eb3.specs.Derivations.{state_after}
use Rattle.eb3.specs.Attributes.{Attributes, Trace}
use Rattle.eb3.specs.Cells.{all_values}
use Rattle.eb3.proofs.Laws.Cells.{length_values, initial_values}
use Rattle.eb3.specs.TransitionSystems.{TransitionSystem, Configuration, respond, step, run as machine_run}
use Rattle.eb3.specs.TransitionSystems as Systems
use Rattle.eb3.proofs.Laws.TransitionSystems.{getElem?_map}
use Rattle.eb3.specs.Semantics.{Sem_T, Sem_M, Situation, situation, transition, system}
use Rattle.eb3.specs.Machines.{Machine, history_start, history_run}
use Rattle.eb3.specs.Sizes.{size, reach}
use Rattle.eb3.proofs.Laws.Sizes.{size_below_reach, run_reach}
use Rattle.eb3.specs.RuleSets.{RuleSet, attributes}
use Rattle.eb3.specs.Unfolding.{unfold_main}
use Rattle.eb3.specs.WellFormedness.{Running, WellFormed, WellFormedTrace}
use Rattle.eb3.proofs.Laws.MainRunning.{main_running}
use Rattle.eb3.proofs.Laws.Running.{run_running, history_well_formed}
use Rattle.eb3.specs.Spelling.{words}
use Rattle.eb3.proofs.Laws.Spelling.{words_length}
use Rattle.eb3.specs.Bytes.{bytes_of, word_count, written}
use Rattle.eb3.proofs.Laws.Bytes.{bytes_length, written_length, written_cut}
use Rattle.eb3.specs.Memory.{memory_words}
use Rattle.eb3.proofs.Laws.Memory.{memory_length}
use Rattle.eb3.specs.Answers.{refused, answered, and_then, Sizes, Moved, Ran, Written, or_refused}
use Rattle.eb3.proofs.Laws.Answers.{not_both, answered_injective, refused_injective}
use Rattle.eb3.specs.Readers.{numbers_in, lets_through}
use Rattle.eb3.specs.Admission.{admission}
use Rattle.eb3.proofs.Laws.Admission.{admitted}
use Rattle.eb3.specs.Operations.{main_reach, sizes_needed, term_in, cells_given, writing, moved, count, run}
use Rattle.eb3.proofs.Laws.Operations.{term_back, values_back}
use Rattle.eb3.specs.Demands.{Roomy, last_term, last_trace, history_moves, values_words, run_result, cut}
use Rattle.eb3.proofs.Laws.DemandThree.{admit_reports, there, count_there, move_there, renewed_there, run_is, h}
use Rattle.eb3.proofs.Laws.DemandOne.{start_writes}
use Rattle.demanded.proofs.Laws.Readers.{through_more, numbers_more}
use Rattle.demanded.specs.Stepping.{Host, host_after_start, host_start, host_of, more_visible, more_internal, taken, not_taken, stepped, host_move, host_step, host_run, SameAsRun, RoomyHost, OneMoreHolds, RunThenMoveHolds, StepsAreTheRunHolds}

-- ── one step of a machine more ──

run_snoc : (L : TransitionSystem) (c : Configuration L) (ks : List ℕ) (k : ℕ) → machine_run L c (ks ++ (k ∷ [])) ≡ step L (machine_run L c ks) k
unfolding machine_run
run_snoc L c [] k = refl
run_snoc L c (j ∷ ks) k = run_snoc L (step L c j) ks k

getElem?_map_none : {X Y : Type 0} (f : X → Y) (l : List X) (k : ℕ) → get_elem? l k ≡ none → get_elem? (map f l) k ≡ none
getElem?_map_none f l k e = beyond_none (map f l) k (omega (arith, none_beyond l k e, length-map l f))

-- A move taken: the state is its target, and it is counted by its action.
module _ (A : Attributes) (c : Machine (Sem_T A)) where
  abbrev counted : Action → Situation (Sem_T A) → Machine (Sem_T A)
  counted ρ t = Systems.count (system (Sem_T A)) c (Systems.taken ρ) t

  taken_state : (ρ : Action) (t : Situation (Sem_T A)) → (counted ρ t).state ≡ t
  taken_state internal t = refl
  taken_state (visible a) t = refl

  taken_visible : (ρ : Action) (t : Situation (Sem_T A)) → (counted ρ t).visible_count ≡ more_visible ρ c.visible_count
  taken_visible internal t = refl
  taken_visible (visible a) t = refl

  taken_internal : (ρ : Action) (t : Situation (Sem_T A)) → (counted ρ t).internal_count ≡ more_internal ρ c.internal_count
  taken_internal internal t = refl
  taken_internal (visible a) t = refl

  taken_refused : (ρ : Action) (t : Situation (Sem_T A)) → (counted ρ t).refused_count ≡ c.refused_count
  taken_refused internal t = refl
  taken_refused (visible a) t = refl

-- ── what was written at the beginning is read back ──

front_written : (ws s : List ℕ) → take (2 * length ws) (written ws s) ≡ bytes_of ws
unfolding written
front_written ws s = take_at (bytes_of ws) (drop (2 * length ws) s) (2 * length ws) (bytes_length ws)

written_front : (ws s : List ℕ) → take (2 * length ws) s ≡ bytes_of ws → s ≡ written ws s
unfolding written
written_front ws s e = sym (take-append-drop (2 * length ws) s) ∙ ap (λ x. x ++ drop (2 * length ws) s) e

module _ (rules : List ℕ) (S : Sizes) (R : RuleSet) (a : admission rules ≡ answered R) (s : sizes_needed R ≡ S) where
  good : WellFormed R
  good = (admitted rules R a).good

  -- The history machine after a list of numbers.
  unfoldable history : List ℕ → Machine (Sem_T (attributes R))
  history ks = history_run (attributes R) (unfold_main R) ks

  history_snoc : (ks : List ℕ) (k : ℕ) → history (ks ++ (k ∷ [])) ≡ step (system (Sem_T (attributes R))) (history ks) k
  unfolding history history_run
  history_snoc ks k = run_snoc (system (Sem_T (attributes R))) (history_start (attributes R) (unfold_main R)) ks k

  running : (ks : List ℕ) → Running R (last_term R (history ks))
  unfolding history history_run
  running ks = run_running R (Sem_T (attributes R)) (history_start (attributes R) (unfold_main R)) ks (main_running R good)

  traced : (ks : List ℕ) → WellFormedTrace R (last_trace R (history ks))
  unfolding history
  traced ks = history_well_formed R (unfold_main R) ks (main_running R good).form

  reach_within : (ks : List ℕ) → reach R.edition.width (last_term R (history ks)) ≤ S.reach
  unfolding history history_run
  reach_within ks = let g : main_reach R ≡ S.reach = ap (λ (x : Sizes). x.reach) s in
      omega (arith, run_reach R.edition.width (Sem_T (attributes R)) (history_start (attributes R) (unfold_main R)) ks)

  -- The lengths of what is written.
  term_length : (E : Term) → Running R E → length (words R.edition.width E) ≡ size R.edition.width E
  term_length E w = words_length R E w.form

  values_length : (H : Trace) → length (values_words R H) ≡ S.cells
  values_length H = memory_length (all_values (attributes R) H) ∙ (length_values (attributes R) H ∙ ap (λ (x : Sizes). x.cells) s)

  -- Buffers keep their room.
  written_roomy : (E : Term) (H : Trace) (term memory : List ℕ) → Running R E → reach R.edition.width E ≤ S.reach → Roomy S term memory
      → Roomy S (written (words R.edition.width E) term) (written (values_words R H) memory)
  written_roomy E H term memory w l r =
      let lt : length (words R.edition.width E) ≤ word_count term = omega (arith, term_length E w, size_below_reach R.edition.width E, r.term_room) in
      let lm : length (values_words R H) ≤ word_count memory = omega (arith, values_length H, r.memory_room) in
      record {
        term_room = omega (arith, written_length (words R.edition.width E) term lt, r.term_room);
        memory_room = omega (arith, written_length (values_words R H) memory lm, r.memory_room);
      }

  -- ── what the host holds after the numbers ks ──

  record Reached (ks : List ℕ) (g : Host) : Type 0 where
    size_is : g.size ≡ size R.edition.width (last_term R (history ks))
    term_is : cut g.size g.term ≡ bytes_of (words R.edition.width (last_term R (history ks)))
    cells_are : take (2 * S.cells) g.memory ≡ bytes_of (values_words R (last_trace R (history ks)))
    visible_is : g.visible_count ≡ (history ks).visible_count
    internal_is : g.internal_count ≡ (history ks).internal_count
    refused_is : g.refused_count ≡ (history ks).refused_count
    room : RoomyHost S g

  pub cut_written : (E : Term) (buffer : List ℕ) → Running R E → cut (size R.edition.width E) (written (words R.edition.width E) buffer) ≡ bytes_of (words R.edition.width E)
  cut_written E buffer w = ap (λ n. take (2 * n) (written (words R.edition.width E) buffer)) (sym (term_length E w)) ∙ front_written (words R.edition.width E) buffer

  cells_written : (H : Trace) (buffer : List ℕ) → take (2 * S.cells) (written (values_words R H) buffer) ≡ bytes_of (values_words R H)
  cells_written H buffer = ap (λ n. take (2 * n) (written (values_words R H) buffer)) (sym (values_length H)) ∙ front_written (values_words R H) buffer

  module _ (ks : List ℕ) (g : Host) (r : Reached ks g) where
    abbrev E_now : Term
    E_now = last_term R (history ks)

    abbrev T_now : Trace
    T_now = last_trace R (history ks)

    given : term_in R (cut g.size g.term) ≡ answered E_now
    given = ap (term_in R) r.term_is ∙ term_back R good.form E_now (running ks)

    cells : cells_given R g.memory ≡ all_values (attributes R) T_now
    cells = ap (cells_given R) (written_front (values_words R T_now) g.memory (ap (λ n. take (2 * n) g.memory) (values_length T_now) ∙ r.cells_are))
        ∙ values_back R good.form T_now g.memory (traced ks)

    move_here : (k : ℕ) (o : Option Move) → get_elem? (history_moves R (history ks)) k ≡ o
        → host_move rules g k ≡ writing g.other_term g.other_memory (or_refused Refusal.not_offered o) (moved R g.memory g.other_term g.other_memory)
    unfolding there
    move_here k o e = move_there rules S R a s E_now T_now (cut g.size g.term) g.memory given cells r.room.current.memory_room (reach_within ks) k o e g.other_term g.other_memory r.room.other

    count_here : count rules (cut g.size g.term) g.memory ≡ answered (length (history_moves R (history ks)))
    unfolding there
    count_here = count_there rules S R a s E_now T_now (cut g.size g.term) g.memory given cells r.room.current.memory_room (reach_within ks)

    -- What the machine does at the number.
    machine_refuses : (k : ℕ) → get_elem? (history_moves R (history ks)) k ≡ none
        → history (ks ++ (k ∷ [])) ≡ Systems.count (system (Sem_T (attributes R))) (history ks) Systems.refused (history ks).state
    unfolding step
    machine_refuses k e = history_snoc ks k ∙ ap (λ o. Systems.count (system (Sem_T (attributes R))) (history ks) (respond (system (Sem_T (attributes R))) (history ks).state o).0 (respond (system (Sem_T (attributes R))) (history ks).state o).1)
        (getElem?_map_none (transition (Sem_T (attributes R)) T_now) (history_moves R (history ks)) k e)

    machine_takes : (k : ℕ) (x : Move) → get_elem? (history_moves R (history ks)) k ≡ some x
        → history (ks ++ (k ∷ [])) ≡ Systems.count (system (Sem_T (attributes R))) (history ks) (Systems.taken x.action) (situation x.successor (state_after (Sem_T (attributes R)) T_now x.action))
    unfolding step
    machine_takes k x e = history_snoc ks k ∙ ap (λ o. Systems.count (system (Sem_T (attributes R))) (history ks) (respond (system (Sem_T (attributes R))) (history ks).state o).0 (respond (system (Sem_T (attributes R))) (history ks).state o).1)
        (getElem?_map (transition (Sem_T (attributes R)) T_now) (history_moves R (history ks)) k x e)

    abbrev Next : ℕ → Type 0
    Next k = (g' : Host) × (host_step rules g k ≡ answered g') × Reached (ks ++ (k ∷ [])) g'

    refused_next : (k : ℕ) → get_elem? (history_moves R (history ks)) k ≡ none → Next k
    unfolding host_step
    refused_next k e =
        let c = machine_refuses k e in (
          not_taken g,
          ap (λ (w : Written Moved). stepped g w w.answer) (move_here k none e),
          record {
            size_is = r.size_is ∙ ap (λ (m : Machine (Sem_T (attributes R))). size R.edition.width (last_term R m)) (sym c);
            term_is = r.term_is ∙ ap (λ (m : Machine (Sem_T (attributes R))). bytes_of (words R.edition.width (last_term R m))) (sym c);
            cells_are = r.cells_are ∙ ap (λ (m : Machine (Sem_T (attributes R))). bytes_of (values_words R (last_trace R m))) (sym c);
            visible_is = r.visible_is ∙ ap (λ (m : Machine (Sem_T (attributes R))). m.visible_count) (sym c);
            internal_is = r.internal_is ∙ ap (λ (m : Machine (Sem_T (attributes R))). m.internal_count) (sym c);
            refused_is = ap suc r.refused_is ∙ ap (λ (m : Machine (Sem_T (attributes R))). m.refused_count) (sym c);
            room = record { current = r.room.current; other = r.room.other };
          },
        )

    taken_next : (k : ℕ) (x : Move) → get_elem? (history_moves R (history ks)) k ≡ some x → Next k
    unfolding host_step
    taken_next k x e =
        let c = machine_takes k x e in
        let H = state_after (Sem_T (attributes R)) T_now x.action in
        let w = moved R g.memory g.other_term g.other_memory x in
        let state_is : (history (ks ++ (k ∷ []))).state ≡ situation x.successor H =
        ap (λ (m : Machine (Sem_T (attributes R))). m.state) c ∙ taken_state (attributes R) (history ks) x.action (situation x.successor H) in
        let new_cells : state_after (Sem_M (attributes R)) (cells_given R g.memory) x.action ≡ all_values (attributes R) H =
        renewed_there rules S R a s E_now T_now (cut g.size g.term) g.memory given cells r.room.current.memory_room (reach_within ks) x in
        let runs : Running R x.successor = subst (λ (q : Situation (Sem_T (attributes R))). Running R q.term) state_is (running (ks ++ (k ∷ []))) in
        let reaches : reach R.edition.width x.successor ≤ S.reach = subst (λ (q : Situation (Sem_T (attributes R))). reach R.edition.width q.term ≤ S.reach) state_is (reach_within (ks ++ (k ∷ []))) in (
          taken g w (record { action = x.action; size = size R.edition.width x.successor }),
          ap (λ (v : Written Moved). stepped g v v.answer) (move_here k (some x) e),
          record {
            size_is = ap (λ (q : Situation (Sem_T (attributes R))). size R.edition.width q.term) (sym state_is);
            term_is = cut_written x.successor g.other_term runs ∙ ap (λ (q : Situation (Sem_T (attributes R))). bytes_of (words R.edition.width q.term)) (sym state_is);
            cells_are = ap (λ M. take (2 * S.cells) (written (memory_words M) g.other_memory)) new_cells
                ∙ (cells_written H g.other_memory ∙ ap (λ (q : Situation (Sem_T (attributes R))). bytes_of (values_words R q.state)) (sym state_is));
            visible_is = ap (more_visible x.action) r.visible_is ∙ (sym (taken_visible (attributes R) (history ks) x.action _) ∙ ap (λ (m : Machine (Sem_T (attributes R))). m.visible_count) (sym c));
            internal_is = ap (more_internal x.action) r.internal_is ∙ (sym (taken_internal (attributes R) (history ks) x.action _) ∙ ap (λ (m : Machine (Sem_T (attributes R))). m.internal_count) (sym c));
            refused_is = r.refused_is ∙ (sym (taken_refused (attributes R) (history ks) x.action _) ∙ ap (λ (m : Machine (Sem_T (attributes R))). m.refused_count) (sym c));
            room = record {
              current = subst (λ M. Roomy S (written (words R.edition.width x.successor) g.other_term) (written (memory_words M) g.other_memory)) (sym new_cells)
                  (written_roomy x.successor H g.other_term g.other_memory runs reaches r.room.other);
              other = r.room.current;
            };
          },
        )

    next : (k : ℕ) → Next k
    next k = go (get_elem? (history_moves R (history ks)) k) refl
      where
        go : (o : Option Move) → get_elem? (history_moves R (history ks)) k ≡ o → Next k
        go none e = refused_next k e
        go (some x) e = taken_next k x e

    -- No Move is refused but by 12.
    only_12 : (k j : ℕ) → (host_move rules g k).answer ≡ refused j → j ≡ Refusal.not_offered
    only_12 k j e = go (get_elem? (history_moves R (history ks)) k) refl
      where
        go : (o : Option Move) → get_elem? (history_moves R (history ks)) k ≡ o → j ≡ Refusal.not_offered
        go none f = refused_injective {X = Moved} j Refusal.not_offered (sym e ∙ ap (λ (w : Written Moved). w.answer) (move_here k none f))
        go (some x) f = absurd (not_both j _ (sym e ∙ ap (λ (w : Written Moved). w.answer) (move_here k (some x) f)))

  -- ── whole lists ──

  steps_reach : (ks pre : List ℕ) (g : Host) → Reached pre g → (g' : Host) × (host_run rules g ks ≡ answered g') × Reached (pre ++ ks) g'
  unfolding host_run and_then
  steps_reach [] pre g r = (g, refl, subst (λ l. Reached l g) (sym (append-nil pre)) r)
  steps_reach (k ∷ ks) pre g r =
      let n = next pre g r k in
      let m = steps_reach ks (pre ++ (k ∷ [])) n.0 n.2 in
      (m.0, ap (λ x. and_then x λ g'. host_run rules g' ks) n.1 ∙ m.1, subst (λ l. Reached l m.0) (append_assoc pre (k ∷ []) ks) m.2)

  -- The start.
  module _ (term memory other_term other_memory : List ℕ) (room : Roomy S term memory) (spare : Roomy S other_term other_memory) where
    first : Host
    first = record {
      term = written (words R.edition.width (unfold_main R)) term;
      memory = written (values_words R []) memory;
      size = size R.edition.width (unfold_main R);
      other_term = other_term;
      other_memory = other_memory;
      visible_count = 0;
      internal_count = 0;
      refused_count = 0;
    }

    first_is : host_start rules term memory other_term other_memory ≡ answered first
    unfolding host_start and_then first
    first_is = ap (host_after_start other_term other_memory) (start_writes rules S R a s term memory room)
        ∙ ap (λ M. host_after_start other_term other_memory (record { answer = answered (size R.edition.width (unfold_main R)); term = written (words R.edition.width (unfold_main R)) term; memory = written (memory_words M) memory })) (initial_values (attributes R))

    first_reached : Reached [] first
    unfolding history history_run machine_run first
    first_reached = record {
      size_is = refl;
      term_is = cut_written (unfold_main R) term (main_running R good);
      cells_are = cells_written [] memory;
      visible_is = refl;
      internal_is = refl;
      refused_is = refl;
      room = record { current = written_roomy (unfold_main R) [] term memory (main_running R good) (reach_within []) room; other = spare };
    }

  -- ── on bytes ──

  module _ (list table term memory spare_term spare_memory : List ℕ) (room : Roomy S term memory) (spare : Roomy S spare_term spare_memory) (through : T (lets_through list table)) where
    abbrev ended : Machine (Sem_T (attributes R))
    ended = history (numbers_in list)

    abbrev result : Written Ran
    result = (run rules list table term memory spare_term spare_memory).written

    ran_is : result ≡ run_result R ended term memory
    unfolding history h
    ran_is = run_is rules S R a s list table term memory spare_term spare_memory room spare through

    ran_term : (n : ℕ) → n ≡ size R.edition.width (last_term R ended) → cut n result.term ≡ bytes_of (words R.edition.width (last_term R ended))
    ran_term n e = ap (λ (w : Written Ran). cut n w.term) ran_is
        ∙ (ap (λ m. take (2 * m) (run_result R ended term memory).term) (e ∙ sym (term_length (last_term R ended) (running (numbers_in list))))
        ∙ written_cut (words R.edition.width (last_term R ended)) _ term)

    ran_cells : take (2 * S.cells) result.memory ≡ bytes_of (values_words R (last_trace R ended))
    ran_cells = ap (λ (w : Written Ran). take (2 * S.cells) w.memory) ran_is ∙ cells_written (last_trace R ended) memory

    -- The buffers that Run left have the room they had.
    ran_roomy : Roomy S result.term result.memory
    ran_roomy =
        let E = last_term R ended in
        let H = last_trace R ended in
        let g : main_reach R ≡ S.reach = ap (λ (x : Sizes). x.reach) s in
        let ws = words R.edition.width E ++ replicate (main_reach R - size R.edition.width E) 0 in
        let lw : length ws ≤ S.reach = omega (
          arith,
          length-append (words R.edition.width E) (replicate (main_reach R - size R.edition.width E) 0),
          length-replicate {A = ℕ} (main_reach R - size R.edition.width E) 0,
          term_length E (running (numbers_in list)),
          size_below_reach R.edition.width E,
          reach_within (numbers_in list),
        ) in
        let lt : length ws ≤ word_count term = omega (arith, room.term_room) in
        let lm : length (values_words R H) ≤ word_count memory = omega (arith, values_length H, room.memory_room) in
        subst (λ (w : Written Ran). Roomy S w.term w.memory) (sym ran_is) (record {
          term_room = omega (arith, written_length ws term lt, room.term_room);
          memory_room = omega (arith, written_length (values_words R H) memory lm, room.memory_room);
        })

    ran_answer : Ran
    ran_answer = record { size = size R.edition.width (last_term R ended); visible = ended.visible_count; internal = ended.internal_count; refusals = ended.refused_count }

    ran_answered : result.answer ≡ answered ran_answer
    unfolding ran_answer
    ran_answered = ap (λ (w : Written Ran). w.answer) ran_is

    to_run : (g : Host) → Reached (numbers_in list) g → SameAsRun S g result
    to_run g r = record {
      same_answer = ap (λ (w : Written Ran). w.answer) ran_is
          ∙ (λ i. answered (record { size = sym r.size_is i; visible = sym r.visible_is i; internal = sym r.internal_is i; refusals = sym r.refused_is i }));
      same_term = r.term_is ∙ sym (ran_term g.size r.size_is);
      same_cells = r.cells_are ∙ sym ran_cells;
    }

    from_run : (g : Host) → RoomyHost S g → SameAsRun S g result → Reached (numbers_in list) g
    from_run g o same =
        let p = answered_injective _ _ (sym same.same_answer ∙ ap (λ (w : Written Ran). w.answer) ran_is) in
        record {
          size_is = ap (λ (x : Ran). x.size) p;
          term_is = same.same_term ∙ ran_term g.size (ap (λ (x : Ran). x.size) p);
          cells_are = same.same_cells ∙ ran_cells;
          visible_is = ap (λ (x : Ran). x.visible) p;
          internal_is = ap (λ (x : Ran). x.internal) p;
          refused_is = ap (λ (x : Ran). x.refusals) p;
          room = o;
        }

pub one_more : OneMoreHolds
one_more rules table term memory spare_term spare_memory S e room spare = record {
  one_more = λ list list' k x t q f g o same.
      let p = admit_reports rules S e in
      let r = from_run rules S p.0 p.1 p.2 list table term memory spare_term spare_memory room spare t g o same in
      let n = next rules S p.0 p.1 p.2 (numbers_in list) g r k in (
        n.0,
        n.1,
        n.2.room,
        to_run rules S p.0 p.1 p.2 list' table term memory spare_term spare_memory room spare (through_more list list' table k x t f q) n.0
            (subst (λ l. Reached rules S p.0 p.1 p.2 l n.0) (sym (numbers_more list list' table k x t f)) n.2),
      );
}

pub run_then_move : RunThenMoveHolds
run_then_move rules list list' table term memory spare_term spare_memory next_term next_memory k x S e t q f room spare other =
    let p = admit_reports rules S e in
    let r = ran_answer rules S p.0 p.1 p.2 list table term memory spare_term spare_memory room spare t in
    let a = ran_answered rules S p.0 p.1 p.2 list table term memory spare_term spare_memory room spare t in
    let n = (one_more rules table term memory spare_term spare_memory S e room spare).one_more list list' k x t q f (host_of (run rules list table term memory spare_term spare_memory).written r next_term next_memory)
    (record { current = ran_roomy rules S p.0 p.1 p.2 list table term memory spare_term spare_memory room spare t; other = other }) (record { same_answer = a; same_term = refl; same_cells = refl }) in
    record { ran = r; ran_is = a; host = n.0; moved_to = n.1; same_as_run = n.3 }

pub steps_are_the_run : StepsAreTheRunHolds
unfolding and_then
steps_are_the_run rules list table term memory spare_term spare_memory first_term first_memory second_term second_memory S e t room spare room₁ room₂ =
    let p = admit_reports rules S e in
    let g = first rules S p.0 p.1 p.2 first_term first_memory second_term second_memory room₁ room₂ in
    let m = steps_reach rules S p.0 p.1 p.2 (numbers_in list) [] g (first_reached rules S p.0 p.1 p.2 first_term first_memory second_term second_memory room₁ room₂) in
    record {
      host = m.0;
      stepped_to = ap (λ x. and_then x λ g. host_run rules g (numbers_in list)) (first_is rules S p.0 p.1 p.2 first_term first_memory second_term second_memory room₁ room₂) ∙ m.1;
      same_as_run = to_run rules S p.0 p.1 p.2 list table term memory spare_term spare_memory room spare t m.0 m.2;
      room_kept = m.2.room;
      count_answers = (_, count_here rules S p.0 p.1 p.2 (numbers_in list) m.0 m.2);
      only_12 = only_12 rules S p.0 p.1 p.2 (numbers_in list) m.0 m.2;
    }
