-- Request K10 of document 02 is met (`past_in_cells_holds`, and where a host sees bytes only `past_in_bytes_holds`): what Run, Count and Move do depends on
-- the history by its last term and its cells.
use Rattle.std.specs.Prelude.{◌≡◌, refl, Bool, true, false, ◌&&◌, ℕ, suc, ◌+◌, ◌-◌, ◌*◌, ◌/◌, ◌≤◌, T, leb, take, replicate, ◌%◌, ◌<◌}
use Rattle.std.proofs.Math.Path.{ap, sym, subst}
use Rattle.std.proofs.Common.{◌∙◌, le→leb, length-append, drop_of_length-le}
use mathlib.Core.List.{List, [], ◌∷◌, ◌++◌, append-nil}
use native.Mathlib.Omega.{arith}
use Rattle.std.proofs.Math.ListN.{length, get_elem?}
use Rattle.std.proofs.lemmas.List.{length-replicate}
use Rattle.eb3.specs.Refusal
use Rattle.eb3.specs.Limits
use Rattle.eb3.specs.Values.{Value}
use Rattle.eb3.specs.Terms.{Term}
use Rattle.eb3.specs.Moves.{moves}
use Rattle.eb3.specs.Attributes.{Trace}
use Rattle.eb3.specs.Cells.{all_values}
use Rattle.eb3.proofs.Laws.Cells.{length_values}
use Rattle.eb3.specs.Semantics.{Sem_T, Sem_M, Situation, situation, system}
use Rattle.eb3.specs.Machines.{Machine, history_start, history_run, cells_of, history_outcomes}
use Rattle.eb3.proofs.Laws.Machines.{history_chain, chain_run}
use Rattle.eb3.specs.TransitionSystems.{Outcome, outcomes}
use Rattle.eb3.proofs.Laws.TransitionSystems.{outcomes_append}
use Rattle.eb3.specs.Sizes.{size, reach}
use Rattle.eb3.proofs.Laws.Sizes.{size_below_reach, run_reach}
use Rattle.eb3.specs.RuleSets.{RuleSet, attributes}
use Rattle.eb3.specs.Unfolding.{unfold_main}
use Rattle.eb3.specs.WellFormedness.{Running, WellFormed, WellFormedTrace}
use Rattle.eb3.proofs.Laws.MainRunning.{main_running}
use Rattle.eb3.proofs.Laws.Running.{run_running, history_well_formed}
use Rattle.eb3.specs.Spelling.{words}
use Rattle.eb3.proofs.Laws.Spelling.{words_length}
use Rattle.eb3.specs.Reading.{pick}
use Rattle.eb3.proofs.Laws.Reading.{picked}
use Rattle.eb3.specs.Bytes.{words_in, bytes_of, written}
use Rattle.eb3.proofs.Laws.Bytes.{written_length, written_cut}
use Rattle.eb3.specs.Memory.{cell_room, memory_words}
use Rattle.eb3.proofs.Laws.Memory.{memory_length}
use Rattle.eb3.specs.Answers.{Answer, refused, answered, and_then, or_refused, Sizes, Moved, Ran, Written, unwritten, Tabled}
use Rattle.eb3.proofs.Laws.Answers.{answered_injective, not_both}
use Rattle.eb3.specs.Readers.{numbers_of, readers_of, numbers_in, readers_in, all_read, lets_through, record_number}
use Rattle.eb3.proofs.Laws.Readers.{numbers_append, readers_append, all_read_append, one_outcome_each, number_increase, through_read, through_readers, through_room, let_through}
use Rattle.eb3.specs.Admission.{admission}
use Rattle.eb3.proofs.Laws.Admission.{admitted}
use Rattle.eb3.specs.Operations.{cells_needed, sizes_needed, main_reach, term_fits, memory_fits, term_in, cells_given, writing, counted_at, moved_from, chosen, count, move}
use Rattle.eb3.proofs.Laws.Operations.{term_back, values_back}
use Rattle.eb3.specs.Demands.{last_term, last_trace, values_words, run_result, cut}
use Rattle.eb3.proofs.Laws.DemandThree.{admit_reports, run_is, h as machine_of, run_judged, table_is}
use Rattle.past.specs.PastInCells.{SameEnd, EndsWith, followed_by, Lent, run_in, SameOffers, SameRuns, K10Holds, K10OnBytesHolds}
use Rattle.past.proofs.Laws.Futures.{same_end, on, goes_on, further_cells, future, visible_added, internal_added, refusals_added}
use Rattle.past.proofs.Laws.ByReader.{counted, counted_append, added_alike}

-- A list in bytes with a further one after it is the words of both.
words_followed : (s t : List ℕ) → words_in (followed_by s t) ≡ words_in s ++ words_in t
unfolding words_in
words_followed [] t = refl
words_followed (a ∷ []) t = refl
words_followed (a ∷ b ∷ s) t =
    let e : 2 * (length (a ∷ b ∷ s) / 2) ≡ suc (suc (2 * (length s / 2))) = omega arith in
    ap (λ n. words_in (take n (a ∷ b ∷ s) ++ t)) e ∙ ap (λ ws. (a + 256 * b) ∷ ws) (words_followed s t)

is_true : (b : Bool) → T b → b ≡ true
is_true true h = refl
is_true false h = elim h [ ]

module _ (rules : List ℕ) (S : Sizes) (R : RuleSet) (a : admission rules ≡ answered R) (s : sizes_needed R ≡ S) where
  -- What each number of a list does, from the start.
  abbrev did : List ℕ → List Outcome
  did list = history_outcomes (attributes R) (unfold_main R) (numbers_in list)

  good : WellFormed R
  good = (admitted rules R a).good

  -- Count and Move go by the given term, the cells of the given memory, and whether it has room for all of them.
  abbrev count_by : List ℕ → List Value → Bool → Answer ℕ
  count_by term cells fit = and_then (term_in R term) λ E. pick fit (answered (length (moves ((Sem_M (attributes R)).satisfies cells) E))) (refused Refusal.space)

  count_is : (term memory : List ℕ) → count rules term memory ≡ count_by term (cells_given R memory) (memory_fits R memory)
  unfolding count and_then
  count_is term memory = ap (λ x. and_then x λ R. and_then (term_in R term) λ E. counted_at R E memory) a

  abbrev move_by : ℕ → List ℕ → List ℕ → List ℕ → List Value → Bool → Written Moved
  move_by k next_term next_memory term cells fit =
      writing next_term next_memory (term_in R term) λ E.
      pick (term_fits (reach R.edition.width E) next_term && (fit && memory_fits R next_memory))
      (writing next_term next_memory (or_refused Refusal.not_offered (get_elem? (moves ((Sem_M (attributes R)).satisfies cells) E) k)) (moved_from R cells next_term next_memory))
      (unwritten next_term next_memory Refusal.space)

  move_is : (k : ℕ) (next_term next_memory term memory : List ℕ)
      → move rules term memory k next_term next_memory ≡ move_by k next_term next_memory term (cells_given R memory) (memory_fits R memory)
  unfolding move
  move_is k next_term next_memory term memory =
      ap (λ x. writing next_term next_memory x λ R. writing next_term next_memory (term_in R term) λ E. chosen R E memory next_term next_memory λ xs. get_elem? xs k) a

  offers : (term memory term' memory' : List ℕ) → term ≡ term' → cells_given R memory ≡ cells_given R memory' → memory_fits R memory ≡ memory_fits R memory'
      → SameOffers rules term memory term' memory'
  offers term memory term' memory' e c f = record {
    same_count = count_is term memory ∙ ((λ i. count_by (e i) (c i) (f i)) ∙ sym (count_is term' memory'));
    same_move = λ k next_term next_memory. move_is k next_term next_memory term memory
        ∙ ((λ i. move_by k next_term next_memory (e i) (c i) (f i)) ∙ sym (move_is k next_term next_memory term' memory'));
  }

  -- What the machine ends with is a running term and a trace of this rule set.
  module _ (ks : List ℕ) (h : Machine (Sem_T (attributes R))) (c : EndsWith R ks h) where
    is_run : h ≡ history_run (attributes R) (unfold_main R) ks
    unfolding history_run
    is_run = chain_run (Sem_T (attributes R)) c

    running : Running R (last_term R h)
    unfolding history_run
    running = subst (λ (g : Machine (Sem_T (attributes R))). Running R g.state.term) (sym is_run)
        (run_running R (Sem_T (attributes R)) (history_start (attributes R) (unfold_main R)) ks (main_running R good))

    traced : WellFormedTrace R (last_trace R h)
    traced = subst (λ (g : Machine (Sem_T (attributes R))). WellFormedTrace R g.state.state) (sym is_run)
        (history_well_formed R (unfold_main R) ks (main_running R good).form)

    reach_kept : reach R.edition.width (last_term R h) ≤ main_reach R
    unfolding history_run
    reach_kept = subst (λ (g : Machine (Sem_T (attributes R))). reach R.edition.width g.state.term ≤ main_reach R) (sym is_run)
        (run_reach R.edition.width (Sem_T (attributes R)) (history_start (attributes R) (unfold_main R)) ks)

  -- The words that a run writes, and what is read of them.
  abbrev term_words : Term → List ℕ
  term_words E = words R.edition.width E ++ replicate (main_reach R - size R.edition.width E) 0

  front_written : (ws buffer : List ℕ) → take (2 * length ws) (written ws buffer) ≡ bytes_of ws
  front_written ws buffer = subst (λ us. take (2 * length ws) (written us buffer) ≡ bytes_of ws) (append-nil ws) (written_cut ws [] buffer)

  written_alone : (ws : List ℕ) → written ws [] ≡ bytes_of ws
  unfolding written
  written_alone ws = let l : length {A = ℕ} [] ≤ 2 * length ws = omega arith in ap (λ rest. bytes_of ws ++ rest) (drop_of_length-le [] l) ∙ append-nil (bytes_of ws)

  -- A list that lacks no reader, in a run with a table of 32 records: 13 lets both through.
  module _ (list : List ℕ) (read : T (all_read (words_in list))) (h : Machine (Sem_T (attributes R))) (c : EndsWith R (numbers_in list) h) (b : Lent S) where
    abbrev E : Term
    E = last_term R h

    abbrev H : Trace
    H = last_trace R h

    through : T (lets_through list b.table)
    through = let_through list b.table read b.records

    left : (run_in rules b list).written ≡ run_result R h b.term b.memory
    unfolding machine_of history_run
    left = run_is rules S R a s list b.table b.term b.memory b.spare_term b.spare_memory b.room b.spare_room through
        ∙ ap (λ g. run_result R g b.term b.memory) (sym (chain_run (Sem_T (attributes R)) c))

    -- Each number of each record, by what the numbers did.
    record_left : (r j : ℕ) → 1 ≤ r → r ≤ Limits.readers → j < 3
        → record_number (run_in rules b list).table r j ≡ (record_number b.table r j + counted r j (readers_in list) (did list)) % 4294967296
    unfolding history_outcomes
    record_left r j l m n =
        ap (λ (t : List ℕ). record_number t r j) (table_is rules S R a s list b.table b.term b.memory b.spare_term b.spare_memory b.room b.spare_room through)
        ∙ number_increase (readers_in list) (did list) b.table (through_room list b.table through)
        (one_outcome_each (system (Sem_T (attributes R))) (situation (unfold_main R) []) (words_in list)) (through_readers list b.table through) r j l m n

    term_length : length (term_words E) ≡ S.reach
    term_length =
        let g : main_reach R ≡ S.reach = ap (λ (x : Sizes). x.reach) s in
        omega (
          arith,
          length-append (words R.edition.width E) (replicate (main_reach R - size R.edition.width E) 0),
          length-replicate {A = ℕ} (main_reach R - size R.edition.width E) 0,
          words_length R E (running (numbers_in list) h c).form,
          size_below_reach R.edition.width E,
          reach_kept (numbers_in list) h c,
        )

    cells_length : length (values_words R H) ≡ S.cells
    cells_length = memory_length (all_values (attributes R) H) ∙ (length_values (attributes R) H ∙ ap (λ (x : Sizes). x.cells) s)

    term_written : cut S.reach (run_in rules b list).written.term ≡ bytes_of (term_words E)
    term_written = ap (λ (w : Written Ran). cut S.reach w.term) left
        ∙ (ap (λ n. cut n (written (term_words E) b.term)) (sym term_length) ∙ front_written (term_words E) b.term)

    term_cut : cut (size R.edition.width E) (run_in rules b list).written.term ≡ bytes_of (words R.edition.width E)
    term_cut = ap (λ (w : Written Ran). cut (size R.edition.width E) w.term) left
        ∙ (ap (λ n. cut n (written (term_words E) b.term)) (sym (words_length R E (running (numbers_in list) h c).form))
        ∙ written_cut (words R.edition.width E) (replicate (main_reach R - size R.edition.width E) 0) b.term)

    memory_written : take (2 * S.cells) (run_in rules b list).written.memory ≡ bytes_of (values_words R H)
    memory_written = ap (λ (w : Written Ran). take (2 * S.cells) w.memory) left
        ∙ (ap (λ n. take (2 * n) (written (values_words R H) b.memory)) (sym cells_length) ∙ front_written (values_words R H) b.memory)

    cells_are : cells_given R (run_in rules b list).written.memory ≡ all_values (attributes R) H
    cells_are = ap (λ (w : Written Ran). cells_given R w.memory) left ∙ values_back R good.form H b.memory (traced (numbers_in list) h c)

    memory_has_room : memory_fits R (run_in rules b list).written.memory ≡ true
    memory_has_room =
        let n : cells_needed R ≡ S.cells = ap (λ (x : Sizes). x.cells) s in
        ap (λ (w : Written Ran). memory_fits R w.memory) left
        ∙ is_true (leb (cells_needed R) (cell_room (written (values_words R H) b.memory)))
        (le→leb (cells_needed R) (cell_room (written (values_words R H) b.memory))
        (omega (arith, written_length (values_words R H) b.memory (omega (arith, cells_length, b.room.memory_room)), b.room.memory_room)))

  -- Where a run is answered, its list lacks no reader.
  answered_read : (list : List ℕ) (b : Lent S) (r : Ran) → (run_in rules b list).written.answer ≡ answered r → T (all_read (words_in list))
  answered_read list b r e = through_read list b.table
      (picked (λ (w : Tabled Ran). w.written.answer ≡ answered r → T (lets_through list b.table)) (lets_through list b.table) _ _
      (λ t f. t) (λ f. absurd (not_both Refusal.reader r f))
      (ap (λ (w : Tabled Ran). w.written.answer) (sym (run_judged rules S R a s list b.table b.term b.memory b.spare_term b.spare_memory b.room b.spare_room)) ∙ e))

  abbrev ran_of : Machine (Sem_T (attributes R)) → Ran
  ran_of m = record { size = size R.edition.width (last_term R m); visible = m.visible_count; internal = m.internal_count; refusals = m.refused_count }

  -- A list and a further one after it.
  module _ (list : List ℕ) (read : T (all_read (words_in list))) (h : Machine (Sem_T (attributes R))) (c : EndsWith R (numbers_in list) h)
      (further : List ℕ) (read_on : T (all_read (words_in further))) where
    unfoldable last : Machine (Sem_T (attributes R))
    last = on R h (numbers_in further)

    whole_read : T (all_read (words_in (followed_by list further)))
    whole_read = subst (λ ws. T (all_read ws)) (sym (words_followed list further)) (all_read_append (words_in list) (words_in further) read read_on)

    numbers_followed : numbers_in (followed_by list further) ≡ numbers_in list ++ numbers_in further
    numbers_followed = ap numbers_of (words_followed list further) ∙ numbers_append (words_in list) (words_in further) read

    readers_followed : readers_in (followed_by list further) ≡ readers_in list ++ readers_in further
    readers_followed = ap readers_of (words_followed list further) ∙ readers_append (words_in list) (words_in further) read

    whole_chain : EndsWith R (numbers_in (followed_by list further)) last
    unfolding last
    whole_chain = subst (λ ks. EndsWith R ks last) (sym numbers_followed) (goes_on R (numbers_in list) (numbers_in further) h c)

    -- What each number of the further list does.
    abbrev did_on : List Outcome
    did_on = outcomes (system (Sem_T (attributes R))) h.state (numbers_in further)

    did_followed : did (followed_by list further) ≡ did list ++ did_on
    unfolding history_outcomes
    did_followed = ap (outcomes (system (Sem_T (attributes R))) (situation (unfold_main R) [])) numbers_followed
        ∙ (outcomes_append (system (Sem_T (attributes R))) (history_start (attributes R) (unfold_main R)) (numbers_in list) (numbers_in further)
        ∙ ap (λ (g : Machine (Sem_T (attributes R))). did list ++ outcomes (system (Sem_T (attributes R))) g.state (numbers_in further)) (sym (chain_run (Sem_T (attributes R)) c)))

    whole_counted : (r j : ℕ) → counted r j (readers_in (followed_by list further)) (did (followed_by list further))
        ≡ counted r j (readers_in list) (did list) + counted r j (readers_in further) did_on
    unfolding history_outcomes
    whole_counted r j = (λ i. counted r j (readers_followed i) (did_followed i))
        ∙ counted_append r j (readers_in list) (readers_in further) (did list) did_on (one_outcome_each (system (Sem_T (attributes R))) (situation (unfold_main R) []) (words_in list))

  -- Two lists, as words of bytes, whose histories have the same end.
  module _ (list list' : List ℕ) (read : T (all_read (words_in list))) (read' : T (all_read (words_in list'))) (h h' : Machine (Sem_T (attributes R)))
      (c : EndsWith R (numbers_in list) h) (c' : EndsWith R (numbers_in list') h') (same : SameEnd (attributes R) h.state h'.state)
      (further : List ℕ) (read_on : T (all_read (words_in further))) (b b' : Lent S) where
    abbrev g : Machine (Sem_T (attributes R))
    g = last list read h c further read_on

    abbrev g' : Machine (Sem_T (attributes R))
    g' = last list' read' h' c' further read_on

    abbrev all : List ℕ
    all = followed_by list further

    abbrev all' : List ℕ
    all' = followed_by list' further

    all_readers : T (all_read (words_in all))
    all_readers = whole_read list read h c further read_on

    all_readers' : T (all_read (words_in all'))
    all_readers' = whole_read list' read' h' c' further read_on

    chain : EndsWith R (numbers_in all) g
    chain = whole_chain list read h c further read_on

    chain' : EndsWith R (numbers_in all') g'
    chain' = whole_chain list' read' h' c' further read_on

    alike : cells_of (attributes R) g.state ≡ cells_of (attributes R) g'.state
    unfolding last
    alike = further_cells R (numbers_in list) (numbers_in list') h h' c c' same (numbers_in further)

    same_last : last_term R g ≡ last_term R g'
    same_last = ap (λ (t : Situation (Sem_M (attributes R))). t.term) alike

    same_values_then : all_values (attributes R) (last_trace R g) ≡ all_values (attributes R) (last_trace R g')
    same_values_then = ap (λ (t : Situation (Sem_M (attributes R))). t.state) alike

    records_added : (r j : ℕ) → 1 ≤ r → r ≤ Limits.readers → j < 3
        → (record_number (run_in rules b all).table r j + record_number (run_in rules b' list').table r j) % 4294967296
        ≡ (record_number (run_in rules b' all').table r j + record_number (run_in rules b list).table r j) % 4294967296
    records_added r j l m n =
        let did_alike : did_on list read h c further read_on ≡ did_on list' read' h' c' further read_on =
        (future R (numbers_in list) (numbers_in list') h h' c c' same (numbers_in further)).same_outcomes in
        added_alike (record_number b.table r j) (record_number b'.table r j) (counted r j (readers_in list) (did list)) (counted r j (readers_in list') (did list'))
        (counted r j (readers_in further) (did_on list' read' h' c' further read_on))
        (record_left all all_readers g chain b r j l m n
        ∙ ap (λ (k : ℕ). (record_number b.table r j + k) % 4294967296)
        (whole_counted list read h c further read_on r j ∙ ap (λ os. counted r j (readers_in list) (did list) + counted r j (readers_in further) os) did_alike))
        (record_left all' all_readers' g' chain' b' r j l m n
        ∙ ap (λ (k : ℕ). (record_number b'.table r j + k) % 4294967296) (whole_counted list' read' h' c' further read_on r j))
        (record_left list read h c b r j l m n) (record_left list' read' h' c' b' r j l m n)

    runs : SameRuns rules S (run_in rules b list) (run_in rules b all) (run_in rules b' list') (run_in rules b' all')
    unfolding last
    runs = record {
      first = ran_of h;
      first' = ran_of h';
      whole = ran_of g;
      whole' = ran_of g';
      first_answers = ap (λ (w : Written Ran). w.answer) (left list read h c b);
      first_answers' = ap (λ (w : Written Ran). w.answer) (left list' read' h' c' b');
      whole_answers = ap (λ (w : Written Ran). w.answer) (left all all_readers g chain b);
      whole_answers' = ap (λ (w : Written Ran). w.answer) (left all' all_readers' g' chain' b');
      same_term = term_written all all_readers g chain b ∙ (ap (λ E. bytes_of (term_words E)) same_last ∙ sym (term_written all' all_readers' g' chain' b'));
      same_memory = memory_written all all_readers g chain b ∙ (ap (λ cells. bytes_of (memory_words cells)) same_values_then ∙ sym (memory_written all' all_readers' g' chain' b'));
      same_size = ap (size R.edition.width) same_last;
      visible_added = visible_added R (numbers_in list) (numbers_in list') h h' c c' same (numbers_in further);
      internal_added = internal_added R (numbers_in list) (numbers_in list') h h' c c' same (numbers_in further);
      refusals_added = refusals_added R (numbers_in list) (numbers_in list') h h' c c' same (numbers_in further);
      records_added = records_added;
      same_offers = offers _ _ _ _
          (term_cut all all_readers g chain b ∙ (ap (λ E. bytes_of (words R.edition.width E)) same_last ∙ sym (term_cut all' all_readers' g' chain' b')))
          (cells_are all all_readers g chain b ∙ (same_values_then ∙ sym (cells_are all' all_readers' g' chain' b')))
          (memory_has_room all all_readers g chain b ∙ sym (memory_has_room all' all_readers' g' chain' b'));
    }

  -- Where two runs leave equal words and equal cells, they end with equal terms and equal values.
  module _ (list list' : List ℕ) (b b' : Lent S) where
    abbrev history : List ℕ → Machine (Sem_T (attributes R))
    history ns = history_run (attributes R) (unfold_main R) (numbers_in ns)

    ended : (ns : List ℕ) → EndsWith R (numbers_in ns) (history ns)
    ended ns = history_chain (attributes R) (unfold_main R) (numbers_in ns)

    size_is : (ns : List ℕ) (d : Lent S) (r : Ran) → (run_in rules d ns).written.answer ≡ answered r → r.size ≡ size R.edition.width (last_term R (history ns))
    size_is ns d r e = ap (λ (x : Ran). x.size)
        (answered_injective r (ran_of (history ns)) (sym e ∙ ap (λ (w : Written Ran). w.answer) (left ns (answered_read ns d r e) (history ns) (ended ns) d)))

    term_read : (ns : List ℕ) (d : Lent S) (r : Ran) → (run_in rules d ns).written.answer ≡ answered r
        → term_in R (cut r.size (run_in rules d ns).written.term) ≡ answered (last_term R (history ns))
    term_read ns d r e = ap (λ n. term_in R (cut n (run_in rules d ns).written.term)) (size_is ns d r e)
        ∙ (ap (term_in R) (term_cut ns (answered_read ns d r e) (history ns) (ended ns) d)
        ∙ term_back R good.form (last_term R (history ns)) (running (numbers_in ns) (history ns) (ended ns)))

    values_read : (ns : List ℕ) → cells_given R (bytes_of (values_words R (last_trace R (history ns)))) ≡ all_values (attributes R) (last_trace R (history ns))
    values_read ns = ap (cells_given R) (sym (written_alone (values_words R (last_trace R (history ns)))))
        ∙ values_back R good.form (last_trace R (history ns)) [] (traced (numbers_in ns) (history ns) (ended ns))

    same_left : (r r' : Ran) → (run_in rules b list).written.answer ≡ answered r → (run_in rules b' list').written.answer ≡ answered r'
        → cut r.size (run_in rules b list).written.term ≡ cut r'.size (run_in rules b' list').written.term
        → take (2 * S.cells) (run_in rules b list).written.memory ≡ take (2 * S.cells) (run_in rules b' list').written.memory
        → SameEnd (attributes R) (history list).state (history list').state
    same_left r r' e e' t m =
        let p : last_term R (history list) ≡ last_term R (history list') =
        answered_injective _ _ (sym (term_read list b r e) ∙ (ap (term_in R) t ∙ term_read list' b' r' e')) in
        let q : all_values (attributes R) (last_trace R (history list)) ≡ all_values (attributes R) (last_trace R (history list')) =
        sym (values_read list) ∙ (ap (cells_given R) (sym (memory_written list (answered_read list b r e) (history list) (ended list) b)
        ∙ (m ∙ memory_written list' (answered_read list' b' r' e') (history list') (ended list') b')) ∙ values_read list') in
        same_end (attributes R) (history list).state (history list').state (λ i. situation (p i) (q i))

pub past_in_cells_holds : K10Holds
past_in_cells_holds rules list list' S R h h' e a read read' c c' same =
    let p = admit_reports rules S e in
    let s : sizes_needed R ≡ S = ap sizes_needed (answered_injective R p.0 (sym a ∙ p.1)) ∙ p.2 in
    record {
      same_future = future R (numbers_in list) (numbers_in list') h h' c c' same;
      same_runs = runs rules S R a s list list' read read' h h' c c' same;
    }

pub past_in_bytes_holds : K10OnBytesHolds
past_in_bytes_holds rules list list' S a a' r r' e answer answer' term memory further read_on b b' =
    let p = admit_reports rules S e in
    let R : RuleSet = p.0 in
    runs rules S R p.1 p.2 list list' (answered_read rules S R p.1 p.2 list a r answer) (answered_read rules S R p.1 p.2 list' a' r' answer')
    (history_run (attributes R) (unfold_main R) (numbers_in list)) (history_run (attributes R) (unfold_main R) (numbers_in list'))
    (history_chain (attributes R) (unfold_main R) (numbers_in list)) (history_chain (attributes R) (unfold_main R) (numbers_in list'))
    (same_left rules S R p.1 p.2 list list' a a' r r' answer answer' term memory) further read_on b b'
