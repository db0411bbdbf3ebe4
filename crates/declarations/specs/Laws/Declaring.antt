-- What is entered into the tables is what they then declare, and the rest stays declared as it was: domains, labels, the functions' count, and process
-- after process. The declared rule set is equal to the one read in all that reading and measuring terms uses (`Alike`), so both give the same.
-- Document 01, "Blocks and the rule stream", items 2 to 5; refusals 4 and 5.
use Rattle.std.specs.Prelude.{◌≡◌, refl, ◌≢◌, cond, List, [], ◌∷◌, ◌++◌, map, ℕ, zero, suc, ◌+◌, ◌*◌, ◌≤◌, ◌<◌, length, take, drop, get_or, set, eqb}
use Rattle.std.proofs.Common.{sym, ap, ◌∙◌, subst, arith, length-set, length-append, get_or-set_same, get_or-set_other, ext_get_or, eqb→eq}
use Rattle.std.proofs.Math.Path.{fun_ext}
use Rattle.std.proofs.Math.Decide.{dec_lt, ℕ_discrete}
use Rattle.std.proofs.lemmas.List.{length-map}
use Rattle.std.proofs.Math.ListN.{get_or-append}
use Rattle.std.proofs.Math.Seq.{paste, length-paste, take-append_seam, get_or-append_seam}
use Rattle.std.proofs.Math.Dec.{eqb_refl}
use Rattle.eb3.specs.Generic.Booleans.{cond_true, cond_false}
use Rattle.eb3.specs.Generic.Lists.{concat_map}
use Rattle.eb3.specs.Generic.AllLists.{All, all_at}
use Rattle.eb3.specs.Scopes.{arities}
use Rattle.eb3.specs.RuleSets.{Function, Process, RuleSet, domain_size, no_rule, function_rule, no_process, process, attributes}
use Rattle.eb3.specs.RuleSpelling.{one_word, counted_words}
use Rattle.eb3.specs.Reading.{taken, count_of}
use Rattle.eb3.specs.RuleReading.{read_domains, with_process, without_processes}
use Rattle.eb3.specs.Measures.{sat, Measure, measure_term, table, row_of}
use Rattle.eb3.proofs.Laws.Reading.{Sound, count_sound, counted_sound}
use Rattle.eb3.proofs.Laws.RuleSets.{get_d_map, functions_counted, domain_is}
use Rattle.eb3.proofs.Laws.Attributes.{no_domain_beyond}
use Rattle.eb3.proofs.Laws.Signatures.{Alike, rows_grown}
use Rattle.tables.specs.Layout.{labels_place, functions_place, processes_place, process_place, size_in, reach_in, breadth_in, domain_count, label_count, process_count, body_at, label_words, domains_place, label_place, body_in}
use Rattle.tables.specs.Tables.{row, edition_in, declared, measure_row, callee}
use Rattle.tables.specs.Laws.Tables.{domains_length, domain_at, labels_length, label_at, guard_declared}
use Rattle.declarations.specs.Entering.{put_row, put_rows}
use Rattle.declarations.specs.Declaring.{Heads, Tables, Declares, entered_process}
use Rattle.declarations.specs.Laws.Regions.{paste_before, paste_inside, row_is, row_kept, domains_kept, heads_kept, tables_kept, callee_at, callee_beyond, count_of_same, row_of_same, same_by_rows}

-- ── domains ──

-- The words read begin with the number of domains and the domains' sizes.
domains_in_front : (t ds u : List ℕ) → read_domains t ≡ taken ds u → t ≡ length ds ∷ (ds ++ u)
domains_in_front t ds u e = sound.0 ∙ ap (λ l. length ds ∷ (l ++ u)) (words ds)
  where
    Sizes : List ℕ → Type 0
    Sizes ns = ((1 ≤ length ns) × (length ns ≤ 16)) × All (λ n. (1 ≤ n) × (n ≤ 64)) ns

    sound : Sound (counted_words one_word) Sizes t (taken ds u)
    sound = subst (Sound (counted_words one_word) Sizes t) e (counted_sound one_word (λ n. (1 ≤ n) × (n ≤ 64)) (count_of 1 64) (count_sound 1 64) 1 16 t)

    words : (l : List ℕ) → concat_map one_word l ≡ l
    words [] = refl
    words (x ∷ l) = ap (λ r. x ∷ r) (words l)

domains_copied : (T t ds u : List ℕ) → read_domains t ≡ taken ds u → paste T domains_place t (get_or t 0 0 + 1) ≡ length ds ∷ (ds ++ drop (suc (length ds)) T)
domains_copied T t ds u e =
    ap (λ s. paste T domains_place s (get_or s 0 0 + 1)) (domains_in_front t ds u e)
    ∙ ap (λ n. take n (length ds ∷ (ds ++ u)) ++ drop (0 + n) T) (let z : length ds + 1 ≡ suc (length ds) = omega arith in z)
    ∙ ap (λ n. (length ds ∷ take (length ds) (ds ++ u)) ++ drop n T) (let z : 0 + suc (length ds) ≡ suc (length ds) = omega arith in z)
    ∙ ap (λ l. length ds ∷ (l ++ drop (suc (length ds)) T)) (take-append_seam ds u)

pub domains_counted : (T t ds u : List ℕ) → read_domains t ≡ taken ds u → labels_place ≤ length T → domain_count (paste T domains_place t (get_or t 0 0 + 1)) ≡ length ds
domains_counted T t ds u e room = ap (λ l. domain_count l) (domains_copied T t ds u e)

pub domains_entered : (T t ds u : List ℕ) → read_domains t ≡ taken ds u → labels_place ≤ length T → (declared (paste T domains_place t (get_or t 0 0 + 1))).domains ≡ ds
domains_entered T t ds u e room = ap (λ l. (declared l).domains) (domains_copied T t ds u e) ∙ ext_get_or 0 (declared W).domains ds (domains_length W)
    (λ d b. let c : d < length ds = omega (arith, domains_length W) in
    domain_at W d c ∙ ap (λ n. get_or W n 0) (let z : 1 + d ≡ suc d = omega arith in z) ∙ get_or-append ds (drop (suc (length ds)) T) 0 d c)
  where
    W : List ℕ
    W = length ds ∷ (ds ++ drop (suc (length ds)) T)

-- ── labels: their count and their rows ──

module _ (at : ℕ) (l T : List ℕ) (room : at + label_words ≤ length T) (short : length l ≤ 2) where
  row_length : length (put_row at l T) ≡ length T
  unfolding put_row
  row_length = length-paste T at (length l ∷ l) (suc (length l)) (omega arith) (omega arith)

  row_before : (i : ℕ) → i < at → get_or (put_row at l T) i 0 ≡ get_or T i 0
  unfolding put_row
  row_before = paste_before T at (length l ∷ l) (suc (length l)) (omega arith) (omega arith)

  row_inside : (j : ℕ) → j ≤ length l → get_or (put_row at l T) (at + j) 0 ≡ get_or (length l ∷ l) j 0
  unfolding put_row
  row_inside j h = paste_inside T at (length l ∷ l) (suc (length l)) (omega arith) (omega arith) j (omega arith)

-- The labels' rows have room in the table, and each has at most two words.
abbrev Fitting : ℕ → List (List ℕ) → List ℕ → Type 0
Fitting at ls T = (at + label_words * length ls ≤ length T) × All (λ l. length l ≤ 2) ls

next_fits : (at : ℕ) (l : List ℕ) (ls : List (List ℕ)) (T : List ℕ) → Fitting at (l ∷ ls) T → Fitting (at + label_words) ls (put_row at l T)
next_fits at l ls T f = (omega (arith, f.0, row_length at l T (omega (arith, f.0)) f.1.0), f.1.1)

rows_length : (at : ℕ) (ls : List (List ℕ)) (T : List ℕ) → Fitting at ls T → length (put_rows at ls T) ≡ length T
unfolding put_rows
rows_length at [] T f = refl
rows_length at (l ∷ ls) T f = rows_length (at + label_words) ls (put_row at l T) (next_fits at l ls T f) ∙ row_length at l T (omega (arith, f.0)) f.1.0

rows_before : (at : ℕ) (ls : List (List ℕ)) (T : List ℕ) → Fitting at ls T → (i : ℕ) → i < at → get_or (put_rows at ls T) i 0 ≡ get_or T i 0
unfolding put_rows
rows_before at [] T f i h = refl
rows_before at (l ∷ ls) T f i h = rows_before (at + label_words) ls (put_row at l T) (next_fits at l ls T f) i (omega arith) ∙ row_before at l T (omega (arith, f.0)) f.1.0 i h

rows_at : (at : ℕ) (ls : List (List ℕ)) (T : List ℕ) → Fitting at ls T → (j : ℕ) → j < length ls → row (put_rows at ls T) (at + label_words * j) ≡ get_or ls j []
unfolding put_rows
rows_at at [] T f j h = absurd (let z : ⊥ = omega arith in z)
rows_at at (l ∷ ls) T f zero h =
    ap (row U) (let z : at + label_words * 0 ≡ at = omega arith in z)
    ∙ row_is U at l (omega (arith, f.0, f.1.0, rows_length at (l ∷ ls) T f)) (ap (λ n. get_or U n 0) (let z : at ≡ at + 0 = omega arith in z) ∙ inside 0 (omega arith))
    (λ i b. ap (λ n. get_or U n 0) (let z : at + 1 + i ≡ at + suc i = omega arith in z) ∙ inside (suc i) (omega arith))
  where
    U : List ℕ
    U = put_rows (at + label_words) ls (put_row at l T)

    inside : (j : ℕ) → j ≤ length l → get_or U (at + j) 0 ≡ get_or (length l ∷ l) j 0
    inside j b = rows_before (at + label_words) ls (put_row at l T) (next_fits at l ls T f) (at + j) (omega (arith, f.1.0)) ∙ row_inside at l T (omega (arith, f.0)) f.1.0 j b
rows_at at (l ∷ ls) T f (suc j) h =
    ap (row (put_rows (at + label_words) ls (put_row at l T))) (let z : at + label_words * suc j ≡ at + label_words + label_words * j = omega arith in z)
    ∙ rows_at (at + label_words) ls (put_row at l T) (next_fits at l ls T f) j (omega arith)

-- The rows of 64 labels end at the place of the functions' count, so those of the labels read fit.
labels_fit : (T : List ℕ) (ls : List (List ℕ)) → functions_place ≤ length T → length ls ≤ 64 → All (λ l. length l ≤ 2) ls → Fitting (label_place 0) ls (set T labels_place (length ls))
labels_fit T ls room few short = (omega (arith, length-set T labels_place (length ls)), short)

pub labels_counted : (T : List ℕ) (ls : List (List ℕ)) → functions_place ≤ length T → length ls ≤ 64 → All (λ l. length l ≤ 2) ls → label_count (put_rows (label_place 0) ls (set T labels_place (length ls))) ≡ length ls
labels_counted T ls room few short = rows_before (label_place 0) ls (set T labels_place (length ls)) (labels_fit T ls room few short) labels_place (omega arith) ∙ get_or-set_same T labels_place (length ls) 0 (omega arith)

pub labels_entered : (T : List ℕ) (ls : List (List ℕ)) → functions_place ≤ length T → length ls ≤ 64 → All (λ l. length l ≤ 2) ls → domain_count T ≤ 16 → Heads (put_rows (label_place 0) ls (set T labels_place (length ls))) (declared T).domains ls
labels_entered T ls room few short domains = record {
  same_domains = domains_kept T U domains (λ i b. rows_before (label_place 0) ls W fit i (omega arith) ∙ get_or-set_other T labels_place i (length ls) 0 (omega arith));
  same_labels = ext_get_or [] (declared U).labels ls (labels_length U ∙ count) (λ j b. label_at U j (omega (arith, labels_length U)) ∙ rows_at (label_place 0) ls W fit j (omega (arith, labels_length U, count)));
}
  where
    W : List ℕ
    W = set T labels_place (length ls)

    U : List ℕ
    U = put_rows (label_place 0) ls W

    fit : Fitting (label_place 0) ls W
    fit = labels_fit T ls room few short

    count : label_count U ≡ length ls
    count = labels_counted T ls room few short

-- ── functions: their count ──

pub functions_entered : (T ds : List ℕ) (ls : List (List ℕ)) (n : ℕ) → processes_place ≤ length T → domain_count T ≤ 16 → label_count T ≤ 64 → All (λ l. length l ≤ 2) (declared T).labels → Heads T ds ls → Heads (set T functions_place n) ds ls
functions_entered T ds ls n room domains labels short = heads_kept T (set T functions_place n) room (length-set T functions_place n) domains labels short (λ i b. get_or-set_other T functions_place i n 0 (omega arith)) ds ls

-- ── no process yet ──

pub processes_start : (T ds : List ℕ) (ls : List (List ℕ)) (fs : List Function) → process_place 0 ≤ length T → domain_count T ≤ 16 → label_count T ≤ 64 → All (λ l. length l ≤ 2) (declared T).labels → Tables T ds ls fs → Declares (set T processes_place 0) (without_processes (edition_in T) ds ls fs)
unfolding table
processes_start T ds ls fs room domains labels short k = record {
  same_edition = refl;
  tables = tables_kept T (set T processes_place 0) (omega arith) (length-set T processes_place 0) domains labels short (λ i b. get_or-set_other T processes_place i 0 0 (omega arith)) ds ls fs k;
  same_processes = same_by_rows (set T processes_place 0) [] none (λ p b. absurd (let z : ⊥ = omega arith in z));
  same_measures = fun_ext λ p. callee_beyond (set T processes_place 0) p (omega (arith, none));
}
  where
    none : process_count (set T processes_place 0) ≡ 0
    none = get_or-set_same T processes_place 0 0 (omega arith)

-- ── one process more ──

-- Four words stored after a row, and a count before it.
module _ (B : List ℕ) (at a b c d n : ℕ) where
  abbrev B₁ : List ℕ
  B₁ = set B (at + size_in) a

  abbrev B₂ : List ℕ
  B₂ = set B₁ (at + reach_in) b

  abbrev B₃ : List ℕ
  B₃ = set B₂ (at + breadth_in) c

  abbrev B₄ : List ℕ
  B₄ = set B₃ (at + body_in) d

  abbrev stored : List ℕ
  stored = set B₄ processes_place n

  stored_length : length stored ≡ length B
  stored_length = length-set B₄ processes_place n ∙ length-set B₃ (at + body_in) d ∙ length-set B₂ (at + breadth_in) c ∙ length-set B₁ (at + reach_in) b ∙ length-set B (at + size_in) a

  stored_other : (i : ℕ) → i ≢ processes_place → i < at + size_in → get_or stored i 0 ≡ get_or B i 0
  stored_other i h k =
      get_or-set_other B₄ processes_place i n 0 h ∙ get_or-set_other B₃ (at + body_in) i d 0 (omega arith) ∙ get_or-set_other B₂ (at + breadth_in) i c 0 (omega arith)
      ∙ get_or-set_other B₁ (at + reach_in) i b 0 (omega arith) ∙ get_or-set_other B (at + size_in) i a 0 (omega arith)

  module _ (behind : processes_place < at) (room : at + body_in < length B) where
    first : get_or stored (at + size_in) 0 ≡ a
    first = get_or-set_other B₄ processes_place (at + size_in) n 0 (omega arith) ∙ get_or-set_other B₃ (at + body_in) (at + size_in) d 0 (omega arith) ∙ get_or-set_other B₂ (at + breadth_in) (at + size_in) c 0 (omega arith)
        ∙ get_or-set_other B₁ (at + reach_in) (at + size_in) b 0 (omega arith) ∙ get_or-set_same B (at + size_in) a 0 (omega arith)

    second : get_or stored (at + reach_in) 0 ≡ b
    second = get_or-set_other B₄ processes_place (at + reach_in) n 0 (omega arith) ∙ get_or-set_other B₃ (at + body_in) (at + reach_in) d 0 (omega arith) ∙ get_or-set_other B₂ (at + breadth_in) (at + reach_in) c 0 (omega arith)
        ∙ get_or-set_same B₁ (at + reach_in) b 0 (omega (arith, length-set B (at + size_in) a))

    third : get_or stored (at + breadth_in) 0 ≡ c
    third = get_or-set_other B₄ processes_place (at + breadth_in) n 0 (omega arith) ∙ get_or-set_other B₃ (at + body_in) (at + breadth_in) d 0 (omega arith)
        ∙ get_or-set_same B₂ (at + breadth_in) c 0 (omega (arith, length-set B₁ (at + reach_in) b, length-set B (at + size_in) a))

    fourth : get_or stored (at + body_in) 0 ≡ d
    fourth = get_or-set_other B₄ processes_place (at + body_in) n 0 (omega arith)
        ∙ get_or-set_same B₃ (at + body_in) d 0 (omega (arith, length-set B₂ (at + breadth_in) c, length-set B₁ (at + reach_in) b, length-set B (at + size_in) a))

    count : process_count stored ≡ n
    count = get_or-set_same B₄ processes_place n 0 (omega (arith, stored_length, length-set B₄ processes_place n))

-- The words of process p, as it was entered, and the words before them.
module _ (T : List ℕ) (p : ℕ) (l : List ℕ) (m : Measure) (left : ℕ) (short : length l ≤ 5) (room : process_place (p + 1) ≤ length T) where
  abbrev B : List ℕ
  B = paste T (process_place p) l (length l)

  abbrev U : List ℕ
  U = entered_process T p l m.size m.reach m.breadth left

  B_length : length B ≡ length T
  B_length = length-paste T (process_place p) l (length l) (omega arith) (omega arith)

  pub entered_length : length U ≡ length T
  unfolding entered_process
  entered_length = stored_length B (process_place p) m.size m.reach m.breadth left (p + 1) ∙ B_length

  pub entered_before : (i : ℕ) → i ≢ processes_place → i < process_place p → get_or U i 0 ≡ get_or T i 0
  unfolding entered_process
  entered_before i h k = stored_other B (process_place p) m.size m.reach m.breadth left (p + 1) i h (omega arith)
      ∙ paste_before T (process_place p) l (length l) (omega arith) (omega arith) i k

  entered_row : (j : ℕ) → j < length l → get_or U (process_place p + j) 0 ≡ get_or l j 0
  unfolding entered_process
  entered_row j h = stored_other B (process_place p) m.size m.reach m.breadth left (p + 1) (process_place p + j) (omega arith) (omega arith)
      ∙ paste_inside T (process_place p) l (length l) (omega arith) (omega arith) j h

  entered_count : process_count U ≡ p + 1
  unfolding entered_process
  entered_count = count B (process_place p) m.size m.reach m.breadth left (p + 1) (omega arith) (omega (arith, B_length))

  pub entered_left : body_at U p ≡ left
  unfolding entered_process
  entered_left = fourth B (process_place p) m.size m.reach m.breadth left (p + 1) (omega arith) (omega (arith, B_length))

  entered_measure : measure_row U p ≡ m
  unfolding entered_process
  entered_measure = λ i. record {
    size = first B (process_place p) m.size m.reach m.breadth left (p + 1) (omega arith) (omega (arith, B_length)) i;
    reach = second B (process_place p) m.size m.reach m.breadth left (p + 1) (omega arith) (omega (arith, B_length)) i;
    breadth = third B (process_place p) m.size m.reach m.breadth left (p + 1) (omega arith) (omega (arith, B_length)) i;
  }

  -- Processes before it keep their measures, and their rows if those are short.
  measure_kept : (q : ℕ) → q < p → measure_row U q ≡ measure_row T q
  measure_kept q h = λ i. record {
    size = entered_before (process_place q + size_in) (omega arith) (omega arith) i;
    reach = entered_before (process_place q + reach_in) (omega arith) (omega arith) i;
    breadth = entered_before (process_place q + breadth_in) (omega arith) (omega arith) i;
  }

  row_stays : (q : ℕ) → q < p → length (row T (process_place q)) ≤ 4 → row U (process_place q) ≡ row T (process_place q)
  row_stays q h few = row_kept T U (process_place q) 4 entered_length (omega arith) few (λ i a b. entered_before i (omega arith) (omega arith))

own_row : (T : List ℕ) (p : ℕ) (ds : List ℕ) (m : Measure) (left : ℕ) → length ds ≤ 4 → process_place (p + 1) ≤ length T → row (entered_process T p (length ds ∷ ds) m.size m.reach m.breadth left) (process_place p) ≡ ds
own_row T p ds m left short room =
    row_is W (process_place p) ds (omega (arith, entered_length T p (length ds ∷ ds) m left (omega arith) room))
    (ap (λ n. get_or W n 0) (let z : process_place p ≡ process_place p + 0 = omega arith in z) ∙ entered_row T p (length ds ∷ ds) m left (omega arith) room 0 (omega arith))
    (λ i b. ap (λ n. get_or W n 0) (let z : process_place p + 1 + i ≡ process_place p + suc i = omega arith in z) ∙ entered_row T p (length ds ∷ ds) m left (omega arith) room (suc i) (omega arith))
  where
    W : List ℕ
    W = entered_process T p (length ds ∷ ds) m.size m.reach m.breadth left

pub process_entered : (T : List ℕ) (R : RuleSet) (P : Process) (m : Measure) (left : ℕ) → Declares T R → process_place (length R.processes + 1) ≤ length T → domain_count T ≤ 16 → label_count T ≤ 64 → All (λ l. length l ≤ 2) (declared T).labels
    → All (λ (Q : Process). length Q.parameters ≤ 4) R.processes → length P.parameters ≤ 4 → m ≡ measure_term (sat 65536) R (row_of (sat 65536) R (length R.processes)) P.term
    → Declares (entered_process T (length R.processes) (length P.parameters ∷ P.parameters) m.size m.reach m.breadth left) (with_process R P)
process_entered T R P m left d room domains labels short few small e = record {
  same_edition = d.same_edition;
  tables = tables_kept T U (omega arith) (entered_length T p l m left fits room) domains labels short (λ i b. entered_before T p l m left fits room i (omega arith) (omega arith)) R.domains R.labels R.functions d.tables;
  same_processes = same_by_rows U (R.processes ++ (P ∷ [])) (counted ∙ sym more) (λ q b. rows q (ℕ_discrete q p) (omega (arith, more)));
  same_measures = fun_ext λ q. measures q (ℕ_discrete q p) (dec_lt q p) ∙ sym (rows_grown (sat 65536) R P q) ∙ ap (λ n. row_of (sat 65536) (with_process R P) n q) (sym (more ∙ (let z : p + 1 ≡ suc p = omega arith in z)));
}
  where
    p : ℕ
    p = length R.processes

    l : List ℕ
    l = length P.parameters ∷ P.parameters

    fits : length l ≤ 5
    fits = omega arith

    U : List ℕ
    U = entered_process T p l m.size m.reach m.breadth left

    counted : process_count U ≡ p + 1
    counted = entered_count T p l m left fits room

    before : process_count T ≡ p
    before = count_of_same T R.processes d.same_processes

    more : length (R.processes ++ (P ∷ [])) ≡ p + 1
    more = length-append R.processes (P ∷ [])

    rows : (q : ℕ) → Dec (q ≡ p) → q < p + 1 → row U (process_place q) ≡ (get_or (R.processes ++ (P ∷ [])) q no_process).parameters
    rows q (yes z) b = subst (λ k. row U (process_place k) ≡ (get_or (R.processes ++ (P ∷ [])) k no_process).parameters) (sym z)
        (own_row T p P.parameters m left small room ∙ sym (ap (λ (Q : Process). Q.parameters) (get_or-append_seam R.processes P [] no_process)))
    rows q (no z) b =
        row_stays T p l m left fits room q below (subst (λ r. length r ≤ 4) (sym as_before) (all_at (λ (Q : Process). length Q.parameters ≤ 4) R.processes few q no_process below))
        ∙ as_before
        ∙ sym (ap (λ (Q : Process). Q.parameters) (get_or-append R.processes (P ∷ []) no_process q below))
      where
        below : q < p
        below = omega (arith, z)

        as_before : row T (process_place q) ≡ (process R q).parameters
        as_before = row_of_same T R.processes d.same_processes q below

    other : (q : ℕ) → q ≢ p → callee T q ≡ cond (eqb q p) (measure_term (sat 65536) R (row_of (sat 65536) R p) P.term) (row_of (sat 65536) R p q)
    other q z = ap (λ f. f q) d.same_measures ∙ sym (cond_false _ _ (eqb q p) (λ t. z (eqb→eq q p t)))

    measures : (q : ℕ) → Dec (q ≡ p) → Dec (q < p) → callee U q ≡ cond (eqb q p) (measure_term (sat 65536) R (row_of (sat 65536) R p) P.term) (row_of (sat 65536) R p q)
    measures q (yes z) s = subst (λ k. callee U k ≡ cond (eqb k p) (measure_term (sat 65536) R (row_of (sat 65536) R p) P.term) (row_of (sat 65536) R p k)) (sym z)
        (callee_at U p (omega (arith, counted)) ∙ entered_measure T p l m left fits room ∙ e ∙ sym (cond_true _ _ (eqb p p) (eqb_refl p)))
    measures q (no z) (yes s) = callee_at U q (omega (arith, counted)) ∙ measure_kept T p l m left fits room q s ∙ sym (callee_at T q (omega (arith, before))) ∙ other q z
    measures q (no z) (no s) = callee_beyond U q (omega (arith, counted, z, s)) ∙ sym (callee_beyond T q (omega (arith, before, s))) ∙ other q z

-- ── the declared rule set and the one read are equal in all that terms are read by ──

-- One parameter each;
pub parameter_is_one : (R : RuleSet) → ((f : ℕ) → get_or (map (λ (F : Function). length F.parameters) R.functions) f 1 ≡ 1) → (f : ℕ) → f < length R.functions → length (function_rule R f).parameters ≡ 1
parameter_is_one R h f b = sym (get_d_map (λ (F : Function). length F.parameters) R.functions f no_rule 1 b) ∙ h f

-- a function that is not defined counts as such too.
pub arity_is_one : (R : RuleSet) → ((f : ℕ) → get_or (map (λ (F : Function). length F.parameters) R.functions) f 1 ≡ 1) → (f : ℕ) → arities (attributes R) f ≡ 1
arity_is_one R h f = go (dec_lt f (length R.functions))
  where
    go : Dec (f < length R.functions) → arities (attributes R) f ≡ 1
    go (yes b) =
        ap length (domain_is R f b)
        ∙ length-map (function_rule R f).parameters (domain_size R)
        ∙ parameter_is_one R h f b
    go (no b) = ap length (no_domain_beyond (attributes R) f (omega (arith, b, functions_counted R)))

pub declared_alike : (T : List ℕ) (R : RuleSet) → Declares T R → Alike (declared T) R
unfolding declared
declared_alike T R d = record {
  same_edition = sym d.same_edition;
  same_domains = d.tables.heads.same_domains;
  same_labels = d.tables.heads.same_labels;
  same_guards = λ n. guard_declared T n ∙ (λ i. record { edition = sym d.same_edition i; arity = λ f. sym (arity_is_one R d.tables.one_parameter f) i; now = (d.tables.same_functions ∙ sym (functions_counted R)) i; before = 0; variables = n });
  same_parameters = d.same_processes;
}
