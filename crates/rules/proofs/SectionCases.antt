-- The sections in a row: a case for each way that these functions return, and what they ask.
use mathlib.Core.Path.{◌≡◌, refl, ap, sym, ◌∙◌, subst}
use mathlib.Core.List.{List}
use Prim.Native.Nat.{ℕ, ◌+◌, ◌≤◌}
use native.Mathlib.Omega.{arith}
use lib.ListN.{length, get_or, set, take, length-set}
use lib.Seq.{paste, length-paste, length-take-le, get_or-set_same, get_or-set_other}
use Rattle.eb3.specs.Generic.AllLists.{All}
use Rattle.eb3.specs.RuleSets.{Function, RuleSet}
use Rattle.eb3.specs.RuleSpelling.{one_word}
use Rattle.eb3.specs.Reading.{Read, taken, Reader, then, count_of, number_of, repeat, counted}
use Rattle.eb3.specs.RuleReading.{read_domains, read_labels, read_processes, without_processes, read_rules}
use Rattle.eb3.proofs.Laws.Reading.{Sound, count_sound}
use Rattle.words.specs.Checking.{checked, last_of, Checked}
use Rattle.words.specs.Ends.{Tail}
use Rattle.words.specs.Laws.Checking.{tail_on, number_ends, got, last_tail}
use Rattle.words.specs.Readings.{RefusedAs}
use Rattle.words.specs.Laws.Reading.{checked_refused, then_refused_as, then_taken, not_taken, same_refused}
use Rattle.words.specs.Laws.Rows.{count_word, repeat_ends, counted_ends}
use Rattle.tables.specs.Layout.{tables_length, labels_place, label_place, processes_place, process_place, domain_count, label_count, process_count, domains_place}
use Rattle.tables.specs.Tables.{edition_in, row, declared}
use Rattle.tables.specs.Laws.Tables.{domains_length}
use Rattle.declarations.specs.Entering.{put_rows, Entered}
use Rattle.declarations.specs.Declaring.{Heads, Tables, Declares}
use Rattle.declarations.specs.Laws.Declaring.{domains_counted, domains_entered, labels_counted, labels_entered, processes_start}
use Rattle.declarations.specs.Bounds.{Bounded}
use Rattle.declarations.specs.Laws.Processes.{set_bounded}
use Rattle.declarations.specs.Laws.Regions.{paste_front}
use Rattle.declarations.specs.Rows.{RowAt}
use Rattle.declarations.specs.Laws.Rows.{domains_row}
use Rattle.declarations.specs.Laws.Sections.{labels_read}
use Rattle.rules.specs.declared.Rules.{Rules}
use Rattle.rules.specs.Filling.{ProcessesRead, ProcessSectionRead, FunctionSectionRead, LabelSectionRead, RulesRead}
use Rattle.rules.specs.Sections.{main_weighed, rules_weighed, process_section, function_section, label_section}
use Rattle.std.specs.Prelude.{Ok, Err, Result}
use Rattle.refusals.specs.declared.Refusal.{Refusal}
use Rattle.rule_terms.specs.Weighed.{Answer}

-- ── counts and refusals ──

pub count_between : (lo hi m x : ℕ) (t : List ℕ) (p : Checked) → p ≡ checked (count_of lo hi t) → p ≡ Ok m → x ≡ get_or t 0 0 → (lo ≤ x) × (x ≤ hi)
count_between lo hi m x t p e h i =
    let s = subst (Sound one_word (λ n. (lo ≤ n) × (n ≤ hi)) t) (count_word lo hi m t (sym h ∙ e)) (count_sound lo hi t) in
    (omega (arith, s.1.0, i), omega (arith, s.1.1, i))

main_out : {A : Type 0} (r : Read A) (g : A → Reader RuleSet) (k : Refusal) → RefusedAs k r → Err k ≡ main_weighed (then r g)
unfolding then main_weighed
main_out r g k h = rw h.read (ap Err h.named)

pub rules_out : {A : Type 0} (r : Read A) (g : A → Reader RuleSet) (k : Refusal) → RefusedAs k r → Err k ≡ rules_weighed (then r g)
unfolding then rules_weighed
rules_out r g k h = rw h.read (ap Err h.named)

-- ── processes ──

module _ (T t : List ℕ) (p : Checked) (e : p ≡ checked (count_of 1 32 t)) where
  pub section_out : (k : Refusal) → p ≡ Err k → ProcessSectionRead t T (Err k) T
  unfolding process_section
  section_out k h =
      let r = checked_refused (count_of 1 32 t) k (sym h ∙ e) in
      record {
        answer = λ ds ls fs z. main_out (count_of 1 32 t) _ k r;
        same_length = refl;
        placed = λ whole ds ls fs R u tl z g. absurd (not_taken (process_section (edition_in T) ds ls fs t) k R u (then_refused_as (count_of 1 32 t) _ k r) g);
      }

  pub section_in : (m n : ℕ) (r T' : List ℕ) (q : Answer) → process_place 0 ≤ length T → Bounded T → p ≡ Ok m → n ≡ get_or t 0 0 → r ≡ last_of m t → ProcessesRead r (set T processes_place 0) n q T' → ProcessSectionRead t T q T'
  unfolding process_section
  section_in m n r T' q room b h i l k =
      let start : (ds : List ℕ) (ls : List (List ℕ)) (fs : List Function) → Tables T ds ls fs → Declares (set T processes_place 0) (without_processes (edition_in T) ds ls fs) =
      λ ds ls fs z. processes_start T ds ls fs room b.domains_few b.labels_few b.label_rows z in
      let same : (ds : List ℕ) (ls : List (List ℕ)) (fs : List Function) → process_section (edition_in T) ds ls fs t ≡ read_processes n (without_processes (edition_in T) ds ls fs) r =
      λ ds ls fs. then_taken (count_of 1 32 t) (λ n. read_processes n (without_processes (edition_in T) ds ls fs)) (get_or t 0 0) (last_of m t) (count_word 1 32 m t (sym h ∙ e))
      ∙ (λ j. read_processes (sym i j) (without_processes (edition_in T) ds ls fs) (sym l j)) in
      record {
        answer = λ ds ls fs z. k.answer (without_processes (edition_in T) ds ls fs) (start ds ls fs z) tt ∙ sym (ap main_weighed (same ds ls fs));
        same_length = k.same_length ∙ length-set T processes_place 0;
        placed = λ whole ds ls fs R u tl z g.
            k.placed whole (without_processes (edition_in T) ds ls fs) R u (tail_on r t whole tl (subst (λ y. Tail y t) (sym l) (last_tail m t))) (record { declares = start ds ls fs z; rows = tt }) tt (sym (same ds ls fs) ∙ g);
      }

  pub section_asks : (m n : ℕ) → length T ≡ tables_length → Bounded T → p ≡ Ok m → n ≡ get_or t 0 0 → (1 ≤ n) × (n ≤ 32) × (process_count (set T processes_place 0) ≡ 0) × Bounded (set T processes_place 0)
  section_asks m n s b h i =
      let c = count_between 1 32 m n t p e h i in
      (c.0, c.1, get_or-set_same T processes_place 0 0 (omega arith), set_bounded T processes_place 0 (omega arith) (omega arith) b)

-- ── labels ──

abbrev label_of : ℕ → Reader (List ℕ)
label_of d = counted 0 2 (number_of 5 d)

module _ (T t : List ℕ) (p : Checked) (e : p ≡ checked (count_of 1 64 t)) where
  pub labels_none : (D : List ℕ) (k : Refusal) → p ≡ Err k → LabelSectionRead t T D (Err k) T D
  unfolding label_section counted
  labels_none D k h =
      let r : (ds : List ℕ) → RefusedAs k (read_labels (length ds) t) = λ ds. then_refused_as (count_of 1 64 t) _ k (checked_refused (count_of 1 64 t) k (sym h ∙ e)) in
      record {
        answer = λ ds z. rules_out (read_labels (length ds) t) _ k (r ds);
        same_tables = refl;
        same_directory = refl;
        filled = λ ds z whole R u tl small g room. absurd (not_taken (label_section (edition_in T) ds t) k R u (then_refused_as (read_labels (length ds) t) _ k (r ds)) g);
      }

  module _ (m n x d y : ℕ) (s : length T ≡ tables_length) (few : domain_count T ≤ 16) (h : p ≡ Ok m) (i : n ≡ get_or t 0 0) (f : x ≡ n) (fd : d ≡ y) (fy : y ≡ domain_count (set T labels_place x)) where
    pub labels_asks : label_place n ≤ length (set T labels_place x)
    labels_asks = omega (arith, count_between 1 64 m n t p e h i, length-set T labels_place x)

    module _ (u : List ℕ) (l : u ≡ last_of m t) (r : Checked) (T' : List ℕ) (entered : Entered u (set T labels_place x) n (label_place 0) d r T') where
      labels_read_are : (ds : List ℕ) → (declared T).domains ≡ ds → read_labels (length ds) t ≡ repeat n (label_of d) u
      unfolding counted
      labels_read_are ds z =
          let c : length ds ≡ d = sym (ap length z) ∙ domains_length T ∙ sym (get_or-set_other T labels_place 0 x 0 (omega arith)) ∙ sym fy ∙ sym fd in
          then_taken (count_of 1 64 t) (λ n. repeat n (label_of (length ds))) (get_or t 0 0) (last_of m t) (count_word 1 64 m t (sym h ∙ e))
          ∙ (λ j. repeat (sym i j) (label_of (c j)) (sym l j))

      labels_refused : (k : Refusal) → r ≡ Err k → (ds : List ℕ) → (declared T).domains ≡ ds → RefusedAs k (read_labels (length ds) t)
      labels_refused k q ds z = same_refused _ _ k (labels_read_are ds z) (checked_refused (repeat n (label_of d) u) k (sym q ∙ entered.answer))

      module _ (j : ℕ) (q : r ≡ Ok j) where
        labels_got : (ls : List (List ℕ)) × (repeat n (label_of d) u ≡ taken ls (last_of j u))
        labels_got = got (repeat n (label_of d)) (repeat_ends n (label_of d) (counted_ends 0 2 (number_of 5 d) (number_ends 5 d))) u j r entered.answer q

        known : (length labels_got.0 ≡ n) × All (λ l. length l ≤ 2) labels_got.0
        known = labels_read n d u (last_of j u) labels_got.0 labels_got.1

        rows_there : T' ≡ put_rows (label_place 0) labels_got.0 (set T labels_place (length labels_got.0))
        rows_there = entered.rows labels_got.0 (last_of j u) labels_got.1 ∙ ap (λ k. put_rows (label_place 0) labels_got.0 (set T labels_place k)) (f ∙ sym known.0)

        sixty_four : length labels_got.0 ≤ 64
        sixty_four = omega (arith, known.0, count_between 1 64 m n t p e h i)

        label_heads : Heads T' (declared T).domains labels_got.0
        label_heads = subst (λ S. Heads S (declared T).domains labels_got.0) (sym rows_there) (labels_entered T labels_got.0 (omega arith) sixty_four known.1 few)

        bounded : Bounded T'
        bounded = record {
          domains_few = omega (arith, sym (domains_length T') ∙ ap length label_heads.same_domains ∙ domains_length T);
          labels_few = omega (arith, ap (λ S. label_count S) rows_there ∙ labels_counted T labels_got.0 (omega arith) sixty_four known.1, sixty_four);
          label_rows = subst (All (λ l. length l ≤ 2)) (sym label_heads.same_labels) known.1;
        }

        heads_for : (ds : List ℕ) → (declared T).domains ≡ ds → Heads T' ds labels_got.0
        heads_for ds z = subst (λ D. Heads T' D labels_got.0) z label_heads

        section_by : (v : List ℕ) → v ≡ last_of j u → (ds : List ℕ) → (declared T).domains ≡ ds → label_section (edition_in T) ds t ≡ function_section (edition_in T) ds labels_got.0 v
        unfolding label_section
        section_by v o ds z = then_taken (read_labels (length ds) t) (λ ls. function_section (edition_in T) ds ls) labels_got.0 (last_of j u) (labels_read_are ds z ∙ labels_got.1) ∙ ap (function_section (edition_in T) ds labels_got.0) (sym o)

        labels_go : (v T'' D D' : List ℕ) (w : Result Rules Refusal) → v ≡ last_of j u → FunctionSectionRead v T' D w T'' D' → LabelSectionRead t T D w T'' D'
        labels_go v T'' D D' w o k = record {
          answer = λ ds z. k.answer ds labels_got.0 (heads_for ds z) ∙ sym (ap rules_weighed (section_by v o ds z));
          same_tables = k.same_tables ∙ entered.same_length ∙ length-set T labels_place x;
          same_directory = k.same_directory;
          filled = λ ds z whole R c tl small g room. k.filled ds labels_got.0 (heads_for ds z) whole R c
              (tail_on v u whole (tail_on u t whole tl (subst (λ y. Tail y t) (sym l) (last_tail m t))) (subst (λ y. Tail y u) (sym o) (last_tail j u))) small (sym (section_by v o ds z) ∙ g) room;
        }

    pub labels_out : (u T' D : List ℕ) (r : Checked) (k : Refusal) → u ≡ last_of m t → Entered u (set T labels_place x) n (label_place 0) d r T' → r ≡ Err k → LabelSectionRead t T D (Err k) T' D
    unfolding label_section
    labels_out u T' D r k l en q = record {
      answer = λ ds z. rules_out (read_labels (length ds) t) _ k (labels_refused u l r T' en k q ds z);
      same_tables = en.same_length ∙ length-set T labels_place x;
      same_directory = refl;
      filled = λ ds z whole R c tl small g room. absurd (not_taken (label_section (edition_in T) ds t) k R c (then_refused_as (read_labels (length ds) t) _ k (labels_refused u l r T' en k q ds z)) g);
    }

    pub labels_bounded : (u T' : List ℕ) (r : Checked) (j : ℕ) → u ≡ last_of m t → Entered u (set T labels_place x) n (label_place 0) d r T' → r ≡ Ok j → Bounded T'
    labels_bounded u T' r j l en q = bounded u l r T' en j q

    pub labels_in : (u v T' T'' D D' : List ℕ) (r : Checked) (j : ℕ) (w : Result Rules Refusal) → u ≡ last_of m t → Entered u (set T labels_place x) n (label_place 0) d r T' → r ≡ Ok j → v ≡ last_of j u → FunctionSectionRead v T' D w T'' D' → LabelSectionRead t T D w T'' D'
    labels_in u v T' T'' D D' r j w l en q o k = labels_go u l r T' en j q v T'' D D' w o k

-- ── the whole ──

module _ (T t : List ℕ) (p : Checked) (e : p ≡ checked (read_domains t)) where
  pub read_out : (D : List ℕ) (k : Refusal) → p ≡ Err k → RulesRead t T D (Err k) T D
  unfolding read_rules
  read_out D k h =
      let r = checked_refused (read_domains t) k (sym h ∙ e) in
      record {
        answer = rules_out (read_domains t) _ k r;
        same_tables = refl;
        same_directory = refl;
        directory = λ R u g room. absurd (not_taken (read_rules (edition_in T) t) k R u (then_refused_as (read_domains t) _ k r) g);
      }

  module _ (m k : ℕ) (s : length T ≡ tables_length) (h : p ≡ Ok m) (i : k ≡ get_or t 0 0) where
    domains_here : RowAt 16 t (read_domains t) m
    domains_here = domains_row m t p e h

    read_copies : (0 + (k + 1) ≤ length T) × (k + 1 ≤ length t)
    read_copies = (omega (arith, domains_here.small, i), omega (arith, domains_here.room, i))

    -- those of them that are copied
    pub read_front : (k + 1 ≡ length (take (k + 1) t)) × (0 + length (take (k + 1) t) ≤ length T)
    read_front = let e = length-take-le (k + 1) t read_copies.1 in (sym e, rw e read_copies.0)

    module _ (T' : List ℕ) (copy : T' ≡ paste T domains_place (take (k + 1) t) (length (take (k + 1) t))) where
      c : T' ≡ paste T domains_place t (k + 1)
      c = copy ∙ sym (paste_front T t 0 (k + 1) read_copies.1)

      copied : T' ≡ paste T domains_place t (get_or t 0 0 + 1)
      copied = c ∙ ap (λ n. paste T domains_place t (n + 1)) i

      pub read_asks : domain_count T' ≤ 16
      read_asks = omega (arith, ap (λ l. get_or l 0 0) copied ∙ domains_counted T t (row t 0) (last_of m t) domains_here.is (omega arith), domains_here.few, domains_here.small)

      named : (declared T').domains ≡ row t 0
      named = ap (λ l. (declared l).domains) copied ∙ domains_entered T t (row t 0) (last_of m t) domains_here.is (omega arith)

      whole_is : (v : List ℕ) → v ≡ last_of m t → read_rules (edition_in T) t ≡ label_section (edition_in T) (row t 0) v
      unfolding read_rules label_section function_section process_section
      whole_is v o = then_taken (read_domains t) (λ ds. label_section (edition_in T) ds) (row t 0) (last_of m t) domains_here.is ∙ ap (label_section (edition_in T) (row t 0)) (sym o)

      pub read_in : (v T'' D D' : List ℕ) (w : Result Rules Refusal) → length t ≤ 65535 → v ≡ last_of m t → LabelSectionRead v T' D w T'' D' → RulesRead t T D w T'' D'
      read_in v T'' D D' w short o g = record {
        answer = g.answer (row t 0) named ∙ sym (ap rules_weighed (whole_is v o));
        same_tables = g.same_tables ∙ ap length c ∙ length-paste T domains_place t (k + 1) read_copies.0 read_copies.1;
        same_directory = g.same_directory;
        directory = λ R u e room. g.filled (row t 0) named t R u (subst (λ y. Tail y t) (sym o) (last_tail m t)) (omega arith) (sym (whole_is v o) ∙ e) room;
      }
