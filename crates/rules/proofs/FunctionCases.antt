-- Functions, then processes with the functions' cells: a case for each way that these functions return, and what they ask.
use mathlib.Core.Path.{◌≡◌, refl, ap, sym, ◌∙◌, subst}
use mathlib.Core.List.{List, map}
use Prim.Native.Nat.{ℕ, zero, suc, ◌+◌, ◌*◌, ◌≤◌, ◌<◌}
use native.Mathlib.Omega.{arith}
use lib.ListN.{length, get_or, set, replicate, length-set}
use lib.Seq.{get_or-set_same}
use Rattle.eb3.specs.Editions.{Edition}
use Rattle.eb3.specs.RuleSets.{Function, RuleSet}
use Rattle.eb3.specs.Measures.{sat, measure_main}
use Rattle.eb3.specs.Reading.{Read, refused, taken, Reader, then, count_of, series}
use Rattle.eb3.specs.RuleReading.{parameter_limit, read_parameter_counts, read_function, read_functions, read_process, with_process, read_processes, without_processes}
use Rattle.words.specs.Checking.{checked, last_of, Checked}
use Rattle.words.specs.Ends.{Tail, Fine}
use Rattle.words.specs.Laws.Checking.{tail_at, tail_on, last_tail}
use Rattle.words.specs.Readings.{RefusedAs}
use Rattle.words.specs.Laws.Reading.{checked_refused, then_refused_as, then_taken, not_taken, same_refused}
use Rattle.words.specs.Laws.Rows.{count_word}
use Rattle.measures.specs.Weighing.{cap, weight}
use Rattle.tables.specs.Layout.{tables_length, functions_place, domain_count, label_count}
use Rattle.tables.specs.Tables.{edition_in, declared}
use Rattle.tables.specs.Laws.Tables.{domains_length, labels_length}
use Rattle.declarations.specs.declared.Counted.{Counted}
use Rattle.declarations.specs.Entering.{labels_of, all_cells, functions_cells, found_cells}
use Rattle.declarations.specs.Declaring.{Heads, Tables}
use Rattle.declarations.specs.Laws.Declaring.{functions_entered}
use Rattle.declarations.specs.Laws.Functions.{functions_end}
use Rattle.declarations.specs.Bounds.{Bounded}
use Rattle.declarations.specs.Laws.Processes.{set_bounded}
use Rattle.declarations.specs.Laws.Sections.{functions_read, cells_total}
use Rattle.declarations.specs.Directory.{FunctionRows, row_width}
use Rattle.declarations.specs.Noting.{function_of, FunctionsNoted}
use Rattle.rules.specs.declared.Rules.{Rules}
use Rattle.rules.specs.Filling.{ProcessSectionRead, Filled, FunctionSectionRead}
use Rattle.rules.specs.Sections.{main_weighed, rules_weighed, joined, process_section, function_section, found_rules}
use Rattle.rules.proofs.SectionCases.{rules_out}
use Rattle.std.specs.Prelude.{Ok, Err, Result}
use Rattle.refusals.specs.declared.Refusal.{Refusal}
use Rattle.rule_terms.specs.Weighed.{Answer}
use Rattle.rule_terms.specs.declared.Weighed.{Weighed}

-- ── the processes' answer, with the functions' cells ──

-- Reading processes leaves domains, functions and labels as they were.
abbrev Same : RuleSet → RuleSet → Type 0
Same R Q = (Q.domains ≡ R.domains) × (Q.functions ≡ R.functions) × (Q.labels ≡ R.labels)

abbrev Kept : RuleSet → Read RuleSet → Type 0
Kept R (refused k) = Unit
Kept R (taken Q u) = Same R Q

then_kept : {A : Type 0} (R : RuleSet) (r : Read A) (g : A → Reader RuleSet) → ((a : A) (u : List ℕ) → Kept R (g a u)) → Kept R (then r g)
unfolding then
then_kept R (refused k) g h = tt
then_kept R (taken a u) g h = h a u

processes_kept : (n : ℕ) (R Q : RuleSet) → Same R Q → (t : List ℕ) → Kept R (read_processes n Q t)
unfolding read_processes
processes_kept zero R Q s t = s
processes_kept (suc n) R Q s t = then_kept R (read_process Q (parameter_limit n) t) _ (λ P u. processes_kept n R (with_process Q P) s u)

section_kept : (L : Edition) (ds : List ℕ) (ls : List (List ℕ)) (fs : List Function) (t : List ℕ) → Kept (without_processes L ds ls fs) (process_section L ds ls fs t)
unfolding process_section
section_kept L ds ls fs t = then_kept (without_processes L ds ls fs) (count_of 1 32 t) _ (λ n u. processes_kept n (without_processes L ds ls fs) (without_processes L ds ls fs) (refl, refl, refl) u)

joined_main : (R : RuleSet) (c : ℕ) (r : Read RuleSet) → c ≡ all_cells R.domains R.functions → Kept R r → joined c (main_weighed r) ≡ rules_weighed r
unfolding main_weighed rules_weighed
joined_main R c (refused k) e s = refl
joined_main R c (taken Q u) e s = ap (λ n. found_rules (length u) n (weight (measure_main (sat cap) Q))) (e ∙ (λ i. all_cells (sym s.0 i) (sym s.1 i)) ∙ sym (cells_total Q))

pub joined_found : (c : ℕ) (a : Weighed) (w : Answer) → w ≡ Ok a → found_rules a.left c a.weight ≡ joined c w
joined_found c a w e = rw e

pub joined_refused : (c : ℕ) (k : Refusal) (w : Answer) → w ≡ Err k → Err k ≡ joined c w
joined_refused c k w e = rw e

-- ── functions ──

functions_by : (T : List ℕ) (D : ℕ) (ls : List (List ℕ)) (t u : List ℕ) (n : ℕ) → count_of 0 16 t ≡ taken n u
    → read_functions (edition_in T) D ls t ≡ series n 0 (read_function (edition_in T) D ls (replicate n 1)) u
unfolding read_functions read_parameter_counts then
functions_by T D ls t u n e = ap (λ r. then r λ n u. then (read_parameter_counts (edition_in T) n u) λ counts. series n 0 (read_function (edition_in T) D ls counts)) e

rows_same : (w w' : ℕ) (ds ds' : List ℕ) (ls ls' : List (List ℕ)) (Fs Fs' : List Function) (t D : List ℕ) → w' ≡ w → ds' ≡ ds → ls' ≡ ls → Fs' ≡ Fs
    → FunctionRows w ds t D (row_width (length ls)) 0 0 Fs → FunctionRows w' ds' t D (row_width (length ls')) 0 0 Fs'
rows_same w w' ds ds' ls ls' Fs Fs' t D v a b c h =
    subst (λ n. FunctionRows n ds' t D (row_width (length ls')) 0 0 Fs') (sym v)
    (subst (λ E. FunctionRows w E t D (row_width (length ls')) 0 0 Fs') (sym a)
    (subst (λ k. FunctionRows w ds t D (row_width (length k)) 0 0 Fs') (sym b) (subst (FunctionRows w ds t D (row_width (length ls)) 0 0) (sym c) h)))

module _ (T t : List ℕ) (p : Checked) (e : p ≡ checked (count_of 0 16 t)) where
  pub functions_none : (D : List ℕ) (k : Refusal) → p ≡ Err k → FunctionSectionRead t T D (Err k) T D
  unfolding function_section read_functions
  functions_none D k h =
      let r : (ds : List ℕ) (ls : List (List ℕ)) → RefusedAs k (read_functions (edition_in T) (length ds) ls t) = λ ds ls. then_refused_as (count_of 0 16 t) _ k (checked_refused (count_of 0 16 t) k (sym h ∙ e)) in
      record {
        answer = λ ds ls z. rules_out (read_functions (edition_in T) (length ds) ls t) _ k (r ds ls);
        same_tables = refl;
        same_directory = refl;
        filled = λ ds ls z whole R u tl small g room. absurd (not_taken (function_section (edition_in T) ds ls t) k R u (then_refused_as (read_functions (edition_in T) (length ds) ls t) _ k (r ds ls)) g);
      }

  module _ (m n x : ℕ) (s : length T ≡ tables_length) (b : Bounded T) (h : p ≡ Ok m) (i : n ≡ get_or t 0 0) (f : x ≡ n) where
    pub functions_bounded : Bounded (set T functions_place x)
    functions_bounded = set_bounded T functions_place x (omega arith) (omega arith) b

    -- D is the directory before, D' after the functions
    module _ (u D D' : List ℕ) (l : u ≡ last_of m t) (a : Result Counted Refusal) (g : FunctionsNoted (set T functions_place x) n n 0 u D 0 a D') (ds : List ℕ) (ls : List (List ℕ)) (z : Heads T ds ls) where
      heads : Heads (set T functions_place x) ds ls
      heads = functions_entered T ds ls x (omega arith) b.domains_few b.labels_few b.label_rows z

      abbrev behind : Read (List Function)
      behind = series n 0 (read_function (edition_in T) (length ds) ls (replicate n 1)) u

      are : read_functions (edition_in T) (length ds) ls t ≡ behind
      are = functions_by T (length ds) ls t (last_of m t) (get_or t 0 0) (count_word 0 16 m t (sym h ∙ e)) ∙ (λ j. series (sym i j) 0 (read_function (edition_in T) (length ds) ls (replicate (sym i j) 1)) (sym l j))

      labels_are : labels_of (set T functions_place x) 0 (label_count (set T functions_place x)) ≡ ls
      unfolding declared
      labels_are = heads.same_labels

      counts : a ≡ functions_cells ds behind
      counts =
          let c : domain_count (set T functions_place x) ≡ length ds = sym (domains_length (set T functions_place x)) ∙ ap length heads.same_domains in
          g.answer ∙ (λ j. functions_cells (heads.same_domains j) (series n 0 (read_function (edition_in T) (c j) (labels_are j) (replicate n 1)) u))

      refused_here : (k : Refusal) (r : Read (List Function)) → Err k ≡ functions_cells ds r → RefusedAs k r
      unfolding functions_cells
      refused_here k (refused j) q = record { code = j; read = refl; named = cc }
      refused_here k (taken Fs v) q = absurd (let y : ◌≡◌ {A = ℕ} 0 1 = cc in omega arith)

      taken_here : (j c : ℕ) (r : Read (List Function)) → Fine u r → found_cells j c ≡ functions_cells ds r → (Fs : List Function) × (r ≡ taken Fs (last_of j u)) × (c ≡ all_cells ds Fs)
      unfolding functions_cells
      taken_here j c (refused k) fine q = absurd (let y : ◌≡◌ {A = ℕ} 0 1 = cc in omega arith)
      taken_here j c (taken Fs v) fine q =
          let x : ◌≡◌ {A = Counted} (record { left = j; cells = c }) (record { left = length v; cells = all_cells ds Fs }) = cc in
          let o : j ≡ length v = ap (λ x. x.left) x in
          let y : c ≡ all_cells ds Fs = ap (λ x. x.cells) x in
          (Fs, ap (taken Fs) (sym (ap (λ n. last_of n u) o ∙ tail_at v u fine)), y)

      functions_refused : (k : Refusal) → a ≡ Err k → RefusedAs k (read_functions (edition_in T) (length ds) ls t)
      functions_refused k q = same_refused _ _ k are (refused_here k behind (sym q ∙ counts))

      module _ (j c : ℕ) (v : List ℕ) (y : a ≡ found_cells j c) (o : v ≡ last_of j u) where
        r : (Fs : List Function) × (behind ≡ taken Fs (last_of j u)) × (c ≡ all_cells ds Fs)
        r = taken_here j c behind (functions_end (edition_in T) (length ds) ls (replicate n 1) n 0 u) (sym y ∙ counts)

        known : (length r.0 ≡ n) × ((f : ℕ) → get_or (map (λ (F : Function). length F.parameters) r.0) f 1 ≡ 1)
        known = functions_read (edition_in T) (length ds) ls n u (last_of j u) r.0 r.1

        tables : Tables (set T functions_place x) ds ls r.0
        tables = record { heads = heads; same_functions = get_or-set_same T functions_place x 0 (omega arith) ∙ f ∙ sym known.0; one_parameter = known.1 }

        section_is : function_section (edition_in T) ds ls t ≡ process_section (edition_in T) ds ls r.0 v
        unfolding function_section
        section_is = then_taken (read_functions (edition_in T) (length ds) ls t) (λ fs. process_section (edition_in T) ds ls fs) r.0 (last_of j u) (are ∙ r.1) ∙ ap (process_section (edition_in T) ds ls r.0) (sym o)

        functions_answer : (q : Answer) (w : Result Rules Refusal) → q ≡ main_weighed (process_section (edition_in T) ds ls r.0 v) → w ≡ joined c q → w ≡ rules_weighed (function_section (edition_in T) ds ls t)
        functions_answer q w k d =
            d ∙ ap (joined c) k
            ∙ joined_main (without_processes (edition_in T) ds ls r.0) c (process_section (edition_in T) ds ls r.0 v) r.2 (section_kept (edition_in T) ds ls r.0 v)
            ∙ sym (ap rules_weighed section_is)

        -- The rows of the directory.
        functions_rows : (whole : List ℕ) → Tail t whole → length whole < 4294967296 → row_width (length ls) * length r.0 ≤ length D → FunctionRows (edition_in T).width ds whole D' (row_width (length ls)) 0 0 r.0
        functions_rows whole tl small room =
            let d : domain_count (set T functions_place x) ≡ length ds = sym (domains_length (set T functions_place x)) ∙ ap length heads.same_domains in
            let w : label_count (set T functions_place x) ≡ length ls = sym (labels_length (set T functions_place x)) ∙ ap length heads.same_labels in
            let reading : series n 0 (function_of (set T functions_place x) n) u ≡ taken r.0 (last_of j u) = (λ i. series n 0 (read_function (edition_in T) (d i) (labels_are i) (replicate n 1)) u) ∙ r.1 in
            let enough : row_width (label_count (set T functions_place x)) * (0 + n) ≤ length D = subst (λ k. k ≤ length D) (let z : length r.0 ≡ 0 + n = omega (arith, known.0) in λ i. row_width (sym w i) * z i) room in
            let rows = g.found whole r.0 (last_of j u) (tail_on u t whole tl (subst (λ y. Tail y t) (sym l) (last_tail m t))) small enough reading in
            subst (λ E. FunctionRows (edition_in T).width E whole D' (row_width (length ls)) 0 0 r.0) heads.same_domains (subst (λ k. FunctionRows (edition_in T).width (declared (set T functions_place x)).domains whole D' (row_width k) 0 0 r.0) w rows)

        functions_filled : (q : Answer) (T' : List ℕ) → ProcessSectionRead v (set T functions_place x) q T' → Filled t D (function_section (edition_in T) ds ls) T' D'
        functions_filled q T' k whole R w tl small e room =
            let s : process_section (edition_in T) ds ls r.0 v ≡ taken R w = sym section_is ∙ e in
            let same : Same (without_processes (edition_in T) ds ls r.0) R = subst (Kept (without_processes (edition_in T) ds ls r.0)) s (section_kept (edition_in T) ds ls r.0 v) in
            let tail : Tail v whole = tail_on v u whole (tail_on u t whole tl (subst (λ y. Tail y t) (sym l) (last_tail m t))) (subst (λ y. Tail y u) (sym o) (last_tail j u)) in
            let placed = k.placed whole ds ls r.0 R w tail tables s in
            let fits : row_width (length ls) * length r.0 ≤ length D = subst (λ n. n ≤ length D) (λ i. row_width (length (same.2 i)) * length (same.1 i)) room in
            record {
              declares = placed.declares;
              functions = rows_same (edition_in T).width R.edition.width ds R.domains ls R.labels r.0 R.functions whole D' (ap (λ (L : Edition). L.width) placed.declares.same_edition) same.0 same.2 same.1 (functions_rows whole tl small fits);
              processes = placed.rows;
            }

    pub functions_out : (u D D' : List ℕ) (a : Result Counted Refusal) (k : Refusal) → u ≡ last_of m t → FunctionsNoted (set T functions_place x) n n 0 u D 0 a D' → a ≡ Err k → FunctionSectionRead t T D (Err k) (set T functions_place x) D'
    unfolding function_section
    functions_out u D D' a k l g q = record {
      answer = λ ds ls z. rules_out (read_functions (edition_in T) (length ds) ls t) _ k (functions_refused u D D' l a g ds ls z k q);
      same_tables = length-set T functions_place x;
      same_directory = g.same_length;
      filled = λ ds ls z whole R w tl small e room. absurd (not_taken (function_section (edition_in T) ds ls t) k R w (then_refused_as (read_functions (edition_in T) (length ds) ls t) _ k (functions_refused u D D' l a g ds ls z k q)) e);
    }

    pub functions_in : (u v D D' T' : List ℕ) (a : Result Counted Refusal) (j c : ℕ) (q : Answer) (w : Result Rules Refusal) → u ≡ last_of m t → FunctionsNoted (set T functions_place x) n n 0 u D 0 a D' → a ≡ found_cells j c → v ≡ last_of j u
        → ProcessSectionRead v (set T functions_place x) q T' → w ≡ joined c q → FunctionSectionRead t T D w T' D'
    functions_in u v D D' T' a j c q w l g y o k d = record {
      answer = λ ds ls z. functions_answer u D D' l a g ds ls z j c v y o q w (k.answer ds ls (r u D D' l a g ds ls z j c v y o).0 (tables u D D' l a g ds ls z j c v y o)) d;
      same_tables = k.same_length ∙ length-set T functions_place x;
      same_directory = g.same_length;
      filled = λ ds ls z. functions_filled u D D' l a g ds ls z j c v y o q T' k;
    }
