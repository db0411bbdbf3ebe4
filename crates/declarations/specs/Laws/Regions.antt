-- Words of the tables: a copy and a row word by word, and what is declared by them. Each part of `declared` reads its own region of the tables only:
-- domains below labels_place, labels from there on and below functions_place, the functions' count at functions_place, processes from processes_place on;
-- what keeps a region keeps what is declared there.
-- Document 01, "Blocks and the rule stream", items 2 to 5; refusals 4 and 5.
use Rattle.std.specs.Prelude.{◌≡◌, List, [], ◌++◌, map, ℕ, zero, suc, ◌+◌, ◌≤◌, ◌<◌, length, take, drop, get_or, set, ltb}
use Rattle.std.proofs.Common.{sym, ap, ◌∙◌, subst, arith, length-take, length-drop, length-take-le, get_or-set_same, get_or-set_other, get_or-take, get_or-drop, ext_get_or, lt→ltb}
use Rattle.std.proofs.Math.Decide.{ℕ_discrete}
use Rattle.std.proofs.lemmas.List.{length-map}
use Rattle.std.proofs.Math.ListN.{get_or-map}
use Rattle.std.proofs.Math.Seq.{paste, paste-zero, paste-suc, take-length}
use Rattle.std.proofs.lemmas.List.Edits.{length-paste}
use Rattle.std.proofs.Math.Dec.{ltb→lt}
use Rattle.eb3.specs.Generic.AllLists.{All, all_at}
use Rattle.eb3.specs.RuleSets.{Function, Process, label, no_process}
use Rattle.eb3.specs.Measures.{sat, nothing}
use Rattle.eb3.proofs.Laws.Reading.{pick_true, pick_false}
use Rattle.tables.specs.Layout.{label_place, functions_place, processes_place, process_place, domain_count, label_count, process_count, domains_place, sizes_place, labels_place}
use Rattle.tables.specs.Tables.{row, declared, measure_row, callee}
use Rattle.tables.specs.Laws.Tables.{domains_length, domain_at, labels_length, label_at, processes_length, process_at}
use Rattle.declarations.specs.Declaring.{Heads, Tables}

-- ── a copy, word by word ──

-- Words at the front of others, copied by themselves.
pub paste_front : (T t : List ℕ) (at n : ℕ) → n ≤ length t → paste T at t n ≡ paste T at (take n t) (length (take n t))
paste_front T t at n h = (λ i. take at T ++ sym (take-length (take n t)) i ++ drop (at + sym (length-take-le n t h) i) T)

module _ (d : List ℕ) (at : ℕ) (s : List ℕ) where
  pub paste_before : (n : ℕ) → at + n ≤ length d → n ≤ length s → (i : ℕ) → i < at → get_or (paste d at s n) i 0 ≡ get_or d i 0
  paste_before zero hd hs i h = ap (λ l. get_or l i 0) (sym (paste-zero d at s))
  paste_before (suc n) hd hs i h =
      ap (λ l. get_or l i 0) (sym (paste-suc d at s n 0 (omega arith) (omega arith)))
      ∙ get_or-set_other (paste d at s n) (at + n) i (get_or s n 0) 0 (omega arith)
      ∙ paste_before n (omega arith) (omega arith) i h

  pub paste_inside : (n : ℕ) → at + n ≤ length d → n ≤ length s → (j : ℕ) → j < n → get_or (paste d at s n) (at + j) 0 ≡ get_or s j 0
  paste_inside zero hd hs j h = absurd (let z : ⊥ = omega arith in z)
  paste_inside (suc n) hd hs j h = ap (λ l. get_or l (at + j) 0) (sym (paste-suc d at s n 0 (omega arith) (omega arith))) ∙ go (paste_inside n (omega arith) (omega arith) j) (ℕ_discrete j n)
    where
      go : (j < n → get_or (paste d at s n) (at + j) 0 ≡ get_or s j 0) → Dec (j ≡ n) → get_or (set (paste d at s n) (at + n) (get_or s n 0)) (at + j) 0 ≡ get_or s j 0
      go ih (yes e) = subst (λ k. get_or (set (paste d at s n) (at + n) (get_or s n 0)) (at + k) 0 ≡ get_or s k 0) (sym e)
          (get_or-set_same (paste d at s n) (at + n) (get_or s n 0) 0 (omega (arith, length-paste d at s n (omega arith) (omega arith))))
      go ih (no e) = get_or-set_other (paste d at s n) (at + n) (at + j) (get_or s n 0) 0 (λ q. e (omega (arith, q))) ∙ ih (omega (arith, e))

-- ── a row, word by word ──

pub row_is : (U : List ℕ) (at : ℕ) (l : List ℕ) → at + 1 + length l ≤ length U → get_or U at 0 ≡ length l → ((i : ℕ) → i < length l → get_or U (at + 1 + i) 0 ≡ get_or l i 0) → row U at ≡ l
unfolding row
row_is U at l room c h =
    ap (λ n. take n (drop (at + 1) U)) c
    ∙ ext_get_or 0 (take (length l) (drop (at + 1) U)) l long
    (λ i b. get_or-take (length l) (drop (at + 1) U) i 0 (omega (arith, long)) ∙ get_or-drop (at + 1) U i 0 ∙ h i (omega (arith, long)))
  where
    long : length (take (length l) (drop (at + 1) U)) ≡ length l
    long = length-take-le (length l) (drop (at + 1) U) (omega (arith, length-drop (at + 1) U))

-- A row that ends before the tables do says its length itself.
pub row_count : (T : List ℕ) (at k : ℕ) → at + 1 + k < length T → length (row T at) ≤ k → length (row T at) ≡ get_or T at 0
unfolding row
row_count T at k room short = omega (arith, length-take (get_or T at 0) (drop (at + 1) T), length-drop (at + 1) T)

pub row_at : (T : List ℕ) (at i : ℕ) → i < get_or T at 0 → get_or (row T at) i 0 ≡ get_or T (at + 1 + i) 0
unfolding row
row_at T at i h = get_or-take (get_or T at 0) (drop (at + 1) T) i 0 h ∙ get_or-drop (at + 1) T i 0

pub row_kept : (T U : List ℕ) (at k : ℕ) → length U ≡ length T → at + 1 + k < length T → length (row T at) ≤ k → ((i : ℕ) → at ≤ i → i ≤ at + k → get_or U i 0 ≡ get_or T i 0) → row U at ≡ row T at
row_kept T U at k as_long room short h =
    row_is U at (row T at) (omega arith) (h at (omega arith) (omega arith) ∙ sym (row_count T at k room short))
    (λ i b. h (at + 1 + i) (omega arith) (omega arith) ∙ sym (row_at T at i (omega (arith, row_count T at k room short))))

-- ── what keeps a region keeps what is declared there ──

module _ (T U : List ℕ) where
  pub domains_kept : domain_count T ≤ 16 → ((i : ℕ) → i < labels_place → get_or U i 0 ≡ get_or T i 0) → (declared U).domains ≡ (declared T).domains
  domains_kept few h = ext_get_or 0 (declared U).domains (declared T).domains (domains_length U ∙ h domains_place (omega arith) ∙ sym (domains_length T))
      (λ d b. domain_at U d (omega (arith, domains_length U)) ∙ h (sizes_place d) (omega (arith, domains_length U, h domains_place (omega arith)))
      ∙ sym (domain_at T d (omega (arith, domains_length U, h domains_place (omega arith)))))

  pub labels_kept : processes_place ≤ length T → length U ≡ length T → label_count T ≤ 64 → All (λ l. length l ≤ 2) (declared T).labels → ((i : ℕ) → labels_place ≤ i → i < functions_place → get_or U i 0 ≡ get_or T i 0)
      → (declared U).labels ≡ (declared T).labels
  labels_kept room as_long few short h = ext_get_or [] (declared U).labels (declared T).labels (labels_length U ∙ count ∙ sym (labels_length T)) (λ l b. at l (omega (arith, labels_length U, count)))
    where
      count : label_count U ≡ label_count T
      count = h labels_place (omega arith) (omega arith)

      at : (l : ℕ) → l < label_count T → label (declared U) l ≡ label (declared T) l
      at l b =
          label_at U l (omega (arith, count))
          ∙ row_kept T U (label_place l) 2 as_long (omega arith)
          (subst (λ r. length r ≤ 2) (label_at T l b) (all_at (λ r. length r ≤ 2) (declared T).labels short l [] (omega (arith, labels_length T))))
          (λ i p q. h i (omega arith) (omega arith))
          ∙ sym (label_at T l b)

  pub heads_kept : processes_place ≤ length T → length U ≡ length T → domain_count T ≤ 16 → label_count T ≤ 64 → All (λ l. length l ≤ 2) (declared T).labels → ((i : ℕ) → i < functions_place → get_or U i 0 ≡ get_or T i 0)
      → (ds : List ℕ) (ls : List (List ℕ)) → Heads T ds ls → Heads U ds ls
  heads_kept room as_long domains labels short h ds ls k = record {
    same_domains = domains_kept domains (λ i b. h i (omega arith)) ∙ k.same_domains;
    same_labels = labels_kept room as_long labels short (λ i a b. h i b) ∙ k.same_labels;
  }

  pub tables_kept : processes_place ≤ length T → length U ≡ length T → domain_count T ≤ 16 → label_count T ≤ 64 → All (λ l. length l ≤ 2) (declared T).labels → ((i : ℕ) → i < processes_place → get_or U i 0 ≡ get_or T i 0)
      → (ds : List ℕ) (ls : List (List ℕ)) (fs : List Function) → Tables T ds ls fs → Tables U ds ls fs
  tables_kept room as_long domains labels short h ds ls fs k = record {
    heads = heads_kept room as_long domains labels short (λ i b. h i (omega arith)) ds ls k.heads;
    same_functions = h functions_place (omega arith) ∙ k.same_functions;
    one_parameter = k.one_parameter;
  }

-- ── processes, by their parameters and measures ──

module _ (T : List ℕ) where
  pub callee_at : (p : ℕ) → p < process_count T → callee T p ≡ measure_row T p
  unfolding callee
  callee_at p h = pick_true (measure_row T p) (nothing (sat 65536)) (ltb p (process_count T)) (lt→ltb p (process_count T) h)

  pub callee_beyond : (p : ℕ) → process_count T ≤ p → callee T p ≡ nothing (sat 65536)
  unfolding callee
  callee_beyond p h = pick_false (measure_row T p) (nothing (sat 65536)) (ltb p (process_count T)) (λ t. let z : ⊥ = omega (arith, ltb→lt p (process_count T) t) in z)

  -- Their parameters are those of given processes: as many, and row by row.
  module _ (ps : List Process) where
    pub count_of_same : map (λ (P : Process). P.parameters) (declared T).processes ≡ map (λ (P : Process). P.parameters) ps → process_count T ≡ length ps
    count_of_same e = sym (processes_length T) ∙ sym (length-map (declared T).processes (λ (P : Process). P.parameters)) ∙ ap length e ∙ length-map ps (λ (P : Process). P.parameters)

    pub row_of_same : map (λ (P : Process). P.parameters) (declared T).processes ≡ map (λ (P : Process). P.parameters) ps → (p : ℕ) → p < length ps → row T (process_place p) ≡ (get_or ps p no_process).parameters
    row_of_same e p h =
        sym (process_at T p (omega (arith, count_of_same e)))
        ∙ sym (get_or-map (λ (P : Process). P.parameters) (declared T).processes p no_process)
        ∙ ap (λ l. get_or l p []) e
        ∙ get_or-map (λ (P : Process). P.parameters) ps p no_process

    pub same_by_rows : process_count T ≡ length ps → ((p : ℕ) → p < length ps → row T (process_place p) ≡ (get_or ps p no_process).parameters)
        → map (λ (P : Process). P.parameters) (declared T).processes ≡ map (λ (P : Process). P.parameters) ps
    same_by_rows c h = ext_get_or [] _ _ (long ∙ c ∙ sym (length-map ps (λ (P : Process). P.parameters))) λ p b.
        get_or-map (λ (P : Process). P.parameters) (declared T).processes p no_process
        ∙ process_at T p (omega (arith, long))
        ∙ h p (omega (arith, long, c))
        ∙ sym (get_or-map (λ (P : Process). P.parameters) ps p no_process)
      where
        long : length (map (λ (P : Process). P.parameters) (declared T).processes) ≡ process_count T
        long = length-map (declared T).processes (λ (P : Process). P.parameters) ∙ processes_length T
