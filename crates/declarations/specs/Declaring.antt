-- What filled tables declare: the domains, labels and functions read so far, then the processes with their measures.
-- Document 01, "Blocks and the rule stream", items 2 to 5; refusals 4 and 5.
use Rattle.std.specs.Prelude.{◌≡◌, List, map, ℕ, ◌+◌, length, get_or, set}
use Rattle.std.proofs.Math.Seq.{paste}
use Rattle.eb3.specs.RuleSets.{Function, Process, RuleSet}
use Rattle.eb3.specs.Measures.{sat, row_of}
use Rattle.tables.specs.Layout.{process_place, size_in, reach_in, breadth_in, body_in, function_count, processes_place}
use Rattle.tables.specs.Tables.{edition_in, declared, callee}

-- These domains and labels.
pub record Heads (T : List ℕ) (domains : List ℕ) (labels : List (List ℕ)) : Type 0 where
  pub same_domains : (declared T).domains ≡ domains
  pub same_labels : (declared T).labels ≡ labels

-- As many functions besides, of one parameter each.
pub record Tables (T : List ℕ) (domains : List ℕ) (labels : List (List ℕ)) (functions : List Function) : Type 0 where
  pub heads : Heads T domains labels
  pub same_functions : function_count T ≡ length functions
  pub one_parameter : (f : ℕ) → get_or (map (λ (F : Function). length F.parameters) functions) f 1 ≡ 1

-- All that a process after those of R is read by, and its processes' measures.
pub record Declares (T : List ℕ) (R : RuleSet) : Type 0 where
  pub same_edition : R.edition ≡ edition_in T
  pub tables : Tables T R.domains R.labels R.functions
  pub same_processes : map (λ (P : Process). P.parameters) (declared T).processes ≡ map (λ (P : Process). P.parameters) R.processes
  pub same_measures : callee T ≡ row_of (sat 65536) R (length R.processes)

-- Process p entered: its row (how many parameters, and they), its measures, and the words left at its term.
unfoldable pub entered_process : List ℕ → ℕ → List ℕ → ℕ → ℕ → ℕ → ℕ → List ℕ
entered_process T p l size reach breadth left =
    set (set (set (set (set (paste T (process_place p) l (length l)) (process_place p + size_in) size) (process_place p + reach_in) reach) (process_place p + breadth_in) breadth) (process_place p + body_in) left) processes_place (p + 1)
