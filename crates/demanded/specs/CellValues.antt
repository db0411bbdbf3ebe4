-- Demand 3 cell by cell: after Run the word at the cell of function f and element x is the value of f at x over the machine's whole list (document 01,
-- "Memory and the history machine": one cell for each function and element of its domain, in that order); proved in Laws/CellValues.
use Rattle.std.specs.Prelude.{◌≡◌, [], ◌∷◌, ℕ, zero, suc, ◌+◌, ◌≤◌, ◌<◌, length, get_or}
use Rattle.eb3.specs.Values.{encode}
use Rattle.eb3.specs.Attributes.{domain, attribute_value}
use Rattle.eb3.specs.Cells.{cell_index, offset, total_cells}
use Rattle.eb3.specs.Semantics.{Sem_T}
use Rattle.eb3.specs.Machines.{Machine}
use Rattle.eb3.specs.RuleSets.{RuleSet, domain_size, function_rule, attributes}
use Rattle.eb3.specs.Bytes.{words_in, word_count}
use Rattle.eb3.specs.Answers.{Ran, Written}
use Rattle.eb3.specs.Demands.{last_trace}

-- How many elements function f's domain has.
abbrev pub elements : RuleSet → ℕ → ℕ
elements R f = domain_size R (get_or (function_rule R f).parameters 0 0)

-- Function by function, and in a function element by element: the number of cells before function f's.
unfoldable pub cells_before : RuleSet → ℕ → ℕ
cells_before R zero = 0
cells_before R (suc f) = cells_before R f + elements R f

-- The words of a memory, with a word for each cell (65,535 for undefined).
pub record CellValues (R : RuleSet) (h : Machine (Sem_T (attributes R))) (w : Written Ran) : Type 0 where
  pub cell : (f : ℕ) → f < length R.functions → (x : ℕ) → x < elements R f
      → get_or (words_in w.memory) (cells_before R f + x) 0 ≡ encode 65535 (attribute_value (attributes R) (last_trace R h) f (x ∷ []))
  pub all_cells : cells_before R (length R.functions) ≤ word_count w.memory
  -- There are no more cells than these; what is said of the cell of f and x elsewhere (`Admitted.cell_renewed`) is said of the same place; a function's
  -- domain, outside which now and before are undefined, is what its parameter says.
  pub cell_count : total_cells (attributes R) ≡ cells_before R (length R.functions)
  pub cell_place : (f : ℕ) → f < length R.functions → (x : ℕ) → offset (attributes R) f + cell_index (domain (attributes R) f) (x ∷ []) ≡ cells_before R f + x
  pub domain_is : (f : ℕ) → f < length R.functions → domain (attributes R) f ≡ elements R f ∷ []
