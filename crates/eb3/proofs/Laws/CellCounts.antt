-- A rule set whose functions have one parameter each has at most 1,024 cells: at most 16 functions, each with a parameter of at most 64 elements
-- (document 01, "Blocks and the rule stream", items 2 and 4).
use Rattle.std.specs.Prelude.{◌≡◌}
use Rattle.std.proofs.Common.{sym}
use Rattle.std.proofs.Math.Path.{subst}
use mathlib.Core.List.{List, [], ◌∷◌}
use Prim.Native.Nat.{ℕ, zero, suc, ◌*◌, ◌≤◌, ◌<◌}
use native.Mathlib.Omega.{arith}
use Rattle.std.proofs.Math.Decide.{dec_lt}
use Rattle.std.proofs.Math.ListN.{length}
use Rattle.eb3.specs.Attributes.{domain, number_of_functions}
use Rattle.eb3.proofs.Laws.Attributes.{no_domain_beyond}
use Rattle.eb3.specs.Cells.{cell_count, offset, total_cells}
use Rattle.eb3.specs.RuleSets.{RuleSet, sizes_of, function_rule, attributes}
use Rattle.eb3.proofs.Laws.RuleSets.{functions_counted, domain_is}
use Rattle.eb3.proofs.Laws.Elements.{small_domain}
use Rattle.eb3.specs.WellFormedness.{Form}

-- In an edition whose functions have at most one parameter, each has one.
pub one_parameter_each : (R : RuleSet) → Form R → R.edition.function_parameters ≡ 1 → (f : ℕ) → f < length R.functions → length (function_rule R f).parameters ≡ 1
one_parameter_each R form one f h = let c = (form.function_forms f h).parameter_count in omega (arith, one, c.0, c.1)

module _ (R : RuleSet) (form : Form R) (each : (f : ℕ) → f < length R.functions → length (function_rule R f).parameters ≡ 1) where
  few_cells : (ds : List ℕ) → length ds ≡ 1 → cell_count (sizes_of R ds) ≤ 64
  unfolding cell_count
  few_cells [] h = let z : ⊥ = omega arith in absurd z
  few_cells (d ∷ []) h = omega (arith, small_domain R form d)
  few_cells (d ∷ e ∷ ds) h = let z : ⊥ = omega arith in absurd z

  function_cells : (f : ℕ) → cell_count (domain (attributes R) f) ≤ 64
  unfolding cell_count
  function_cells f = go (dec_lt f (length R.functions))
    where
      go : Dec (f < length R.functions) → cell_count (domain (attributes R) f) ≤ 64
      go (yes h) = subst (λ ns. cell_count ns ≤ 64) (sym (domain_is R f h)) (few_cells (function_rule R f).parameters (each f h))
      go (no h) = subst (λ ns. cell_count ns ≤ 64) (sym (no_domain_beyond (attributes R) f (omega (arith, functions_counted R)))) (omega arith)

  offset_below : (f : ℕ) → offset (attributes R) f ≤ 64 * f
  unfolding offset
  offset_below zero = omega arith
  offset_below (suc f) = omega (arith, offset_below f, function_cells f)

  pub cells_below : total_cells (attributes R) ≤ 1024
  cells_below = omega (arith, offset_below (number_of_functions (attributes R)), functions_counted R, form.function_count)
