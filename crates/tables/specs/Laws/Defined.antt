-- What a rule set's form says of its edition and of its functions' parameters, where the edition is one that is defined: constants of one word, 65,534 as the
-- largest number, one parameter for each function, at most 1,024 cells (document 01, "Values and conditions", "Blocks and the rule stream", items 1, 2 and 4).
use Rattle.std.specs.Prelude.{◌≡◌}
use Rattle.std.proofs.Common.{ap, ◌∙◌}
use Prim.Native.Nat.{ℕ, ◌≤◌, ◌<◌}
use native.Mathlib.Omega.{arith}
use Rattle.std.proofs.Math.Decide.{dec_lt}
use Rattle.std.proofs.Math.ListN.{length}
use Rattle.std.proofs.lemmas.List.{length-map}
use Rattle.eb3.specs.Editions.{Edition, Defined, Proper}
use Rattle.eb3.specs.Scopes.{arities}
use Rattle.eb3.specs.Cells.{total_cells}
use Rattle.eb3.specs.RuleSets.{RuleSet, domain_size, function_rule, attributes}
use Rattle.eb3.specs.WellFormedness.{Form}
use Rattle.eb3.proofs.Laws.Attributes.{no_domain_beyond}
use Rattle.eb3.proofs.Laws.RuleSets.{functions_counted, domain_is}
use Rattle.eb3.proofs.Laws.Editions.{only_edition_1}
use Rattle.eb3.proofs.Laws.CellCounts.{one_parameter_each, cells_below as cells_at_most}

pub form_proper : {R : RuleSet} → Form R → Proper R.edition
form_proper form = form.proper

pub width_is_1 : {R : RuleSet} → Form R → Defined R.edition → R.edition.width ≡ 1
width_is_1 {R} form defined = ap (λ (L : Edition). L.width) (only_edition_1 R.edition defined)

pub top_is_65534 : {R : RuleSet} → Form R → Defined R.edition → R.edition.top ≡ 65534
top_is_65534 {R} form defined = ap (λ (L : Edition). L.top) (only_edition_1 R.edition defined)

pub parameters_are_1 : {R : RuleSet} → Form R → Defined R.edition → R.edition.function_parameters ≡ 1
parameters_are_1 {R} form defined = ap (λ (L : Edition). L.function_parameters) (only_edition_1 R.edition defined)

module _ (R : RuleSet) (form : Form R) (defined : Defined R.edition) where
  pub one_parameter_count : (f : ℕ) → f < length R.functions → (1 ≤ length (function_rule R f).parameters) × (length (function_rule R f).parameters ≤ 1)
  one_parameter_count f h = ((form.function_forms f h).parameter_count.0, omega (arith, parameters_are_1 form defined, (form.function_forms f h).parameter_count.1))

  -- A function that is not there counts as one of one parameter.
  pub one_arity : (f : ℕ) → arities (attributes R) f ≡ 1
  one_arity f = go (dec_lt f (length R.functions))
    where
      go : Dec (f < length R.functions) → arities (attributes R) f ≡ 1
      go (yes h) =
          let c = one_parameter_count f h in
          let l : length (function_rule R f).parameters ≡ 1 = omega (arith, c.0, c.1) in
          ap length (domain_is R f h) ∙ length-map (function_rule R f).parameters (domain_size R) ∙ l
      go (no h) = ap length (no_domain_beyond (attributes R) f (omega (arith, functions_counted R)))

  pub cells_below : total_cells (attributes R) ≤ 1024
  cells_below = cells_at_most R form (one_parameter_each R form (parameters_are_1 form defined))
