-- What a rule set's form says of the cells in a store (document 01, "Memory and the history machine").
use Rattle.std.specs.Prelude.{◌≡◌, List, [], ℕ, ◌≤◌, ◌<◌, length}
use Rattle.std.proofs.Common.{sym, subst, arith}
use Rattle.std.proofs.Math.Option.{none, some}
use Rattle.eb3.specs.Values.{Value}
use Rattle.eb3.specs.Expressions.{no_reading}
use Rattle.eb3.specs.Terms.{VisibleAction, visible}
use Rattle.eb3.specs.Attributes.{Attributes, number_of_functions}
use Rattle.eb3.specs.Cells.{total_cells, cell_at, initial_cells, renew}
use Rattle.eb3.proofs.Laws.Cells.{length_cells, initial_values, values_at_most, renew_at_most}
use Rattle.eb3.specs.Values.{ValuesAtMost}
use Rattle.eb3.specs.RuleSets.{RuleSet, label, attributes}
use Rattle.eb3.proofs.Laws.RuleSets.{functions_counted}
use Rattle.eb3.proofs.Laws.Running.{expressions_in_scope, elements_small, parameters_small}
use Rattle.eb3.specs.WellFormedness.{WellFormedAction, Form}
use Rattle.tables.specs.Laws.Editions.{top_in_tables}
use Rattle.declarations.specs.Declaring.{Declares}
use Rattle.expressions.specs.Stores.{stored, row_place}
use Rattle.cells.specs.Layout.{Laid}
use Rattle.cells.specs.Laws.Reads.{row_cells}
use Rattle.cells.specs.Laws.Readying.{domain_of}

module _ (R : RuleSet) (form : Form R) where
  abbrev A : Attributes
  A = attributes R

  -- ── the cells of the start, and renewed ones: as many as there are ──

  pub initial_counted : length (initial_cells A) ≡ total_cells A
  unfolding initial_cells
  initial_counted = length_cells A none no_reading (number_of_functions A)

  pub renewed_counted : (cells : List Value) (a : VisibleAction) → length (renew A cells a) ≡ total_cells A
  unfolding renew
  renewed_counted cells a = length_cells A (some a) (cell_at A cells) (number_of_functions A)

  module _ (T : List ℕ) (says : Declares T R) where
    -- A function's row in a store says at most 64 cells.
    pub rows_few : (M : List ℕ) → Laid A M → (f : ℕ) → f < length R.functions → stored M (row_place f) ≤ 64
    rows_few M laid f h =
        let l : f < number_of_functions A = omega (arith, functions_counted R) in
        subst (λ n. n ≤ 64) (row_cells A M f (laid f l)) (domain_of R form T says f h).few_cells

    -- ── and they are numbers of the edition ──

    pub initial_at_most : ValuesAtMost 65534 (initial_cells A)
    initial_at_most =
        subst (λ n. ValuesAtMost n (initial_cells A)) (top_in_tables T R says.same_edition)
        (subst (ValuesAtMost R.edition.top) (sym (initial_values A))
        (values_at_most A (λ l. length (label R l)) (expressions_in_scope R form) (parameters_small R form) [] tt))

    pub renewed_at_most : (cells : List Value) (a : VisibleAction) → WellFormedAction R (visible a) → ValuesAtMost 65534 cells → ValuesAtMost 65534 (renew A cells a)
    renewed_at_most cells a good h =
        subst (λ n. ValuesAtMost n (renew A cells a)) (top_in_tables T R says.same_edition)
        (renew_at_most A (λ l. length (label R l)) (expressions_in_scope R form) (parameters_small R form) cells a
        (subst (λ n. ValuesAtMost n cells) (sym (top_in_tables T R says.same_edition)) h) (elements_small R form (label R a.label) a.arguments good.1))
