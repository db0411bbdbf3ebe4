-- What was admitted and given, said of the struct that it was put into (document 01, "Operations": each call admits and checks everything itself).
use mathlib.Core.Path.{◌≡◌, ap, sym, ◌∙◌, subst}
use mathlib.Core.List.{List}
use Prim.Native.Nat.{ℕ, ◌/◌, ◌≤◌}
use lib.ListN.{length, take, drop}
use Rattle.std.specs.Prelude.{Result}
use Rattle.eb3.specs.Blocks.{stream}
use Rattle.measures.specs.declared.Limits.{Limits}
use Rattle.tables.specs.Layout.{label_count, function_count}
use Rattle.admission.specs.Knowing.{Known}
use Rattle.runs.specs.declared.admitted.Admitted.{Admitted}
use Rattle.given.specs.declared.giving.Given.{Given}
use Rattle.given.specs.Giving.{Described, GivenDone, given_in, found_term}
use Rattle.given.specs.Laws.Giving.{Found, told_found, described_few}
use Rattle.engine.specs.Describing.{AdmittedAs, DescribedBy}
use Rattle.declarations.specs.Directory.{Directory}
use Rattle.cells.specs.Laws.Readying.{few}
use Rattle.steps.specs.Laws.Ruled.{tables_few}
use Rattle.eb3.specs.Operations.{cells_needed}
use native.Mathlib.Omega.{arith}
use Rattle.refusals.specs.declared.Refusal.{Refusal}

-- ── from the rule set alone ──

module _ {rules T D : List ℕ} {l : Limits} (k : Known rules T D l) where
  known_cells : l.cells ≡ cells_needed k.rule_set
  known_cells = ap (λ (x : Limits). x.cells) k.sizes

  pub known_few : (l.cells ≤ 1024) × (label_count T ≤ 64) × (function_count T ≤ 16)
  known_few =
      let b = tables_few k.rule_set k.well.form (drop 2 (stream rules)) T D k.directory in
      (omega (arith, known_cells, few k.rule_set k.well.form T k.directory.declares), b.0, b.1)

  pub known_as : {made : Admitted} → made.functions.words.now ≡ drop 2 (stream rules) → made.tables.now ≡ T → made.functions.directory.now ≡ D → made.functions.cells ≡ l.cells
      → AdmittedAs made k.rule_set
  known_as {made} et eT eD ec = record {
    well = k.well;
    directory =
        subst (λ u. Directory u made.tables.now made.functions.directory.now k.rule_set) (sym et)
        (subst (λ x. Directory (drop 2 (stream rules)) x made.functions.directory.now k.rule_set) (sym eT)
        (subst (λ x. Directory (drop 2 (stream rules)) T x k.rule_set) (sym eD) k.directory));
    cells_are = ec ∙ known_cells;
  }

-- ── from a given term ──

module _ {rules term words₀ : List ℕ} {n : ℕ} {a : Result Given Refusal} {words' T D ws : List ℕ} (d : GivenDone rules term words₀ n a words' T D ws) {c g : ℕ} (e : a ≡ found_term c g) where
  pub found : Found (given_in rules term) c g
  found = told_found rules term words₀ n a words' T D ws d c g e

  module _ {s : List ℕ} (es : s ≡ take (length term / 2) ws) where
    described : Described found.rule_set found.running_term (drop 2 (stream rules)) T D s
    described = subst (λ u. Described found.rule_set found.running_term (drop 2 (stream rules)) T D u) (sym es) (d.described found.rule_set found.running_term found.given_so)

    pub given_few : (length s ≤ 65535) × (c ≤ 1024) × (label_count T ≤ 64) × (function_count T ≤ 16)
    given_few = described_few found.rule_set found.running_term _ T D s described c found.cells_are

    pub given_made : {made : Admitted} → made.functions.words.now ≡ drop 2 (stream rules) → made.tables.now ≡ T → made.functions.directory.now ≡ D → made.functions.cells ≡ c
        → DescribedBy made found.rule_set found.running_term s
    given_made {made} et eT eD ec = record {
      described =
          subst (λ u. Described found.rule_set found.running_term u made.tables.now made.functions.directory.now s) (sym et)
          (subst (λ x. Described found.rule_set found.running_term (drop 2 (stream rules)) x made.functions.directory.now s) (sym eT)
          (subst (λ x. Described found.rule_set found.running_term (drop 2 (stream rules)) T x s) (sym eD) described));
      cells_are = ec ∙ found.cells_are;
    }
