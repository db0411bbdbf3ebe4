-- What holds of every rule set that is admitted, with no further hypothesis (document 01, "Blocks and the rule stream", "Unfolding, size and
-- breadth", "Memory and the history machine"); proved in Laws/Admitted.
use Rattle.std.specs.Prelude.{◌≡◌, ◌↔◌, ℕ, ◌+◌, ◌-◌, ◌*◌, ◌≤◌, ◌<◌, replicate}
use mathlib.Core.List.{List, [], ◌∷◌, ◌++◌}
use Rattle.std.proofs.Math.Option.{some}
use Rattle.std.proofs.Math.ListN.{length, get_or}
use Rattle.eb3.specs.Generic.Lists.{Within}
use Rattle.eb3.specs.Generic.Positions.{Enumeration}
use Rattle.eb3.specs.Values.{Value, undefined, AtMost}
use Rattle.eb3.specs.Expressions.{Undefined, no_reading, environment, evaluate_data}
use Rattle.eb3.specs.Terms.{Term, Action, VisibleAction}
use Rattle.eb3.specs.Derivations.{DataState}
use Rattle.eb3.specs.Attributes.{Trace, domain, attribute_value, value_at}
use Rattle.eb3.specs.Cells.{offset, total_cells, cell_index, cell_at, initial_cells, renew}
use Rattle.eb3.specs.Semantics.{Situation, situation, system}
use Rattle.eb3.specs.TransitionSystems.{Transition}
use Rattle.eb3.specs.Editions.{edition_1}
use Rattle.eb3.specs.RuleSets.{RuleSet, function_rule, main_process, attributes}
use Rattle.eb3.specs.Unfolding.{unfold_main}
use Rattle.eb3.specs.SourceTerms.{s_call, SourceDerivation, SourceEarlier, unfold_source}
use Rattle.eb3.specs.WellFormedness.{WellFormedAction, WellFormedTrace, Running, WellFormed}
use Rattle.eb3.specs.Measures.{sat, measure_of, measure_main}
use Rattle.eb3.specs.Spelling.{words}
use Rattle.eb3.specs.RuleSpelling.{stream_words}
use Rattle.eb3.specs.TermReading.{given_term, given_event, term_of_action}
use Rattle.eb3.specs.Blocks.{content_words, block_count, stream}

-- What a source term's derivation concludes, its successor unfolded.
abbrev pub concluded_source : {R : RuleSet} {S : DataState} {M : S.State} → SourceDerivation R S M (s_call (main_process R) []) → Transition (Situation S)
concluded_source {R} x = record { action = x.action; target = situation (unfold_source R x.successor) x.state }

pub record Admitted (rules : List ℕ) (R : RuleSet) : Type 1 where
  -- It is what document 01 asks of a rule set, and the stream spells it and nothing else: zeros follow, fewer than a block has words, so that its last
  -- used word is in the last block.
  pub well_formed : WellFormed R
  -- Its edition is document 01's: what is said below by the edition's numbers is said by 65,534 and by constants of one word.
  pub of_edition_1 : R.edition ≡ edition_1
  pub spelled : stream rules ≡ stream_words (block_count rules) R ++ replicate (content_words * block_count rules - length (stream_words (block_count rules) R)) 0
  pub in_last_block : (content_words * (block_count rules - 1) < length (stream_words (block_count rules) R)) × (length (stream_words (block_count rules) R) ≤ content_words * block_count rules)
  -- Main's unfolding is a running term; at every state its listed moves are the derivations of the call of main, rule S_M-11 included.
  pub starts : Running R (unfold_main R)
  pub main_derived : (S : DataState) (M : S.State)
      → Enumeration (SourceDerivation R S M (s_call (main_process R) [])) SourceEarlier concluded_source ((system S).transitions (situation (unfold_main R) M))
  -- Its size, reach and breadth are found without unfolding, each number cut off at 65,536.
  pub measured : measure_main (sat 65536) R ≡ measure_of R.edition.width (unfold_main R)
  -- A function's value over a trace: its empty-trace expression, or its expression for the last label.
  pub value_empty : (f : ℕ) → f < length R.functions → (xs : List ℕ)
      → attribute_value (attributes R) [] f xs ≡ evaluate_data (function_rule R f).at_start (environment R.edition.top xs (value_at (attributes R) []) no_reading)
  pub value_last : (f : ℕ) → f < length R.functions → (xs : List ℕ) (a : VisibleAction) (H : Trace)
      → attribute_value (attributes R) (a ∷ H) f xs ≡ evaluate_data (get_or (function_rule R f).at_label a.label Undefined) (environment R.edition.top (xs ++ a.arguments) (value_at (attributes R) (a ∷ H)) (value_at (attributes R) H))
  pub value_bounded : (f : ℕ) → f < length R.functions → (H : Trace) → WellFormedTrace R H → (xs : List ℕ) → Within (domain (attributes R) f) xs → AtMost R.edition.top (attribute_value (attributes R) H f xs)
  -- A cell, of function f at xs, of the start's memory and of one that a visible action renews: now reads the new cells, before the old ones.
  pub cell_start : (f : ℕ) → f < length R.functions → (xs : List ℕ) → Within (domain (attributes R) f) xs
      → get_or (initial_cells (attributes R)) (offset (attributes R) f + cell_index (domain (attributes R) f) xs) undefined
      ≡ evaluate_data (function_rule R f).at_start (environment R.edition.top xs (cell_at (attributes R) (initial_cells (attributes R))) no_reading)
  pub cell_renewed : (f : ℕ) → f < length R.functions → (xs : List ℕ) → Within (domain (attributes R) f) xs → (M : List Value) (a : VisibleAction)
      → get_or (renew (attributes R) M a) (offset (attributes R) f + cell_index (domain (attributes R) f) xs) undefined
      ≡ evaluate_data (get_or (function_rule R f).at_label a.label Undefined) (environment R.edition.top (xs ++ a.arguments) (cell_at (attributes R) (renew (attributes R) M a)) (cell_at (attributes R) M))
  pub cell_counts : (M : List Value) (a : VisibleAction) → (length (initial_cells (attributes R)) ≡ total_cells (attributes R)) × (length (renew (attributes R) M a) ≡ total_cells (attributes R))
  -- A given term is accepted exactly if it spells a running term within the limits, an event exactly if it spells a leaf; and they are read as that.
  pub term_accepted : (ws : List ℕ) (E : Term) → (given_term R ws ≡ some E) ↔ ((ws ≡ words R.edition.width E) × Running R E)
  pub event_accepted : (ws : List ℕ) (ρ : Action) → (given_event R ws ≡ some ρ) ↔ ((ws ≡ words R.edition.width (term_of_action ρ)) × WellFormedAction R ρ)
