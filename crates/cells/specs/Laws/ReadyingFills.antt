-- When a store made ready is to be filled: at the start, by the expressions for the empty trace, and after a visible action, by those for its label
-- (document 01, "Memory and the history machine").
use Rattle.std.specs.Prelude.{◌≡◌, List, ◌∷◌, ℕ, suc, ◌+◌, ◌*◌, ◌≤◌, ◌<◌, length}
use Rattle.std.proofs.Math.Path.{sym, ap}
use Rattle.std.proofs.Common.{◌∙◌, subst, arith, lit<}
use Rattle.std.proofs.Math.Option.{none, some}
use Rattle.std.proofs.Math.ListN.{get_or}
use Rattle.eb3.specs.Generic.AllLists.{all_at}
use Rattle.eb3.specs.Values.{Value, undefined, number, encode, decode}
use Rattle.eb3.proofs.Laws.Values.{decode_encode}
use Rattle.eb3.specs.Expressions.{Undefined, no_reading, variables}
use Rattle.eb3.specs.Terms.{VisibleAction, visible}
use Rattle.eb3.specs.Attributes.{Attributes, AttributeFunction}
use Rattle.eb3.specs.Scopes.{DataInScope, start_scope, label_scope}
use Rattle.eb3.specs.Cells.{total_cells, cell_at}
use Rattle.eb3.specs.Values.{ValuesAtMost}
use Rattle.eb3.specs.RuleSets.{RuleSet, label, function_rule, attributes}
use Rattle.eb3.proofs.Laws.RuleSets.{get_d_map, functions_counted, function_is}
use Rattle.eb3.proofs.Laws.Elements.{within_small, arguments_counted, arguments_two}
use Rattle.eb3.specs.Spelling.{data_words}
use Rattle.eb3.specs.WellFormedness.{WellFormedAction, Form}
use Rattle.tables.specs.Laws.Editions.{top_in_tables}
use Rattle.declarations.specs.Laws.Declaring.{arity_is_one}
use Rattle.declarations.specs.Directory.{Stands, row_width, Directory, at_start_in, at_label_in}
use Rattle.expressions.specs.Stores.{stored, now_place, before_place, variable_in, row_place}
use Rattle.cells.specs.Layout.{Laid, Holds}
use Rattle.cells.specs.Filling.{Ready, Filling}
use Rattle.cells.specs.Preparing.{Prepared}
use Rattle.cells.specs.Laws.Reads.{reads_cells}
use Rattle.cells.specs.Laws.Readying.{standing_at, plain_start, plain_label, directory_row, rows_laid, rows_small}

module _ (R : RuleSet) (form : Form R) where
  abbrev A : Attributes
  A = attributes R

  -- ── an action's arguments ──

  module _ (a : VisibleAction) (good : WellFormedAction R (visible a)) where
    variable_read : (M : List ℕ) (i : ℕ) → i < length a.arguments → stored M (suc i) ≡ get_or a.arguments i 0 → variable_in M (suc i) ≡ variables a.arguments i
    unfolding variable_in variables encode
    variable_read M i h e =
        let x : get_or a.arguments i 0 < 64 = all_at (λ x. x < 64) a.arguments (within_small R form (label R a.label) a.arguments good.1) i 0 h in
        ap (decode 65534) e
        ∙ decode_encode 65534 65535 (lit< tt) (number (get_or a.arguments i 0)) (omega arith)
        ∙ sym (get_d_map number a.arguments i 0 undefined h)

  module _ (t T D : List ℕ) (d : Directory t T D R) where
    abbrev w : ℕ
    w = row_width (length R.labels)

    -- ── at the start ──

    start_ready : (M : List ℕ) (f : ℕ) → f < length R.functions → Ready A none no_reading t D M w at_start_in f
    start_ready M f h = record {
      scope = start_scope A f;
      plain = plain_start R form T d.declares f;
      names_below = omega arith;
      names_known = omega arith;
      variables_few = omega (arith, arity_is_one R d.declares.tables.one_parameter f);
      in_scope = subst (λ (F : AttributeFunction). DataInScope F.at_start (start_scope A f)) (sym (function_is R f h)) (form.function_forms f h).at_start;
      stands = subst (λ (F : AttributeFunction). Stands t (get_or D (w * f + at_start_in) 0) (data_words R.edition.width F.at_start)) (sym (function_is R f h)) (directory_row R form t T D d f h).expressions.0;
      before_reads = λ g l vs. absurd (let z : ⊥ = omega arith in z);
    }

    pub start_filling : (M M' : List ℕ) → Prepared D M M' w (length R.functions) (total_cells A) → now_place + total_cells A ≤ length M'
        → Filling A none no_reading t D M' w at_start_in (length R.functions)
    start_filling M M' p room = record {
      functions = sym (functions_counted R);
      largest = top_in_tables T R d.declares.same_edition;
      laid = rows_laid R form t T D d M M' p;
      small = rows_small R form t T D d M M' p;
      room = room;
      apart = omega (arith, p.old_cells);
      arguments_few = omega arith;
      variables_there = λ i l. absurd (let z : ⊥ = omega arith in z);
      ready = start_ready M';
    }

    -- ── after a visible action ──

    module _ (a : VisibleAction) (good : WellFormedAction R (visible a)) (M : List ℕ) (laid : Laid A M) (cells : List Value) (all : length cells ≡ total_cells A) (at_most : ValuesAtMost 65534 cells) (old : Holds M (before_place M) cells) where
      label_stands : (f : ℕ) → f < length R.functions → Stands t (get_or D (w * f + at_label_in a.label) 0) (data_words R.edition.width (get_or (function_rule R f).at_label a.label Undefined))
      label_stands f h =
          let e : w * f + at_start_in + suc a.label ≡ w * f + at_label_in a.label = omega arith in
          let l : suc a.label < length ((function_rule R f).at_start ∷ (function_rule R f).at_label) = omega (arith, good.0, (form.function_forms f h).label_count) in
          subst (λ n. Stands t (get_or D n 0) (data_words R.edition.width (get_or (function_rule R f).at_label a.label Undefined))) e
          (standing_at R.edition.width t D (w * f + at_start_in) ((function_rule R f).at_start ∷ (function_rule R f).at_label) (directory_row R form t T D d f h).expressions (suc a.label) l)

      renew_ready : (f : ℕ) → f < length R.functions → Ready A (some a) (cell_at A cells) t D M w (at_label_in a.label) f
      renew_ready f h = record {
        scope = label_scope A f (length (label R a.label));
        plain = plain_label R form T d.declares f (length (label R a.label));
        names_below = omega arith;
        names_known = omega arith;
        variables_few = omega (arith, arity_is_one R d.declares.tables.one_parameter f, arguments_counted R form a good);
        in_scope = subst (λ (F : AttributeFunction). DataInScope (get_or F.at_label a.label Undefined) (label_scope A f (length (label R a.label)))) (sym (function_is R f h)) ((form.function_forms f h).at_label a.label good.0);
        stands = subst (λ (F : AttributeFunction). Stands t (get_or D (w * f + at_label_in a.label) 0) (data_words R.edition.width (get_or F.at_label a.label Undefined))) (sym (function_is R f h)) (label_stands f h);
        before_reads = λ g l vs. reads_cells A M laid cells all at_most (before_place M) old g l vs;
      }

      pub renew_filling : ((f : ℕ) → f < length R.functions → stored M (row_place f) ≤ 64) → now_place + total_cells A ≤ length M → now_place + total_cells A ≤ before_place M
          → ((i : ℕ) → i < length a.arguments → stored M (suc i) ≡ get_or a.arguments i 0)
          → Filling A (some a) (cell_at A cells) t D M w (at_label_in a.label) (length R.functions)
      renew_filling small room apart given = record {
        functions = sym (functions_counted R);
        largest = top_in_tables T R d.declares.same_edition;
        laid = laid;
        small = small;
        room = room;
        apart = apart;
        arguments_few = arguments_two R form a good;
        variables_there = λ i h. variable_read a good M i h (given i h);
        ready = renew_ready;
      }
