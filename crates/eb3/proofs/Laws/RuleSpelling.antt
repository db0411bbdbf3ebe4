-- The words of a rule set's stream have 16 bits.
use Rattle.std.proofs.Common.{ap}
use Rattle.std.specs.Prelude.{List, [], ◌∷◌, ◌++◌, map, ℕ, ◌≤◌, ◌<◌, get_or}
use native.Mathlib.Omega.{arith}
use Rattle.std.proofs.Math.ListN.{length, length-append}
use Rattle.std.proofs.lemmas.List.{length-map}
use Rattle.eb3.specs.Generic.Lists.{concat_map}
use Rattle.eb3.specs.Expressions.{Undefined}
use Rattle.eb3.specs.Attributes.{number_of_functions}
use Rattle.eb3.specs.Scopes.{arities, start_scope, label_scope, guard_scope}
use Rattle.eb3.specs.RuleSets.{Argument, constant_argument, variable_argument, RuleTerm, rule_internal, rule_perform, rule_sequence, rule_choice, rule_star, rule_parallel, rule_guard, choice_over, parallel_over, call, Function, Process, RuleSet, domain_size, label, no_rule, function_rule, no_process, process, attributes}
use Rattle.eb3.specs.WellFormedness.{ArgumentFits, ArgumentsFit, Allowed, DomainsDefined, FunctionFits, Form}
use Rattle.eb3.specs.Spelling.{number_words, data_words, cond_words}
use Rattle.eb3.specs.RuleSpelling.{one_word, counted_words, argument_words, rule_words, parameter_count, counts_words, function_words, functions_words, process_words, rules_words}
use Rattle.eb3.proofs.Laws.Reading.{picked}
use Rattle.eb3.proofs.Laws.RuleSets.{functions_counted, domain_is}
use Rattle.eb3.proofs.Laws.MainRunning.{small_domains}
use Rattle.eb3.proofs.Laws.Spelling.{Small, small_append, number_small, mask_small, data_small, cond_small}
use Rattle.eb3.specs.Generic.AllLists.{All, at_all}

-- The words of a list of small spellings are small, also with its length before them.
module _ {A : Type 0} (spell : A → List ℕ) where
  row_small : (xs : List A) → All (λ x. Small (spell x)) xs → Small (concat_map spell xs)
  row_small [] h = tt
  row_small (x ∷ xs) h = small_append (spell x) (concat_map spell xs) h.0 (row_small xs h.1)

  counted_small : (xs : List A) → length xs < 65536 → All (λ x. Small (spell x)) xs → Small (counted_words spell xs)
  counted_small xs l h = (l, row_small xs h)

module _ (R : RuleSet) (form : Form R) where
  -- A constant fits its words.
  constant_small : (n : ℕ) → n ≤ R.edition.top → Small (number_words R.edition.width n)
  constant_small n h = number_small R.edition.width n (omega (arith, form.proper.constants.1))

  defined_small : (ds : List ℕ) → DomainsDefined R ds → All (λ d. Small (one_word d)) ds
  defined_small [] h = tt
  defined_small (d ∷ ds) h = ((omega (arith, h.0, form.domain_count), tt), defined_small ds h.1)

  few_functions : number_of_functions (attributes R) ≤ 65536
  few_functions = omega (arith, functions_counted R, form.function_count)

  -- ── functions ──

  arity_small : (f : ℕ) → f < length R.functions → arities (attributes R) f ≤ 2
  arity_small f h = omega (arith, ap length (domain_is R f h), length-map (function_rule R f).parameters (domain_size R), (form.function_forms f h).parameter_count, form.proper.parameters.1)

  function_small : (f : ℕ) → f < length R.functions → Small (function_words R.edition.width (function_rule R f))
  unfolding function_words
  function_small f h =
      small_append (concat_map one_word F.parameters) (data_words R.edition.width F.at_start ++ concat_map (data_words R.edition.width) F.at_label)
      (row_small one_word F.parameters (defined_small F.parameters fits.parameters))
      (small_append (data_words R.edition.width F.at_start) (concat_map (data_words R.edition.width) F.at_label) at_start
      (row_small (data_words R.edition.width) F.at_label (at_all (λ a. Small (data_words R.edition.width a)) Undefined F.at_label at_label)))
    where
      F : Function
      F = function_rule R f

      fits : FunctionFits R f
      fits = form.function_forms f h

      below : f ≤ 65536
      below = omega (arith, form.function_count)

      at_start : Small (data_words R.edition.width F.at_start)
      at_start = data_small R.edition.width (start_scope (attributes R) f) constant_small below (omega arith) (omega (arith, arity_small f h)) F.at_start fits.at_start

      at_label : (l : ℕ) → l < length F.at_label → Small (data_words R.edition.width (get_or F.at_label l Undefined))
      at_label l k =
          let k : l < length R.labels = omega (arith, fits.label_count) in
          data_small R.edition.width (label_scope (attributes R) f (length (label R l))) constant_small below few_functions (omega (arith, arity_small f h, (form.label_forms l k).0))
          (get_or F.at_label l Undefined) (fits.at_label l k)

  counted_functions : (Fs : List Function) → All (λ F. parameter_count F ≤ 2) Fs → Small (map parameter_count Fs)
  counted_functions [] h = tt
  counted_functions (F ∷ Fs) h = (omega (arith, h.0), counted_functions Fs h.1)

  counts_small : Small (counts_words R.edition (map parameter_count R.functions))
  counts_small = picked Small R.edition.counts_written (map parameter_count R.functions) []
      (λ t. counted_functions R.functions (at_all (λ F. parameter_count F ≤ 2) no_rule R.functions (λ f h. omega (arith, (form.function_forms f h).parameter_count, form.proper.parameters.1)))) tt

  -- ── processes ──

  argument_small : (Γ : List ℕ) (d : ℕ) (r : Argument) → length Γ ≤ 8 → ArgumentFits R Γ d r → Small (argument_words R.edition.width r)
  unfolding argument_words
  argument_small Γ d (constant_argument v) l h = (omega arith, constant_small v (omega (arith, small_domains R form d)))
  argument_small Γ d (variable_argument i) l h = (omega arith, (omega (arith, h.0), tt))

  arguments_small : (Γ ds : List ℕ) (rs : List Argument) → length Γ ≤ 8 → ArgumentsFit R Γ ds rs → All (λ r. Small (argument_words R.edition.width r)) rs
  arguments_small Γ [] [] l h = tt
  arguments_small Γ [] (r ∷ rs) l h = absurd h
  arguments_small Γ (d ∷ ds) [] l h = absurd h
  arguments_small Γ (d ∷ ds) (r ∷ rs) l h = (argument_small Γ d r l h.0, arguments_small Γ ds rs l h.1)

  abbrev spelled : RuleTerm → List ℕ
  spelled E = rule_words R.edition.width E

  -- Process i is one of the rule set's; a quantifier is allowed only where one variable more is.
  term_small : (i : ℕ) → i < length R.processes → (Γ : List ℕ) (E : RuleTerm) → length Γ ≤ 8 → Allowed R i Γ E → Small (spelled E)
  unfolding rule_words
  term_small i m Γ rule_internal l h = (omega arith, tt)
  term_small i m Γ (rule_perform k rs) l h =
      (omega arith, (omega (arith, h.0, form.label_count), row_small (argument_words R.edition.width) rs (arguments_small Γ (label R k) rs l h.1)))
  term_small i m Γ (rule_sequence E F) l h = (omega arith, small_append (spelled E) (spelled F) (term_small i m Γ E l h.0) (term_small i m Γ F l h.1))
  term_small i m Γ (rule_choice E F) l h = (omega arith, small_append (spelled E) (spelled F) (term_small i m Γ E l h.0) (term_small i m Γ F l h.1))
  term_small i m Γ (rule_star E) l h = (omega arith, term_small i m Γ E l h)
  term_small i m Γ (rule_parallel Δ E F) l h = (
    omega arith,
    small_append Δ (spelled E ++ spelled F) (mask_small (length R.labels) Δ h.0.1) (small_append (spelled E) (spelled F) (term_small i m Γ E l h.1) (term_small i m Γ F l h.2)),
  )
  term_small i m Γ (rule_guard C E) l h = (
    omega arith,
    small_append (cond_words R.edition.width C) (spelled E)
        (cond_small R.edition.width (guard_scope (attributes R) (length Γ)) constant_small few_functions (omega arith) (omega arith) C h.0) (term_small i m Γ E l h.1),
  )
  term_small i m Γ (choice_over d E) l h =
      (omega arith, (omega (arith, h.0, form.domain_count), term_small i m (Γ ++ (d ∷ [])) E (omega (arith, h.1, length-append Γ (d ∷ []))) h.2))
  term_small i m Γ (parallel_over d Δ E) l h = (
    omega arith,
    (
      omega (arith, h.0, form.domain_count),
      small_append Δ (spelled E) (mask_small (length R.labels) Δ h.2.1) (term_small i m (Γ ++ (d ∷ [])) E (omega (arith, h.1, length-append Γ (d ∷ []))) h.3),
    ),
  )
  term_small i m Γ (call p rs) l h =
      (omega arith, (omega (arith, h.0, form.process_count), row_small (argument_words R.edition.width) rs (arguments_small Γ (process R p).parameters rs l h.1)))

  process_small : (p : ℕ) → p < length R.processes → Small (process_words R.edition.width (process R p))
  unfolding process_words
  process_small p h =
      let P : Process = process R p in
      let few : length P.parameters ≤ 4 = (form.process_heads p h).0 in
      small_append (counted_words one_word P.parameters) (spelled P.term)
      (counted_small one_word P.parameters (omega arith) (defined_small P.parameters (form.process_heads p h).1))
      (term_small p h P.parameters P.term (omega arith) (form.process_terms p h))

pub rules_small : (R : RuleSet) → Form R → Small (rules_words R)
unfolding rules_words functions_words
rules_small R form =
    small_append (counted_words one_word R.domains) (labels ++ (functions ++ processes)) domains_small
    (small_append labels (functions ++ processes) labels_small (small_append functions processes functions_small processes_small))
  where
    labels : List ℕ
    labels = counted_words (counted_words one_word) R.labels

    functions : List ℕ
    functions = functions_words R.edition R.functions

    processes : List ℕ
    processes = counted_words (process_words R.edition.width) R.processes

    domains_small : Small (counted_words one_word R.domains)
    domains_small = counted_small one_word R.domains (omega (arith, form.domain_count)) (at_all (λ n. Small (one_word n)) 0 R.domains (λ d h. (omega (arith, form.domain_sizes d h), tt)))

    labels_small : Small labels
    labels_small = counted_small (counted_words one_word) R.labels (omega (arith, form.label_count)) (at_all (λ ds. Small (counted_words one_word ds)) [] R.labels
        (λ l h. counted_small one_word (label R l) (omega (arith, (form.label_forms l h).0)) (defined_small R form (label R l) (form.label_forms l h).1)))

    functions_small : Small functions
    functions_small = (
      omega (arith, form.function_count),
      small_append (counts_words R.edition (map parameter_count R.functions)) (concat_map (function_words R.edition.width) R.functions) (counts_small R form)
          (row_small (function_words R.edition.width) R.functions (at_all (λ F. Small (function_words R.edition.width F)) no_rule R.functions (function_small R form))),
    )

    processes_small : Small processes
    processes_small = counted_small (process_words R.edition.width) R.processes (omega (arith, form.process_count)) (at_all (λ P. Small (process_words R.edition.width P)) no_process R.processes (process_small R form))
