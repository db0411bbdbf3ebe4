-- What the reader of the rule stream takes is a rule set of the required form, spelled by exactly the words taken (document 01, "Blocks and the
-- rule stream", refusals 4 to 6): `rules_sound`.
use Rattle.std.specs.Prelude.{◌≡◌, get_or}
use Rattle.std.proofs.Math.Path.{refl, ap, sym, subst, fun_ext}
use Rattle.std.proofs.Common.{◌∙◌, arith, length-append}
use mathlib.Core.List.{List, [], ◌∷◌, ◌++◌, map, append-nil, append_assoc}
use Prim.Native.Nat.{ℕ, zero, suc, ◌+◌, ◌≤◌, ◌<◌}
use Rattle.std.proofs.Math.Decide.{dec_lt}
use Rattle.std.proofs.Math.ListN.{length, get_or-append, get_or-eq_default}
use Rattle.std.proofs.lemmas.List.{length-map}
use Rattle.eb3.specs.Limits
use Rattle.eb3.specs.Refusal
use Rattle.eb3.specs.Generic.Lists.{concat_map}
use Rattle.eb3.specs.Expressions.{Data, Undefined}
use Rattle.eb3.specs.Scopes.{DataInScope, arities, start_scope, label_scope}
use Rattle.eb3.specs.Editions.{Edition, Proper}
use Rattle.eb3.specs.RuleSets.{Argument, constant_argument, variable_argument, RuleTerm, rule_internal, rule_perform, rule_sequence, rule_choice, rule_star, rule_parallel, rule_guard, choice_over, parallel_over, call, Function, Process, RuleSet, domain_size, label, no_rule, function_rule, no_process, process, main_process, attributes}
use Rattle.eb3.specs.WellFormedness.{ArgumentFits, ArgumentsFit, Allowed, DomainsDefined, FunctionFits, Form}
use Rattle.eb3.specs.Spelling.{data_words}
use Rattle.eb3.specs.RuleSpelling.{one_word, counted_words, rule_words, parameter_count, counts_words, function_words, functions_words, process_words, rules_words}
use Rattle.eb3.specs.Reading.{Read, refused, taken, Reader, then, both, number_of, count_of, repeat, counted, for_each, series}
use Rattle.eb3.specs.ExpressionReading.{read_data}
use Rattle.eb3.specs.RuleReading.{read_domains, read_labels, read_parameter_counts, count_for, at_start_scope, at_label_scope, function_from, read_function, read_functions, read_rule_term, parameter_limit, read_process, with_process, read_processes, without_processes, read_rules}
use Rattle.eb3.proofs.Laws.Reading.{Sound, Sounds, giving_sound, then_sound, spell_both, Both, both_sound, number_sound, count_sound, repeat_sound, counted_sound, for_each_sound, Serial, series_sound}
use Rattle.eb3.proofs.Laws.RuleSets.{functions_counted, domain_is}
use Rattle.eb3.proofs.Laws.Attributes.{no_domain_beyond}
use Rattle.eb3.proofs.Laws.ExpressionReading.{data_sound}
use Rattle.eb3.proofs.Laws.ParameterCounts.{CountsRead, counts_sound, counts_are}
use Rattle.eb3.proofs.Laws.RuleTermReading.{rule_term_sound}
use Rattle.eb3.specs.Generic.AllLists.{All, all_at, AllFor, AllFrom, all_from_at, all_for_length, all_for_at}
use Rattle.eb3.proofs.Laws.ReadingCombined.{two_sound}

-- ── domains and labels ──

abbrev DomainsRead : List ℕ → Type 0
DomainsRead ns = ((1 ≤ length ns) × (length ns ≤ Limits.domains)) × All (λ n. (1 ≤ n) × (n ≤ Limits.domain_size)) ns

domains_sound : Sounds (counted_words one_word) (DomainsRead) read_domains
domains_sound = counted_sound one_word (λ n. (1 ≤ n) × (n ≤ Limits.domain_size)) (count_of 1 Limits.domain_size) (count_sound 1 Limits.domain_size) 1 Limits.domains

-- The parameters of a label or a process: at most `limit`, each a domain that is defined.
abbrev HeadRead : ℕ → ℕ → List ℕ → Type 0
HeadRead limit domains ds = ((0 ≤ length ds) × (length ds ≤ limit)) × All (λ d. d < domains) ds

head_sound : (limit domains : ℕ) → Sounds (counted_words one_word) (HeadRead limit domains) (counted 0 limit (number_of Refusal.reference domains))
head_sound limit domains = counted_sound one_word (λ d. d < domains) (number_of Refusal.reference domains) (number_sound Refusal.reference domains) 0 limit

abbrev LabelsRead : ℕ → List (List ℕ) → Type 0
LabelsRead domains ls = ((1 ≤ length ls) × (length ls ≤ Limits.labels)) × All (HeadRead Limits.label_parameters domains) ls

labels_sound : (domains : ℕ) → Sounds (counted_words (counted_words one_word)) (LabelsRead domains) (read_labels domains)
labels_sound domains = counted_sound (counted_words one_word) (HeadRead Limits.label_parameters domains) (counted 0 Limits.label_parameters (number_of Refusal.reference domains)) (head_sound Limits.label_parameters domains) 1 Limits.labels

-- ── functions ──

-- Function i as it is read where `domains` domains and these labels are defined and the functions have these parameter counts.
abbrev ParametersRead : ℕ → List ℕ → ℕ → List ℕ → Type 0
ParametersRead domains counts i ds = (length ds ≡ count_for counts i) × All (λ d. d < domains) ds

abbrev AtStart : Edition → List ℕ → ℕ → Data → Type 0
AtStart L counts i a = DataInScope a (at_start_scope L counts i)

abbrev AtLabel : Edition → List ℕ → ℕ → List ℕ → Data → Type 0
AtLabel L counts i ds a = DataInScope a (at_label_scope L counts i (length ds))

module _ (L : Edition) (domains : ℕ) (labels : List (List ℕ)) where
  abbrev pub FunctionRead : List ℕ → ℕ → Function → Type 0
  FunctionRead counts i F = ParametersRead domains counts i F.parameters × (AtStart L counts i F.at_start × AllFor (AtLabel L counts i) labels F.at_label)

  abbrev FunctionsRead : List Function → Type 0
  FunctionsRead Fs = (length Fs ≤ Limits.functions) × ((counts : List ℕ) × CountsRead L (length Fs) counts × AllFrom (FunctionRead counts) 0 Fs)

  pub function_sound : (counts : List ℕ) (i : ℕ) → Sounds (function_words L.width) (FunctionRead counts i) (read_function L domains labels counts i)
  unfolding read_function function_words
  function_sound counts i t = two_sound (concat_map one_word) (ParametersRead domains counts i) (spell_both D At (concat_map D) Ls) (Both D At (concat_map D) Ls) (function_words L.width) (FunctionRead counts i)
      (λ ds p. function_from (ds, p)) [] (repeat (count_for counts i) number) (both start each)
      (repeat_sound one_word (λ d. d < domains) number (number_sound Refusal.reference domains) (count_for counts i))
      (both_sound D At (concat_map D) Ls start each (data_sound (at_start_scope L counts i))
      (for_each_sound D (AtLabel L counts i) (λ ds. read_data (at_label_scope L counts i (length ds))) (λ ds. data_sound (at_label_scope L counts i (length ds))) labels))
      (λ ds p. refl) (λ ds p h q. (h, q)) t
    where
      D : Data → List ℕ
      D = data_words L.width

      At : Data → Type 0
      At = AtStart L counts i

      Ls : List Data → Type 0
      Ls = AllFor (AtLabel L counts i) labels

      number : Reader ℕ
      number = number_of Refusal.reference domains

      start : Reader Data
      start = read_data (at_start_scope L counts i)

      each : Reader (List Data)
      each = for_each labels (λ ds. read_data (at_label_scope L counts i (length ds)))

  function_counts : (counts : List ℕ) (Fs : List Function) → length counts ≡ length Fs → AllFrom (FunctionRead counts) 0 Fs → counts ≡ map parameter_count Fs
  function_counts counts Fs e h = counts_are counts Fs e (λ i l. let z : 0 + i ≡ i = omega arith in subst (λ j. parameter_count (get_or Fs i no_rule) ≡ count_for counts j) z (all_from_at (FunctionRead counts) 0 Fs h i no_rule l).0.0)

  serial_counted : (n : ℕ) → n ≤ Limits.functions → (counts : List ℕ) → CountsRead L n counts → (u : List ℕ) (r : Read (List Function))
      → Sound (concat_map (function_words L.width)) (Serial (function_words L.width) (FunctionRead counts) (read_function L domains labels counts) (function_sound counts) n 0) u r
      → Sound (functions_words L) FunctionsRead (n ∷ (counts_words L counts ++ u)) r
  unfolding functions_words
  serial_counted n l counts c u (refused k) h = tt
  serial_counted n l counts c u (taken Fs v) h =
      let W : Function → List ℕ = function_words L.width in
      let e : length Fs ≡ n = h.1.0 in (
        ap (λ x. n ∷ (counts_words L counts ++ x)) h.0 ∙ (ap (λ m. m ∷ (counts_words L counts ++ (concat_map W Fs ++ v))) (sym e)
            ∙ (ap (λ ds. length Fs ∷ (counts_words L ds ++ (concat_map W Fs ++ v))) (function_counts counts Fs (c.0 ∙ sym e) h.1.1)
            ∙ ap (λ x. length Fs ∷ x) (sym (append_assoc (counts_words L (map parameter_count Fs)) (concat_map W Fs) v)))),
        (omega (arith, l, e), (counts, (c.0 ∙ sym e, c.1), h.1.1)),
      )

  functions_sound : 1 ≤ L.function_parameters → Sounds (functions_words L) FunctionsRead (read_functions L domains labels)
  unfolding read_functions
  functions_sound one t = then_sound one_word (λ n. (0 ≤ n) × (n ≤ Limits.functions)) (functions_words L) FunctionsRead [] t _ (count_of 0 Limits.functions t) (count_sound 0 Limits.functions t)
      (λ n u h. then_sound (counts_words L) (CountsRead L n) (functions_words L) FunctionsRead (n ∷ []) u _ (read_parameter_counts L n u) (counts_sound L one n u)
      (λ counts v c. serial_counted n h.1 counts c v (series n 0 (read_function L domains labels counts) v) (series_sound (function_words L.width) (FunctionRead counts) (read_function L domains labels counts) (function_sound counts) n 0 v)))

-- The scopes that the parameter counts give are those of the rule set read, also for a function that is not defined: it counts as one of one
-- parameter in both.
module _ (R : RuleSet) (counts : List ℕ) (counted : length counts ≡ length R.functions) (h : AllFrom (FunctionRead R.edition (length R.domains) R.labels counts) 0 R.functions) where
  function_at : (f : ℕ) → f < length R.functions → FunctionRead R.edition (length R.domains) R.labels counts f (function_rule R f)
  function_at f l = let e : 0 + f ≡ f = omega arith in
      subst (λ i. FunctionRead R.edition (length R.domains) R.labels counts i (function_rule R f)) e (all_from_at (FunctionRead R.edition (length R.domains) R.labels counts) 0 R.functions h f no_rule l)

  arity_is : (f : ℕ) → count_for counts f ≡ arities (attributes R) f
  arity_is f = go (dec_lt f (length R.functions))
    where
      go : Dec (f < length R.functions) → count_for counts f ≡ arities (attributes R) f
      go (yes l) = sym (ap length (domain_is R f l) ∙ (length-map (function_rule R f).parameters (domain_size R) ∙ (function_at f l).0.0))
      go (no l) = get_or-eq_default counts 1 (omega arith) ∙ sym (ap length (no_domain_beyond (attributes R) f (omega (arith, functions_counted R))))

  pub arities_are : count_for counts ≡ arities (attributes R)
  arities_are = fun_ext arity_is

  start_scope_is : (f : ℕ) → at_start_scope R.edition counts f ≡ start_scope (attributes R) f
  start_scope_is f = λ i. record { edition = R.edition; arity = arities_are i; now = f; before = 0; variables = arities_are i f }

  label_scope_is : (f n : ℕ) → at_label_scope R.edition counts f n ≡ label_scope (attributes R) f n
  label_scope_is f n = λ i. record { edition = R.edition; arity = arities_are i; now = f; before = (counted ∙ sym (functions_counted R)) i; variables = arities_are i f + n }

  function_fits : (f : ℕ) → f < length R.functions → (1 ≤ count_for counts f) × (count_for counts f ≤ R.edition.function_parameters) → FunctionFits R f
  function_fits f l c = record {
    parameter_count = (omega (arith, c, r.0.0), omega (arith, c, r.0.0));
    parameters = r.0.1;
    at_start = subst (λ P. DataInScope (function_rule R f).at_start P) (start_scope_is f) r.1.0;
    label_count = all_for_length (AtLabel R.edition counts f) R.labels (function_rule R f).at_label r.1.1;
    at_label = λ a k. subst (λ P. DataInScope (get_or (function_rule R f).at_label a Undefined) P) (label_scope_is f (length (label R a)))
        (all_for_at (AtLabel R.edition counts f) R.labels (function_rule R f).at_label r.1.1 a [] Undefined k);
  }
    where
      r : FunctionRead R.edition (length R.domains) R.labels counts f (function_rule R f)
      r = function_at f l

-- ── processes ──

abbrev holding : RuleSet → List Process → RuleSet
holding R ps = record { edition = R.edition; domains = R.domains; labels = R.labels; functions = R.functions; processes = ps }

-- The rule set with more processes. What was allowed without them stays so: a term looks at processes only where it calls one, below its own.
abbrev with_processes : RuleSet → List Process → RuleSet
with_processes R ps = holding R (R.processes ++ ps)

module _ (R : RuleSet) (ps : List Process) where
  domains_stay : (ds : List ℕ) → DomainsDefined R ds → DomainsDefined (with_processes R ps) ds
  domains_stay [] h = tt
  domains_stay (d ∷ ds) h = (h.0, domains_stay ds h.1)

  argument_stays : (Γ : List ℕ) (d : ℕ) (r : Argument) → ArgumentFits R Γ d r → ArgumentFits (with_processes R ps) Γ d r
  argument_stays Γ d (constant_argument v) h = h
  argument_stays Γ d (variable_argument i) h = h

  arguments_stay : (Γ ds : List ℕ) (rs : List Argument) → ArgumentsFit R Γ ds rs → ArgumentsFit (with_processes R ps) Γ ds rs
  arguments_stay Γ [] [] h = tt
  arguments_stay Γ [] (r ∷ rs) h = h
  arguments_stay Γ (d ∷ ds) [] h = h
  arguments_stay Γ (d ∷ ds) (r ∷ rs) h = (argument_stays Γ d r h.0, arguments_stay Γ ds rs h.1)

  stays_allowed : (i : ℕ) → i ≤ length R.processes → (E : RuleTerm) (Γ : List ℕ) → Allowed R i Γ E → Allowed (with_processes R ps) i Γ E
  stays_allowed i l rule_internal Γ h = tt
  stays_allowed i l (rule_perform a rs) Γ h = (h.0, arguments_stay Γ (label R a) rs h.1)
  stays_allowed i l (rule_sequence E F) Γ h = (stays_allowed i l E Γ h.0, stays_allowed i l F Γ h.1)
  stays_allowed i l (rule_choice E F) Γ h = (stays_allowed i l E Γ h.0, stays_allowed i l F Γ h.1)
  stays_allowed i l (rule_star E) Γ h = stays_allowed i l E Γ h
  stays_allowed i l (rule_parallel Δ E F) Γ h = (h.0, stays_allowed i l E Γ h.1, stays_allowed i l F Γ h.2)
  stays_allowed i l (rule_guard C E) Γ h = (h.0, stays_allowed i l E Γ h.1)
  stays_allowed i l (choice_over d E) Γ h = (h.0, h.1, stays_allowed i l E (Γ ++ (d ∷ [])) h.2)
  stays_allowed i l (parallel_over d Δ E) Γ h = (h.0, h.1, h.2, stays_allowed i l E (Γ ++ (d ∷ [])) h.3)
  stays_allowed i l (call p rs) Γ h =
      let below : p < i = h.0 in let there : p < length R.processes = omega arith in
      (below, subst (λ (P : Process). ArgumentsFit (with_processes R ps) Γ P.parameters rs) (sym (get_or-append R.processes ps no_process p there)) (arguments_stay Γ (process R p).parameters rs h.1))

-- A process of at most `limit` parameters, over the rule set as far as it was read before the process.
abbrev ProcessRead : RuleSet → ℕ → Process → Type 0
ProcessRead R limit P = (length P.parameters ≤ limit) × DomainsDefined R P.parameters × Allowed R (length R.processes) P.parameters P.term

process_sound : (R : RuleSet) (limit : ℕ) → Sounds (process_words R.edition.width) (ProcessRead R limit) (read_process R limit)
unfolding read_process process_words
process_sound R limit t = then_sound (counted_words one_word) (HeadRead limit (length R.domains)) (process_words R.edition.width) (ProcessRead R limit) [] t _
    (counted 0 limit (number_of Refusal.reference (length R.domains)) t) (head_sound limit (length R.domains) t)
    (λ ds u h. giving_sound (rule_words R.edition.width) (Allowed R (length R.processes) ds) (process_words R.edition.width) (ProcessRead R limit) (counted_words one_word ds) u (λ E. record { parameters = ds; term = E }) (read_rule_term R ds u)
    (λ E. refl) (λ E q. (h.0.1, h.1, q)) (rule_term_sound R ds u))

-- What process i of the whole rule set R must satisfy.
abbrev ProcessFits : RuleSet → ℕ → Process → Type 0
ProcessFits R i P =
    (length P.parameters ≤ Limits.process_parameters) × DomainsDefined R P.parameters × Allowed R i P.parameters P.term
    × (suc i ≡ length R.processes → P.parameters ≡ [])

no_parameters : (ds : List ℕ) → length ds ≤ 0 → ds ≡ []
no_parameters [] h = refl
no_parameters (d ∷ ds) h = let z : ⊥ = omega arith in absurd z

module _ where
  within_limit : (n m : ℕ) → m ≤ parameter_limit n → m ≤ Limits.process_parameters
  within_limit zero m h = omega arith
  within_limit (suc n) m h = h

  -- The process with no process after it is main, and has no parameters.
  last_empty : (n : ℕ) (ds : List ℕ) → length ds ≤ parameter_limit n → n ≡ 0 → ds ≡ []
  last_empty zero ds h e = no_parameters ds h
  last_empty (suc n) ds h e = let z : ⊥ = omega arith in absurd z

  read_fits : (R : RuleSet) (P : Process) (ps : List Process) → ProcessRead R (parameter_limit (length ps)) P → ProcessFits (with_processes R (P ∷ ps)) (length R.processes) P
  read_fits R P ps h = (
    within_limit (length ps) (length P.parameters) h.0,
    domains_stay R (P ∷ ps) P.parameters h.1,
    stays_allowed R (P ∷ ps) (length R.processes) (omega arith) P.term P.parameters h.2,
    λ e. last_empty (length ps) P.parameters h.0 (omega (arith, e, length-append R.processes (P ∷ ps))),
  )

  -- What is read after R's processes: R with n processes more, each of which fits the whole rule set.
  abbrev Added : ℕ → RuleSet → List ℕ → Read RuleSet → Type 0
  Added n R s (refused k) = Unit
  Added n R s (taken R' u) =
      (ps : List Process) × (with_processes R ps ≡ R') × (s ≡ concat_map (process_words R.edition.width) ps ++ u) × (length ps ≡ n)
      × AllFrom (ProcessFits R') (length R.processes) ps

  added : (n : ℕ) (R : RuleSet) (P : Process) (s u : List ℕ) → s ≡ process_words R.edition.width P ++ u → ProcessRead R (parameter_limit n) P
      → (r : Read RuleSet) → Added n (with_process R P) u r → Added (suc n) R s r
  added n R P s u e h (refused k) a = tt
  added n R P s u e h (taken R' v) a = (
    P ∷ a.0,
    whole,
    e ∙ (ap (λ x. W P ++ x) a.2 ∙ sym (append_assoc (W P) (concat_map W a.0) v)),
    ap suc a.3,
    (
      subst (λ T. ProcessFits T (length R.processes) P) whole (read_fits R P a.0 (subst (λ m. ProcessRead R (parameter_limit m) P) (sym a.3) h)),
      subst (λ i. AllFrom (ProcessFits R') i a.0) (length-append R.processes (P ∷ [])) a.4,
    ),
  )
    where
      W : Process → List ℕ
      W = process_words R.edition.width

      whole : with_processes R (P ∷ a.0) ≡ R'
      whole = ap (holding R) (sym (append_assoc R.processes (P ∷ []) a.0)) ∙ a.1

  processes_sound : (n : ℕ) (R : RuleSet) (s : List ℕ) → Added n R s (read_processes n R s)
  unfolding read_processes then
  processes_sound zero R s = ([], ap (holding R) (append-nil R.processes), refl, refl, tt)
  processes_sound (suc n) R s = go (λ P u. processes_sound n (with_process R P) u) (read_process R (parameter_limit n) s) (process_sound R (parameter_limit n) s)
    where
      go : ((P : Process) (u : List ℕ) → Added n (with_process R P) u (read_processes n (with_process R P) u)) → (r : Read Process) → Sound (process_words R.edition.width) (ProcessRead R (parameter_limit n)) s r
          → Added (suc n) R s (then r λ P. read_processes n (with_process R P))
      go ih (refused k) h = tt
      go ih (taken P u) h = added n R P s u h.0 h.1 (read_processes n (with_process R P) u) (ih P u)

-- ── the sections in a row ──

form_of : (R : RuleSet) → Proper R.edition → DomainsRead R.domains → LabelsRead (length R.domains) R.labels
    → FunctionsRead R.edition (length R.domains) R.labels R.functions → (1 ≤ length R.processes) × (length R.processes ≤ Limits.processes) → AllFrom (ProcessFits R) 0 R.processes → Form R
form_of R proper ds ls fs count ps = record {
  proper = proper;
  domain_count = ds.0;
  domain_sizes = λ d l. all_at (λ n. (1 ≤ n) × (n ≤ Limits.domain_size)) R.domains ds.1 d 0 l;
  label_count = ls.0;
  label_forms = λ a l. let r = all_at (HeadRead Limits.label_parameters (length R.domains)) R.labels ls.1 a [] l in (r.0.1, r.1);
  function_count = fs.0;
  function_forms = λ f l. let c = fs.1.0 in
      function_fits R c fs.1.1.0 fs.1.2 f l (all_at (λ c. (1 ≤ c) × (c ≤ R.edition.function_parameters)) c fs.1.1.1 f 1 (omega (arith, l, fs.1.1.0)));
  process_count = count;
  process_heads = λ p l. ((fits p l).0, (fits p l).1);
  process_terms = λ p l. (fits p l).2;
  main_parameters = (fits (main_process R) (omega (arith, count))).3 (omega (arith, count));
}
  where
    fits : (p : ℕ) → p < length R.processes → ProcessFits R p (process R p)
    fits p l = let e : 0 + p ≡ p = omega arith in subst (λ i. ProcessFits R i (process R p)) e (all_from_at (ProcessFits R) 0 R.processes ps p no_process l)

-- A rule set of the required form and of the edition L.
abbrev pub FormOf : Edition → RuleSet → Type 0
FormOf L R = Form R × (R.edition ≡ L)

-- One section after another; what was read so far is kept as an equation.
then_reads : {A B : Type 0} (spell : A → List ℕ) (P : A → Type 0) (Q : Read B → Type 0) → ((k : ℕ) → Q (refused k)) → (t : List ℕ) (g : A → Reader B) (r : Read A) → Sound spell P t r
    → ((a : A) (u : List ℕ) → t ≡ spell a ++ u → P a → Q (g a u)) → Q (then r g)
unfolding then
then_reads spell P Q q t g (refused k) h f = q k
then_reads spell P Q q t g (taken a u) h f = f a u h.0 h.1

module _ (L : Edition) (proper : Proper L) (domains : List ℕ) (labels : List (List ℕ)) (functions : List Function) where
  abbrev front : List ℕ → List ℕ
  front u = counted_words one_word domains ++ (counted_words (counted_words one_word) labels ++ (functions_words L functions ++ u))

  front_append : (u v : List ℕ) → front (u ++ v) ≡ front u ++ v
  front_append u v = sym (append_assoc D (A ++ (F ++ u)) v ∙ ap (λ x. D ++ x) (append_assoc A (F ++ u) v ∙ ap (λ x. A ++ x) (append_assoc F u v)))
    where
      D : List ℕ
      D = counted_words one_word domains

      A : List ℕ
      A = counted_words (counted_words one_word) labels

      F : List ℕ
      F = functions_words L functions

  whole_sound : DomainsRead domains → LabelsRead (length domains) labels → FunctionsRead L (length domains) labels functions → (n : ℕ) → (1 ≤ n) × (n ≤ Limits.processes)
      → (t u : List ℕ) → t ≡ front (n ∷ u) → (r : Read RuleSet) → Added n (without_processes L domains labels functions) u r → Sound rules_words (FormOf L) t r
  unfolding rules_words
  whole_sound ds ls fs n count t u e (refused k) a = tt
  whole_sound ds ls fs n count t u e (taken R v) a = subst (λ T. Sound rules_words (FormOf L) t (taken T v)) a.1 (
    e ∙ (ap (λ x. front (n ∷ x)) a.2 ∙ (ap (λ m. front (m ∷ (concat_map P a.0 ++ v))) (sym a.3) ∙ front_append (counted_words P a.0) v)),
    (
      form_of (with_processes (without_processes L domains labels functions) a.0) proper ds ls fs (omega (arith, count, a.3), omega (arith, count, a.3))
          (subst (λ T. AllFrom (ProcessFits T) 0 a.0) (sym a.1) a.4),
      refl,
    ),
  )
    where
      P : Process → List ℕ
      P = process_words L.width

pub rules_sound : (L : Edition) → Proper L → Sounds rules_words (FormOf L) (read_rules L)
unfolding read_rules
rules_sound L proper t =
    then_reads (counted_words one_word) DomainsRead Q (λ k. tt) t _ (read_domains t) (domains_sound t) λ domains t₁ e₁ ds.
    then_reads (counted_words (counted_words one_word)) (LabelsRead (length domains)) Q (λ k. tt) t₁ _ (read_labels (length domains) t₁) (labels_sound (length domains) t₁) λ labels t₂ e₂ ls.
    then_reads (functions_words L) (FunctionsRead L (length domains) labels) Q (λ k. tt) t₂ _ (read_functions L (length domains) labels t₂) (functions_sound L (length domains) labels proper.parameters.0 t₂) λ functions t₃ e₃ fs.
    then_reads one_word (λ n. (1 ≤ n) × (n ≤ Limits.processes)) Q (λ k. tt) t₃ _ (count_of 1 Limits.processes t₃) (count_sound 1 Limits.processes t₃) λ n u e₄ count.
    whole_sound L proper domains labels functions ds ls fs n count t u
    (e₁ ∙ ap (λ x. counted_words one_word domains ++ x) (e₂ ∙ ap (λ x. counted_words (counted_words one_word) labels ++ x) (e₃ ∙ ap (λ x. functions_words L functions ++ x) e₄)))
    (read_processes n (without_processes L domains labels functions) u) (processes_sound n (without_processes L domains labels functions) u)
  where
    Q : Read RuleSet → Type 0
    Q r = Sound rules_words (FormOf L) t r
