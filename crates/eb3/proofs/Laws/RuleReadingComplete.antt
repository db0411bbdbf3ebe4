-- Every rule set of the required form is read back from its spelling, whatever follows it (document 01, "Blocks and the rule stream");
-- so the reader refuses no spelling that it should take.
use Rattle.std.specs.Prelude.{◌≡◌, eqb, ltb, leb, get_or}
use Rattle.std.proofs.Math.Path.{refl, ap, sym, subst}
use Rattle.std.proofs.Common.{◌∙◌, lt→ltb, le→leb, length-append}
use mathlib.Core.List.{List, [], ◌∷◌, ◌++◌, map, append_assoc, append-nil}
use Prim.Native.Nat.{ℕ, zero, suc, ◌+◌, ◌-◌, ◌≤◌, ◌<◌}
use native.Mathlib.Omega.{arith}
use Rattle.std.proofs.Math.Decide.{dec_lt}
use Rattle.std.proofs.Math.Dec.{T, eqb_refl}
use Rattle.std.proofs.Math.ListN.{length, get_or-append, get_or-eq_default}
use Rattle.std.proofs.lemmas.List.{length-map}
use Rattle.eb3.specs.Limits
use Rattle.eb3.specs.Refusal
use Rattle.eb3.specs.Generic.Lists.{concat_map}
use Rattle.eb3.specs.Expressions.{Data, Undefined}
use Rattle.eb3.specs.Terms.{Mask}
use Rattle.eb3.specs.Attributes.{Attributes, number_of_functions}
use Rattle.eb3.specs.Scopes.{Scope, DataInScope, CondInScope, arities, start_scope, label_scope, guard_scope}
use Rattle.eb3.specs.Editions.{Edition}
use Rattle.eb3.specs.RuleSets.{Argument, constant_argument, variable_argument, RuleTerm, rule_internal, rule_perform, rule_sequence, rule_choice, rule_star, rule_parallel, rule_guard, choice_over, parallel_over, call, Function, Process, RuleSet, domain_size, label, no_rule, no_process, process, attributes}
use Rattle.eb3.specs.WellFormedness.{MaskFits, ArgumentFits, ArgumentsFit, Allowed, DomainsDefined, Form}
use Rattle.eb3.specs.Spelling.{data_words, cond_words}
use Rattle.eb3.specs.RuleSpelling.{one_word, counted_words, argument_words, rule_words, parameter_count, counts_words, function_words, functions_words, process_words, rules_words}
use Rattle.eb3.specs.Reading.{refused, taken, Reader, pick, giving, then, both, number_of, by_number, count_of, repeat, counted, for_each, series}
use Rattle.eb3.specs.ExpressionReading.{read_data, read_cond}
use Rattle.eb3.specs.RuleReading.{count_for, at_start_scope, at_label_scope, function_from, read_domains, read_labels, read_parameter_counts, read_function, read_functions, argument_of, arguments_of, rule_action_of, call_of, rule_mask_of, choice_over_of, parallel_over_of, RuleKind, rule_by, rule_step, rule_terms, read_rule_term, parameter_limit, read_process, with_process, read_processes, without_processes, read_rules}
use Rattle.eb3.proofs.Laws.Attributes.{no_domain_beyond}
use Rattle.eb3.proofs.Laws.RuleSets.{functions_counted, domain_is, get_d_map}
use Rattle.eb3.proofs.Laws.ParameterCounts.{CountsRead, counts_take}
use Rattle.eb3.proofs.Laws.RuleReading.{FormOf}
use Rattle.eb3.proofs.Laws.MainRunning.{small_domains}
use Rattle.eb3.proofs.Laws.Reading.{pick_true, spell_both, Both, Takes, both_takes, number_takes, count_takes, number_in_takes, counted_takes, for_each_takes, series_takes, then_takes, exactly_takes}
use Rattle.eb3.proofs.Laws.ExpressionReading.{data_takes, cond_takes}
use Rattle.eb3.proofs.Laws.TermReading.{mask_takes}
use Rattle.eb3.specs.Generic.AllLists.{All, at_all, AllFor, at_all_for, at_all_from}
use Rattle.eb3.proofs.Laws.ReadingCombined.{two_takes, by_number_takes}

-- ── rule terms ──

-- A term has a code.
some_word : (w : ℕ) (E : RuleTerm) → 1 ≤ length (rule_words w E)
unfolding rule_words
some_word w rule_internal = omega arith
some_word w (rule_perform l rs) = omega arith
some_word w (rule_sequence E F) = omega arith
some_word w (rule_choice E F) = omega arith
some_word w (rule_star E) = omega arith
some_word w (rule_parallel Δ E F) = omega arith
some_word w (rule_guard C E) = omega arith
some_word w (choice_over d E) = omega arith
some_word w (parallel_over d Δ E) = omega arith
some_word w (call p rs) = omega arith

-- Of two parts in a row none is longer than both.
front_within : (us vs : List ℕ) (n : ℕ) → length (us ++ vs) ≤ n → length us ≤ n
front_within us vs n h = omega (arith, length-append us vs)

back_within : (us vs : List ℕ) (n : ℕ) → length (us ++ vs) ≤ n → length vs ≤ n
back_within us vs n h = omega (arith, length-append us vs)

module _ (R : RuleSet) (positive : 1 ≤ R.edition.width) (small : (d : ℕ) → domain_size R d ≤ suc R.edition.top) where
  -- A constant below a domain's size is no larger than the largest number.
  argument_takes : (Γ : List ℕ) (d : ℕ) → Takes (argument_words R.edition.width) (ArgumentFits R Γ d) (argument_of R Γ d)
  unfolding argument_of argument_words by_number then
  argument_takes Γ d (constant_argument v) rest h =
      let l : v ≤ R.edition.top = omega (arith, small d) in
      ap (λ r. then r λ v u. pick (leb v R.edition.top) (pick (ltb v (domain_size R d)) (taken (constant_argument v) u) (refused Refusal.kind)) (refused Refusal.form)) (number_in_takes R.edition.width positive v rest tt)
      ∙ (pick_true _ _ (leb v R.edition.top) (le→leb v R.edition.top l) ∙ pick_true _ _ (ltb v (domain_size R d)) (lt→ltb v (domain_size R d) h))
  argument_takes Γ d (variable_argument i) rest h =
      ap (λ r. then r λ i u. pick (eqb (get_or Γ i 0) d) (taken (variable_argument i) u) (refused Refusal.kind)) (number_takes Refusal.reference (length Γ) i rest h.0)
      ∙ pick_true _ _ (eqb (get_or Γ i 0) d) (subst (λ x. T (eqb (get_or Γ i 0) x)) h.1 (eqb_refl (get_or Γ i 0)))

  arguments_takes : (Γ ds : List ℕ) → Takes (concat_map (argument_words R.edition.width)) (ArgumentsFit R Γ ds) (arguments_of R Γ ds)
  unfolding arguments_of
  arguments_takes Γ [] [] rest h = refl
  arguments_takes Γ [] (r ∷ rs) rest h = absurd h
  arguments_takes Γ (d ∷ ds) [] rest h = absurd h
  arguments_takes Γ (d ∷ ds) (r ∷ rs) rest h =
      two_takes (argument_words R.edition.width) (ArgumentFits R Γ d) (concat_map (argument_words R.edition.width)) (ArgumentsFit R Γ ds) (λ r rs. r ∷ rs)
      (argument_of R Γ d) (arguments_of R Γ ds) (argument_takes Γ d) (arguments_takes Γ ds) r rs rest h.0 h.1

  module _ (L : Edition) where
    abbrev words : RuleTerm → List ℕ
    words E = rule_words R.edition.width E

    -- A term of the process that comes after those of R; and such a term of at most n words.
    abbrev Here : List ℕ → RuleTerm → Type 0
    Here Γ E = Allowed R (length R.processes) Γ E

    abbrev Bounded : ℕ → List ℕ → RuleTerm → Type 0
    Bounded n Γ E = Here Γ E × (length (words E) ≤ n)

    -- Each code's reader takes the spellings of its terms, given that e takes those of the operands.
    module _ (n : ℕ) (e : List ℕ → Reader RuleTerm) (operand : (Γ : List ℕ) → Takes words (Bounded n Γ) (e Γ)) where
      pair_takes : (k : RuleTerm → RuleTerm → RuleTerm) (Γ : List ℕ) (E F : RuleTerm) (rest : List ℕ) → Here Γ E × Here Γ F → length (words E ++ words F) ≤ n
          → giving (λ (p : RuleTerm × RuleTerm). k p.0 p.1) (both (e Γ) (e Γ) ((words E ++ words F) ++ rest)) ≡ taken (k E F) rest
      pair_takes k Γ E F rest a h =
          two_takes words (Bounded n Γ) words (Bounded n Γ) k (e Γ) (e Γ) (operand Γ) (operand Γ) E F rest
          (a.0, front_within (words E) (words F) n h) (a.1, back_within (words E) (words F) n h)

      -- A quantifier's code is allowed only where one variable more is.
      quantifier_takes : (k : RuleKind) (Γ t : List ℕ) → length Γ < Limits.variables → rule_by R e Γ (pick (ltb (length Γ) Limits.variables) k RuleKind.wrong) t ≡ rule_by R e Γ k t
      quantifier_takes k Γ t h = ap (λ k. rule_by R e Γ k t) (pick_true k RuleKind.wrong (ltb (length Γ) Limits.variables) (lt→ltb (length Γ) Limits.variables h))

      step_takes : (Γ : List ℕ) → Takes words (Bounded (suc n) Γ) (rule_step R e Γ)
      unfolding rule_words rule_action_of call_of choice_over_of parallel_over_of giving
      step_takes Γ rule_internal rest h = refl
      step_takes Γ (rule_perform l rs) rest h =
          by_number_takes (concat_map (argument_words R.edition.width)) (λ l. ArgumentsFit R Γ (label R l)) rule_perform Refusal.reference (length R.labels) (λ l. arguments_of R Γ (label R l))
          l (arguments_takes Γ (label R l)) rs rest h.0.0 h.0.1
      step_takes Γ (rule_sequence E F) rest h = pair_takes rule_sequence Γ E F rest h.0 (omega arith)
      step_takes Γ (rule_choice E F) rest h = pair_takes rule_choice Γ E F rest h.0 (omega arith)
      step_takes Γ (rule_star E) rest h = ap (giving rule_star) (operand Γ E rest (h.0, omega arith))
      step_takes Γ (rule_parallel Δ E F) rest h =
          let l : length (words E ++ words F) ≤ n = back_within Δ (words E ++ words F) n (omega arith) in
          two_takes (λ (Δ : Mask). Δ) (MaskFits R) (spell_both words (Bounded n Γ) words (Bounded n Γ)) (Both words (Bounded n Γ) words (Bounded n Γ)) (λ Δ p. rule_parallel Δ p.0 p.1)
          (rule_mask_of R) (both (e Γ) (e Γ)) (mask_takes 4 (length R.labels)) (both_takes words (Bounded n Γ) words (Bounded n Γ) (e Γ) (e Γ) (operand Γ) (operand Γ))
          Δ (E, F) rest h.0.0 ((h.0.1, front_within (words E) (words F) n l), (h.0.2, back_within (words E) (words F) n l))
      step_takes Γ (rule_guard C E) rest h =
          let G : Scope = guard_scope (attributes R) (length Γ) in
          two_takes (cond_words R.edition.width) (λ C. CondInScope C G) words (Bounded n Γ) rule_guard (read_cond G) (e Γ) (cond_takes G positive) (operand Γ)
          C E rest h.0.0 (h.0.1, back_within (cond_words R.edition.width C) (words E) n (omega arith))
      step_takes Γ (choice_over d E) rest h =
          quantifier_takes RuleKind.choice_quantifier Γ (d ∷ (words E ++ rest)) h.0.1
          ∙ by_number_takes words (λ d. Bounded n (Γ ++ (d ∷ []))) choice_over Refusal.reference (length R.domains) (λ d. e (Γ ++ (d ∷ [])))
          d (operand (Γ ++ (d ∷ []))) E rest h.0.0 (h.0.2, omega arith)
      step_takes Γ (parallel_over d Δ E) rest h =
          quantifier_takes RuleKind.parallel_quantifier Γ (d ∷ ((Δ ++ words E) ++ rest)) h.0.1
          ∙ by_number_takes (spell_both (λ (Δ : Mask). Δ) (MaskFits R) words (Bounded n Γ)) (λ d. Both (λ (Δ : Mask). Δ) (MaskFits R) words (Bounded n (Γ ++ (d ∷ [])))) (λ d p. parallel_over d p.0 p.1)
          Refusal.reference (length R.domains) (λ d. both (rule_mask_of R) (e (Γ ++ (d ∷ []))))
          d (both_takes (λ (Δ : Mask). Δ) (MaskFits R) words (Bounded n (Γ ++ (d ∷ []))) (rule_mask_of R) (e (Γ ++ (d ∷ []))) (mask_takes 4 (length R.labels)) (operand (Γ ++ (d ∷ []))))
          (Δ, E) rest h.0.0 (h.0.2, (h.0.3, back_within Δ (words E) n (omega arith)))
      step_takes Γ (call p rs) rest h =
          by_number_takes (concat_map (argument_words R.edition.width)) (λ p. ArgumentsFit R Γ (process R p).parameters) call Refusal.reference (length R.processes) (λ p. arguments_of R Γ (process R p).parameters)
          p (arguments_takes Γ (process R p).parameters) rs rest h.0.0 h.0.1

    -- Every level of nesting has a code of its own, so a depth of as many levels as there are words is enough.
    terms_take : (n : ℕ) (Γ : List ℕ) → Takes words (Bounded n Γ) (rule_terms R n Γ)
    unfolding rule_terms
    terms_take zero Γ E rest h = let z : ⊥ = omega (arith, some_word R.edition.width E) in absurd z
    terms_take (suc n) Γ E rest h = step_takes n (rule_terms R n) (terms_take n) Γ E rest h

    term_takes : (Γ : List ℕ) → Takes words (Here Γ) (read_rule_term R Γ)
    unfolding read_rule_term
    term_takes Γ E rest h = terms_take (length (words E ++ rest)) Γ E rest (h, front_within (words E) rest (length (words E ++ rest)) (omega arith))

    -- ── processes ──

    -- The process that comes after those of R, with at most `limit` parameters.
    abbrev Next : ℕ → Process → Type 0
    Next limit P = ((0 ≤ length P.parameters) × (length P.parameters ≤ limit)) × All (λ d. d < length R.domains) P.parameters × Here P.parameters P.term

    process_takes : (limit : ℕ) → Takes (process_words R.edition.width) (Next limit) (read_process R limit)
    unfolding process_words read_process giving
    process_takes limit P rest h =
        let f : Reader ℕ = number_of Refusal.reference (length R.domains) in
        then_takes (counted 0 limit f) (λ ds u. giving (λ E. record { parameters = ds; term = E }) (read_rule_term R ds u)) (counted_words one_word P.parameters) (words P.term) rest P.parameters
        (counted_takes one_word (λ d. d < length R.domains) f (number_takes Refusal.reference (length R.domains)) 0 limit P.parameters (words P.term ++ rest) (h.0, h.1))
        ∙ ap (giving {B = Process} (λ E. record { parameters = P.parameters; term = E })) (term_takes P.parameters P.term rest h.2)

-- The process that comes after ps.
at_middle : (ps qs : List Process) (P : Process) → get_or (ps ++ (P ∷ qs)) (length ps) no_process ≡ P
at_middle [] qs P = refl
at_middle (Q ∷ ps) qs P = at_middle ps qs P

-- A rule set of the edition, made of its lists; while it is read, it has its first processes only.
module _ (L : Edition) (domains : List ℕ) (labels : List (List ℕ)) (functions : List Function) where
  abbrev rules : List Process → RuleSet
  rules ps = record { edition = L; domains = domains; labels = labels; functions = functions; processes = ps }

  defined_all : (ps : List Process) (ds : List ℕ) → DomainsDefined (rules ps) ds → All (λ d. d < length domains) ds
  defined_all ps [] h = tt
  defined_all ps (d ∷ ds) h = (h.0, defined_all ps ds h.1)

  -- Calls name earlier processes only, so later ones do not matter.
  same_arguments : (ps qs : List Process) (Γ ds : List ℕ) (rs : List Argument) → ArgumentsFit (rules ps) Γ ds rs → ArgumentsFit (rules qs) Γ ds rs
  same_arguments ps qs Γ [] [] h = tt
  same_arguments ps qs Γ [] (r ∷ rs) h = h
  same_arguments ps qs Γ (d ∷ ds) [] h = h
  same_arguments ps qs Γ (d ∷ ds) (constant_argument v ∷ rs) h = (h.0, same_arguments ps qs Γ ds rs h.1)
  same_arguments ps qs Γ (d ∷ ds) (variable_argument i ∷ rs) h = (h.0, same_arguments ps qs Γ ds rs h.1)

  from_before : (ps qs : List Process) (Γ : List ℕ) (E : RuleTerm) → Allowed (rules (ps ++ qs)) (length ps) Γ E → Allowed (rules ps) (length ps) Γ E
  from_before ps qs Γ rule_internal h = tt
  from_before ps qs Γ (rule_perform l rs) h = (h.0, same_arguments (ps ++ qs) ps Γ (get_or labels l []) rs h.1)
  from_before ps qs Γ (rule_sequence E F) h = (from_before ps qs Γ E h.0, from_before ps qs Γ F h.1)
  from_before ps qs Γ (rule_choice E F) h = (from_before ps qs Γ E h.0, from_before ps qs Γ F h.1)
  from_before ps qs Γ (rule_star E) h = from_before ps qs Γ E h
  from_before ps qs Γ (rule_parallel Δ E F) h = (h.0, from_before ps qs Γ E h.1, from_before ps qs Γ F h.2)
  from_before ps qs Γ (rule_guard C E) h = (h.0, from_before ps qs Γ E h.1)
  from_before ps qs Γ (choice_over d E) h = (h.0, h.1, from_before ps qs (Γ ++ (d ∷ [])) E h.2)
  from_before ps qs Γ (parallel_over d Δ E) h = (h.0, h.1, h.2, from_before ps qs (Γ ++ (d ∷ [])) E h.3)
  from_before ps qs Γ (call p rs) h =
      (h.0, subst (λ (P : Process). ArgumentsFit (rules ps) Γ P.parameters rs) (get_or-append ps qs no_process p h.0) (same_arguments (ps ++ qs) ps Γ (get_or (ps ++ qs) p no_process).parameters rs h.1))

  module _ (positive : 1 ≤ L.width) (all : List Process) (form : Form (rules all)) where
    module _ (small : (d : ℕ) → get_or domains d 0 ≤ suc L.top) where
      -- Main, the last, has no parameters.
      within_limit : (ps qs : List Process) (P : Process) → length all ≡ length ps + suc (length qs) → get_or all (length ps) no_process ≡ P → length P.parameters ≤ parameter_limit (length qs)
      within_limit ps [] P l at =
          let last : length ps ≡ length all - 1 = omega arith in
          let none : P.parameters ≡ [] = ap (λ (P : Process). P.parameters) (sym at) ∙ (ap (λ p. (get_or all p no_process).parameters) last ∙ form.main_parameters) in
          omega (arith, ap length none)
      within_limit ps (Q ∷ qs) P l at = subst (λ (P : Process). length P.parameters ≤ Limits.process_parameters) at (form.process_heads (length ps) (omega arith)).0

      next : (ps qs : List Process) (P : Process) → all ≡ ps ++ (P ∷ qs) → Next (rules ps) positive small L (parameter_limit (length qs)) P
      next ps qs P e =
          let at : get_or all (length ps) no_process ≡ P = ap (λ l. get_or l (length ps) no_process) e ∙ at_middle ps qs P in
          let l : length all ≡ length ps + suc (length qs) = ap length e ∙ length-append ps (P ∷ qs) in
          let m : length ps < length all = omega arith in (
            (omega arith, within_limit ps qs P l at),
            defined_all all P.parameters (subst (λ (P : Process). DomainsDefined (rules all) P.parameters) at (form.process_heads (length ps) m).1),
            from_before ps (P ∷ qs) P.parameters P.term (subst (λ all. Allowed (rules all) (length ps) P.parameters P.term) e
                (subst (λ (P : Process). Allowed (rules all) (length ps) P.parameters P.term) at (form.process_terms (length ps) m))),
          )

      processes_take : (ps qs : List Process) (rest : List ℕ) → all ≡ ps ++ qs → read_processes (length qs) (rules ps) (concat_map (process_words L.width) qs ++ rest) ≡ taken (rules all) rest
      unfolding read_processes
      processes_take ps [] rest e = ap (λ ps. taken (rules ps) rest) (sym (e ∙ append-nil ps))
      processes_take ps (P ∷ qs) rest e =
          let behind : List ℕ = concat_map (process_words L.width) qs in
          then_takes (read_process (rules ps) (parameter_limit (length qs))) (λ P. read_processes (length qs) (with_process (rules ps) P)) (process_words L.width P) behind rest P
          (process_takes (rules ps) positive small L (parameter_limit (length qs)) P (behind ++ rest) (next ps qs P e))
          ∙ processes_take (ps ++ (P ∷ [])) qs rest (e ∙ sym (append_assoc ps (P ∷ []) qs))

    -- ── functions ──

    module _ where
      abbrev counts : List ℕ
      counts = map parameter_count functions

      abbrev A : Attributes
      A = attributes (rules all)

      count_is : (f : ℕ) → f < length functions → parameter_count (get_or functions f no_rule) ≡ count_for counts f
      count_is f h = sym (get_d_map parameter_count functions f no_rule 1 h)

      counts_counted : length counts ≡ length functions
      counts_counted = length-map functions parameter_count

      counts_fit : CountsRead L (length functions) counts
      counts_fit = (
        counts_counted,
        at_all (λ c. (1 ≤ c) × (c ≤ L.function_parameters)) 1 counts
            (λ f h. let k : f < length functions = omega (arith, counts_counted) in subst (λ c. (1 ≤ c) × (c ≤ L.function_parameters)) (count_is f k) (form.function_forms f k).parameter_count),
      )

      -- Functions that are not there count one parameter.
      arity_is : (f : ℕ) → arities A f ≡ count_for counts f
      arity_is f = go (dec_lt f (length functions))
        where
          go : Dec (f < length functions) → arities A f ≡ count_for counts f
          go (yes h) = ap length (domain_is (rules all) f h) ∙ (length-map (get_or functions f no_rule).parameters _ ∙ count_is f h)
          go (no h) = ap length (no_domain_beyond A f (omega (arith, functions_counted (rules all)))) ∙ sym (get_or-eq_default counts 1 (omega (arith, counts_counted)))

      start_scope_is : (f : ℕ) → start_scope A f ≡ at_start_scope L counts f
      start_scope_is f = λ i. record { edition = L; arity = λ g. arity_is g i; now = f; before = 0; variables = arity_is f i }

      label_scope_is : (f n : ℕ) → label_scope A f n ≡ at_label_scope L counts f n
      label_scope_is f n =
          let b : number_of_functions A ≡ length counts = functions_counted (rules all) ∙ sym counts_counted in
          λ i. record { edition = L; arity = λ g. arity_is g i; now = f; before = b i; variables = arity_is f i + n }

      -- What function f has to be for its reader.
      abbrev Parameters : ℕ → List ℕ → Type 0
      Parameters f ds = (length ds ≡ count_for counts f) × All (λ d. d < length domains) ds

      abbrev AtStart : ℕ → Data → Type 0
      AtStart f a = DataInScope a (at_start_scope L counts f)

      abbrev AtLabel : ℕ → List ℕ → Data → Type 0
      AtLabel f ds a = DataInScope a (at_label_scope L counts f (length ds))

      abbrev Numbered : ℕ → Function → Type 0
      Numbered f F = Parameters f F.parameters × (AtStart f F.at_start × AllFor (AtLabel f) labels F.at_label)

      numbered : (f : ℕ) → f < length functions → Numbered f (get_or functions f no_rule)
      numbered f h = (
        (count_is f h, defined_all all (get_or functions f no_rule).parameters (form.function_forms f h).parameters),
        (
          subst (DataInScope (get_or functions f no_rule).at_start) (start_scope_is f) (form.function_forms f h).at_start,
          at_all_for (AtLabel f) [] Undefined labels (get_or functions f no_rule).at_label (form.function_forms f h).label_count
              (λ l k. subst (DataInScope (get_or (get_or functions f no_rule).at_label l Undefined)) (label_scope_is f (length (get_or labels l []))) ((form.function_forms f h).at_label l k)),
        ),
      )

      function_takes : (f : ℕ) → Takes (function_words L.width) (Numbered f) (read_function L (length domains) labels counts f)
      unfolding function_words read_function giving
      function_takes f F rest h =
          let w : ℕ = L.width in
          let number : Reader ℕ = number_of Refusal.reference (length domains) in
          let at_start : Reader Data = read_data (at_start_scope L counts f) in
          let at_label : List ℕ → Reader Data = λ ds. read_data (at_label_scope L counts f (length ds)) in
          ap (giving function_from)
          (both_takes (concat_map one_word) (Parameters f) (spell_both (data_words w) (AtStart f) (concat_map (data_words w)) (AllFor (AtLabel f) labels)) (Both (data_words w) (AtStart f) (concat_map (data_words w)) (AllFor (AtLabel f) labels))
          (repeat (count_for counts f) number) (both at_start (for_each labels at_label))
          (exactly_takes one_word (λ d. d < length domains) number (number_takes Refusal.reference (length domains)) (count_for counts f))
          (both_takes (data_words w) (AtStart f) (concat_map (data_words w)) (AllFor (AtLabel f) labels) at_start (for_each labels at_label)
          (data_takes (at_start_scope L counts f) positive) (for_each_takes (data_words w) (AtLabel f) at_label (λ ds. data_takes (at_label_scope L counts f (length ds)) positive) labels))
          (F.parameters, (F.at_start, F.at_label)) rest h)

      functions_take : (rest : List ℕ) → read_functions L (length domains) labels (functions_words L functions ++ rest) ≡ taken functions rest
      unfolding functions_words read_functions then
      functions_take rest =
          let W : List ℕ = concat_map (function_words L.width) functions in
          ap (λ r. then r λ n u. then (read_parameter_counts L n u) λ counts. series n 0 (read_function L (length domains) labels counts))
          (count_takes 0 Limits.functions (length functions) ((counts_words L counts ++ W) ++ rest) (omega arith, form.function_count))
          ∙ (then_takes (read_parameter_counts L (length functions)) (λ counts. series (length functions) 0 (read_function L (length domains) labels counts)) (counts_words L counts) W rest counts
          (counts_take L form.proper.one_each (length functions) counts (W ++ rest) counts_fit)
          ∙ series_takes (function_words L.width) Numbered (read_function L (length domains) labels counts) function_takes 0 functions rest
          (at_all_from Numbered no_rule 0 functions (λ f h. let e : f ≡ 0 + f = omega arith in subst (λ n. Numbered n (get_or functions f no_rule)) e (numbered f h))))

    -- ── the sections in a row ──

    domains_take : (rest : List ℕ) → read_domains (counted_words one_word domains ++ rest) ≡ taken domains rest
    domains_take rest =
        counted_takes one_word (λ n. (1 ≤ n) × (n ≤ Limits.domain_size)) (count_of 1 Limits.domain_size) (count_takes 1 Limits.domain_size) 1 Limits.domains domains rest
        (form.domain_count, at_all (λ n. (1 ≤ n) × (n ≤ Limits.domain_size)) 0 domains form.domain_sizes)

    abbrev LabelFits : List ℕ → Type 0
    LabelFits ds = ((0 ≤ length ds) × (length ds ≤ Limits.label_parameters)) × All (λ d. d < length domains) ds

    labels_take : (rest : List ℕ) → read_labels (length domains) (counted_words (counted_words one_word) labels ++ rest) ≡ taken labels rest
    labels_take rest =
        let number : Reader ℕ = number_of Refusal.reference (length domains) in
        counted_takes (counted_words one_word) LabelFits (counted 0 Limits.label_parameters number)
        (counted_takes one_word (λ d. d < length domains) number (number_takes Refusal.reference (length domains)) 0 Limits.label_parameters) 1 Limits.labels labels rest
        (form.label_count, at_all LabelFits [] labels (λ l h. ((omega arith, (form.label_forms l h).0), defined_all all (get_or labels l []) (form.label_forms l h).1)))

    sections_take : (rest : List ℕ) → read_rules L (rules_words (rules all) ++ rest) ≡ taken (rules all) rest
    unfolding rules_words read_rules then
    sections_take rest =
        let ps : List ℕ = counted_words (process_words L.width) all in
        let fs : List ℕ = functions_words L functions in
        let ls : List ℕ = counted_words (counted_words one_word) labels in
        then_takes read_domains (λ domains t. then (read_labels (length domains) t) (from_labels domains)) (counted_words one_word domains) (ls ++ (fs ++ ps)) rest domains (domains_take ((ls ++ (fs ++ ps)) ++ rest))
        ∙ (then_takes (read_labels (length domains)) (from_labels domains) ls (fs ++ ps) rest labels (labels_take ((fs ++ ps) ++ rest))
        ∙ (then_takes (read_functions L (length domains) labels) (from_functions domains labels) fs ps rest functions (functions_take (ps ++ rest))
        ∙ (ap (λ r. then r λ n. read_processes n (rules [])) (count_takes 1 Limits.processes (length all) (concat_map (process_words L.width) all ++ rest) form.process_count)
        ∙ processes_take (small_domains (rules all) form) [] all rest refl)))
      where
        from_functions : List ℕ → List (List ℕ) → List Function → Reader RuleSet
        from_functions domains labels functions t = then (count_of 1 Limits.processes t) λ n. read_processes n (without_processes L domains labels functions)

        from_labels : List ℕ → List (List ℕ) → Reader RuleSet
        from_labels domains labels t = then (read_functions L (length domains) labels t) (from_functions domains labels)

-- Every rule set of the required form and of the edition L is read back from its spelling.
pub rules_takes : (L : Edition) → Takes rules_words (FormOf L) (read_rules L)
rules_takes L R rest h =
    subst (λ R. Form R → read_rules L (rules_words R ++ rest) ≡ taken R rest) (sym (λ i. record { edition = h.1 i; domains = R.domains; labels = R.labels; functions = R.functions; processes = R.processes }))
    (λ form. sections_take L R.domains R.labels R.functions form.proper.constants.0 R.processes form rest) h.0
