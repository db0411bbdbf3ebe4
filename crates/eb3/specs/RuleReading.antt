-- The rule stream's sections 2 to 5 read from words (document 01, "Blocks and the rule stream"; refusals 4, 5 and 6 at the first offending word,
-- 4 before 5 before 6 at one word). What is read is a well-formed rule set, spelled by exactly the words taken (Laws/RuleReading), and every
-- well-formed rule set's spelling is read back (Laws/RuleReadingComplete).
use Rattle.std.specs.Prelude.{List, [], ◌∷◌, ◌++◌, ℕ, zero, suc, ◌+◌, eqb, ltb, leb, length, get_or, replicate}
use Rattle.eb3.specs.Limits
use Rattle.eb3.specs.Refusal
use Rattle.eb3.specs.Expressions.{Data}
use Rattle.eb3.specs.Scopes.{Scope, guard_scope}
use Rattle.eb3.specs.Editions.{Edition}
use Rattle.eb3.specs.RuleSets.{Argument, constant_argument, variable_argument, RuleTerm, rule_internal, rule_perform, rule_sequence, rule_choice, rule_star, rule_parallel, rule_guard, choice_over, parallel_over, call, Function, Process, RuleSet, domain_size, label, process, attributes}
use Rattle.eb3.specs.Reading.{refused, taken, Reader, pick, giving, then, both, number_of, by_number, count_of, repeat, counted, for_each, series, number_in}
use Rattle.eb3.specs.ExpressionReading.{read_data, read_cond}
use Rattle.eb3.specs.TermReading.{mask_of}

-- 2. The domains' sizes; 3. the labels' parameters, by their domains.
abbrev pub read_domains : Reader (List ℕ)
read_domains = counted 1 Limits.domains (count_of 1 Limits.domain_size)

abbrev pub read_labels : ℕ → Reader (List (List ℕ))
read_labels domains = counted 1 Limits.labels (counted 0 Limits.label_parameters (number_of Refusal.reference domains))

-- 4. How many parameters each of n functions has: written, or, where the edition does not write them (edition 1), one each.
unfoldable pub read_parameter_counts : Edition → ℕ → Reader (List ℕ)
read_parameter_counts L n t = pick L.counts_written (repeat n (count_of 1 L.function_parameters) t) (taken (replicate n 1) t)

abbrev pub count_for : List ℕ → ℕ → ℕ
count_for counts f = get_or counts f 1

-- What function i of those with these parameter counts may name: `before` is allowed only in a label's expression.
abbrev pub at_start_scope : Edition → List ℕ → ℕ → Scope
at_start_scope L counts i = record { edition = L; arity = count_for counts; now = i; before = 0; variables = count_for counts i }

abbrev pub at_label_scope : Edition → List ℕ → ℕ → ℕ → Scope
at_label_scope L counts i n = record { edition = L; arity = count_for counts; now = i; before = length counts; variables = count_for counts i + n }

abbrev pub function_from : List ℕ × (Data × List Data) → Function
function_from p = record { parameters = p.0; at_start = p.1.0; at_label = p.1.1 }

unfoldable pub read_function : Edition → ℕ → List (List ℕ) → List ℕ → ℕ → Reader Function
read_function L domains labels counts i t =
    giving function_from
    (both (repeat (count_for counts i) (number_of Refusal.reference domains))
    (both (read_data (at_start_scope L counts i)) (for_each labels (λ ds. read_data (at_label_scope L counts i (length ds))))) t)

unfoldable pub read_functions : Edition → ℕ → List (List ℕ) → Reader (List Function)
read_functions L domains labels t =
    then (count_of 0 Limits.functions t) λ n u.
    then (read_parameter_counts L n u) λ counts. series n 0 (read_function L domains labels counts)

-- 5. Of a process, R being the rule set as far as it was read before it; Γ are the variables in scope, by their domains.
unfoldable pub argument_of : RuleSet → List ℕ → ℕ → Reader Argument
argument_of R Γ d [] = refused Refusal.form
argument_of R Γ d (c ∷ t) =
    pick (eqb c 1) (then (number_in R.edition.width t) λ v u. pick (leb v R.edition.top) (pick (ltb v (domain_size R d)) (taken (constant_argument v) u) (refused Refusal.kind)) (refused Refusal.form))
    (pick (eqb c 2) (by_number Refusal.reference (length Γ) (λ i u. pick (eqb (get_or Γ i 0) d) (taken (variable_argument i) u) (refused Refusal.kind)) t)
    (refused Refusal.form))

unfoldable pub arguments_of : RuleSet → List ℕ → List ℕ → Reader (List Argument)
arguments_of R Γ [] t = taken [] t
arguments_of R Γ (d ∷ ds) t = giving (λ p. p.0 ∷ p.1) (both (argument_of R Γ d) (arguments_of R Γ ds) t)

unfoldable pub rule_action_of : RuleSet → List ℕ → Reader RuleTerm
rule_action_of R Γ t = by_number Refusal.reference (length R.labels) (λ l u. giving (rule_perform l) (arguments_of R Γ (label R l) u)) t

-- A call names a lower process: an earlier one.
unfoldable pub call_of : RuleSet → List ℕ → Reader RuleTerm
call_of R Γ t = by_number Refusal.reference (length R.processes) (λ p u. giving (call p) (arguments_of R Γ (process R p).parameters u)) t

abbrev pub rule_mask_of : RuleSet → Reader (List ℕ)
rule_mask_of R = mask_of 4 (length R.labels)

-- A quantifier binds the next free variable.
unfoldable pub choice_over_of : RuleSet → (List ℕ → Reader RuleTerm) → List ℕ → Reader RuleTerm
choice_over_of R e Γ t = by_number Refusal.reference (length R.domains) (λ d u. giving (choice_over d) (e (Γ ++ (d ∷ [])) u)) t

unfoldable pub parallel_over_of : RuleSet → (List ℕ → Reader RuleTerm) → List ℕ → Reader RuleTerm
parallel_over_of R e Γ t = by_number Refusal.reference (length R.domains) (λ d u. giving (λ p. parallel_over d p.0 p.1) (both (rule_mask_of R) (e (Γ ++ (d ∷ []))) u)) t

pub data RuleKind : Type 0 where
  internal_step action star parallel guard choice_quantifier parallel_quantifier process_call wrong : RuleKind
  pair : (RuleTerm → RuleTerm → RuleTerm) → RuleKind

-- The code that would bind one variable too many is refused itself.
abbrev pub rule_kind : List ℕ → ℕ → RuleKind
rule_kind Γ c =
    pick (eqb c 20) internal_step
    (pick (eqb c 21) action
    (pick (eqb c 22) (pair rule_sequence)
    (pick (eqb c 23) (pair rule_choice)
    (pick (eqb c 24) star
    (pick (eqb c 25) parallel
    (pick (eqb c 26) guard
    (pick (eqb c 27) (pick (ltb (length Γ) Limits.variables) choice_quantifier wrong)
    (pick (eqb c 28) (pick (ltb (length Γ) Limits.variables) parallel_quantifier wrong)
    (pick (eqb c 29) process_call
    wrong)))))))))

abbrev pub rule_by : RuleSet → (List ℕ → Reader RuleTerm) → List ℕ → RuleKind → Reader RuleTerm
rule_by R e Γ RuleKind.internal_step t = taken rule_internal t
rule_by R e Γ RuleKind.action t = rule_action_of R Γ t
rule_by R e Γ (RuleKind.pair k) t = giving (λ p. k p.0 p.1) (both (e Γ) (e Γ) t)
rule_by R e Γ RuleKind.star t = giving rule_star (e Γ t)
rule_by R e Γ RuleKind.parallel t = giving (λ p. rule_parallel p.0 p.1.0 p.1.1) (both (rule_mask_of R) (both (e Γ) (e Γ)) t)
rule_by R e Γ RuleKind.guard t = giving (λ p. rule_guard p.0 p.1) (both (read_cond (guard_scope (attributes R) (length Γ))) (e Γ) t)
rule_by R e Γ RuleKind.choice_quantifier t = choice_over_of R e Γ t
rule_by R e Γ RuleKind.parallel_quantifier t = parallel_over_of R e Γ t
rule_by R e Γ RuleKind.process_call t = call_of R Γ t
rule_by R e Γ RuleKind.wrong t = refused Refusal.form

abbrev pub rule_step : RuleSet → (List ℕ → Reader RuleTerm) → List ℕ → Reader RuleTerm
rule_step R e Γ [] = refused Refusal.form
rule_step R e Γ (c ∷ t) = rule_by R e Γ (rule_kind Γ c) t

unfoldable pub rule_terms : RuleSet → ℕ → List ℕ → Reader RuleTerm
rule_terms R zero Γ s = refused Refusal.form
rule_terms R (suc n) Γ s = rule_step R (rule_terms R n) Γ s

unfoldable pub read_rule_term : RuleSet → List ℕ → Reader RuleTerm
read_rule_term R Γ s = rule_terms R (length s) Γ s

-- The parameters a process may have, with n processes after it: the last is main, and has none.
abbrev pub parameter_limit : ℕ → ℕ
parameter_limit zero = 0
parameter_limit (suc n) = Limits.process_parameters

unfoldable pub read_process : RuleSet → ℕ → Reader Process
read_process R limit t =
    then (counted 0 limit (number_of Refusal.reference (length R.domains)) t) λ ds u.
    giving (λ E. record { parameters = ds; term = E }) (read_rule_term R ds u)

-- The rule set with one process more.
abbrev pub with_process : RuleSet → Process → RuleSet
with_process R P = record { edition = R.edition; domains = R.domains; labels = R.labels; functions = R.functions; processes = R.processes ++ (P ∷ []) }

unfoldable pub read_processes : ℕ → RuleSet → Reader RuleSet
read_processes zero R t = taken R t
read_processes (suc n) R t = then (read_process R (parameter_limit n) t) λ P. read_processes n (with_process R P)

-- The sections in a row.
abbrev pub without_processes : Edition → List ℕ → List (List ℕ) → List Function → RuleSet
without_processes L domains labels functions = record { edition = L; domains = domains; labels = labels; functions = functions; processes = [] }

unfoldable pub read_rules : Edition → Reader RuleSet
read_rules L t =
    then (read_domains t) λ domains t₁.
    then (read_labels (length domains) t₁) λ labels t₂.
    then (read_functions L (length domains) labels t₂) λ functions t₃.
    then (count_of 1 Limits.processes t₃) λ n. read_processes n (without_processes L domains labels functions)
