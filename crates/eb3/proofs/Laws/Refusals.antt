-- A reader of the rule stream refuses by 4, 5 or 6 and by no other number; so an admission refuses by 1 to 8 (document 01, the table of refusals).
use Rattle.std.specs.Prelude.{◌≡◌, Bool, true, false, T, eqb, ltb, leb, length, get_or}
use Rattle.std.proofs.Common.{subst}
use mathlib.Core.List.{List, [], ◌∷◌, ◌++◌}
use Prim.Native.Nat.{ℕ, zero, suc, ◌+◌, ◌-◌, ◌^◌, min}
use Rattle.std.proofs.Math.Option.{Option, none, some}
use Rattle.eb3.specs.Limits
use Rattle.eb3.specs.Refusal
use Rattle.eb3.specs.Generic.Lists.{one_of, all_of, one_of_more}
use Rattle.eb3.specs.Expressions.{Data}
use Rattle.eb3.specs.Scopes.{Scope, guard_scope}
use Rattle.eb3.specs.Sizes.{reach, breadth}
use Rattle.eb3.specs.Editions.{Edition, edition_of}
use Rattle.eb3.specs.RuleSets.{RuleTerm, RuleSet, domain_size, label, process, attributes}
use Rattle.eb3.specs.Unfolding.{unfold_main}
use Rattle.eb3.specs.Reading.{Read, refused, taken, Reader, pick, giving, then, both, number_of, by_number, count_of, repeat, counted, for_each, series, number_in}
use Rattle.eb3.specs.ExpressionReading.{DataKind, CondKind, data_kind, cond_kind, constant_of, args_of, Readers, data_by, cond_by, data_step, cond_step, readers, read_data, read_cond}
use Rattle.eb3.specs.TermReading.{mask_of}
use Rattle.eb3.specs.RuleReading.{read_domains, read_labels, read_parameter_counts, count_for, at_start_scope, at_label_scope, function_from, read_function, read_functions, argument_of, arguments_of, rule_action_of, call_of, choice_over_of, parallel_over_of, RuleKind, rule_kind, rule_by, rule_terms, read_rule_term, parameter_limit, read_process, with_process, read_processes, without_processes, read_rules}
use Rattle.eb3.specs.Answers.{Answer, and_then, or_refused}
use Rattle.eb3.specs.Blocks.{block_count, whole_blocks, blocks_right, edition_in, stream, open_blocks}
use Rattle.eb3.specs.Admission.{ends_right, ended, within_limits, admission}

-- What the readers of the stream refuse with.
abbrev of_stream : List ℕ
of_stream = 4 ∷ 5 ∷ 6 ∷ []

abbrev OfStream : ℕ → Type 0
OfStream k = T (one_of of_stream k)

abbrev pub Refuses : {A : Type 0} → Read A → Type 0
Refuses (refused k) = OfStream k
Refuses (taken a t) = Unit

abbrev pub AllRefuse : {A : Type 0} → Reader A → Type 0
AllRefuse f = (t : List ℕ) → Refuses (f t)

by_form : OfStream Refusal.form
unfolding one_of
by_form = tt

by_reference : OfStream Refusal.reference
unfolding one_of
by_reference = tt

by_kind : OfStream Refusal.kind
unfolding one_of
by_kind = tt

pub picked : {A : Type 0} (P : A → Type 0) (b : Bool) (x y : A) → P x → P y → P (pick b x y)
picked P true x y p q = p
picked P false x y p q = q

giving_refuses : {A B : Type 0} (f : A → B) (r : Read A) → Refuses r → Refuses (giving f r)
unfolding giving
giving_refuses f (refused k) h = h
giving_refuses f (taken a t) h = tt

then_refuses : {A B : Type 0} (g : A → Reader B) → ((a : A) → AllRefuse (g a)) → (r : Read A) → Refuses r → Refuses (then r g)
unfolding then
then_refuses g q (refused k) h = h
then_refuses g q (taken a t) h = q a t

both_refuses : {A B : Type 0} (f : Reader A) (g : Reader B) → AllRefuse f → AllRefuse g → AllRefuse (both f g)
unfolding both
both_refuses f g p q t = then_refuses (λ a u. giving (λ b. (a, b)) (g u)) (λ a u. giving_refuses (λ b. (a, b)) (g u) (q u)) (f t) (p t)

number_refuses : (k limit : ℕ) → OfStream k → AllRefuse (number_of k limit)
unfolding number_of
number_refuses k limit h [] = by_form
number_refuses k limit h (w ∷ t) = picked Refuses (ltb w limit) (taken w t) (refused k) tt h

by_number_refuses : {B : Type 0} (limit : ℕ) (g : ℕ → Reader B) → ((n : ℕ) → AllRefuse (g n)) → AllRefuse (by_number Refusal.reference limit g)
unfolding by_number
by_number_refuses limit g q t = then_refuses g q (number_of Refusal.reference limit t) (number_refuses Refusal.reference limit by_reference t)

count_refuses : (lo hi : ℕ) → AllRefuse (count_of lo hi)
unfolding count_of
count_refuses lo hi [] = by_form
count_refuses lo hi (w ∷ t) = picked Refuses (leb lo w) (pick (leb w hi) (taken w t) (refused Refusal.form)) (refused Refusal.form) (picked Refuses (leb w hi) (taken w t) (refused Refusal.form) tt by_form) by_form

number_in_refuses : (n : ℕ) → AllRefuse (number_in n)
unfolding number_in
number_in_refuses zero t = by_form
number_in_refuses (suc zero) [] = by_form
number_in_refuses (suc zero) (w ∷ t) = tt
number_in_refuses (suc (suc n)) t = then_refuses _ (λ w u. giving_refuses _ (number_in (suc n) u) (number_in_refuses (suc n) u)) (number_of Refusal.form 65536 t) (number_refuses Refusal.form 65536 by_form t)

-- Rows.
module _ {A : Type 0} where
  abbrev cons : A × List A → List A
  cons p = p.0 ∷ p.1

  row_refuses : (f : Reader A) (g : Reader (List A)) → AllRefuse f → AllRefuse g → (t : List ℕ) → Refuses (giving cons (both f g t))
  row_refuses f g p q t = giving_refuses cons (both f g t) (both_refuses f g p q t)

  repeat_refuses : (n : ℕ) (f : Reader A) → AllRefuse f → AllRefuse (repeat n f)
  unfolding repeat
  repeat_refuses zero f h t = tt
  repeat_refuses (suc n) f h t = row_refuses f (repeat n f) h (repeat_refuses n f h) t

  counted_refuses : (lo hi : ℕ) (f : Reader A) → AllRefuse f → AllRefuse (counted lo hi f)
  unfolding counted
  counted_refuses lo hi f h t = then_refuses (λ n. repeat n f) (λ n. repeat_refuses n f h) (count_of lo hi t) (count_refuses lo hi t)

  series_refuses : (n i : ℕ) (f : ℕ → Reader A) → ((j : ℕ) → AllRefuse (f j)) → AllRefuse (series n i f)
  unfolding series
  series_refuses zero i f h t = tt
  series_refuses (suc n) i f h t = row_refuses (f i) (series n (i + 1) f) (h i) (series_refuses n (i + 1) f h) t

for_each_refuses : {A B : Type 0} (bs : List B) (f : B → Reader A) → ((b : B) → AllRefuse (f b)) → AllRefuse (for_each bs f)
unfolding for_each
for_each_refuses [] f h t = tt
for_each_refuses (b ∷ bs) f h t = row_refuses (f b) (for_each bs f) (h b) (for_each_refuses bs f h) t

-- Expressions.
args_refuse : (d : Reader Data) → AllRefuse d → (n : ℕ) → AllRefuse (args_of d n)
unfolding args_of
args_refuse d h zero t = tt
args_refuse d h (suc n) t = giving_refuses _ (both d (args_of d n) t) (both_refuses d (args_of d n) h (args_refuse d h n) t)

constant_refuses : (w top : ℕ) → AllRefuse (constant_of w top)
unfolding constant_of
constant_refuses w top t = then_refuses _ (λ v u. picked Refuses (leb v top) (taken v u) (refused Refusal.form) tt by_form) (number_in w t) (number_in_refuses w t)

module _ (P : Scope) (e : Readers) (d : AllRefuse e.datum) (c : AllRefuse e.condition) where
  data_by_refuses : (k : DataKind) → AllRefuse (data_by P e k)
  data_by_refuses DataKind.undefined t = tt
  data_by_refuses DataKind.constant t = giving_refuses _ (constant_of P.edition.width P.edition.top t) (constant_refuses P.edition.width P.edition.top t)
  data_by_refuses DataKind.variable t = giving_refuses _ (number_of Refusal.reference P.variables t) (number_refuses Refusal.reference P.variables by_reference t)
  data_by_refuses (DataKind.pair k) t = giving_refuses _ (both e.datum e.datum t) (both_refuses e.datum e.datum d d t)
  data_by_refuses DataKind.select t = giving_refuses _ (both e.condition (both e.datum e.datum) t) (both_refuses e.condition (both e.datum e.datum) c (both_refuses e.datum e.datum d d) t)
  data_by_refuses (DataKind.attribute k limit) t = by_number_refuses limit _ (λ f u. giving_refuses (k f) (args_of e.datum (P.arity f) u) (args_refuse e.datum d (P.arity f) u)) t
  data_by_refuses DataKind.wrong t = by_form

  cond_by_refuses : (k : CondKind) → AllRefuse (cond_by e k)
  cond_by_refuses (CondKind.compare k) t = giving_refuses _ (both e.datum e.datum t) (both_refuses e.datum e.datum d d t)
  cond_by_refuses (CondKind.join k) t = giving_refuses _ (both e.condition e.condition t) (both_refuses e.condition e.condition c c t)
  cond_by_refuses CondKind.negate t = giving_refuses _ (e.condition t) (c t)
  cond_by_refuses CondKind.always t = tt
  cond_by_refuses CondKind.wrong t = by_form

  data_step_refuses : AllRefuse (data_step P e)
  data_step_refuses [] = by_form
  data_step_refuses (k ∷ t) = data_by_refuses (data_kind P k) t

  cond_step_refuses : AllRefuse (cond_step e)
  cond_step_refuses [] = by_form
  cond_step_refuses (k ∷ t) = cond_by_refuses (cond_kind k) t

readers_refuse : (P : Scope) (n : ℕ) → AllRefuse (readers P n).datum × AllRefuse (readers P n).condition
unfolding readers
readers_refuse P zero = (λ t. by_form, λ t. by_form)
readers_refuse P (suc n) =
    let h = readers_refuse P n in
    (data_step_refuses P (readers P n) h.0 h.1, cond_step_refuses P (readers P n) h.0 h.1)

data_refuses : (P : Scope) → AllRefuse (read_data P)
unfolding read_data
data_refuses P t = (readers_refuse P (length t)).0 t

cond_refuses : (P : Scope) → AllRefuse (read_cond P)
unfolding read_cond
cond_refuses P t = (readers_refuse P (length t)).1 t

mask_refuses : (k n : ℕ) → AllRefuse (mask_of k n)
unfolding mask_of
mask_refuses zero n t = tt
mask_refuses (suc k) n t = row_refuses (number_of Refusal.reference (2 ^ min n 16)) (mask_of k (n - 16)) (number_refuses Refusal.reference (2 ^ min n 16) by_reference) (mask_refuses k (n - 16)) t

-- Rule terms.
module _ (R : RuleSet) where
  argument_refuses : (Γ : List ℕ) (d : ℕ) → AllRefuse (argument_of R Γ d)
  unfolding argument_of
  argument_refuses Γ d [] = by_form
  argument_refuses Γ d (c ∷ t) =
      picked Refuses (eqb c 1) _ _
      (then_refuses _ (λ v u. picked Refuses (leb v R.edition.top) _ _ (picked Refuses (ltb v (domain_size R d)) _ _ tt by_kind) by_form) (number_in R.edition.width t) (number_in_refuses R.edition.width t))
      (picked Refuses (eqb c 2) _ _ (by_number_refuses (length Γ) _ (λ i u. picked Refuses (eqb (get_or Γ i 0) d) _ _ tt by_kind) t) by_form)

  arguments_refuse : (Γ ds : List ℕ) → AllRefuse (arguments_of R Γ ds)
  unfolding arguments_of
  arguments_refuse Γ [] t = tt
  arguments_refuse Γ (d ∷ ds) t = row_refuses (argument_of R Γ d) (arguments_of R Γ ds) (argument_refuses Γ d) (arguments_refuse Γ ds) t

  module _ (e : List ℕ → Reader RuleTerm) (h : (Γ : List ℕ) → AllRefuse (e Γ)) (Γ : List ℕ) where
    rule_by_refuses : (k : RuleKind) → AllRefuse (rule_by R e Γ k)
    unfolding rule_action_of call_of choice_over_of parallel_over_of
    rule_by_refuses RuleKind.internal_step t = tt
    rule_by_refuses RuleKind.action t = by_number_refuses (length R.labels) _ (λ l u. giving_refuses _ (arguments_of R Γ (label R l) u) (arguments_refuse Γ (label R l) u)) t
    rule_by_refuses (RuleKind.pair k) t = giving_refuses _ (both (e Γ) (e Γ) t) (both_refuses (e Γ) (e Γ) (h Γ) (h Γ) t)
    rule_by_refuses RuleKind.star t = giving_refuses _ (e Γ t) (h Γ t)
    rule_by_refuses RuleKind.parallel t = giving_refuses _ (both (mask_of 4 (length R.labels)) (both (e Γ) (e Γ)) t)
        (both_refuses (mask_of 4 (length R.labels)) (both (e Γ) (e Γ)) (mask_refuses 4 (length R.labels)) (both_refuses (e Γ) (e Γ) (h Γ) (h Γ)) t)
    rule_by_refuses RuleKind.guard t = giving_refuses _ (both (read_cond (guard_scope (attributes R) (length Γ))) (e Γ) t)
        (both_refuses (read_cond (guard_scope (attributes R) (length Γ))) (e Γ) (cond_refuses (guard_scope (attributes R) (length Γ))) (h Γ) t)
    rule_by_refuses RuleKind.choice_quantifier t = by_number_refuses (length R.domains) _ (λ d u. giving_refuses _ (e (Γ ++ (d ∷ [])) u) (h (Γ ++ (d ∷ [])) u)) t
    rule_by_refuses RuleKind.parallel_quantifier t = by_number_refuses (length R.domains) _ (λ d u. giving_refuses _ (both (mask_of 4 (length R.labels)) (e (Γ ++ (d ∷ []))) u)
        (both_refuses (mask_of 4 (length R.labels)) (e (Γ ++ (d ∷ []))) (mask_refuses 4 (length R.labels)) (h (Γ ++ (d ∷ []))) u)) t
    rule_by_refuses RuleKind.process_call t = by_number_refuses (length R.processes) _ (λ p u. giving_refuses _ (arguments_of R Γ (process R p).parameters u) (arguments_refuse Γ (process R p).parameters u)) t
    rule_by_refuses RuleKind.wrong t = by_form

  rule_terms_refuse : (n : ℕ) (Γ : List ℕ) → AllRefuse (rule_terms R n Γ)
  unfolding rule_terms
  rule_terms_refuse zero Γ t = by_form
  rule_terms_refuse (suc n) Γ [] = by_form
  rule_terms_refuse (suc n) Γ (c ∷ t) = rule_by_refuses (rule_terms R n) (rule_terms_refuse n) Γ (rule_kind Γ c) t

  pub rule_term_refuses : (Γ : List ℕ) → AllRefuse (read_rule_term R Γ)
  unfolding read_rule_term
  rule_term_refuses Γ t = rule_terms_refuse (length t) Γ t

  pub process_refuses : (limit : ℕ) → AllRefuse (read_process R limit)
  unfolding read_process
  process_refuses limit t = then_refuses _ (λ ds u. giving_refuses _ (read_rule_term R ds u) (rule_term_refuses ds u))
      (counted 0 limit (number_of Refusal.reference (length R.domains)) t) (counted_refuses 0 limit (number_of Refusal.reference (length R.domains)) (number_refuses Refusal.reference (length R.domains) by_reference) t)

-- The sections.
module _ (L : Edition) where
  function_refuses : (domains : ℕ) (labels : List (List ℕ)) (counts : List ℕ) (i : ℕ) → AllRefuse (read_function L domains labels counts i)
  unfolding read_function
  function_refuses domains labels counts i t = giving_refuses function_from _ (both_refuses (repeat (count_for counts i) (number_of Refusal.reference domains)) _
      (repeat_refuses (count_for counts i) (number_of Refusal.reference domains) (number_refuses Refusal.reference domains by_reference))
      (both_refuses (read_data (at_start_scope L counts i)) _ (data_refuses (at_start_scope L counts i))
      (for_each_refuses labels _ (λ ds. data_refuses (at_label_scope L counts i (length ds))))) t)

  functions_refuse : (domains : ℕ) (labels : List (List ℕ)) → AllRefuse (read_functions L domains labels)
  unfolding read_functions read_parameter_counts
  functions_refuse domains labels t = then_refuses _ (λ n u. then_refuses _ (λ counts. series_refuses n 0 (read_function L domains labels counts) (function_refuses domains labels counts)) (read_parameter_counts L n u) (picked Refuses L.counts_written _ _ (repeat_refuses n (count_of 1 L.function_parameters) (count_refuses 1 L.function_parameters) u) tt))
      (count_of 0 Limits.functions t) (count_refuses 0 Limits.functions t)

  processes_refuse : (n : ℕ) (R : RuleSet) → AllRefuse (read_processes n R)
  unfolding read_processes
  processes_refuse zero R t = tt
  processes_refuse (suc n) R t = then_refuses _ (λ P. processes_refuse n (with_process R P)) (read_process R (parameter_limit n) t) (process_refuses R (parameter_limit n) t)

  pub rules_refuse : AllRefuse (read_rules L)
  unfolding read_rules
  rules_refuse t = then_refuses _ (λ domains t₁. then_refuses _ (λ labels t₂. then_refuses _ (λ functions t₃. then_refuses _ (λ n. processes_refuse n (without_processes L domains labels functions))
      (count_of 1 Limits.processes t₃) (count_refuses 1 Limits.processes t₃))
      (read_functions L (length domains) labels t₂) (functions_refuse (length domains) labels t₂))
      (read_labels (length domains) t₁) (counted_refuses 1 Limits.labels _ (counted_refuses 0 Limits.label_parameters (number_of Refusal.reference (length domains)) (number_refuses Refusal.reference (length domains) by_reference)) t₁))
      (read_domains t) (counted_refuses 1 Limits.domains (count_of 1 Limits.domain_size) (count_refuses 1 Limits.domain_size) t)

-- Admission.
abbrev pub Within : {X : Type 0} → List ℕ → Answer X → Type 0
Within ks (Answer.refused k) = T (one_of ks k)
Within ks (Answer.answered x) = Unit

pub and_then_within : {X Y : Type 0} (ks : List ℕ) (a : Answer X) (f : X → Answer Y) → Within ks a → ((x : X) → Within ks (f x)) → Within ks (and_then a f)
unfolding and_then
and_then_within ks (Answer.refused k) f h q = h
and_then_within ks (Answer.answered x) f h q = q x

pub or_refused_within : {X : Type 0} (ks : List ℕ) (k : ℕ) (o : Option X) → T (one_of ks k) → Within ks (or_refused k o)
or_refused_within ks k none h = h
or_refused_within ks k (some x) h = tt

module _ (rules : List ℕ) where
  abbrev OfAdmission : {X : Type 0} → Answer X → Type 0
  OfAdmission a = Within Refusal.of_admission a

  opened_within : OfAdmission (open_blocks rules)
  unfolding open_blocks edition_in one_of
  opened_within = picked OfAdmission (whole_blocks rules) _ _
      (picked OfAdmission (blocks_right 0 (block_count rules) rules) _ _
      (and_then_within Refusal.of_admission (edition_in rules) _
      (picked OfAdmission (eqb (get_or (stream rules) 1 0) (block_count rules)) _ _ (or_refused_within Refusal.of_admission Refusal.edition (edition_of (get_or (stream rules) 0 0)) tt) tt)
      (λ L. tt)) tt) tt

  ended_within : (r : Read RuleSet) → Refuses r → OfAdmission (ended r)
  unfolding ended one_of all_of
  ended_within (refused k) h = one_of_more Refusal.of_admission of_stream tt k h
  ended_within (taken R rest) h = picked OfAdmission (ends_right rest) _ _ tt tt

  pub admission_within : Within Refusal.of_admission (admission rules)
  unfolding admission within_limits one_of
  admission_within = and_then_within Refusal.of_admission (and_then (open_blocks rules) λ o. ended (read_rules o.edition o.words)) within_limits
      (and_then_within Refusal.of_admission (open_blocks rules) _ opened_within (λ o. ended_within (read_rules o.edition o.words) (rules_refuse o.edition o.words)))
      (λ R. picked OfAdmission (leb (reach R.edition.width (unfold_main R)) Limits.reach) _ _ (picked OfAdmission (leb (breadth (unfold_main R)) Limits.breadth) _ _ tt tt) tt)

-- What a property of refusals says of a refusal.
pub refused_within : {X : Type 0} (ks : List ℕ) (a : Answer X) → Within ks a → (k : ℕ) → a ≡ Answer.refused k → T (one_of ks k)
refused_within ks a h k e = subst (Within ks) e h
