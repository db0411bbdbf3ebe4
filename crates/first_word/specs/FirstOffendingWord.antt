-- "4, 5 and 6 by the first offending word of the stream, at one word 4 before 5 before 6" (document 01, "Operations", under the table), said word
-- by word: what is due at a place, the three tests of its word, what is due after a word that passes. No reader, no tree, no fuel: one pass over
-- the words. Laws/StreamRefusals: the reader of rule streams refuses by exactly this number, and accepts where no word offends. Running terms are
-- said by the same pass (GivenWords).
use Rattle.std.specs.Prelude.{Bool, true, false, ◌&&◌, List, [], ◌∷◌, ◌++◌, map, ℕ, zero, suc, ◌+◌, ◌-◌, ◌*◌, ◌^◌, min, eqb, ltb, leb, length, get_or, replicate}
use Rattle.std.proofs.Math.Option.{Option, none, some}
use Rattle.eb3.specs.Refusal
use Rattle.eb3.specs.Limits
use Rattle.eb3.specs.Editions.{Edition}
use Rattle.eb3.specs.Scopes.{Scope}
use Rattle.eb3.specs.Reading.{pick}

-- What the words so far declare: the domains' sizes, the labels' parameters, the functions' parameter counts, the processes' parameters.
-- Parameters are given by their domains.
pub record Declared : Type 0 where
  pub domains : List ℕ
  pub labels : List (List ℕ)
  pub functions : List ℕ
  pub processes : List (List ℕ)

abbrev pub nothing_declared : Declared
nothing_declared = record { domains = []; labels = []; functions = []; processes = [] }

-- Whose parameters are declared.
pub data Owner : Type 0 where
  of_label of_process : Owner

-- What one word is due to be. In terms, `lower` are the processes that a call may name, Γ the variables in scope, both by domains.
pub data Due : Type 0 where
  domain_count domain_size label_count function_count process_count : Due
  -- The most parameters there may be; a parameter's domain, with the number of parameters after it, and those before it.
  parameter_count : Owner → ℕ → Due
  parameter : Owner → ℕ → List ℕ → Due
  -- How many parameters a function has, where the edition writes it: of n functions, with k to come, and the counts before it.
  function_parameter_count : (n k : ℕ) → List ℕ → Due
  function_parameter : Due
  data_code : Scope → Due
  condition_code : Scope → Due
  -- A word of a constant up to `top`: the words still due with this one, and the lower words before it.
  constant : (top n : ℕ) → List ℕ → Due
  variable_number : Scope → Due
  -- Of a function below a limit.
  function_number : ℕ → Scope → Due
  term_code : (lower : List (List ℕ)) (Γ : List ℕ) → Due
  label_number : (Γ : List ℕ) → Due
  process_number : (lower : List (List ℕ)) (Γ : List ℕ) → Due
  choice_domain : (lower : List (List ℕ)) (Γ : List ℕ) → Due
  parallel_domain : (lower : List (List ℕ)) (Γ : List ℕ) → Due
  -- With n labels left for this word and those after it.
  mask_word : (n : ℕ) → Due
  -- An argument of domain d.
  argument_code : (Γ : List ℕ) (d : ℕ) → Due
  argument_constant : (d n : ℕ) → List ℕ → Due
  argument_variable : (Γ : List ℕ) (d : ℕ) → Due
  -- In a running term, which has no variables and no calls; 30 is done. Its arguments are constants: an element of domain d.
  running_code running_label : Due
  element_code : (d : ℕ) → Due
  -- The words still due with this one, and the lower words before it.
  element_constant : (d n : ℕ) → List ℕ → Due

-- ── scopes ──

-- A function that is not defined counts as one of one parameter.
abbrev pub parameters_of : Declared → ℕ → ℕ
parameters_of D f = get_or D.functions f 1

-- In function i, for the empty trace and for a label of n parameters; in a guard under n variables.
module _ (L : Edition) (D : Declared) where
  abbrev pub empty_trace_scope : ℕ → Scope
  empty_trace_scope i = record { edition = L; arity = parameters_of D; now = i; before = 0; variables = parameters_of D i }

  abbrev pub label_scope : ℕ → ℕ → Scope
  label_scope i n = record { edition = L; arity = parameters_of D; now = i; before = length D.functions; variables = parameters_of D i + n }

  abbrev pub guard_scope : ℕ → Scope
  guard_scope n = record { edition = L; arity = parameters_of D; now = length D.functions; before = 0; variables = n }

-- ── what a code has after it; none: no code there ──

abbrev pub data_operands : Edition → Scope → ℕ → Option (List Due)
data_operands L P c =
    pick (eqb c 0) (some [])
    (pick (eqb c 1) (some (constant P.edition.top L.width [] ∷ []))
    (pick (eqb c 2) (some (variable_number P ∷ []))
    (pick (eqb c 3) (some (data_code P ∷ data_code P ∷ []))
    (pick (eqb c 4) (some (data_code P ∷ data_code P ∷ []))
    (pick (eqb c 5) (some (condition_code P ∷ data_code P ∷ data_code P ∷ []))
    (pick (eqb c 6) (some (function_number P.now P ∷ []))
    (pick (eqb c 7) (pick (ltb 0 P.before) (some (function_number P.before P ∷ [])) none)
    none)))))))

abbrev pub condition_operands : Scope → ℕ → Option (List Due)
condition_operands P c =
    pick (eqb c 8) (some (data_code P ∷ data_code P ∷ []))
    (pick (eqb c 9) (some (data_code P ∷ data_code P ∷ []))
    (pick (eqb c 10) (some (condition_code P ∷ condition_code P ∷ []))
    (pick (eqb c 11) (some (condition_code P ∷ condition_code P ∷ []))
    (pick (eqb c 12) (some (condition_code P ∷ []))
    (pick (eqb c 13) (some [])
    none)))))

-- k mask words for n labels.
abbrev pub mask_words : ℕ → ℕ → List Due
mask_words zero n = []
mask_words (suc k) n = mask_word n ∷ mask_words k (n - 16)

abbrev pub mask : Declared → List Due
mask D = mask_words 4 (length D.labels)

abbrev pub term_operands : Edition → Declared → List (List ℕ) → List ℕ → ℕ → Option (List Due)
term_operands L D lower Γ c =
    pick (eqb c 20) (some [])
    (pick (eqb c 21) (some (label_number Γ ∷ []))
    (pick (eqb c 22) (some (term_code lower Γ ∷ term_code lower Γ ∷ []))
    (pick (eqb c 23) (some (term_code lower Γ ∷ term_code lower Γ ∷ []))
    (pick (eqb c 24) (some (term_code lower Γ ∷ []))
    (pick (eqb c 25) (some (mask D ++ (term_code lower Γ ∷ term_code lower Γ ∷ [])))
    (pick (eqb c 26) (some (condition_code (guard_scope L D (length Γ)) ∷ term_code lower Γ ∷ []))
    (pick (eqb c 27) (pick (ltb (length Γ) Limits.variables) (some (choice_domain lower Γ ∷ [])) none)
    (pick (eqb c 28) (pick (ltb (length Γ) Limits.variables) (some (parallel_domain lower Γ ∷ [])) none)
    (pick (eqb c 29) (some (process_number lower Γ ∷ []))
    none)))))))))

abbrev pub running_operands : Edition → Declared → ℕ → Option (List Due)
running_operands L D c =
    pick (eqb c 20) (some [])
    (pick (eqb c 21) (some (running_label ∷ []))
    (pick (eqb c 22) (some (running_code ∷ running_code ∷ []))
    (pick (eqb c 23) (some (running_code ∷ running_code ∷ []))
    (pick (eqb c 24) (some (running_code ∷ []))
    (pick (eqb c 25) (some (mask D ++ (running_code ∷ running_code ∷ [])))
    (pick (eqb c 26) (some (condition_code (guard_scope L D 0) ∷ running_code ∷ []))
    (pick (eqb c 30) (some [])
    none)))))))

abbrev pub argument_operands : Edition → List ℕ → ℕ → ℕ → Option (List Due)
argument_operands L Γ d c =
    pick (eqb c 1) (some (argument_constant d L.width [] ∷ []))
    (pick (eqb c 2) (some (argument_variable Γ d ∷ []))
    none)

abbrev pub is_code : Option (List Due) → Bool
is_code none = false
is_code (some ds) = true

abbrev pub operands : Option (List Due) → List Due
operands none = []
operands (some ds) = ds

-- ── the three tests of a word ──

pub record Tests : Type 0 where
  pub form : Bool
  pub reference : Bool
  pub kind : Bool

abbrev pub by_form : Bool → Tests
by_form b = record { form = b; reference = true; kind = true }

abbrev pub by_reference : Bool → Tests
by_reference b = record { form = true; reference = b; kind = true }

abbrev pub from_to : ℕ → ℕ → ℕ → Bool
from_to lo hi w = leb lo w && leb w hi

-- The number of words, low first, with w after them. A constant is judged at its last word; of the words before it each is a word.
unfoldable pub with_last : List ℕ → ℕ → ℕ
with_last [] w = w
with_last (v ∷ vs) w = v + 65536 * with_last vs w

abbrev pub at_most : ℕ → ℕ → List ℕ → ℕ → Bool
at_most top zero vs w = false
at_most top (suc zero) vs w = leb (with_last vs w) top
at_most top (suc (suc n)) vs w = ltb w 65536

abbrev pub element_below : ℕ → ℕ → List ℕ → ℕ → Bool
element_below size zero vs w = true
element_below size (suc zero) vs w = ltb (with_last vs w) size
element_below size (suc (suc n)) vs w = true

-- An element is judged at its last word, by its domain's size alone; of the words before it each is a word.
abbrev pub element_form : ℕ → ℕ → Bool
element_form zero w = false
element_form (suc zero) w = true
element_form (suc (suc n)) w = ltb w 65536

abbrev pub tests : Edition → Declared → Due → ℕ → Tests
tests L D domain_count w = by_form (from_to 1 Limits.domains w)
tests L D domain_size w = by_form (from_to 1 Limits.domain_size w)
tests L D label_count w = by_form (from_to 1 Limits.labels w)
tests L D function_count w = by_form (from_to 0 Limits.functions w)
tests L D process_count w = by_form (from_to 1 Limits.processes w)
tests L D (parameter_count o limit) w = by_form (from_to 0 limit w)
tests L D (parameter o n ds) w = by_reference (ltb w (length D.domains))
tests L D (function_parameter_count n k counts) w = by_form (from_to 1 L.function_parameters w)
tests L D function_parameter w = by_reference (ltb w (length D.domains))
tests L D (data_code P) w = by_form (is_code (data_operands L P w))
tests L D (condition_code P) w = by_form (is_code (condition_operands P w))
tests L D (constant top n vs) w = by_form (at_most top n vs w)
tests L D (variable_number P) w = by_reference (ltb w P.variables)
tests L D (function_number limit P) w = by_reference (ltb w limit)
tests L D (term_code lower Γ) w = by_form (is_code (term_operands L D lower Γ w))
tests L D (label_number Γ) w = by_reference (ltb w (length D.labels))
tests L D (process_number lower Γ) w = by_reference (ltb w (length lower))
tests L D (choice_domain lower Γ) w = by_reference (ltb w (length D.domains))
tests L D (parallel_domain lower Γ) w = by_reference (ltb w (length D.domains))
tests L D (mask_word n) w = by_reference (ltb w (2 ^ min n 16))
tests L D (argument_code Γ d) w = by_form (is_code (argument_operands L Γ d w))
tests L D (argument_constant d n vs) w = record { form = at_most L.top n vs w; reference = true; kind = element_below (get_or D.domains d 0) n vs w }
tests L D (argument_variable Γ d) w = record { form = true; reference = ltb w (length Γ); kind = eqb (get_or Γ w 0) d }
tests L D running_code w = by_form (is_code (running_operands L D w))
tests L D running_label w = by_reference (ltb w (length D.labels))
tests L D (element_code d) w = by_form (eqb w 1)
tests L D (element_constant d n vs) w = record { form = element_form n w; reference = true; kind = element_below (get_or D.domains d 0) n vs w }

-- 4 before 5 before 6; else what the words after say.
unfoldable pub judge : Tests → Option ℕ → Option ℕ
judge x rest = pick x.form (pick x.reference (pick x.kind rest (some Refusal.kind)) (some Refusal.reference)) (some Refusal.form)

-- ── what follows a word that passes ──

-- What is declared then, and what is due next, before anything that was due already.
pub record Next : Type 0 where
  pub declared : Declared
  pub due : List Due

abbrev pub next : Declared → List Due → Next
next D ds = record { declared = D; due = ds }

-- With all its parameters, a label is declared; so is a process, and its term is due.
abbrev pub declare : Declared → Owner → List ℕ → Next
declare D of_label ds = next (record { domains = D.domains; labels = D.labels ++ (ds ∷ []); functions = D.functions; processes = D.processes }) []
declare D of_process ds =
    next (record { domains = D.domains; labels = D.labels; functions = D.functions; processes = D.processes ++ (ds ∷ []) }) (term_code D.processes ds ∷ [])

-- n parameters more, after those of ds.
abbrev pub parameters : Declared → Owner → ℕ → List ℕ → Next
parameters D o zero ds = declare D o ds
parameters D o (suc n) ds = next D (parameter o n ds ∷ [])

-- Function i: its parameters, its expression for the empty trace, one per label; and n functions from i on.
module _ (L : Edition) (D : Declared) where
  abbrev pub expressions : ℕ → List Due
  expressions i = data_code (empty_trace_scope L D i) ∷ map (λ ds. data_code (label_scope L D i (length ds))) D.labels

  abbrev pub functions_from : ℕ → ℕ → List Due
  functions_from zero i = []
  functions_from (suc n) i = replicate (parameters_of D i) function_parameter ++ (expressions i ++ functions_from n (i + 1))

-- With all parameter counts known, n functions are declared, and their parameters and expressions are due.
abbrev pub declare_functions : Edition → Declared → ℕ → List ℕ → Next
declare_functions L D n counts =
    let E : Declared = record { domains = D.domains; labels = D.labels; functions = counts; processes = D.processes } in next E (functions_from L E n 0)

-- k parameter counts more, after those of counts.
abbrev pub parameter_counts : Edition → Declared → ℕ → ℕ → List ℕ → Next
parameter_counts L D n zero counts = declare_functions L D n counts
parameter_counts L D n (suc k) counts = next D (function_parameter_count n k counts ∷ [])

-- n processes, the last of them main, which has no parameter.
abbrev pub processes_due : ℕ → List Due
processes_due zero = []
processes_due (suc zero) = parameter_count of_process 0 ∷ []
processes_due (suc (suc n)) = parameter_count of_process Limits.process_parameters ∷ processes_due (suc n)

-- The words of a constant after one that is not its last.
abbrev pub more_words : (ℕ → List ℕ → Due) → ℕ → List ℕ → ℕ → List Due
more_words due zero vs w = []
more_words due (suc zero) vs w = []
more_words due (suc (suc n)) vs w = due (suc n) (vs ++ (w ∷ [])) ∷ []

abbrev pub arguments : List ℕ → List ℕ → List Due
arguments Γ ds = map (argument_code Γ) ds

abbrev pub follow : Edition → Declared → Due → ℕ → Next
follow L D domain_count w = next D (replicate w domain_size)
follow L D domain_size w = next (record { domains = D.domains ++ (w ∷ []); labels = D.labels; functions = D.functions; processes = D.processes }) []
follow L D label_count w = next D (replicate w (parameter_count of_label Limits.label_parameters))
follow L D function_count w = pick L.counts_written (parameter_counts L D w w []) (declare_functions L D w (replicate w 1))
follow L D (function_parameter_count n k counts) w = parameter_counts L D n k (counts ++ (w ∷ []))
follow L D process_count w = next D (processes_due w)
follow L D (parameter_count o limit) w = parameters D o w []
follow L D (parameter o n ds) w = parameters D o n (ds ++ (w ∷ []))
follow L D function_parameter w = next D []
follow L D (data_code P) w = next D (operands (data_operands L P w))
follow L D (condition_code P) w = next D (operands (condition_operands P w))
follow L D (constant top n vs) w = next D (more_words (constant top) n vs w)
follow L D (variable_number P) w = next D []
follow L D (function_number limit P) w = next D (replicate (P.arity w) (data_code P))
follow L D (term_code lower Γ) w = next D (operands (term_operands L D lower Γ w))
follow L D (label_number Γ) w = next D (arguments Γ (get_or D.labels w []))
follow L D (process_number lower Γ) w = next D (arguments Γ (get_or lower w []))
follow L D (choice_domain lower Γ) w = next D (term_code lower (Γ ++ (w ∷ [])) ∷ [])
follow L D (parallel_domain lower Γ) w = next D (mask D ++ (term_code lower (Γ ++ (w ∷ [])) ∷ []))
follow L D (mask_word n) w = next D []
follow L D (argument_code Γ d) w = next D (operands (argument_operands L Γ d w))
follow L D (argument_constant d n vs) w = next D (more_words (argument_constant d) n vs w)
follow L D (argument_variable Γ d) w = next D []
follow L D running_code w = next D (operands (running_operands L D w))
follow L D running_label w = next D (map element_code (get_or D.labels w []))
follow L D (element_code d) w = next D (element_constant d L.width [] ∷ [])
follow L D (element_constant d n vs) w = next D (more_words (element_constant d) n vs w)

-- ── the verdict: the number of the first offending word, or none ──

-- The end: at most n words more, all zero.
unfoldable pub padding : ℕ → List ℕ → Option ℕ
padding n [] = none
padding zero (w ∷ t) = some Refusal.form
padding (suc n) (w ∷ t) = pick (eqb w 0) (padding n t) (some Refusal.form)

-- With nothing due: at most `allowed_zeros` words more, each 0. With something due and no word left: cut short.
unfoldable pub verdict : (allowed_zeros : ℕ) → Edition → List ℕ → Declared → List Due → Option ℕ
verdict allowed_zeros L [] D [] = none
verdict allowed_zeros L [] D (d ∷ ds) = some Refusal.form
verdict allowed_zeros L (w ∷ t) D [] = padding allowed_zeros (w ∷ t)
verdict allowed_zeros L (w ∷ t) D (d ∷ ds) = judge (tests L D d w) (verdict allowed_zeros L t (follow L D d w).declared ((follow L D d w).due ++ ds))

-- The stream's items 2 to 5, after its first two words.
abbrev pub sections : List Due
sections = domain_count ∷ label_count ∷ function_count ∷ process_count ∷ []

-- After them only the last block's zeros: fewer than its 254 words.
abbrev pub first_offending : Edition → List ℕ → Option ℕ
first_offending L words = verdict 253 L words nothing_declared sections

-- Its place: how many words pass before it; all of them where none offends.
abbrev pub passed : Tests → Bool
passed x = x.form && (x.reference && x.kind)

unfoldable pub padding_place : ℕ → List ℕ → ℕ
padding_place n [] = 0
padding_place zero (w ∷ t) = 0
padding_place (suc n) (w ∷ t) = pick (eqb w 0) (suc (padding_place n t)) 0

unfoldable pub place : Edition → List ℕ → Declared → List Due → ℕ
place L [] D ds = 0
place L (w ∷ t) D [] = padding_place 253 (w ∷ t)
place L (w ∷ t) D (d ∷ ds) = pick (passed (tests L D d w)) (suc (place L t (follow L D d w).declared ((follow L D d w).due ++ ds))) 0

abbrev pub first_place : Edition → List ℕ → ℕ
first_place L words = place L words nothing_declared sections
