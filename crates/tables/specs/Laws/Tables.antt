-- What the tables declare, entry by entry, and the scope of a guard under them; and laws of the readers of masks and arguments: what is left is an end
-- of the words (`..-end`), what was read of a mask is its words, and there is one argument for each domain.
-- Document 01, "Blocks and the rule stream", item 5: masks and arguments, and what they are judged by.
use Rattle.std.specs.Prelude.{◌≡◌, ℕ, zero, suc, ◌+◌, ◌-◌, ◌^◌, ◌≤◌, ◌<◌, min, length, take, eqb, ltb, leb}
use Rattle.std.proofs.Math.Path.{refl, ap}
use Rattle.std.proofs.Common.{sym, ◌∙◌, subst, arith, take_at}
use mathlib.Core.List.{List, [], ◌∷◌, ◌++◌}
use Rattle.std.proofs.Math.Decide.{dec_lt}
use Rattle.std.proofs.Math.ListN.{get_or, length-replicate, get_or-replicate, get_or-eq_default}
use Rattle.std.proofs.lemmas.List.{length-map}
use Rattle.eb3.specs.Generic.Lists.{concat_map}
use Rattle.eb3.specs.Attributes.{number_of_functions}
use Rattle.eb3.specs.Scopes.{arities, guard_scope}
use Rattle.eb3.specs.RuleSets.{Argument, constant_argument, variable_argument, Function, Process, RuleSet, domain_size, label, no_rule, function_rule, no_process, process, attributes}
use Rattle.eb3.specs.WellFormedness.{BitsBelow, ArgumentsFit}
use Rattle.eb3.specs.RuleSpelling.{argument_words}
use Rattle.eb3.specs.Refusal
use Rattle.eb3.specs.Reading.{refused, taken, pick, both, number_of, number_in}
use Rattle.eb3.specs.TermReading.{mask_of}
use Rattle.eb3.specs.RuleReading.{argument_of, arguments_of}
use Rattle.eb3.proofs.Laws.Reading.{Sound}
use Rattle.eb3.proofs.Laws.TermReading.{mask_sound}
use Rattle.eb3.proofs.Laws.RuleTermReading.{arguments_sound}
use Rattle.eb3.proofs.Laws.RuleSets.{functions_counted, domain_is}
use Rattle.eb3.proofs.Laws.Attributes.{no_domain_beyond}
use Rattle.words.specs.Ends.{Fine, Ends}
use Rattle.words.specs.Laws.Checking.{tail_here, giving_fine, then_fine, both_ends, step_fine, pick_fine, number_ends, by_number_ends}
use Rattle.words.specs.Laws.Rows.{number_in_ends}
use Rattle.tables.specs.Layout.{sizes_place, label_place, process_place, domain_count, label_count, function_count, process_count}
use Rattle.tables.specs.Tables.{edition_in, from, row, some_function, process_row, declared, constant_of_domain, variable_of_domain}

-- Past the end of a table there is 0.
pub entry_beyond : (T : List ℕ) (at : ℕ) → length T ≤ at → ◌≡◌ {A = ℕ} 0 (get_or T at 0)
entry_beyond T at h = sym (get_or-eq_default T 0 h)

-- ── f i, f (i + 1) and so on ──

pub from_length : {A : Type 0} (i n : ℕ) (f : ℕ → A) → length (from i n f) ≡ n
unfolding from
from_length i zero f = refl
from_length i (suc n) f = ap suc (from_length (suc i) n f)

pub from_at : {A : Type 0} (i n : ℕ) (f : ℕ → A) (j : ℕ) (d : A) → j < n → get_or (from i n f) j d ≡ f (i + j)
unfolding from
from_at i zero f j d h = absurd (let z : ⊥ = omega arith in z)
from_at i (suc n) f zero d h = ap f (let e : i ≡ i + 0 = omega arith in e)
from_at i (suc n) f (suc j) d h = from_at (suc i) n f j d (omega arith) ∙ ap f (let e : suc i + j ≡ i + suc j = omega arith in e)

pub from_beyond : {A : Type 0} (i n : ℕ) (f : ℕ → A) (j : ℕ) (d : A) → n ≤ j → get_or (from i n f) j d ≡ d
from_beyond i n f j d h = get_or-eq_default (from i n f) d (omega (arith, from_length i n f))

from_zero_at : {A : Type 0} (n : ℕ) (f : ℕ → A) (j : ℕ) (d : A) → j < n → get_or (from 0 n f) j d ≡ f j
from_zero_at n f j d h = from_at 0 n f j d h ∙ ap f (let e : 0 + j ≡ j = omega arith in e)

-- ── what the tables declare ──

module _ (T : List ℕ) where
  pub edition_declared : (declared T).edition ≡ edition_in T
  unfolding declared
  edition_declared = refl

  pub domains_length : length (declared T).domains ≡ domain_count T
  unfolding declared
  domains_length = from_length 0 (domain_count T) (λ d. get_or T (sizes_place d) 0)

  pub domain_at : (d : ℕ) → d < domain_count T → domain_size (declared T) d ≡ get_or T (sizes_place d) 0
  unfolding declared
  domain_at d h = from_zero_at (domain_count T) (λ e. get_or T (sizes_place e) 0) d 0 h

  pub domain_beyond : (d : ℕ) → domain_count T ≤ d → domain_size (declared T) d ≡ 0
  unfolding declared
  domain_beyond d h = from_beyond 0 (domain_count T) (λ e. get_or T (sizes_place e) 0) d 0 h

  pub labels_length : length (declared T).labels ≡ label_count T
  unfolding declared
  labels_length = from_length 0 (label_count T) (λ l. row T (label_place l))

  pub label_at : (l : ℕ) → l < label_count T → label (declared T) l ≡ row T (label_place l)
  unfolding declared
  label_at l h = from_zero_at (label_count T) (λ k. row T (label_place k)) l [] h

  pub processes_length : length (declared T).processes ≡ process_count T
  unfolding declared
  processes_length = from_length 0 (process_count T) (process_row T)

  pub process_at : (p : ℕ) → p < process_count T → (process (declared T) p).parameters ≡ row T (process_place p)
  unfolding declared
  process_at p h = ap (λ (P : Process). P.parameters) (from_zero_at (process_count T) (process_row T) p no_process h)

  -- functions: `function_count T`, of one parameter each; one that is not defined counts as such too
  functions_length : length (declared T).functions ≡ function_count T
  unfolding declared
  functions_length = length-replicate (function_count T) some_function

  pub functions_declared : number_of_functions (attributes (declared T)) ≡ function_count T
  functions_declared = functions_counted (declared T) ∙ functions_length

  function_declared : (f : ℕ) → f < function_count T → function_rule (declared T) f ≡ some_function
  unfolding declared
  function_declared f h = get_or-replicate (function_count T) f some_function no_rule h

  pub arity_one : (f : ℕ) → arities (attributes (declared T)) f ≡ 1
  arity_one f = go (dec_lt f (function_count T))
    where
      go : Dec (f < function_count T) → arities (attributes (declared T)) f ≡ 1
      go (yes h) =
          ap length (domain_is (declared T) f (omega (arith, functions_length)))
          ∙ length-map (function_rule (declared T) f).parameters (domain_size (declared T))
          ∙ ap (λ (F : Function). length F.parameters) (function_declared f h)
      go (no h) = ap length (no_domain_beyond (attributes (declared T)) f (omega (arith, functions_declared)))

  pub guard_declared : (n : ℕ) → guard_scope (attributes (declared T)) n ≡ record { edition = edition_in T; arity = λ f. 1; now = function_count T; before = 0; variables = n }
  unfolding declared
  guard_declared n = λ i. record { edition = edition_in T; arity = λ f. arity_one f i; now = functions_declared i; before = 0; variables = n }

-- ── masks ──

pub mask_ends : (k n : ℕ) → Ends (mask_of k n)
unfolding mask_of
mask_ends zero n t = tail_here t
mask_ends (suc k) n t =
    giving_fine (λ p. p.0 ∷ p.1) t (both (number_of Refusal.reference (2 ^ min n 16)) (mask_of k (n - 16)) t)
    (both_ends (number_of Refusal.reference (2 ^ min n 16)) (mask_of k (n - 16)) (number_ends Refusal.reference (2 ^ min n 16)) (mask_ends k (n - 16)) t)

-- A mask that was read is spelled by the words it was read from, so what was read of a mask are its words.
pub mask_read : (k n : ℕ) (t Δ u : List ℕ) → mask_of k n t ≡ taken Δ u → Δ ≡ take k t
mask_read k n t Δ u e =
    let h : (t ≡ Δ ++ u) × ((length Δ ≡ k) × BitsBelow n Δ) = subst (λ r. Sound (λ (Γ : List ℕ). Γ) (λ Γ. (length Γ ≡ k) × BitsBelow n Γ) t r) e (mask_sound k n t) in
    sym (ap (take k) h.0 ∙ take_at Δ u k h.1.0)

-- ── arguments ──

constant_ends : (R : RuleSet) (d : ℕ) → Ends (constant_of_domain R d)
unfolding constant_of_domain
constant_ends R d t =
    then_fine (λ v u. pick (leb v R.edition.top) (pick (ltb v (domain_size R d)) (taken (constant_argument v) u) (refused Refusal.kind)) (refused Refusal.form))
    (λ v u. pick_fine u (leb v R.edition.top) _ _ (pick_fine u (ltb v (domain_size R d)) (taken (constant_argument v) u) _ (tail_here u) tt) tt)
    t (number_in R.edition.width t) (number_in_ends R.edition.width t)

variable_ends : (Γ : List ℕ) (d : ℕ) → Ends (variable_of_domain Γ d)
unfolding variable_of_domain
variable_ends Γ d t = by_number_ends Refusal.reference (length Γ) _ (λ i u. pick_fine u (eqb (get_or Γ i 0) d) (taken (variable_argument i) u) _ (tail_here u) tt) t

-- What comes after an argument's code is read as `Tables` says.
pub argument_is : (R : RuleSet) (Γ : List ℕ) (d c : ℕ) (t : List ℕ) → argument_of R Γ d (c ∷ t) ≡ pick (eqb c 1) (constant_of_domain R d t) (pick (eqb c 2) (variable_of_domain Γ d t) (refused Refusal.form))
unfolding argument_of constant_of_domain variable_of_domain
argument_is R Γ d c t = refl

pub argument_ends : (R : RuleSet) (Γ : List ℕ) (d : ℕ) → Ends (argument_of R Γ d)
unfolding argument_of
argument_ends R Γ d [] = tt
argument_ends R Γ d (c ∷ t) =
    subst (Fine (c ∷ t)) (sym (argument_is R Γ d c t))
    (step_fine c t (pick (eqb c 1) (constant_of_domain R d t) (pick (eqb c 2) (variable_of_domain Γ d t) (refused Refusal.form)))
    (pick_fine t (eqb c 1) (constant_of_domain R d t) _ (constant_ends R d t) (pick_fine t (eqb c 2) (variable_of_domain Γ d t) (refused Refusal.form) (variable_ends Γ d t) tt)))

pub arguments_end : (R : RuleSet) (Γ ds : List ℕ) → Ends (arguments_of R Γ ds)
unfolding arguments_of
arguments_end R Γ [] t = tail_here t
arguments_end R Γ (d ∷ ds) t =
    giving_fine (λ p. p.0 ∷ p.1) t (both (argument_of R Γ d) (arguments_of R Γ ds) t)
    (both_ends (argument_of R Γ d) (arguments_of R Γ ds) (argument_ends R Γ d) (arguments_end R Γ ds) t)

fit_length : (R : RuleSet) (Γ ds : List ℕ) (rs : List Argument) → ArgumentsFit R Γ ds rs → length rs ≡ length ds
fit_length R Γ [] [] h = refl
fit_length R Γ [] (r ∷ rs) h = absurd h
fit_length R Γ (d ∷ ds) [] h = absurd h
fit_length R Γ (d ∷ ds) (r ∷ rs) h = ap suc (fit_length R Γ ds rs h.1)

pub arguments_count : (R : RuleSet) (Γ ds t : List ℕ) (rs : List Argument) (u : List ℕ) → arguments_of R Γ ds t ≡ taken rs u → length rs ≡ length ds
arguments_count R Γ ds t rs u e =
    let h : (t ≡ concat_map (argument_words R.edition.width) rs ++ u) × ArgumentsFit R Γ ds rs = subst (λ r. Sound (concat_map (argument_words R.edition.width)) (ArgumentsFit R Γ ds) t r) e (arguments_sound R Γ ds t) in
    fit_length R Γ ds rs h.1
