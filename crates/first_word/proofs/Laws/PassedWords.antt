-- For refusals 4, 5 and 6 (document 01, "Operations"): what holds of what is declared and due (FirstOffendingWord) stays so after a word that passes:
-- `step`. Domains have elements, parameters have domains, only the next word due may be one that nothing can meet. For constants of one word.
use Rattle.std.specs.Prelude.{◌≡◌, refl, Bool, true, false, ◌&&◌, ◌⊎◌, List, [], ◌∷◌, ◌++◌, map, ℕ, zero, suc, ◌+◌, ◌≤◌, T, eqb, ltb, leb, length, get_or, replicate}
use Rattle.std.proofs.Common.{inl, inr, arith, ltb→lt, leb→le, length-append}
use Rattle.std.proofs.Math.Option.{Option, none, some}
use Rattle.eb3.specs.Limits
use Rattle.eb3.specs.Editions.{Edition}
use Rattle.eb3.specs.Scopes.{Scope}
use Rattle.eb3.specs.Generic.Booleans.{T_fst}
use Rattle.eb3.proofs.Laws.Refusals.{picked}
use Rattle.eb3.specs.Generic.AllLists.{All, all_at, all_map, all_append}
use Rattle.first_word.specs.FirstOffendingWord.{Declared, Owner, of_label, of_process, Due, domain_count, domain_size, label_count, function_count, process_count, parameter_count, parameter, function_parameter_count, function_parameter, data_code, condition_code, constant, variable_number, function_number, term_code, label_number, process_number, choice_domain, parallel_domain, mask_word, argument_code, argument_constant, argument_variable, running_code, running_label, element_code, element_constant, Tests, passed, tests, judge, Next, follow, declare, parameters, declare_functions, parameter_counts, parameters_of, label_scope, expressions, functions_from, processes_due, arguments, data_operands, condition_operands, term_operands, argument_operands, operands, mask_words, mask}

-- ── tests ──

pub judge_passed : (x : Tests) (v : Option ℕ) → T (passed x) → judge x v ≡ v
unfolding judge
judge_passed x v h = go x.form x.reference x.kind h
  where
    go : (f r k : Bool) → T (f && (r && k)) → judge (record { form = f; reference = r; kind = k }) v ≡ v
    go true true true h = refl
    go true true false h = absurd h
    go true false k h = absurd h
    go false r k h = absurd h

-- ── what holds of what is due ──

-- The processes it may call, the domains that must have elements, the words of a constant, whether it declares a domain, and whether it can
-- always be met.
pub record Facts : Type 0 where
  pub lower : List (List ℕ)
  pub domains : List ℕ
  pub words : ℕ
  pub opening : Bool
  pub plain : Bool

abbrev pub free : Facts
free = record { lower = []; domains = []; words = 1; opening = false; plain = true }

abbrev pub number : Facts
number = record { lower = []; domains = []; words = 1; opening = false; plain = false }

abbrev pub in_term : List (List ℕ) → Bool → Facts
in_term lower b = record { lower = lower; domains = []; words = 1; opening = false; plain = b }

-- What never occurs in a stream: no word is due as it.
abbrev pub never : Facts
never = record { lower = []; domains = []; words = 0; opening = false; plain = false }

abbrev pub facts : Due → Facts
facts domain_count = record { lower = []; domains = []; words = 0; opening = true; plain = false }
facts domain_size = record { lower = []; domains = []; words = 1; opening = true; plain = true }
facts label_count = free
facts function_count = free
facts process_count = free
facts (parameter_count o limit) = free
facts (parameter o n ds) = record { lower = []; domains = ds; words = 1; opening = false; plain = false }
facts (function_parameter_count n k counts) = number
facts function_parameter = free
facts (data_code P) = free
facts (condition_code P) = free
facts (constant top n vs) = record { lower = []; domains = []; words = n; opening = false; plain = false }
facts (variable_number P) = number
facts (function_number limit P) = number
facts (term_code lower Γ) = in_term lower true
facts (label_number Γ) = number
facts (process_number lower Γ) = in_term lower false
facts (choice_domain lower Γ) = in_term lower false
facts (parallel_domain lower Γ) = in_term lower false
facts (mask_word n) = free
facts (argument_code Γ d) = record { lower = []; domains = d ∷ []; words = 1; opening = false; plain = true }
facts (argument_constant d n vs) = record { lower = []; domains = d ∷ []; words = n; opening = false; plain = false }
facts (argument_variable Γ d) = number
facts running_code = never
facts running_label = never
facts (element_code d) = never
facts (element_constant d n vs) = never

abbrev pub Element : Declared → ℕ → Type 0
Element D d = 1 ≤ get_or D.domains d 0

abbrev pub Elements : Declared → List ℕ → Type 0
Elements D ds = All (Element D) ds

abbrev pub Sane : Declared → Type 0
Sane D = All (λ n. 1 ≤ n) D.domains × All (Elements D) D.labels × All (Elements D) D.processes

abbrev pub Fine : Declared → Due → Type 0
Fine D d = All (Elements D) (facts d).lower × Elements D (facts d).domains × ((facts d).words ≡ 1)

abbrev pub Tail : Declared → List Due → Type 0
Tail D ds = All (λ d. Fine D d × T (facts d).plain) ds

abbrev pub Dues : Declared → List Due → Type 0
Dues D [] = Unit
Dues D (d ∷ ds) = Fine D d × Tail D ds

abbrev pub Opened : Declared → List Due → Type 0
Opened D [] = Unit
Opened D (d ∷ ds) = T (facts d).opening ⊎ (1 ≤ length D.domains)

-- More domains keep what holds.
abbrev pub Grows : Declared → Declared → Type 0
Grows D E = ((d : ℕ) → Element D d → Element E d) × (length D.domains ≤ length E.domains)

pub fine_grows : (D E : Declared) → Grows D E → (d : Due) → Fine D d → Fine E d
fine_grows D E g d h = (all_map (Elements D) (Elements E) (all_map (Element D) (Element E) g.0) (facts d).lower h.0, all_map (Element D) (Element E) g.0 (facts d).domains h.1, h.2)

pub tail_grows : (D E : Declared) → Grows D E → (ds : List Due) → Tail D ds → Tail E ds
tail_grows D E g ds h = all_map (λ d. Fine D d × T (facts d).plain) (λ d. Fine E d × T (facts d).plain) (λ d p. (fine_grows D E g d p.0, p.1)) ds h

pub dues_of_tail : (D : Declared) (ds : List Due) → Tail D ds → Dues D ds
dues_of_tail D [] h = tt
dues_of_tail D (d ∷ ds) h = (h.0.0, h.1)

pub tail_append : (D : Declared) (ds es : List Due) → Tail D ds → Tail D es → Tail D (ds ++ es)
tail_append D ds es p q = all_append (λ d. Fine D d × T (facts d).plain) ds es p q

pub dues_append : (D : Declared) (ds es : List Due) → Dues D ds → Tail D es → Dues D (ds ++ es)
dues_append D [] es p q = dues_of_tail D es q
dues_append D (d ∷ ds) es p q = (p.0, tail_append D ds es p.1 q)

pub grown : (ns : List ℕ) (w d : ℕ) → 1 ≤ get_or ns d 0 → 1 ≤ get_or (ns ++ (w ∷ [])) d 0
grown [] w d h = let z : ⊥ = omega arith in absurd z
grown (n ∷ ns) w zero h = h
grown (n ∷ ns) w (suc d) h = grown ns w d h

pub tail_replicate : (D : Declared) (n : ℕ) (d : Due) → Fine D d → T (facts d).plain → Tail D (replicate n d)
tail_replicate D zero d p q = tt
tail_replicate D (suc n) d p q = ((p, q), tail_replicate D n d p q)

pub tail_arguments : (D : Declared) (Γ ds : List ℕ) → Elements D ds → Tail D (arguments Γ ds)
tail_arguments D Γ [] h = tt
tail_arguments D Γ (d ∷ ds) h = (((tt, (h.0, tt), refl), tt), tail_arguments D Γ ds h.1)

-- ── a word that passes ──

pub record Stepped (D : Declared) (N : Next) : Type 0 where
  pub sane : Sane N.declared
  pub grows : Grows D N.declared
  pub dues : Dues N.declared N.due
  pub started : 1 ≤ length N.declared.domains

abbrev pub Started : Declared → Due → Type 0
Started D d = T (facts d).opening ⊎ (1 ≤ length D.domains)

pub has_domain : (n : ℕ) → ⊥ ⊎ (1 ≤ n) → 1 ≤ n
has_domain n (inl h) = absurd h
has_domain n (inr h) = h

pub grows_same : (D : Declared) → Grows D D
grows_same D = (λ d h. h, omega arith)

abbrev pub OperandsFine : Declared → Option (List Due) → Type 0
OperandsFine D none = Unit
OperandsFine D (some ds) = Dues D ds

pub operands_fine : (D : Declared) (o : Option (List Due)) → OperandsFine D o → Dues D (operands o)
operands_fine D none h = tt
operands_fine D (some ds) h = h

pub tail_mask : (D : Declared) (k n : ℕ) → Tail D (mask_words k n)
tail_mask D zero n = tt
tail_mask D (suc k) n = (((tt, tt, refl), tt), tail_mask D k _)

pub tail_data : (D : Declared) (scope : List ℕ → Scope) (ls : List (List ℕ)) → Tail D (map (λ ds. data_code (scope ds)) ls)
tail_data D scope [] = tt
tail_data D scope (l ∷ ls) = (((tt, tt, refl), tt), tail_data D scope ls)

module _ (L : Edition) (one : L.width ≡ 1) where
  pub data_fine : (D : Declared) (P : Scope) (c : ℕ) → OperandsFine D (data_operands L P c)
  data_fine D P c =
      picked Q (eqb c 0) _ _ tt
      (picked Q (eqb c 1) _ _ ((tt, tt, one), tt)
      (picked Q (eqb c 2) _ _ ((tt, tt, refl), tt)
      (picked Q (eqb c 3) _ _ ((tt, tt, refl), (((tt, tt, refl), tt), tt))
      (picked Q (eqb c 4) _ _ ((tt, tt, refl), (((tt, tt, refl), tt), tt))
      (picked Q (eqb c 5) _ _ ((tt, tt, refl), (((tt, tt, refl), tt), (((tt, tt, refl), tt), tt)))
      (picked Q (eqb c 6) _ _ ((tt, tt, refl), tt)
      (picked Q (eqb c 7) _ _ (picked Q (ltb 0 P.before) _ _ ((tt, tt, refl), tt) tt) tt)))))))
    where
      Q : Option (List Due) → Type 0
      Q = OperandsFine D

  pub condition_fine : (D : Declared) (P : Scope) (c : ℕ) → OperandsFine D (condition_operands P c)
  condition_fine D P c =
      picked Q (eqb c 8) _ _ ((tt, tt, refl), (((tt, tt, refl), tt), tt))
      (picked Q (eqb c 9) _ _ ((tt, tt, refl), (((tt, tt, refl), tt), tt))
      (picked Q (eqb c 10) _ _ ((tt, tt, refl), (((tt, tt, refl), tt), tt))
      (picked Q (eqb c 11) _ _ ((tt, tt, refl), (((tt, tt, refl), tt), tt))
      (picked Q (eqb c 12) _ _ ((tt, tt, refl), tt)
      (picked Q (eqb c 13) _ _ tt tt)))))
    where
      Q : Option (List Due) → Type 0
      Q = OperandsFine D

  pub term_fine : (D : Declared) (lower : List (List ℕ)) (Γ : List ℕ) → All (Elements D) lower → (c : ℕ) → OperandsFine D (term_operands L D lower Γ c)
  term_fine D lower Γ q c =
      picked Q (eqb c 20) _ _ tt
      (picked Q (eqb c 21) _ _ ((tt, tt, refl), tt)
      (picked Q (eqb c 22) _ _ ((q, tt, refl), (((q, tt, refl), tt), tt))
      (picked Q (eqb c 23) _ _ ((q, tt, refl), (((q, tt, refl), tt), tt))
      (picked Q (eqb c 24) _ _ ((q, tt, refl), tt)
      (picked Q (eqb c 25) _ _ (dues_of_tail D (mask D ++ (term_code lower Γ ∷ term_code lower Γ ∷ [])) (tail_append D (mask D) (term_code lower Γ ∷ term_code lower Γ ∷ []) (tail_mask D 4 (length D.labels)) (((q, tt, refl), tt), (((q, tt, refl), tt), tt))))
      (picked Q (eqb c 26) _ _ ((tt, tt, refl), (((q, tt, refl), tt), tt))
      (picked Q (eqb c 27) _ _ (picked Q (ltb (length Γ) Limits.variables) _ _ ((q, tt, refl), tt) tt)
      (picked Q (eqb c 28) _ _ (picked Q (ltb (length Γ) Limits.variables) _ _ ((q, tt, refl), tt) tt)
      (picked Q (eqb c 29) _ _ ((q, tt, refl), tt) tt)))))))))
    where
      Q : Option (List Due) → Type 0
      Q = OperandsFine D

  pub argument_fine : (D : Declared) (Γ : List ℕ) (d : ℕ) → Element D d → (c : ℕ) → OperandsFine D (argument_operands L Γ d c)
  argument_fine D Γ d h c = picked Q (eqb c 1) _ _ ((tt, (h, tt), one), tt) (picked Q (eqb c 2) _ _ ((tt, tt, refl), tt) tt)
    where
      Q : Option (List Due) → Type 0
      Q = OperandsFine D

  pub tail_functions : (D : Declared) (k i : ℕ) → Tail D (functions_from L D k i)
  tail_functions D zero i = tt
  tail_functions D (suc k) i =
      tail_append D (replicate (parameters_of D i) function_parameter) (expressions L D i ++ functions_from L D k (i + 1)) (tail_replicate D (parameters_of D i) function_parameter (tt, tt, refl) tt)
      (tail_append D (expressions L D i) (functions_from L D k (i + 1)) (((tt, tt, refl), tt), tail_data D (λ ds. label_scope L D i (length ds)) D.labels) (tail_functions D k (i + 1)))

  pub tail_processes : (D : Declared) (k : ℕ) → Tail D (processes_due k)
  tail_processes D zero = tt
  tail_processes D (suc zero) = (((tt, tt, refl), tt), tt)
  tail_processes D (suc (suc k)) = (((tt, tt, refl), tt), tail_processes D (suc k))

  pub same_declared : (D : Declared) (ds : List Due) → Sane D → ⊥ ⊎ (1 ≤ length D.domains) → Dues D ds → Stepped D (record { declared = D; due = ds })
  same_declared D ds s o h = record { sane = s; grows = grows_same D; dues = h; started = has_domain (length D.domains) o }

  pub declared_stepped : (D : Declared) (o : Owner) (ds : List ℕ) → Sane D → ⊥ ⊎ (1 ≤ length D.domains) → Elements D ds → Stepped D (declare D o ds)
  declared_stepped D of_label ds s o h = record { sane = (s.0, all_append (Elements D) D.labels (ds ∷ []) s.1 (h, tt), s.2); grows = grows_same D; dues = tt; started = has_domain (length D.domains) o }
  declared_stepped D of_process ds s o h = record { sane = (s.0, s.1, all_append (Elements D) D.processes (ds ∷ []) s.2 (h, tt)); grows = grows_same D; dues = ((s.2, tt, refl), tt); started = has_domain (length D.domains) o }

  pub parameters_stepped : (D : Declared) (o : Owner) (n : ℕ) (ds : List ℕ) → Sane D → ⊥ ⊎ (1 ≤ length D.domains) → Elements D ds → Stepped D (parameters D o n ds)
  parameters_stepped D o zero ds s b h = declared_stepped D o ds s b h
  parameters_stepped D o (suc n) ds s b h = same_declared D (parameter o n ds ∷ []) s b ((tt, h, refl), tt)

  pub functions_stepped : (D : Declared) (n : ℕ) (counts : List ℕ) → Sane D → ⊥ ⊎ (1 ≤ length D.domains) → Stepped D (declare_functions L D n counts)
  functions_stepped D n counts s o =
      record { sane = s; grows = grows_same D; dues = dues_of_tail E (functions_from L E n 0) (tail_functions E n 0); started = has_domain (length D.domains) o }
    where
      E : Declared
      E = record { domains = D.domains; labels = D.labels; functions = counts; processes = D.processes }

  pub counts_stepped : (D : Declared) (n k : ℕ) (counts : List ℕ) → Sane D → ⊥ ⊎ (1 ≤ length D.domains) → Stepped D (parameter_counts L D n k counts)
  counts_stepped D n zero counts s o = functions_stepped D n counts s o
  counts_stepped D n (suc k) counts s o = same_declared D (function_parameter_count n k counts ∷ []) s o ((tt, tt, refl), tt)

  pub step : (D : Declared) (d : Due) (w : ℕ) → Fine D d → Sane D → Started D d → T (passed (tests L D d w)) → Stepped D (follow L D d w)
  step D domain_count w h s o p = let z : ⊥ = omega (arith, h.2) in absurd z
  step D domain_size w h s o p =
      let l : 1 ≤ w = leb→le 1 w (T_fst (leb 1 w) (leb w Limits.domain_size) (T_fst (leb 1 w && leb w Limits.domain_size) true p)) in
      record {
        sane = (all_append (λ n. 1 ≤ n) D.domains (w ∷ []) s.0 (l, tt), all_map (Elements D) (Elements E) up D.labels s.1, all_map (Elements D) (Elements E) up D.processes s.2);
        grows = (grown D.domains w, omega (arith, length-append D.domains (w ∷ [])));
        dues = tt;
        started = omega (arith, length-append D.domains (w ∷ []));
      }
    where
      E : Declared
      E = record { domains = D.domains ++ (w ∷ []); labels = D.labels; functions = D.functions; processes = D.processes }

      up : (ds : List ℕ) → Elements D ds → Elements E ds
      up ds h = all_map (Element D) (Element E) (grown D.domains w) ds h
  step D label_count w h s o p = same_declared D _ s o (dues_of_tail D (replicate w (parameter_count of_label Limits.label_parameters)) (tail_replicate D w (parameter_count of_label Limits.label_parameters) (tt, tt, refl) tt))
  step D function_count w h s o p = picked (Stepped D) L.counts_written _ _ (counts_stepped D w w [] s o) (functions_stepped D w (replicate w 1) s o)
  step D (function_parameter_count n k counts) w h s o p = counts_stepped D n k (counts ++ (w ∷ [])) s o
  step D process_count w h s o p = same_declared D _ s o (dues_of_tail D (processes_due w) (tail_processes D w))
  step D (parameter_count b limit) w h s o p = parameters_stepped D b w [] s o tt
  step D (parameter b n ds) w h s o p =
      parameters_stepped D b n (ds ++ (w ∷ [])) s o (all_append (Element D) ds (w ∷ []) h.1 (all_at (λ n. 1 ≤ n) D.domains s.0 w 0 (ltb→lt w (length D.domains) (T_fst (ltb w (length D.domains)) true p)), tt))
  step D function_parameter w h s o p = same_declared D [] s o tt
  step D (data_code P) w h s o p = same_declared D _ s o (operands_fine D (data_operands L P w) (data_fine D P w))
  step D (condition_code P) w h s o p = same_declared D _ s o (operands_fine D (condition_operands P w) (condition_fine D P w))
  step D (constant top zero vs) w h s o p = same_declared D [] s o tt
  step D (constant top (suc zero) vs) w h s o p = same_declared D [] s o tt
  step D (constant top (suc (suc n)) vs) w h s o p = let z : ⊥ = omega (arith, h.2) in absurd z
  step D (variable_number P) w h s o p = same_declared D [] s o tt
  step D (function_number limit P) w h s o p = same_declared D _ s o (dues_of_tail D (replicate (P.arity w) (data_code P)) (tail_replicate D (P.arity w) (data_code P) (tt, tt, refl) tt))
  step D (term_code lower Γ) w h s o p = same_declared D _ s o (operands_fine D (term_operands L D lower Γ w) (term_fine D lower Γ h.0 w))
  step D (label_number Γ) w h s o p =
      same_declared D _ s o (dues_of_tail D (arguments Γ (get_or D.labels w [])) (tail_arguments D Γ (get_or D.labels w []) (all_at (Elements D) D.labels s.1 w [] (ltb→lt w (length D.labels) (T_fst (ltb w (length D.labels)) true p)))))
  step D (process_number lower Γ) w h s o p =
      same_declared D _ s o (dues_of_tail D (arguments Γ (get_or lower w [])) (tail_arguments D Γ (get_or lower w []) (all_at (Elements D) lower h.0 w [] (ltb→lt w (length lower) (T_fst (ltb w (length lower)) true p)))))
  step D (choice_domain lower Γ) w h s o p = same_declared D _ s o ((h.0, tt, refl), tt)
  step D (parallel_domain lower Γ) w h s o p = same_declared D _ s o (dues_of_tail D (mask D ++ (term_code lower (Γ ++ (w ∷ [])) ∷ [])) (tail_append D (mask D) (term_code lower (Γ ++ (w ∷ [])) ∷ []) (tail_mask D 4 (length D.labels)) (((h.0, tt, refl), tt), tt)))
  step D (mask_word n) w h s o p = same_declared D [] s o tt
  step D (argument_code Γ d) w h s o p = same_declared D _ s o (operands_fine D (argument_operands L Γ d w) (argument_fine D Γ d h.1.0 w))
  step D (argument_constant d zero vs) w h s o p = same_declared D [] s o tt
  step D (argument_constant d (suc zero) vs) w h s o p = same_declared D [] s o tt
  step D (argument_constant d (suc (suc n)) vs) w h s o p = let z : ⊥ = omega (arith, h.2) in absurd z
  step D (argument_variable Γ d) w h s o p = same_declared D [] s o tt
  step D running_code w h s o p = let z : ⊥ = omega (arith, h.2) in absurd z
  step D running_label w h s o p = let z : ⊥ = omega (arith, h.2) in absurd z
  step D (element_code d) w h s o p = let z : ⊥ = omega (arith, h.2) in absurd z
  step D (element_constant d n vs) w h s o p = let z : ⊥ = omega (arith, h.2) in absurd z
