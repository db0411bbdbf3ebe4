-- The readers of masks, arguments and rule terms follow the verdict word by word (document 01, "Blocks and the rule stream", term codes; refusals 4, 5 and 6).
use Rattle.std.specs.Prelude.{◌≡◌, Bool, eqb, ltb, leb, length, get_or}
use Rattle.std.proofs.Math.Path.{refl, ap}
use Rattle.std.proofs.Common.{◌∙◌, subst, arith}
use Rattle.std.proofs.Math.Bool.{true, false}
use mathlib.Core.List.{List, [], ◌∷◌, ◌++◌, map}
use Rattle.std.proofs.Math.Option.{Option, some}
use Prim.Native.Nat.{ℕ, zero, suc, ◌-◌, ◌^◌, ◌≤◌, min}
use Rattle.eb3.specs.Refusal
use Rattle.eb3.specs.Limits
use Rattle.eb3.specs.Editions.{Edition}
use Rattle.eb3.specs.Scopes
use Rattle.eb3.specs.RuleSets.{Argument, constant_argument, variable_argument, RuleTerm, rule_internal, rule_perform, rule_sequence, rule_choice, rule_star, rule_parallel, rule_guard, choice_over, parallel_over, call, Function, Process, RuleSet, no_process, attributes}
use Rattle.eb3.specs.Reading.{Read, refused, taken, Reader, pick, giving, then, both, number_of, by_number, number_in}
use Rattle.eb3.specs.ExpressionReading.{read_cond}
use Rattle.eb3.specs.TermReading.{mask_of}
use Rattle.eb3.specs.RuleReading.{argument_of, arguments_of, rule_action_of, call_of, rule_mask_of, choice_over_of, parallel_over_of, RuleKind, rule_kind, rule_by, rule_terms, read_rule_term}
use Rattle.first_word.specs.FirstOffendingWord.{Declared, Due, condition_code, term_code, label_number, process_number, choice_domain, parallel_domain, mask_word, argument_code, argument_constant, argument_variable, guard_scope, mask_words, mask, term_operands, argument_operands, arguments, judge, verdict}
use Rattle.first_word.proofs.Laws.FirstOffendingWord.{followed, alike, Follows, giving_follows, both_follows, by_number_follows, number_follows, coded, code_judged, no_words, number_follows_in, condition_follows}

pub mask_follows : (L : Edition) (D : Declared) (n k labels : ℕ) → Follows L D n (mask_of k labels) (λ gs. mask_words k labels ++ gs)
unfolding mask_of verdict judge followed
mask_follows L D n zero labels = λ allowed_zeros gs g s l h. h [] s l
mask_follows L D n (suc k) labels = giving_follows L D n (λ p. p.0 ∷ p.1) (both (number_of Refusal.reference (2 ^ min labels 16)) (mask_of k (labels - 16))) (λ gs. mask_words (suc k) labels ++ gs)
    (both_follows L D n (number_of Refusal.reference (2 ^ min labels 16)) (mask_of k (labels - 16)) (λ gs. mask_word labels ∷ gs) (λ gs. mask_words k (labels - 16) ++ gs)
    (number_follows L D n (2 ^ min labels 16) (mask_word labels) (λ allowed_zeros w t gs. refl)) (mask_follows L D n k (labels - 16)))

-- The parameters of process p, with the processes given by their parameters.
pub lower_parameters : (ps : List Process) (p : ℕ) → get_or (map (λ (P : Process). P.parameters) ps) p [] ≡ (get_or ps p no_process).parameters
lower_parameters [] p = refl
lower_parameters (P ∷ ps) zero = refl
lower_parameters (P ∷ ps) (suc p) = lower_parameters ps p

-- The rule set that holds what is before a process, and what is declared there. The functions' parameter counts give the guards' scope.
module _ (L : Edition) (domains : List ℕ) (labels : List (List ℕ)) (functions : List Function) (ps : List Process) (counts : List ℕ) (qs : List (List ℕ)) where
  abbrev pub rules : RuleSet
  rules = record { edition = L; domains = domains; labels = labels; functions = functions; processes = ps }

  abbrev pub declared : Declared
  declared = record { domains = domains; labels = labels; functions = counts; processes = qs }

  abbrev pub lower : List (List ℕ)
  lower = map (λ (P : Process). P.parameters) ps

  module _ (n : ℕ) (Γ : List ℕ) (d : ℕ) where
    abbrev constant_reader : ℕ → Reader Argument
    constant_reader v u = pick (leb v L.top) (pick (ltb v (get_or domains d 0)) (taken (constant_argument v) u) (refused Refusal.kind)) (refused Refusal.form)

    constant_judged : (v : ℕ) (u : List ℕ) (g : Argument → List ℕ → Option ℕ) (x : Option ℕ) → ((a : Argument) → x ≡ g a u)
        → pick (leb v L.top) (pick (ltb v (get_or domains d 0)) x (some Refusal.kind)) (some Refusal.form) ≡ followed (constant_reader v u) g
    unfolding followed
    constant_judged v u g x h = go (leb v L.top) (ltb v (get_or domains d 0))
      where
        go : (b c : Bool) → pick b (pick c x (some Refusal.kind)) (some Refusal.form) ≡ followed (pick b (pick c (taken (constant_argument v) u) (refused Refusal.kind)) (refused Refusal.form)) g
        go true true = h (constant_argument v)
        go true false = refl
        go false c = refl

    constant_argument_follows : Follows L declared n (λ s. then (number_in L.width s) constant_reader) (λ gs. argument_constant d L.width [] ∷ gs)
    unfolding verdict judge
    constant_argument_follows = number_follows_in L declared (argument_constant d) (λ v x. pick (leb v L.top) (pick (ltb v (get_or domains d 0)) x (some Refusal.kind)) (some Refusal.form)) constant_reader
        (λ allowed_zeros vs w t gs. refl) (λ allowed_zeros vs w t gs. refl) (λ allowed_zeros m vs w t gs. refl) constant_judged L.width n

    variable_argument_follows : Follows L declared n (by_number Refusal.reference (length Γ) (λ i u. pick (eqb (get_or Γ i 0) d) (taken (variable_argument i) u) (refused Refusal.kind))) (λ gs. argument_variable Γ d ∷ gs)
    unfolding verdict judge followed by_number number_of then
    variable_argument_follows allowed_zeros gs g [] l h = refl
    variable_argument_follows allowed_zeros gs g (w ∷ t) l h = go (ltb w (length Γ))
      where
        k : ℕ → Reader Argument
        k i u = pick (eqb (get_or Γ i 0) d) (taken (variable_argument i) u) (refused Refusal.kind)

        kind : (c : Bool) → pick c (verdict allowed_zeros L t declared gs) (some Refusal.kind) ≡ followed (pick c (taken (variable_argument w) t) (refused Refusal.kind)) g
        kind true = h (variable_argument w) t (omega arith)
        kind false = refl

        go : (b : Bool) → pick b (pick (eqb (get_or Γ w 0) d) (verdict allowed_zeros L t declared gs) (some Refusal.kind)) (some Refusal.reference) ≡ followed (then (pick b (taken w t) (refused Refusal.reference)) k) g
        go true = kind (eqb (get_or Γ w 0) d)
        go false = refl

    argument_follows : Follows L declared n (argument_of rules Γ d) (λ gs. argument_code Γ d ∷ gs)
    unfolding verdict followed argument_of coded
    argument_follows allowed_zeros gs g [] l h = refl
    argument_follows allowed_zeros gs g (w ∷ t) l h = code_judged L declared allowed_zeros (argument_operands L Γ d w) t gs
        ∙ alike Q (eqb w 1) _ _ _ _ (constant_argument_follows allowed_zeros gs g t (omega arith) h)
        (alike Q (eqb w 2) _ _ _ _ (variable_argument_follows allowed_zeros gs g t (omega arith) h) refl)
      where
        Q : Option (List Due) → Read Argument → Type 0
        Q o r = coded L declared allowed_zeros o t gs ≡ followed r g

  module _ (n : ℕ) where
    arguments_follow : (Γ ds : List ℕ) → Follows L declared n (arguments_of rules Γ ds) (λ gs. arguments Γ ds ++ gs)
    unfolding arguments_of followed
    arguments_follow Γ [] = λ allowed_zeros gs g s l h. h [] s l
    arguments_follow Γ (d ∷ ds) = giving_follows L declared n (λ p. p.0 ∷ p.1) (both (argument_of rules Γ d) (arguments_of rules Γ ds)) (λ gs. arguments Γ (d ∷ ds) ++ gs)
        (both_follows L declared n (argument_of rules Γ d) (arguments_of rules Γ ds) (λ gs. argument_code Γ d ∷ gs) (λ gs. arguments Γ ds ++ gs) (argument_follows n Γ d) (arguments_follow Γ ds))

    action_follows : (Γ : List ℕ) → Follows L declared n (rule_action_of rules Γ) (λ gs. label_number Γ ∷ gs)
    unfolding rule_action_of verdict judge
    action_follows Γ = by_number_follows L declared n (length labels) (label_number Γ) (λ l gs. arguments Γ (get_or labels l []) ++ gs) (λ l u. giving (rule_perform l) (arguments_of rules Γ (get_or labels l []) u))
        (λ allowed_zeros w t gs. refl) (λ l b. giving_follows L declared n (rule_perform l) (arguments_of rules Γ (get_or labels l [])) (λ gs. arguments Γ (get_or labels l []) ++ gs) (arguments_follow Γ (get_or labels l [])))

    call_follows : length lower ≡ length ps → (Γ : List ℕ) → Follows L declared n (call_of rules Γ) (λ gs. process_number lower Γ ∷ gs)
    unfolding call_of verdict judge
    call_follows e Γ = by_number_follows L declared n (length ps) (process_number lower Γ) (λ p gs. arguments Γ (get_or lower p []) ++ gs) (λ p u. giving (call p) (arguments_of rules Γ (get_or ps p no_process).parameters u))
        (λ allowed_zeros w t gs. ap (λ m. pick (ltb w m) (verdict allowed_zeros L t declared (arguments Γ (get_or lower w []) ++ gs)) (some Refusal.reference)) e)
        (λ p b. giving_follows L declared n (call p) (arguments_of rules Γ (get_or ps p no_process).parameters) (λ gs. arguments Γ (get_or lower p []) ++ gs)
        (subst (λ ds. Follows L declared n (arguments_of rules Γ ds) (λ gs. arguments Γ (get_or lower p []) ++ gs)) (lower_parameters ps p) (arguments_follow Γ (get_or lower p []))))

  module _ (same_length : length lower ≡ length ps) (same_scope : (m : ℕ) → guard_scope L declared m ≡ Scopes.guard_scope (attributes rules) m) where
    module _ (n : ℕ) (e : List ℕ → Reader RuleTerm) (operand : (Γ : List ℕ) → Follows L declared n (e Γ) (λ gs. term_code lower Γ ∷ gs)) (Γ : List ℕ) where
      abbrev term : List Due → List Due
      term gs = term_code lower Γ ∷ gs

      abbrev mask_due : List Due → List Due
      mask_due gs = mask declared ++ gs

      pair_follows : (k : RuleTerm → RuleTerm → RuleTerm) → Follows L declared n (rule_by rules e Γ (RuleKind.pair k)) (λ gs. term (term gs))
      pair_follows k = giving_follows L declared n (λ p. k p.0 p.1) (both (e Γ) (e Γ)) (λ gs. term (term gs)) (both_follows L declared n (e Γ) (e Γ) term term (operand Γ) (operand Γ))

      parallel_follows : Follows L declared n (rule_by rules e Γ RuleKind.parallel) (λ gs. mask_due (term (term gs)))
      parallel_follows = giving_follows L declared n (λ p. rule_parallel p.0 p.1.0 p.1.1) (both (rule_mask_of rules) (both (e Γ) (e Γ))) (λ gs. mask_due (term (term gs)))
          (both_follows L declared n (rule_mask_of rules) (both (e Γ) (e Γ)) mask_due (λ gs. term (term gs)) (mask_follows L declared n 4 (length labels)) (both_follows L declared n (e Γ) (e Γ) term term (operand Γ) (operand Γ)))

      guard_follows : Follows L declared n (rule_by rules e Γ RuleKind.guard) (λ gs. condition_code (guard_scope L declared (length Γ)) ∷ term gs)
      guard_follows = giving_follows L declared n (λ p. rule_guard p.0 p.1) (both (read_cond (Scopes.guard_scope (attributes rules) (length Γ))) (e Γ)) (λ gs. condition_code (guard_scope L declared (length Γ)) ∷ term gs)
          (both_follows L declared n (read_cond (Scopes.guard_scope (attributes rules) (length Γ))) (e Γ) (λ gs. condition_code (guard_scope L declared (length Γ)) ∷ gs) term
          (subst (λ P. Follows L declared n (read_cond P) (λ gs. condition_code (guard_scope L declared (length Γ)) ∷ gs)) (same_scope (length Γ)) (condition_follows L declared (guard_scope L declared (length Γ)) refl n)) (operand Γ))

      choice_over_follows : Follows L declared n (choice_over_of rules e Γ) (λ gs. choice_domain lower Γ ∷ gs)
      unfolding choice_over_of verdict judge
      choice_over_follows = by_number_follows L declared n (length domains) (choice_domain lower Γ) (λ d gs. term_code lower (Γ ++ (d ∷ [])) ∷ gs) (λ d u. giving (choice_over d) (e (Γ ++ (d ∷ [])) u))
          (λ allowed_zeros w t gs. refl) (λ d b. giving_follows L declared n (choice_over d) (e (Γ ++ (d ∷ []))) (λ gs. term_code lower (Γ ++ (d ∷ [])) ∷ gs) (operand (Γ ++ (d ∷ []))))

      parallel_over_follows : Follows L declared n (parallel_over_of rules e Γ) (λ gs. parallel_domain lower Γ ∷ gs)
      unfolding parallel_over_of verdict judge
      parallel_over_follows = by_number_follows L declared n (length domains) (parallel_domain lower Γ) (λ d gs. mask_due (term_code lower (Γ ++ (d ∷ [])) ∷ gs)) (λ d u. giving (λ p. parallel_over d p.0 p.1) (both (rule_mask_of rules) (e (Γ ++ (d ∷ []))) u))
          (λ allowed_zeros w t gs. refl) (λ d b. giving_follows L declared n (λ p. parallel_over d p.0 p.1) (both (rule_mask_of rules) (e (Γ ++ (d ∷ [])))) (λ gs. mask_due (term_code lower (Γ ++ (d ∷ [])) ∷ gs))
          (both_follows L declared n (rule_mask_of rules) (e (Γ ++ (d ∷ []))) mask_due (λ gs. term_code lower (Γ ++ (d ∷ [])) ∷ gs) (mask_follows L declared n 4 (length labels)) (operand (Γ ++ (d ∷ [])))))

      term_at : (allowed_zeros : ℕ) (gs : List Due) (t : List ℕ) → length t ≤ n → (g : RuleTerm → List ℕ → Option ℕ) → ((a : RuleTerm) (u : List ℕ) → length u ≤ n → verdict allowed_zeros L u declared gs ≡ g a u)
          → (w : ℕ) → coded L declared allowed_zeros (term_operands L declared lower Γ w) t gs ≡ followed (rule_by rules e Γ (rule_kind Γ w) t) g
      unfolding coded followed
      term_at allowed_zeros gs t l g h w =
          alike Q (eqb w 20) _ _ _ _ (h rule_internal t l)
          (alike Q (eqb w 21) _ _ _ _ (action_follows n Γ allowed_zeros gs g t l h)
          (alike Q (eqb w 22) _ _ _ _ (pair_follows rule_sequence allowed_zeros gs g t l h)
          (alike Q (eqb w 23) _ _ _ _ (pair_follows rule_choice allowed_zeros gs g t l h)
          (alike Q (eqb w 24) _ _ _ _ (giving_follows L declared n rule_star (e Γ) term (operand Γ) allowed_zeros gs g t l h)
          (alike Q (eqb w 25) _ _ _ _ (parallel_follows allowed_zeros gs g t l h)
          (alike Q (eqb w 26) _ _ _ _ (guard_follows allowed_zeros gs g t l h)
          (alike Q (eqb w 27) _ _ _ _ (alike Q (ltb (length Γ) Limits.variables) _ _ _ _ (choice_over_follows allowed_zeros gs g t l h) refl)
          (alike Q (eqb w 28) _ _ _ _ (alike Q (ltb (length Γ) Limits.variables) _ _ _ _ (parallel_over_follows allowed_zeros gs g t l h) refl)
          (alike Q (eqb w 29) _ _ _ _ (call_follows n same_length Γ allowed_zeros gs g t l h)
          refl)))))))))
        where
          Q : Option (List Due) → RuleKind → Type 0
          Q o k = coded L declared allowed_zeros o t gs ≡ followed (rule_by rules e Γ k t) g

    rule_terms_follow : (n : ℕ) (Γ : List ℕ) → Follows L declared n (rule_terms rules n Γ) (λ gs. term_code lower Γ ∷ gs)
    unfolding rule_terms verdict followed
    rule_terms_follow zero Γ allowed_zeros gs g s l h = no_words L declared (term_code lower Γ) allowed_zeros gs g s l h
    rule_terms_follow (suc n) Γ allowed_zeros gs g [] l h = refl
    rule_terms_follow (suc n) Γ allowed_zeros gs g (w ∷ t) l h = code_judged L declared allowed_zeros (term_operands L declared lower Γ w) t gs
        ∙ term_at n (rule_terms rules n) (rule_terms_follow n) Γ allowed_zeros gs t (omega arith) g (λ a u m. h a u (omega arith)) w

    pub rule_term_follows : (n : ℕ) (Γ : List ℕ) → Follows L declared n (read_rule_term rules Γ) (λ gs. term_code lower Γ ∷ gs)
    unfolding read_rule_term
    rule_term_follows n Γ allowed_zeros gs g s l h = rule_terms_follow (length s) Γ allowed_zeros gs g s (omega arith) (λ a u m. h a u (omega arith))
