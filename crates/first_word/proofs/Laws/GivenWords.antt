-- The reader of running terms follows the verdict word by word; so the words in which none is stray are exactly those of running terms (document 01,
-- "Unfolding, size and breadth", refusals 10 and 11): `given_words`.
use Rattle.std.specs.Prelude.{◌≡◌, ◌⊎◌, ◌↔◌, eqb, ltb, length, get_or}
use Rattle.std.proofs.Math.Path.{refl, ap, sym, fun_ext}
use Rattle.std.proofs.Common.{◌∙◌, subst, arith}
use Rattle.std.proofs.Math.Logic.{inl, inr}
use mathlib.Core.List.{List, [], ◌∷◌, ◌++◌, map, append-nil}
use Rattle.std.proofs.Math.Option.{Option, none, some}
use Prim.Native.Nat.{ℕ, zero, suc, ◌≤◌}
use Rattle.std.proofs.lemmas.List.{length-map}
use Rattle.eb3.specs.Refusal
use Rattle.eb3.specs.Editions.{Edition}
use Rattle.eb3.specs.Terms.{Term, Done, Internal, Perform, Sequence, Choice, Star, Parallel, Guard, Action, internal, visible}
use Rattle.eb3.specs.Spelling.{words}
use Rattle.eb3.specs.Attributes.{no_function, function, number_of_functions}
use Rattle.eb3.specs.Scopes.{arities}
use Rattle.eb3.specs.Scopes
use Rattle.eb3.specs.RuleSets.{Function, RuleSet, domain_size, sizes_of, label, attribute_function, attributes}
use Rattle.eb3.specs.Reading.{Read, refused, taken, Reader, pick, giving, then, both, number_in}
use Rattle.eb3.specs.ExpressionReading.{read_cond}
use Rattle.eb3.specs.TermReading.{mask_of, element_of, elements_of, perform, TermKind, term_kind, action_of, term_by, terms, read_term, term_of_action}
use Rattle.eb3.specs.WellFormedness.{WellFormedTerm, WellFormedAction}
use Rattle.eb3.proofs.Laws.Reading.{Sound}
use Rattle.eb3.proofs.Laws.TermReading.{term_sound, alone_taken, leaf_form}
use Rattle.first_word.specs.FirstOffendingWord.{Declared, Due, condition_code, running_code, running_label, element_code, element_constant, parameters_of, guard_scope, mask, running_operands, judge, padding, verdict}
use Rattle.first_word.specs.GivenWords.{declared_by, first_stray, GivenWords}
use Rattle.first_word.proofs.Laws.FirstOffendingWord.{Offends, followed, followed_pick, alike, nothing_due, Follows, giving_follows, both_follows, by_number_follows, coded, code_judged, no_words, number_follows_in, condition_follows}
use Rattle.first_word.proofs.Laws.FirstOffendingTerms.{mask_follows}

-- ── the guards' scope ──

-- The parameter count of function f, from the rules and from the attributes; one that is not defined counts as one of one parameter in both.
count_is : (R : RuleSet) (Fs : List Function) (f : ℕ) → get_or (map (λ (F : Function). length F.parameters) Fs) f 1 ≡ length (get_or (map (attribute_function R) Fs) f no_function).sizes
count_is R [] f = refl
count_is R (F ∷ Fs) zero = sym (length-map F.parameters (domain_size R))
count_is R (F ∷ Fs) (suc f) = count_is R Fs f

counts_are : (R : RuleSet) → parameters_of (declared_by R) ≡ arities (attributes R)
unfolding function
counts_are R = fun_ext (count_is R R.functions)

same_scope : (R : RuleSet) (n : ℕ) → guard_scope R.edition (declared_by R) n ≡ Scopes.guard_scope (attributes R) n
same_scope R n =
    let a : parameters_of (declared_by R) ≡ arities (attributes R) = counts_are R in
    let c : length (declared_by R).functions ≡ number_of_functions (attributes R) = length-map R.functions (λ (F : Function). length F.parameters) ∙ sym (length-map R.functions (attribute_function R)) in
    λ i. record { edition = R.edition; arity = a i; now = c i; before = 0; variables = n }

module _ (R : RuleSet) where
  abbrev L : Edition
  L = R.edition

  abbrev D : Declared
  D = declared_by R

  -- ── constant arguments ──

  module _ (n d : ℕ) where
    abbrev element_reader : ℕ → Reader ℕ
    element_reader v u = pick (ltb v (domain_size R d)) (taken v u) (refused Refusal.kind)

    constant_follows : Follows L D n (λ s. then (number_in L.width s) element_reader) (λ gs. element_constant d L.width [] ∷ gs)
    unfolding verdict judge followed
    constant_follows = number_follows_in L D (element_constant d) (λ v x. pick (ltb v (domain_size R d)) x (some Refusal.kind)) element_reader
        (λ allowed_zeros vs w t gs. refl) (λ allowed_zeros vs w t gs. refl) (λ allowed_zeros m vs w t gs. refl)
        (λ v u g x h. ap (λ y. pick (ltb v (domain_size R d)) y (some Refusal.kind)) (h v) ∙ sym (followed_pick (ltb v (domain_size R d)) (taken v u) (refused Refusal.kind) g)) L.width n

    element_follows : Follows L D n (element_of L.width (domain_size R d)) (λ gs. element_code d ∷ gs)
    unfolding verdict judge followed element_of
    element_follows allowed_zeros gs g [] l h = refl
    element_follows allowed_zeros gs g (w ∷ t) l h =
        ap (λ x. pick (eqb w 1) x (some Refusal.form)) (constant_follows allowed_zeros gs g t (omega arith) h) ∙ sym (followed_pick (eqb w 1) (then (number_in L.width t) element_reader) (refused Refusal.form) g)

  elements_follow : (n : ℕ) (ds : List ℕ) → Follows L D n (elements_of L.width (sizes_of R ds)) (λ gs. map element_code ds ++ gs)
  unfolding elements_of followed
  elements_follow n [] = λ allowed_zeros gs g s l h. h [] s l
  elements_follow n (d ∷ ds) =
      giving_follows L D n (λ p. p.0 ∷ p.1) (both (element_of L.width (domain_size R d)) (elements_of L.width (sizes_of R ds))) (λ gs. map element_code (d ∷ ds) ++ gs)
      (both_follows L D n (element_of L.width (domain_size R d)) (elements_of L.width (sizes_of R ds)) (λ gs. element_code d ∷ gs) (λ gs. map element_code ds ++ gs) (element_follows n d) (elements_follow n ds))

  -- ── terms ──

  action_follows : (n : ℕ) → Follows L D n (action_of R) (λ gs. running_label ∷ gs)
  unfolding action_of verdict judge
  action_follows n = by_number_follows L D n (length R.labels) running_label (λ l gs. map element_code (label R l) ++ gs) (λ l u. giving (perform l) (elements_of L.width (sizes_of R (label R l)) u))
      (λ allowed_zeros w t gs. refl) (λ l b. giving_follows L D n (perform l) (elements_of L.width (sizes_of R (label R l))) (λ gs. map element_code (label R l) ++ gs) (elements_follow n (label R l)))

  module _ (n : ℕ) (e : Reader Term) (operand : Follows L D n e (λ gs. running_code ∷ gs)) where
    abbrev term : List Due → List Due
    term gs = running_code ∷ gs

    abbrev mask_due : List Due → List Due
    mask_due gs = mask D ++ gs

    abbrev guard_due : List Due → List Due
    guard_due gs = condition_code (guard_scope L D 0) ∷ gs

    two_follow : Follows L D n (both e e) (λ gs. term (term gs))
    two_follow = both_follows L D n e e term term operand operand

    pair_follows : (k : Term → Term → Term) → Follows L D n (term_by R e (TermKind.pair k)) (λ gs. term (term gs))
    pair_follows k = giving_follows L D n (λ p. k p.0 p.1) (both e e) (λ gs. term (term gs)) two_follow

    parallel_follows : Follows L D n (term_by R e TermKind.parallel) (λ gs. mask_due (term (term gs)))
    parallel_follows = giving_follows L D n (λ p. Parallel p.0 p.1.0 p.1.1) (both (mask_of 4 (length R.labels)) (both e e)) (λ gs. mask_due (term (term gs)))
        (both_follows L D n (mask_of 4 (length R.labels)) (both e e) mask_due (λ gs. term (term gs)) (mask_follows L D n 4 (length R.labels)) two_follow)

    condition_in_guard : Follows L D n (read_cond (Scopes.guard_scope (attributes R) 0)) guard_due
    condition_in_guard = subst (λ P. Follows L D n (read_cond P) guard_due) (same_scope R 0) (condition_follows L D (guard_scope L D 0) refl n)

    guard_follows : Follows L D n (term_by R e TermKind.guard) (λ gs. guard_due (term gs))
    guard_follows = giving_follows L D n (λ p. Guard p.0 p.1) (both (read_cond (Scopes.guard_scope (attributes R) 0)) e) (λ gs. guard_due (term gs))
        (both_follows L D n (read_cond (Scopes.guard_scope (attributes R) 0)) e guard_due term condition_in_guard operand)

    term_at : (allowed_zeros : ℕ) (gs : List Due) (t : List ℕ) → length t ≤ n → (g : Term → List ℕ → Option ℕ) → ((a : Term) (u : List ℕ) → length u ≤ n → verdict allowed_zeros L u D gs ≡ g a u)
        → (w : ℕ) → coded L D allowed_zeros (running_operands L D w) t gs ≡ followed (term_by R e (term_kind w) t) g
    unfolding coded followed
    term_at allowed_zeros gs t l g h w =
        alike Q (eqb w 20) _ _ _ _ (h Internal t l)
        (alike Q (eqb w 21) _ _ _ _ (action_follows n allowed_zeros gs g t l h)
        (alike Q (eqb w 22) _ _ _ _ (pair_follows Sequence allowed_zeros gs g t l h)
        (alike Q (eqb w 23) _ _ _ _ (pair_follows Choice allowed_zeros gs g t l h)
        (alike Q (eqb w 24) _ _ _ _ (giving_follows L D n Star e term operand allowed_zeros gs g t l h)
        (alike Q (eqb w 25) _ _ _ _ (parallel_follows allowed_zeros gs g t l h)
        (alike Q (eqb w 26) _ _ _ _ (guard_follows allowed_zeros gs g t l h)
        (alike Q (eqb w 30) _ _ _ _ (h Done t l)
        refl)))))))
      where
        Q : Option (List Due) → TermKind → Type 0
        Q o k = coded L D allowed_zeros o t gs ≡ followed (term_by R e k t) g

  terms_follow : (n : ℕ) → Follows L D n (terms R n) (λ gs. running_code ∷ gs)
  unfolding terms verdict followed
  terms_follow zero allowed_zeros gs g s l h = no_words L D running_code allowed_zeros gs g s l h
  terms_follow (suc n) allowed_zeros gs g [] l h = refl
  terms_follow (suc n) allowed_zeros gs g (w ∷ t) l h = code_judged L D allowed_zeros (running_operands L D w) t gs
      ∙ term_at n (terms R n) (terms_follow n) allowed_zeros gs t (omega arith) g (λ a u m. h a u (omega arith)) w

  pub running_follows : (n : ℕ) → Follows L D n (read_term R) (λ gs. running_code ∷ gs)
  unfolding read_term
  running_follows n allowed_zeros gs g s l h = terms_follow (length s) allowed_zeros gs g s (omega arith) (λ a u m. h a u (omega arith))

  -- ── exactly one term ──

  -- What was read, and nothing after it.
  abbrev alone : Read Term → Option ℕ
  alone r = followed r λ E u. padding 0 u

  stray_is : (ws : List ℕ) → first_stray R ws ≡ alone (read_term R ws)
  stray_is ws = running_follows (length ws) 0 [] (λ E u. padding 0 u) ws (omega arith) (λ E u m. nothing_due 0 L D u)

  abbrev Spelled : List ℕ → Type 0
  Spelled ws = (E : Term) × (ws ≡ words L.width E) × WellFormedTerm R E

  spelled_alone : (ws : List ℕ) (r : Read Term) → Sound (words L.width) (WellFormedTerm R) ws r → alone r ≡ none → Spelled ws
  unfolding followed padding
  spelled_alone ws (refused k) h e = absurd (subst Offends e tt)
  spelled_alone ws (taken E []) h e = (E, h.0 ∙ append-nil (words L.width E), h.1)
  spelled_alone ws (taken E (w ∷ t)) h e = absurd (subst Offends e tt)

  module _ (positive : 1 ≤ L.width) where
    none_stray : (E : Term) → WellFormedTerm R E → first_stray R (words L.width E) ≡ none
    unfolding followed padding
    none_stray E h = stray_is (words L.width E) ∙ ap alone (alone_taken R positive E h)

    one_term : (ws : List ℕ) → Spelled ws ↔ (first_stray R ws ≡ none)
    one_term ws = (λ x. ap (first_stray R) x.1 ∙ none_stray x.0 x.2, λ e. spelled_alone ws (read_term R ws) (term_sound R ws) (sym (stray_is ws) ∙ e))

  -- ── exactly one leaf ──

  abbrev Leaf : List ℕ → Type 0
  Leaf ws = (get_or ws 0 0 ≡ 20) ⊎ (get_or ws 0 0 ≡ 21)

  abbrev SpelledEvent : List ℕ → Type 0
  SpelledEvent ws = (ρ : Action) × (ws ≡ words L.width (term_of_action ρ)) × WellFormedAction R ρ

  leaf_code : (ρ : Action) → Leaf (words L.width (term_of_action ρ))
  unfolding words
  leaf_code internal = inl refl
  leaf_code (visible a) = inr refl

  no_leaf : {X : Type 0} (c : ℕ) → 22 ≤ c → (c ≡ 20) ⊎ (c ≡ 21) → X
  no_leaf c l (inl e) = let z : ⊥ = omega (arith, e) in absurd z
  no_leaf c l (inr e) = let z : ⊥ = omega (arith, e) in absurd z

  leaf_spelled : (E : Term) → WellFormedTerm R E → Leaf (words L.width E) → SpelledEvent (words L.width E)
  unfolding words
  leaf_spelled Done h c = no_leaf 30 (omega arith) c
  leaf_spelled Internal h c = (internal, refl, tt)
  leaf_spelled (Perform a) h c = (visible a, refl, h)
  leaf_spelled (Sequence E F) h c = no_leaf 22 (omega arith) c
  leaf_spelled (Choice E F) h c = no_leaf 23 (omega arith) c
  leaf_spelled (Star E) h c = no_leaf 24 (omega arith) c
  leaf_spelled (Parallel Δ E F) h c = no_leaf 25 (omega arith) c
  leaf_spelled (Guard C E) h c = no_leaf 26 (omega arith) c

  one_leaf : 1 ≤ L.width → (ws : List ℕ) → SpelledEvent ws ↔ ((first_stray R ws ≡ none) × Leaf ws)
  one_leaf positive ws = (
    (λ x. ((one_term positive ws).0 (term_of_action x.0, x.1, leaf_form R x.0 x.2), subst Leaf (sym x.1) (leaf_code x.0))),
    (λ y. let x : Spelled ws = (one_term positive ws).1 y.0 in subst SpelledEvent (sym x.1) (leaf_spelled x.0 x.2 (subst Leaf x.1 y.1))),
  )

pub given_words : (R : RuleSet) → 1 ≤ R.edition.width → GivenWords R
given_words R positive = record { one_term = one_term R positive; one_leaf = one_leaf R positive }
