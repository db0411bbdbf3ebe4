-- The first offending word (document 01, "Operations") is found as early as can be: where some word is allowed at a place, the words before it
-- begin an accepted stream (`viable`), so a well-formed rule set's spelling (`spelled`). It is not so where none is: a code whose number has nothing to name
-- passes (Laws/StreamRefusals, `no_variable_after`). For constants of one word.
use Rattle.std.specs.Prelude.{◌≡◌, Bool, ◌&&◌, eqb, get_or}
use Rattle.std.proofs.Math.Path.{refl}
use Rattle.std.proofs.Common.{sym, ◌∙◌, subst, inl, inr, arith, ltb→lt, lt→ltb, le→leb, pow_pos}
use Rattle.std.proofs.Math.Bool.{true, false}
use mathlib.Core.List.{List, [], ◌∷◌, ◌++◌}
use Rattle.std.proofs.Math.Option.{none, some}
use Prim.Native.Nat.{ℕ, zero, suc, ◌^◌, ◌≤◌, ◌<◌, min}
use Rattle.std.proofs.Math.Dec.{T, ltb, leb}
use Rattle.std.proofs.Math.ListN.{length, replicate}
use Rattle.eb3.specs.Limits
use Rattle.eb3.specs.Editions.{Edition, edition_1, Defined}
use Rattle.eb3.specs.Reading.{pick}
use Rattle.eb3.specs.Generic.Booleans.{T_and, T_fst}
use Rattle.eb3.proofs.Laws.Refusals.{picked}
use Rattle.eb3.specs.Generic.AllLists.{all_at, all_append}
use Rattle.first_word.specs.FirstOffendingWord.{Declared, nothing_declared, Owner, of_label, of_process, Due, domain_count, domain_size, label_count, function_count, process_count, parameter_count, parameter, function_parameter_count, function_parameter, data_code, condition_code, constant, variable_number, function_number, term_code, label_number, process_number, choice_domain, parallel_domain, mask_word, argument_code, argument_constant, argument_variable, running_code, running_label, element_code, element_constant, passed, by_form, tests, Next, follow, declare, parameters, declare_functions, parameter_counts, functions_from, mask, padding, padding_place, verdict, place, first_offending, first_place, with_last}
use Rattle.eb3.specs.RuleSets.{RuleSet}
use Rattle.eb3.specs.RuleSpelling.{rules_words}
use Rattle.eb3.specs.Reading.{Read, refused, taken}
use Rattle.eb3.specs.RuleReading.{read_rules}
use Rattle.eb3.specs.Admission.{ended}
use Rattle.eb3.proofs.Laws.Reading.{Sound}
use Rattle.eb3.proofs.Laws.RuleReading.{FormOf, rules_sound}
use Rattle.eb3.proofs.Laws.Editions.{edition_proper}
use Rattle.first_word.proofs.Laws.FirstOffendingWord.{Offends}
use Rattle.first_word.proofs.Laws.StreamRefusals.{refusal, first_offending_word}
use Rattle.first_word.proofs.Laws.PassedWords.{judge_passed, facts, Element, Elements, Sane, Fine, Tail, Dues, Opened, Grows, tail_grows, dues_of_tail, tail_append, dues_append, tail_replicate, tail_arguments, Stepped, Started, has_domain, tail_mask, declared_stepped, step, functions_stepped, tail_functions}

-- An accepted stream spells a rule set of the required form, and of its edition.
pub spelled : (L : Edition) → Defined L → (words : List ℕ) → first_offending L words ≡ none → (R : RuleSet) × (rest : List ℕ) × (words ≡ rules_words R ++ rest) × FormOf L R
unfolding ended
spelled L defined words e = go (read_rules L words) (rules_sound L (edition_proper L defined) words) (first_offending_word L (edition_proper L defined).parameters.0 words ∙ e)
  where
    go : (r : Read RuleSet) → Sound rules_words (FormOf L) words r → refusal (ended r) ≡ none → (R : RuleSet) × (rest : List ℕ) × (words ≡ rules_words R ++ rest) × FormOf L R
    go (refused k) h e = absurd (subst Offends e tt)
    go (taken R rest) h e = (R, rest, h.0, h.1)

module _ (L : Edition) (one : L.width ≡ 1) where
  -- ── what is due can be met ──

  abbrev Ends : Declared → List Due → Type 0
  Ends D gs = (u : List ℕ) × (verdict 253 L u D gs ≡ none)

  ends_step : (D : Declared) (d : Due) (gs : List Due) (w : ℕ) → T (passed (tests L D d w)) → Ends (follow L D d w).declared ((follow L D d w).due ++ gs) → Ends D (d ∷ gs)
  unfolding verdict
  ends_step D d gs w p e = (w ∷ e.0, judge_passed (tests L D d w) (verdict 253 L e.0 (follow L D d w).declared ((follow L D d w).due ++ gs)) p ∙ e.1)

  opened : (D : Declared) (gs : List Due) → 1 ≤ length D.domains → Opened D gs
  opened D [] h = tt
  opened D (d ∷ gs) h = inr h

  count_passed : (lo hi w : ℕ) → lo ≤ w → w ≤ hi → T (passed (by_form (leb lo w && leb w hi)))
  count_passed lo hi w p q = T_and (leb lo w && leb w hi) true (T_and (leb lo w) (leb w hi) (le→leb lo w p) (le→leb w hi q)) tt

  module _ (many : 1 ≤ L.function_parameters) where
    -- What is after can be met, whatever was declared.
    abbrev Rest : Declared → List Due → Type 0
    Rest D gs = (E : Declared) → Sane E → 1 ≤ length E.domains → Grows D E → Ends E gs

    -- A word that passes and has nothing due after it.
    alone : (D : Declared) (d : Due) (gs : List Due) (w : ℕ) → Fine D d → Sane D → Started D d → T (passed (tests L D d w)) → (follow L D d w).due ≡ [] → Rest D gs → Ends D (d ∷ gs)
    alone D d gs w h s o p e r =
        let st : Stepped D (follow L D d w) = step L one D d w h s o p in
        ends_step D d gs w p (subst (λ ds. Ends (follow L D d w).declared (ds ++ gs)) (sym e) (r (follow L D d w).declared st.sane st.started st.grows))

    -- The parameter count of a label or a process, and the term.
    head_ends : (D : Declared) (b : Owner) (limit : ℕ) (gs : List Due) → Sane D → 1 ≤ length D.domains → Rest D gs → Ends D (parameter_count b limit ∷ gs)
    head_ends D of_label limit gs s o r = alone D (parameter_count of_label limit) gs 0 (tt, tt, refl) s (inr o) (count_passed 0 limit 0 (omega arith) (omega arith)) refl r
    head_ends D of_process limit gs s o r =
        let st : Stepped D (declare D of_process []) = declared_stepped L one D of_process [] s (inr o) tt in
        ends_step D (parameter_count of_process limit) gs 0 (count_passed 0 limit 0 (omega arith) (omega arith))
        (alone (declare D of_process []).declared (term_code D.processes []) gs 20 (s.2, tt, refl) st.sane (inr st.started) tt refl (λ E q o g. r E q o g))

    finish : (D : Declared) (d : Due) (gs : List Due) → Fine D d → T (facts d).plain → Sane D → Started D d → Rest D gs → Ends D (d ∷ gs)
    unfolding with_last
    finish D domain_count gs h q s o r = absurd q
    finish D domain_size gs h q s o r = alone D domain_size gs 1 h s o (count_passed 1 Limits.domain_size 1 (omega arith) (omega arith)) refl r
    finish D label_count gs h q s o r = ends_step D label_count gs 1 (count_passed 1 Limits.labels 1 (omega arith) (omega arith)) (head_ends D of_label Limits.label_parameters gs s (has_domain (length D.domains) o) r)
    finish D function_count gs h q s o r = alone D function_count gs 0 h s o (count_passed 0 Limits.functions 0 (omega arith) (omega arith)) (picked (λ (N : Next). N.due ≡ []) L.counts_written _ _ refl refl) r
    finish D (function_parameter_count n k counts) gs h q s o r = absurd q
    finish D process_count gs h q s o r = ends_step D process_count gs 1 (count_passed 1 Limits.processes 1 (omega arith) (omega arith)) (head_ends D of_process 0 gs s (has_domain (length D.domains) o) r)
    finish D (parameter_count b limit) gs h q s o r = head_ends D b limit gs s (has_domain (length D.domains) o) r
    finish D (parameter b n ds) gs h q s o r = absurd q
    finish D function_parameter gs h q s o r =
        let l : 0 < length D.domains = has_domain (length D.domains) o in
        alone D function_parameter gs 0 h s o (T_and (ltb 0 (length D.domains)) true (lt→ltb 0 (length D.domains) l) tt) refl r
    finish D (data_code P) gs h q s o r = alone D (data_code P) gs 0 h s o tt refl r
    finish D (condition_code P) gs h q s o r = alone D (condition_code P) gs 13 h s o tt refl r
    finish D (constant top n vs) gs h q s o r = absurd q
    finish D (variable_number P) gs h q s o r = absurd q
    finish D (function_number limit P) gs h q s o r = absurd q
    finish D (term_code lower Γ) gs h q s o r = alone D (term_code lower Γ) gs 20 h s o tt refl r
    finish D (label_number Γ) gs h q s o r = absurd q
    finish D (process_number lower Γ) gs h q s o r = absurd q
    finish D (choice_domain lower Γ) gs h q s o r = absurd q
    finish D (parallel_domain lower Γ) gs h q s o r = absurd q
    finish D (mask_word n) gs h q s o r = alone D (mask_word n) gs 0 h s o (T_and (ltb 0 (2 ^ min n 16)) true (lt→ltb 0 (2 ^ min n 16) (pow_pos (min n 16))) tt) refl r
    finish D (argument_code Γ d) gs h q s o r =
        ends_step D (argument_code Γ d) gs 1 tt (subst (λ n. Ends D (argument_constant d n [] ∷ gs)) (sym one)
        (alone D (argument_constant d 1 []) gs 0 (tt, h.1, refl) s o (zero_fits d h.1.0) refl r))
      where
        zero_fits : (d : ℕ) → Element D d → T (passed (tests L D (argument_constant d 1 []) 0))
        zero_fits d e = T_and (leb (with_last [] 0) L.top) (true && ltb (with_last [] 0) (get_or D.domains d 0)) (le→leb 0 L.top (omega arith)) (lt→ltb 0 (get_or D.domains d 0) e)
    finish D (argument_constant d n vs) gs h q s o r = absurd q
    finish D (argument_variable Γ d) gs h q s o r = absurd q
    finish D running_code gs h q s o r = absurd q
    finish D running_label gs h q s o r = absurd q
    finish D (element_code d) gs h q s o r = absurd q
    finish D (element_constant d n vs) gs h q s o r = absurd q

    complete : (gs : List Due) (D : Declared) → Sane D → Opened D gs → Tail D gs → Ends D gs
    unfolding verdict
    complete [] D s o t = ([], refl)
    complete (d ∷ gs) D s o t = finish D d gs t.0.0 t.0.1 s o (λ E q l g. complete gs E q (opened E gs l) (tail_grows D E g gs t.1))

    -- ── where some word is allowed ──

    rest_of : (D : Declared) (ds : List Due) → Tail D ds → Rest D ds
    rest_of D ds t = λ E q l g. complete ds E q (opened E ds l) (tail_grows D E g ds t)

    -- A word that passes, with all that is due after it plain.
    through : (D : Declared) (d : Due) (ds : List Due) (w : ℕ) → Fine D d → Sane D → Started D d → T (passed (tests L D d w)) → Tail D ds → Tail (follow L D d w).declared (follow L D d w).due → Ends D (d ∷ ds)
    through D d ds w h s o p t q =
        let N : Next = follow L D d w in
        let st : Stepped D N = step L one D d w h s o p in
        ends_step D d ds w p (complete (N.due ++ ds) N.declared st.sane (opened N.declared (N.due ++ ds) st.started) (tail_append N.declared N.due ds q (tail_grows D N.declared st.grows ds t)))

    parameters_end : (n : ℕ) (D : Declared) (b : Owner) (es : List ℕ) (gs : List Due) → Sane D → 1 ≤ length D.domains → Elements D es → Rest D gs → Ends (parameters D b n es).declared ((parameters D b n es).due ++ gs)
    parameters_end zero D of_label es gs s o h r =
        let st : Stepped D (declare D of_label es) = declared_stepped L one D of_label es s (inr o) h in r (declare D of_label es).declared st.sane st.started st.grows
    parameters_end zero D of_process es gs s o h r =
        let st : Stepped D (declare D of_process es) = declared_stepped L one D of_process es s (inr o) h in
        alone (declare D of_process es).declared (term_code D.processes es) gs 20 (s.2, tt, refl) st.sane (inr st.started) tt refl (λ E q o g. r E q o g)
    parameters_end (suc n) D b es gs s o h r =
        ends_step D (parameter b n es) gs 0 (T_and (ltb 0 (length D.domains)) true (lt→ltb 0 (length D.domains) o) tt)
        (parameters_end n D b (es ++ (0 ∷ [])) gs s o (all_append (Element D) es (0 ∷ []) h (all_at (λ n. 1 ≤ n) D.domains s.0 0 0 o, tt)) r)

    counts_end : (k : ℕ) (D : Declared) (n : ℕ) (counts : List ℕ) (gs : List Due) → Sane D → 1 ≤ length D.domains → Tail D gs
        → Ends (parameter_counts L D n k counts).declared ((parameter_counts L D n k counts).due ++ gs)
    counts_end zero D n counts gs s o t =
        let E : Declared = (declare_functions L D n counts).declared in
        let st : Stepped D (declare_functions L D n counts) = functions_stepped L one D n counts s (inr o) in
        complete (functions_from L E n 0 ++ gs) E st.sane (opened E (functions_from L E n 0 ++ gs) st.started) (tail_append E (functions_from L E n 0) gs (tail_functions L one E n 0) (tail_grows D E st.grows gs t))
    counts_end (suc k) D n counts gs s o t = ends_step D (function_parameter_count n k counts) gs 1 (count_passed 1 L.function_parameters 1 (omega arith) many) (counts_end k D n (counts ++ (1 ∷ [])) gs s o t)

    live : (D : Declared) (d : Due) (ds : List Due) (w : ℕ) → Fine D d → Sane D → Started D d → T (passed (tests L D d w)) → Tail D ds → Ends D (d ∷ ds)
    live D domain_count ds w h s o p t = let z : ⊥ = omega (arith, h.2) in absurd z
    live D domain_size ds w h s o p t = finish D domain_size ds h tt s o (rest_of D ds t)
    live D label_count ds w h s o p t = finish D label_count ds h tt s o (rest_of D ds t)
    live D function_count ds w h s o p t = finish D function_count ds h tt s o (rest_of D ds t)
    live D process_count ds w h s o p t = finish D process_count ds h tt s o (rest_of D ds t)
    live D (parameter_count b limit) ds w h s o p t = finish D (parameter_count b limit) ds h tt s o (rest_of D ds t)
    live D (parameter b n es) ds w h s o p t =
        let l : w < length D.domains = ltb→lt w (length D.domains) (T_fst (ltb w (length D.domains)) true p) in
        ends_step D (parameter b n es) ds w p
        (parameters_end n D b (es ++ (w ∷ [])) ds s (has_domain (length D.domains) o) (all_append (Element D) es (w ∷ []) h.1 (all_at (λ n. 1 ≤ n) D.domains s.0 w 0 l, tt)) (rest_of D ds t))
    live D (function_parameter_count n k counts) ds w h s o p t = ends_step D (function_parameter_count n k counts) ds w p (counts_end k D n (counts ++ (w ∷ [])) ds s (has_domain (length D.domains) o) t)
    live D function_parameter ds w h s o p t = finish D function_parameter ds h tt s o (rest_of D ds t)
    live D (data_code P) ds w h s o p t = finish D (data_code P) ds h tt s o (rest_of D ds t)
    live D (condition_code P) ds w h s o p t = finish D (condition_code P) ds h tt s o (rest_of D ds t)
    live D (constant top zero vs) ds w h s o p t = through D (constant top zero vs) ds w h s o p t tt
    live D (constant top (suc zero) vs) ds w h s o p t = through D (constant top (suc zero) vs) ds w h s o p t tt
    live D (constant top (suc (suc n)) vs) ds w h s o p t = let z : ⊥ = omega (arith, h.2) in absurd z
    live D (variable_number P) ds w h s o p t = through D (variable_number P) ds w h s o p t tt
    live D (function_number limit P) ds w h s o p t = through D (function_number limit P) ds w h s o p t (tail_replicate D (P.arity w) (data_code P) (tt, tt, refl) tt)
    live D (term_code lower Γ) ds w h s o p t = finish D (term_code lower Γ) ds h tt s o (rest_of D ds t)
    live D (label_number Γ) ds w h s o p t = through D (label_number Γ) ds w h s o p t
        (tail_arguments D Γ (get_or D.labels w []) (all_at (Elements D) D.labels s.1 w [] (ltb→lt w (length D.labels) (T_fst (ltb w (length D.labels)) true p))))
    live D (process_number lower Γ) ds w h s o p t = through D (process_number lower Γ) ds w h s o p t
        (tail_arguments D Γ (get_or lower w []) (all_at (Elements D) lower h.0 w [] (ltb→lt w (length lower) (T_fst (ltb w (length lower)) true p))))
    live D (choice_domain lower Γ) ds w h s o p t = through D (choice_domain lower Γ) ds w h s o p t (((h.0, tt, refl), tt), tt)
    live D (parallel_domain lower Γ) ds w h s o p t = through D (parallel_domain lower Γ) ds w h s o p t (tail_append D (mask D) (term_code lower (Γ ++ (w ∷ [])) ∷ []) (tail_mask D 4 (length D.labels)) (((h.0, tt, refl), tt), tt))
    live D (mask_word n) ds w h s o p t = finish D (mask_word n) ds h tt s o (rest_of D ds t)
    live D (argument_code Γ d) ds w h s o p t = finish D (argument_code Γ d) ds h tt s o (rest_of D ds t)
    live D (argument_constant d zero vs) ds w h s o p t = through D (argument_constant d zero vs) ds w h s o p t tt
    live D (argument_constant d (suc zero) vs) ds w h s o p t = through D (argument_constant d (suc zero) vs) ds w h s o p t tt
    live D (argument_constant d (suc (suc n)) vs) ds w h s o p t = let z : ⊥ = omega (arith, h.2) in absurd z
    live D (argument_variable Γ d) ds w h s o p t = through D (argument_variable Γ d) ds w h s o p t tt
    live D running_code ds w h s o p t = let z : ⊥ = omega (arith, h.2) in absurd z
    live D running_label ds w h s o p t = let z : ⊥ = omega (arith, h.2) in absurd z
    live D (element_code d) ds w h s o p t = let z : ⊥ = omega (arith, h.2) in absurd z
    live D (element_constant d n vs) ds w h s o p t = let z : ⊥ = omega (arith, h.2) in absurd z

    counted_on : (b : Bool) (n m : ℕ) → pick b (suc n) 0 ≡ suc m → T b × (n ≡ m)
    counted_on true n m e = (tt, omega (arith, e))
    counted_on false n m e = let z : ⊥ = omega (arith, e) in absurd z

    padding_passes : (n : ℕ) (t : List ℕ) → padding_place n t ≡ length t → padding n (t ++ []) ≡ none
    unfolding padding padding_place
    padding_passes n [] e = refl
    padding_passes zero (v ∷ t) e = let z : ⊥ = omega (arith, e) in absurd z
    padding_passes (suc n) (v ∷ t) e = go (eqb v 0) e (λ e. padding_passes n t e)
      where
        go : (b : Bool) → pick b (suc (padding_place n t)) 0 ≡ suc (length t) → (padding_place n t ≡ length t → padding n (t ++ []) ≡ none) → pick b (padding n (t ++ [])) (some 4) ≡ none
        go true e ih = ih (omega (arith, e))
        go false e ih = let z : ⊥ = omega (arith, e) in absurd z

    viable_from : (t : List ℕ) (D : Declared) (ds : List Due) → Sane D → Opened D ds → Dues D ds → place L t D ds ≡ length t → (w : ℕ) → place L (t ++ (w ∷ [])) D ds ≡ suc (length t)
        → (u : List ℕ) × (verdict 253 L (t ++ u) D ds ≡ none)
    unfolding place verdict
    viable_from [] D [] s o q e w f = ([], refl)
    viable_from [] D (d ∷ ds) s o q e w f = live D d ds w q.0 s o (counted_on (passed (tests L D d w)) 0 0 f).0 q.1
    viable_from (v ∷ t) D [] s o q e w f = ([], padding_passes 253 (v ∷ t) e)
    viable_from (v ∷ t) D (d ∷ ds) s o q e w f =
        let N : Next = follow L D d v in
        let c : T (passed (tests L D d v)) × (place L t N.declared (N.due ++ ds) ≡ length t) = counted_on (passed (tests L D d v)) (place L t N.declared (N.due ++ ds)) (length t) e in
        let c' : T (passed (tests L D d v)) × (place L (t ++ (w ∷ [])) N.declared (N.due ++ ds) ≡ suc (length t)) = counted_on (passed (tests L D d v)) (place L (t ++ (w ∷ [])) N.declared (N.due ++ ds)) (suc (length t)) f in
        let st : Stepped D N = step L one D d v q.0 s o c.0 in
        let x : (u : List ℕ) × (verdict 253 L (t ++ u) N.declared (N.due ++ ds) ≡ none) =
        viable_from t N.declared (N.due ++ ds) st.sane (opened N.declared (N.due ++ ds) st.started) (dues_append N.declared N.due ds st.dues (tail_grows D N.declared st.grows ds q.1)) c.1 w c'.1 in
        (x.0, judge_passed (tests L D d v) (verdict 253 L (t ++ x.0) N.declared (N.due ++ ds)) c.0 ∙ x.1)

    abbrev after_domains : List Due
    after_domains = label_count ∷ function_count ∷ process_count ∷ []

    tail_after : Tail nothing_declared after_domains
    tail_after = (((tt, tt, refl), tt), (((tt, tt, refl), tt), (((tt, tt, refl), tt), tt)))

    -- If all words pass and some word passes after them, they begin an accepted stream.
    pub viable : (t : List ℕ) → first_place L t ≡ length t → (w : ℕ) → first_place L (t ++ (w ∷ [])) ≡ suc (length t) → (u : List ℕ) × (first_offending L (t ++ u) ≡ none)
    unfolding place verdict
    viable [] e w f = ends_step nothing_declared domain_count after_domains 1 (count_passed 1 Limits.domains 1 (omega arith) (omega arith))
        (complete (domain_size ∷ after_domains) nothing_declared (tt, tt, tt) (inl tt) (((tt, tt, refl), tt), tail_after))
    viable (zero ∷ t) e w f = absurd (T_fst (leb 1 0) (leb 0 Limits.domains) (T_fst (leb 1 0 && leb 0 Limits.domains) true (counted_on (passed (tests L nothing_declared domain_count 0)) (place L t nothing_declared after_domains) (length t) e).0))
    viable (suc m ∷ t) e w f =
        let gs : List Due = replicate (suc m) domain_size ++ after_domains in
        let c : T (passed (tests L nothing_declared domain_count (suc m))) × (place L t nothing_declared gs ≡ length t) = counted_on (passed (tests L nothing_declared domain_count (suc m))) (place L t nothing_declared gs) (length t) e in
        let c' : T (passed (tests L nothing_declared domain_count (suc m))) × (place L (t ++ (w ∷ [])) nothing_declared gs ≡ suc (length t)) = counted_on (passed (tests L nothing_declared domain_count (suc m))) (place L (t ++ (w ∷ [])) nothing_declared gs) (suc (length t)) f in
        let x : (u : List ℕ) × (verdict 253 L (t ++ u) nothing_declared gs ≡ none) =
        viable_from t nothing_declared gs (tt, tt, tt) (inl tt)
        (dues_of_tail nothing_declared gs (tail_append nothing_declared (replicate (suc m) domain_size) after_domains (tail_replicate nothing_declared (suc m) domain_size (tt, tt, refl) tt) tail_after)) c.1 w c'.1 in
        (x.0, judge_passed (tests L nothing_declared domain_count (suc m)) (verdict 253 L (t ++ x.0) nothing_declared gs) c.0 ∙ x.1)

pub viable_in_edition_1 : (t : List ℕ) → first_place edition_1 t ≡ length t → (w : ℕ) → first_place edition_1 (t ++ (w ∷ [])) ≡ suc (length t) → (u : List ℕ) × (first_offending edition_1 (t ++ u) ≡ none)
viable_in_edition_1 = viable edition_1 refl (omega arith)
