-- What the reader of rule terms takes is a term that the rule set read so far allows, spelled by exactly the words taken (document 01, "Blocks
-- and the rule stream", item 5).
use Rattle.std.specs.Prelude.{◌≡◌, refl, eqb, ltb, leb, get_or}
use mathlib.Core.List.{List, [], ◌∷◌, ◌++◌}
use Prim.Native.Nat.{ℕ, zero, suc, ◌<◌}
use Rattle.std.proofs.Math.Dec.{eqb→eq, ltb→lt}
use Rattle.std.proofs.Math.ListN.{length}
use Rattle.eb3.specs.Limits
use Rattle.eb3.specs.Refusal
use Rattle.eb3.specs.Generic.Lists.{concat_map}
use Rattle.eb3.specs.Scopes.{Scope, CondInScope, guard_scope}
use Rattle.eb3.specs.RuleSets.{Argument, constant_argument, variable_argument, RuleTerm, rule_perform, rule_sequence, rule_choice, rule_star, rule_parallel, rule_guard, choice_over, parallel_over, call, RuleSet, domain_size, label, process, attributes}
use Rattle.eb3.specs.WellFormedness.{MaskFits, ArgumentFits, ArgumentsFit, Allowed}
use Rattle.eb3.specs.Spelling.{number_words, cond_words}
use Rattle.eb3.specs.RuleSpelling.{one_word, argument_words, rule_words}
use Rattle.eb3.specs.Reading.{Read, refused, taken, Reader, pick, then, both, number_of, by_number, number_in}
use Rattle.eb3.specs.ExpressionReading.{read_cond}
use Rattle.eb3.specs.RuleReading.{argument_of, arguments_of, rule_action_of, call_of, rule_mask_of, choice_over_of, parallel_over_of, RuleKind, rule_kind, rule_by, rule_terms, read_rule_term}
use Rattle.eb3.proofs.Laws.Reading.{picked, by_code, Sound, Sounds, giving_sound, then_sound, spell_both, Both, both_sound, number_sound, number_in_sound}
use Rattle.eb3.proofs.Laws.ExpressionReading.{cond_sound}
use Rattle.eb3.proofs.Laws.TermReading.{mask_sound}
use Rattle.eb3.proofs.Laws.ReadingCombined.{two_sound, by_number_sound}

module _ (R : RuleSet) (Γ : List ℕ) where
  -- The largest number decides only between two refusals: what is below the domain's size fits.
  constant_sound : (d : ℕ) (t : List ℕ) → Sound (argument_words R.edition.width) (ArgumentFits R Γ d) (1 ∷ t)
      (then (number_in R.edition.width t) λ v u. pick (leb v R.edition.top) (pick (ltb v (domain_size R d)) (taken (constant_argument v) u) (refused Refusal.kind)) (refused Refusal.form))
  unfolding argument_words
  constant_sound d t = then_sound (number_words R.edition.width) (λ v. Unit) (argument_words R.edition.width) (ArgumentFits R Γ d) (1 ∷ []) t _ (number_in R.edition.width t) (number_in_sound R.edition.width t)
      (λ v u h. picked (S v u) (leb v R.edition.top) _ _ (λ k. picked (S v u) (ltb v (domain_size R d)) (taken (constant_argument v) u) _ (λ l. (refl, ltb→lt v (domain_size R d) l)) tt) tt)
    where
      S : ℕ → List ℕ → Read Argument → Type 0
      S v u r = Sound (argument_words R.edition.width) (ArgumentFits R Γ d) (1 ∷ (number_words R.edition.width v ++ u)) r

  variable_sound : (d : ℕ) (t : List ℕ) → Sound (argument_words R.edition.width) (ArgumentFits R Γ d) (2 ∷ t)
      (by_number Refusal.reference (length Γ) (λ i u. pick (eqb (get_or Γ i 0) d) (taken (variable_argument i) u) (refused Refusal.kind)) t)
  unfolding argument_words by_number
  variable_sound d t = then_sound one_word (λ i. i < length Γ) (argument_words R.edition.width) (ArgumentFits R Γ d) (2 ∷ []) t _ (number_of Refusal.reference (length Γ) t) (number_sound Refusal.reference (length Γ) t)
      (λ i u h. picked (S i u) (eqb (get_or Γ i 0) d) (taken (variable_argument i) u) _ (λ k. (refl, (h, eqb→eq (get_or Γ i 0) d k))) tt)
    where
      S : ℕ → List ℕ → Read Argument → Type 0
      S i u r = Sound (argument_words R.edition.width) (ArgumentFits R Γ d) (2 ∷ i ∷ u) r

  argument_sound : (d : ℕ) → Sounds (argument_words R.edition.width) (ArgumentFits R Γ d) (argument_of R Γ d)
  unfolding argument_of
  argument_sound d [] = tt
  argument_sound d (c ∷ t) = by_code S c 1 _ _ (constant_sound d t) (by_code S c 2 _ _ (variable_sound d t) tt)
    where
      S : ℕ → Read Argument → Type 0
      S c r = Sound (argument_words R.edition.width) (ArgumentFits R Γ d) (c ∷ t) r

  pub arguments_sound : (ds : List ℕ) → Sounds (concat_map (argument_words R.edition.width)) (ArgumentsFit R Γ ds) (arguments_of R Γ ds)
  unfolding arguments_of
  arguments_sound [] t = (refl, tt)
  arguments_sound (d ∷ ds) t = two_sound (argument_words R.edition.width) (ArgumentFits R Γ d) (concat_map (argument_words R.edition.width)) (ArgumentsFit R Γ ds) (concat_map (argument_words R.edition.width)) (ArgumentsFit R Γ (d ∷ ds))
      (λ r rs. r ∷ rs) [] (argument_of R Γ d) (arguments_of R Γ ds) (argument_sound d) (arguments_sound ds) (λ r rs. refl) (λ r rs p q. (p, q)) t

module _ (R : RuleSet) where
  abbrev W : RuleTerm → List ℕ
  W = rule_words R.edition.width

  -- In the process that is read, calls name earlier processes: all of R's.
  abbrev Ok : List ℕ → RuleTerm → Type 0
  Ok Γ = Allowed R (length R.processes) Γ

  -- Operands read by e.
  module _ (e : List ℕ → Reader RuleTerm) (h : (Γ : List ℕ) → Sounds W (Ok Γ) (e Γ)) (Γ : List ℕ) (t : List ℕ) where
    -- After code c, read as of kind k, reading the rest t is sound for the words c ∷ t.
    abbrev At : ℕ → RuleKind → Type 0
    At c k = Sound W (Ok Γ) (c ∷ t) (rule_by R e Γ k t)

    action_at : At 21 RuleKind.action
    unfolding rule_action_of rule_words
    action_at = by_number_sound (concat_map (argument_words R.edition.width)) (λ l. ArgumentsFit R Γ (label R l)) rule_perform Refusal.reference (length R.labels) (λ l. arguments_of R Γ (label R l)) W (Ok Γ) 21
        (λ l. arguments_sound R Γ (label R l)) (λ l rs. refl) (λ l rs p q. (p, q)) t

    call_at : At 29 RuleKind.process_call
    unfolding call_of rule_words
    call_at = by_number_sound (concat_map (argument_words R.edition.width)) (λ p. ArgumentsFit R Γ (process R p).parameters) call Refusal.reference (length R.processes) (λ p. arguments_of R Γ (process R p).parameters) W (Ok Γ) 29
        (λ p. arguments_sound R Γ (process R p).parameters) (λ p rs. refl) (λ p rs l q. (l, q)) t

    pair_at : (c : ℕ) (k : RuleTerm → RuleTerm → RuleTerm) → ((E F : RuleTerm) → W (k E F) ≡ c ∷ (W E ++ W F)) → ((E F : RuleTerm) → Ok Γ E → Ok Γ F → Ok Γ (k E F)) → At c (RuleKind.pair k)
    pair_at c k s q = two_sound W (Ok Γ) W (Ok Γ) W (Ok Γ) k (c ∷ []) (e Γ) (e Γ) (h Γ) (h Γ) s q t

    star_at : At 24 RuleKind.star
    unfolding rule_words
    star_at = giving_sound W (Ok Γ) W (Ok Γ) (24 ∷ []) t rule_star (e Γ t) (λ E. refl) (λ E p. p) (h Γ t)

    parallel_at : At 25 RuleKind.parallel
    unfolding rule_words
    parallel_at = two_sound (λ Δ. Δ) (MaskFits R) (spell_both W (Ok Γ) W (Ok Γ)) (Both W (Ok Γ) W (Ok Γ)) W (Ok Γ) (λ Δ p. rule_parallel Δ p.0 p.1) (25 ∷ []) (rule_mask_of R) (both (e Γ) (e Γ))
        (mask_sound 4 (length R.labels)) (both_sound W (Ok Γ) W (Ok Γ) (e Γ) (e Γ) (h Γ) (h Γ)) (λ Δ p. refl) (λ Δ p m q. (m, q.0, q.1)) t

    guard_at : At 26 RuleKind.guard
    unfolding rule_words
    guard_at = two_sound (cond_words R.edition.width) (λ c. CondInScope c scope) W (Ok Γ) W (Ok Γ) rule_guard (26 ∷ []) (read_cond scope) (e Γ) (cond_sound scope) (h Γ) (λ c E. refl) (λ c E p q. (p, q)) t
      where
        scope : Scope
        scope = guard_scope (attributes R) (length Γ)

    choice_over_at : length Γ < Limits.variables → At 27 RuleKind.choice_quantifier
    unfolding choice_over_of rule_words
    choice_over_at v = by_number_sound W (λ d. Ok (Γ ++ (d ∷ []))) choice_over Refusal.reference (length R.domains) (λ d. e (Γ ++ (d ∷ []))) W (Ok Γ) 27
        (λ d. h (Γ ++ (d ∷ []))) (λ d E. refl) (λ d E l q. (l, v, q)) t

    parallel_over_at : length Γ < Limits.variables → At 28 RuleKind.parallel_quantifier
    unfolding parallel_over_of rule_words
    parallel_over_at v = by_number_sound (spell_both (λ Δ. Δ) (MaskFits R) W (Ok Γ)) (λ d. Both (λ Δ. Δ) (MaskFits R) W (Ok (Γ ++ (d ∷ [])))) (λ d p. parallel_over d p.0 p.1) Refusal.reference (length R.domains) (λ d. both (rule_mask_of R) (e (Γ ++ (d ∷ [])))) W (Ok Γ) 28
        (λ d. both_sound (λ Δ. Δ) (MaskFits R) W (Ok (Γ ++ (d ∷ []))) (rule_mask_of R) (e (Γ ++ (d ∷ []))) (mask_sound 4 (length R.labels)) (h (Γ ++ (d ∷ [])))) (λ d p. refl) (λ d p l q. (l, v, q.0, q.1)) t

    term_at : (c : ℕ) → At c (rule_kind Γ c)
    unfolding rule_words
    term_at c =
        by_code At c 20 _ _ (refl, tt)
        (by_code At c 21 _ _ action_at
        (by_code At c 22 _ _ (pair_at 22 rule_sequence (λ E F. refl) (λ E F p q. (p, q)))
        (by_code At c 23 _ _ (pair_at 23 rule_choice (λ E F. refl) (λ E F p q. (p, q)))
        (by_code At c 24 _ _ star_at
        (by_code At c 25 _ _ parallel_at
        (by_code At c 26 _ _ guard_at
        (by_code At c 27 _ _ (picked (At 27) (ltb (length Γ) Limits.variables) _ _ (λ l. choice_over_at (ltb→lt (length Γ) Limits.variables l)) tt)
        (by_code At c 28 _ _ (picked (At 28) (ltb (length Γ) Limits.variables) _ _ (λ l. parallel_over_at (ltb→lt (length Γ) Limits.variables l)) tt)
        (by_code At c 29 _ _ call_at
        tt)))))))))

  terms_sound : (n : ℕ) (Γ : List ℕ) → Sounds W (Ok Γ) (rule_terms R n Γ)
  unfolding rule_terms
  terms_sound zero Γ s = tt
  terms_sound (suc n) Γ [] = tt
  terms_sound (suc n) Γ (c ∷ t) = term_at (rule_terms R n) (terms_sound n) Γ t c

pub rule_term_sound : (R : RuleSet) (Γ : List ℕ) → Sounds (rule_words R.edition.width) (Allowed R (length R.processes) Γ) (read_rule_term R Γ)
unfolding read_rule_term
rule_term_sound R Γ s = terms_sound R (length s) Γ s
