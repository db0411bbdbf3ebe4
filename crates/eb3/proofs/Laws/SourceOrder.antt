-- The one-to-one correspondence between the derivations of a source term (rule 11, the call, included) and those of its unfolding keeps their
-- order (`order_kept`); so the listed moves of the unfolding enumerate the source term's derivations (`source_enumeration`).
use Rattle.std.specs.Prelude.{◌≡◌, refl, [], ◌⊎◌, ◌↔◌, ℕ, ◌<◌, length}
use Rattle.std.proofs.Common.{ap, sym, ◌∙◌, inl, inr, arith}
use Rattle.std.proofs.Math.Path.{subst, subst_refl, path_j}
use Rattle.std.proofs.Math.Bridge.{le_prop}
use Rattle.eb3.specs.Generic.Positions.{Enumeration}
use Rattle.eb3.specs.Generic.PositionsLaws.{enumeration}
use Rattle.eb3.specs.Generic.PositionsAppend.{transfer}
use Rattle.eb3.specs.Generic.Invertible.{Invertible}
use Rattle.eb3.specs.Terms.{Term, Action}
use Rattle.eb3.specs.Derivations.{DataState, Step, EarlierStep, Earlier}
use Rattle.eb3.specs.RuleSets.{RuleSet, process, main_process}
use Rattle.eb3.specs.Unfolding.{Valuation}
use Rattle.eb3.specs.WellFormedness.{Form}
use Rattle.eb3.specs.Semantics.{situation, system, concluded}
use Rattle.eb3.proofs.Laws.Semantics.{derivations_are_transitions}
use Rattle.eb3.specs.SourceTerms.{Source, s_call, substituted, SourceStep, R_1, R_1', R_2, R_3, R_4_left, R_4_right, R_5, R_6, R_7, R_8, R_9_left, R_9_right, R_10, R_11, SourceDerivation, source_derivation, EarlierSourceStep, SourceEarlier, unfold_source, CallsBelow}
use Rattle.eb3.proofs.Laws.SourceTerms.{Lower, well_formed_lower, source_forth, unfold_call, calls_weaken, substituted_below}
use Rattle.eb3.proofs.Laws.SourceDerivations.{forward, source_derivations}

-- Equivalences of the types that the two orders compute to.
same : (A : Type 0) → A ↔ A
same A = (λ a. a, λ a. a)

lex_iff : {A A' B B' C C' : Type 0} → A ↔ A' → B ↔ B' → C ↔ C' → (A ⊎ (B × C)) ↔ (A' ⊎ (B' × C'))
lex_iff {A} {A'} {B} {B'} {C} {C'} f g h = (there, back)
  where
    there : A ⊎ (B × C) → A' ⊎ (B' × C')
    there (inl a) = inl (f.0 a)
    there (inr z) = inr (g.0 z.0, h.0 z.1)

    back : A' ⊎ (B' × C') → A ⊎ (B × C)
    back (inl a) = inl (f.1 a)
    back (inr z) = inr (g.1 z.0, h.1 z.1)

module _ (S : DataState) (M : S.State) where
  abbrev carried : {E F G : Term} {ρ : Action} {M' : S.State} → E ≡ F → Step S M E ρ G M' → Step S M F ρ G M'
  carried {G = G} {ρ = ρ} {M' = M'} q d = subst (λ E. Step S M E ρ G M') q d

  -- The derivations of equal terms are in the same order.
  earlier_carried : {E F G H : Term} {ρ σ : Action} {M' M'' : S.State} (q : E ≡ F) (d : Step S M E ρ G M') (e : Step S M E σ H M'') → EarlierStep d e ≡ EarlierStep (carried q d) (carried q e)
  earlier_carried {E} {F} {G} {H} {ρ} {σ} {M'} {M''} q d e = path_j (λ (F : Term) (q : E ≡ F). EarlierStep d e ≡ EarlierStep (carried q d) (carried q e))
      (λ i. EarlierStep (sym (subst_refl (λ E. Step S M E ρ G M') d) i) (sym (subst_refl (λ E. Step S M E σ H M'') e) i)) q

module _ (R : RuleSet) (low : Lower R) (S : DataState) (M : S.State) where
  abbrev forth : {s s' : Source} {ρ : Action} {M' : S.State} → SourceStep R S M s ρ s' M' → Step S M (unfold_source R s) ρ (unfold_source R s') M'
  forth d = source_forth R low S M d

  -- Joint moves compare left derivations for equality; `forward` keeps and reflects it, for it has an inverse.
  forward_injective : (s : Source) → CallsBelow (length R.processes) s → (x y : SourceDerivation R S M s) → (x ≡ y) ↔ (forward R low S M s x ≡ forward R low S M s y)
  forward_injective s b x y =
      let i : Invertible (forward R low S M s) = source_derivations R low S M s b in
      (λ p. ap (forward R low S M s) p, λ p. sym (i.left x) ∙ (ap i.inverse p ∙ i.left y))

  -- A call's derivations are in the order of its body's: two uses of rule 11 may differ in their proofs of p < n, but those are equal.
  call_order : (p : ℕ) (ts : Valuation) (h k : p < length R.processes) {G H : Term} {ρ σ : Action} {M' M'' : S.State}
      (d : Step S M (unfold_source R (substituted R (process R p).term ts)) ρ G M') (e : Step S M (unfold_source R (substituted R (process R p).term ts)) σ H M'')
      → EarlierStep d e ≡ EarlierStep (carried S M (unfold_call R low p h ts) d) (carried S M (unfold_call R low p k ts) e)
  call_order p ts h k d e = earlier_carried S M (unfold_call R low p h ts) d e
      ∙ (λ i. EarlierStep (carried S M (unfold_call R low p h ts) d) (carried S M (unfold_call R low p (le_prop h k i) ts) e))

  -- A body's calls are calls of the rule set, so that the induction goes on below rule 11.
  body_below : (p : ℕ) (ts : Valuation) → p < length R.processes → CallsBelow (length R.processes) (substituted R (process R p).term ts)
  body_below p ts h = calls_weaken R low p (length R.processes) (omega arith) (substituted R (process R p).term ts) (substituted_below R low p (process R p).term (low p h) ts)

  -- By induction on the two derivations.
  kept : {s s' s'' : Source} {ρ σ : Action} {M' M'' : S.State} → CallsBelow (length R.processes) s → (d : SourceStep R S M s ρ s' M') (e : SourceStep R S M s σ s'' M'')
      → EarlierSourceStep d e ↔ EarlierStep (forth d) (forth e)
  unfolding EarlierSourceStep EarlierStep source_forth
  kept b R_1 R_1 = same ⊥
  kept b R_1' R_1' = same ⊥
  kept b (R_2 d) (R_2 e) = kept b.0 d e
  kept b (R_2 d) (R_3 e) = same ⊥
  kept b (R_3 d) (R_2 e) = same ⊥
  kept b (R_3 d) (R_3 e) = kept b.1 d e
  kept b (R_4_left d) (R_4_left e) = kept b.0 d e
  kept b (R_4_left d) (R_4_right e) = same Unit
  kept b (R_4_right d) (R_4_left e) = same ⊥
  kept b (R_4_right d) (R_4_right e) = kept b.1 d e
  kept b R_5 R_5 = same ⊥
  kept b R_5 (R_6 e) = same Unit
  kept b (R_6 d) R_5 = same ⊥
  kept b (R_6 d) (R_6 e) = kept b d e
  kept b R_7 R_7 = same ⊥
  kept b R_7 (R_8 h d e) = same ⊥
  kept b R_7 (R_9_left h d) = same ⊥
  kept b R_7 (R_9_right h d) = same ⊥
  kept b (R_8 h d e) R_7 = same ⊥
  kept b (R_8 {s₁ = s} h d e) (R_8 h' d' e') = lex_iff (kept b.0 d d') (forward_injective s b.0 (source_derivation d) (source_derivation d')) (kept b.1 e e')
  kept b (R_8 h d e) (R_9_left h' d') = same ⊥
  kept b (R_8 h d e) (R_9_right h' d') = same ⊥
  kept b (R_9_left h d) R_7 = same ⊥
  kept b (R_9_left h d) (R_8 h' d' e') = same Unit
  kept b (R_9_left h d) (R_9_left h' d') = kept b.0 d d'
  kept b (R_9_left h d) (R_9_right h' d') = same Unit
  kept b (R_9_right h d) R_7 = same ⊥
  kept b (R_9_right h d) (R_8 h' d' e') = same Unit
  kept b (R_9_right h d) (R_9_left h' d') = same ⊥
  kept b (R_9_right h d) (R_9_right h' d') = kept b.1 d d'
  kept b (R_10 h d) (R_10 h' d') = kept b d d'
  kept b (R_11 {p = p} {ts = ts} h d) (R_11 h' d') = subst (λ X. EarlierSourceStep d d' ↔ X) (call_order p ts h h' (forth d) (forth d')) (kept (body_below p ts h) d d')

  module _ (s : Source) (b : CallsBelow (length R.processes) s) where
    -- The order is kept and reflected.
    pub order_kept : (x y : SourceDerivation R S M s) → SourceEarlier x y ↔ Earlier (forward R low S M s x) (forward R low S M s y)
    order_kept x y = kept b x.step y.step

    -- The listed moves of the unfolding are exactly the source term's derivations, one to one, in order;
    pub source_enumeration : Enumeration (SourceDerivation R S M s) SourceEarlier (λ x. concluded (forward R low S M s x)) ((system S).transitions (situation (unfold_source R s) M))
    source_enumeration =
        let i : Invertible (forward R low S M s) = source_derivations R low S M s b in
        enumeration (transfer (derivations_are_transitions S (situation (unfold_source R s) M)) (forward R low S M s) i.inverse i.left i.right (λ x. refl)
        (λ x y. (order_kept x y).0) (λ x y. (order_kept x y).1))

-- and of main, as a call of the last process.
pub main_enumeration : (R : RuleSet) (good : Form R) (S : DataState) (M : S.State)
    → Enumeration (SourceDerivation R S M (s_call (main_process R) [])) SourceEarlier (λ x. concluded (forward R (well_formed_lower R good) S M (s_call (main_process R) []) x)) ((system S).transitions (situation (unfold_source R (s_call (main_process R) [])) M))
main_enumeration R good S M = source_enumeration R (well_formed_lower R good) S M (s_call (main_process R) []) (omega (arith, good.process_count.0))
