-- Given running terms and events are read exactly (document 01, refusals 10 and 11): what is accepted is exactly the spellings of the rule
-- set's running terms within the limits, and of its leaves 20 and 21; and a spelling has one term.
use Rattle.std.specs.Prelude.{◌≡◌, Bool, true, false, ◌&&◌, ◌↔◌, T, leb, length}
use Rattle.std.proofs.Math.Path.{refl, ap}
use Rattle.std.proofs.Common.{sym, ◌∙◌, subst, arith, leb→le, le→leb, length-append}
use mathlib.Core.List.{List, [], ◌∷◌, ◌++◌, append-nil}
use Rattle.std.proofs.Math.Option.{Option, none, some}
use Prim.Native.Nat.{ℕ, zero, suc, ◌+◌, ◌-◌, ◌^◌, ◌≤◌, ◌<◌, min}
use Rattle.std.proofs.Math.Dec.{ltb, ltb→lt, lt→ltb}
use Rattle.eb3.specs.Limits
use Rattle.eb3.specs.Refusal
use Rattle.eb3.specs.Generic.Booleans.{T_and}
use Rattle.eb3.specs.Generic.Lists.{Within}
use Rattle.eb3.specs.Expressions.{Cond}
use Rattle.eb3.specs.Terms.{Term, Done, Internal, Perform, Sequence, Choice, Star, Parallel, Guard, Mask, Action, internal, visible}
use Rattle.eb3.specs.Scopes.{CondInScope, guard_scope}
use Rattle.eb3.specs.Sizes.{size, reach, breadth}
use Rattle.eb3.specs.RuleSets.{RuleSet, sizes_of, label, attributes}
use Rattle.eb3.specs.WellFormedness.{BitsBelow, MaskFits, WellFormedTerm, WellFormedAction, Running}
use Rattle.eb3.specs.Spelling.{number_words, cond_words, arguments_words, words}
use Rattle.eb3.specs.RuleSpelling.{one_word}
use Rattle.eb3.specs.Reading.{Read, refused, taken, Reader, pick, giving, both, number_of}
use Rattle.eb3.specs.ExpressionReading.{read_cond}
use Rattle.eb3.specs.TermReading.{mask_of, element_of, elements_of, perform, TermKind, term_kind, action_of, term_by, term_step, terms, read_term, term_alone, given_term, term_of_action, leaf_of, leaf_alone, given_event}
use Rattle.eb3.proofs.Laws.Reading.{by_code, pick_true, Sound, Sounds, giving_sound, both_sound, spell_both, Both, number_sound, Takes, both_takes, number_takes}
use Rattle.eb3.proofs.Laws.ExpressionReading.{cond_sound, cond_takes}
use Rattle.eb3.proofs.Laws.Sizes.{size_pos}
use Rattle.eb3.proofs.Laws.Spelling.{words_length}
use Rattle.eb3.proofs.Laws.ReadingCombined.{two_sound, two_takes, by_number_sound, by_number_takes, judged_sound, judged_takes}

-- ── masks and constant arguments ──

-- k words with bits of n labels.
abbrev pub MaskOf : ℕ → ℕ → Mask → Type 0
MaskOf k n Δ = (length Δ ≡ k) × BitsBelow n Δ

pub mask_sound : (k n : ℕ) → Sounds (λ Δ. Δ) (λ Δ. (length Δ ≡ k) × BitsBelow n Δ) (mask_of k n)
unfolding mask_of
mask_sound zero n t = (refl, (refl, tt))
mask_sound (suc k) n t = two_sound one_word (λ v. v < 2 ^ min n 16) (λ Δ. Δ) (MaskOf k (n - 16)) (λ Δ. Δ) (MaskOf (suc k) n) (λ v Δ. v ∷ Δ) []
    (number_of Refusal.reference (2 ^ min n 16)) (mask_of k (n - 16)) (number_sound Refusal.reference (2 ^ min n 16)) (mask_sound k (n - 16)) (λ v Δ. refl) (λ v Δ p q. (ap suc q.0, (p, q.1))) t

pub mask_takes : (k n : ℕ) → Takes (λ Δ. Δ) (λ Δ. (length Δ ≡ k) × BitsBelow n Δ) (mask_of k n)
unfolding mask_of
mask_takes zero n [] rest h = refl
mask_takes zero n (v ∷ Δ) rest h = let z : ⊥ = omega (arith, h.0) in absurd z
mask_takes (suc k) n [] rest h = let z : ⊥ = omega (arith, h.0) in absurd z
mask_takes (suc k) n (v ∷ Δ) rest h = two_takes one_word (λ v. v < 2 ^ min n 16) (λ Δ. Δ) (MaskOf k (n - 16)) (λ v Δ. v ∷ Δ)
    (number_of Refusal.reference (2 ^ min n 16)) (mask_of k (n - 16)) (number_takes Refusal.reference (2 ^ min n 16)) (mask_takes k (n - 16)) v Δ rest h.1.0 (omega (arith, h.0), h.1.1)

module _ (w : ℕ) where
  abbrev pub element_words : ℕ → List ℕ
  element_words v = 1 ∷ number_words w v

  pub element_sound : (n : ℕ) → Sounds element_words (λ v. v < n) (element_of w n)
  unfolding element_of
  element_sound n [] = tt
  element_sound n (c ∷ t) = by_code (λ c r. Sound element_words (λ v. v < n) (c ∷ t) r) c 1 _ _ (judged_sound w (λ v. ltb v n) (λ v. v < n) Refusal.kind (1 ∷ []) (λ v. ltb→lt v n) t) tt

  pub elements_sound : (ns : List ℕ) → Sounds (arguments_words w) (Within ns) (elements_of w ns)
  unfolding elements_of arguments_words
  elements_sound [] t = (refl, tt)
  elements_sound (n ∷ ns) t = two_sound element_words (λ v. v < n) (arguments_words w) (Within ns) (arguments_words w) (Within (n ∷ ns)) (λ v vs. v ∷ vs) []
      (element_of w n) (elements_of w ns) (element_sound n) (elements_sound ns) (λ v vs. refl) (λ v vs p q. (p, q)) t

  module _ (positive : 1 ≤ w) where
    pub element_takes : (n : ℕ) → Takes element_words (λ v. v < n) (element_of w n)
    unfolding element_of
    element_takes n v rest h = judged_takes w (λ v. ltb v n) (λ v. v < n) Refusal.kind positive (λ v. lt→ltb v n) v rest h

    pub elements_take : (ns : List ℕ) → Takes (arguments_words w) (Within ns) (elements_of w ns)
    unfolding elements_of arguments_words
    elements_take [] [] rest h = refl
    elements_take [] (v ∷ vs) rest h = absurd h
    elements_take (n ∷ ns) [] rest h = absurd h
    elements_take (n ∷ ns) (v ∷ vs) rest h = two_takes element_words (λ v. v < n) (arguments_words w) (Within ns) (λ v vs. v ∷ vs)
        (element_of w n) (elements_of w ns) (element_takes n) (elements_take ns) v vs rest h.0 h.1

-- ── soundness ──

module _ (R : RuleSet) where
  abbrev spelled : Term → List ℕ
  spelled = words R.edition.width

  abbrev GuardScope : Cond → Type 0
  GuardScope C = CondInScope C (guard_scope (attributes R) 0)

  -- The arguments of label l.
  abbrev ArgumentsOf : ℕ → List ℕ → Type 0
  ArgumentsOf l vs = Within (sizes_of R (label R l)) vs

  abbrev arguments_at : ℕ → Reader (List ℕ)
  arguments_at l = elements_of R.edition.width (sizes_of R (label R l))

  abbrev mask : Reader Mask
  mask = mask_of 4 (length R.labels)

  abbrev guard : Reader Cond
  guard = read_cond (guard_scope (attributes R) 0)

  module _ (e : Reader Term) (h : Sounds spelled (WellFormedTerm R) e) (t : List ℕ) where
    -- After code n, read as of kind k, reading the rest t is sound for the words n ∷ t.
    abbrev TermAt : ℕ → TermKind → Type 0
    TermAt n k = Sound spelled (WellFormedTerm R) (n ∷ t) (term_by R e k t)

    pair_at : (n : ℕ) (k : Term → Term → Term) → ((E F : Term) → spelled (k E F) ≡ n ∷ (spelled E ++ spelled F)) → ((E F : Term) → WellFormedTerm R E → WellFormedTerm R F → WellFormedTerm R (k E F)) → TermAt n (TermKind.pair k)
    pair_at n k s q = two_sound spelled (WellFormedTerm R) spelled (WellFormedTerm R) spelled (WellFormedTerm R) k (n ∷ []) e e h h s q t

    action_at : TermAt 21 TermKind.action
    unfolding action_of words
    action_at = by_number_sound (arguments_words R.edition.width) ArgumentsOf perform Refusal.reference (length R.labels) arguments_at spelled (WellFormedTerm R) 21
        (λ l. elements_sound R.edition.width (sizes_of R (label R l))) (λ l vs. refl) (λ l vs p q. (p, q)) t

    parallel_at : TermAt 25 TermKind.parallel
    unfolding words
    parallel_at = two_sound (λ Δ. Δ) (MaskFits R) (spell_both spelled (WellFormedTerm R) spelled (WellFormedTerm R)) (Both spelled (WellFormedTerm R) spelled (WellFormedTerm R)) spelled (WellFormedTerm R)
        (λ Δ p. Parallel Δ p.0 p.1) (25 ∷ []) mask (both e e) (mask_sound 4 (length R.labels)) (both_sound spelled (WellFormedTerm R) spelled (WellFormedTerm R) e e h h)
        (λ Δ p. refl) (λ Δ p m q. (m, q.0, q.1)) t

    guard_at : TermAt 26 TermKind.guard
    unfolding words
    guard_at = two_sound (cond_words R.edition.width) GuardScope spelled (WellFormedTerm R) spelled (WellFormedTerm R) Guard (26 ∷ []) guard e
        (cond_sound (guard_scope (attributes R) 0)) h (λ C E. refl) (λ C E p q. (p, q)) t

    term_at : (n : ℕ) → TermAt n (term_kind n)
    unfolding words
    term_at n =
        by_code TermAt n 20 _ _ (refl, tt)
        (by_code TermAt n 21 _ _ action_at
        (by_code TermAt n 22 _ _ (pair_at 22 Sequence (λ E F. refl) (λ E F p q. (p, q)))
        (by_code TermAt n 23 _ _ (pair_at 23 Choice (λ E F. refl) (λ E F p q. (p, q)))
        (by_code TermAt n 24 _ _ (giving_sound spelled (WellFormedTerm R) spelled (WellFormedTerm R) (24 ∷ []) t Star (e t) (λ E. refl) (λ E p. p) (h t))
        (by_code TermAt n 25 _ _ parallel_at
        (by_code TermAt n 26 _ _ guard_at
        (by_code TermAt n 30 _ _ (refl, tt)
        tt)))))))

  term_step_sound : (e : Reader Term) → Sounds spelled (WellFormedTerm R) e → Sounds spelled (WellFormedTerm R) (term_step R e)
  term_step_sound e h [] = tt
  term_step_sound e h (n ∷ t) = term_at e h t n

  terms_sound : (n : ℕ) → Sounds spelled (WellFormedTerm R) (terms R n)
  unfolding terms
  terms_sound zero s = tt
  terms_sound (suc n) s = term_step_sound (terms R n) (terms_sound n) s

pub term_sound : (R : RuleSet) → Sounds (words R.edition.width) (WellFormedTerm R) (read_term R)
unfolding read_term
term_sound R s = terms_sound R (length s) s

-- ── completeness ──

module _ (R : RuleSet) (positive : 1 ≤ R.edition.width) where
  -- What the reader to a depth of n takes: no more words than n.
  abbrev TermTo : ℕ → Term → Type 0
  TermTo n E = WellFormedTerm R E × (size R.edition.width E ≤ n)

  module _ (n : ℕ) (e : Reader Term) (t : Takes (spelled R) (TermTo n) e) where
    two_terms : (k : Term → Term → Term) (E F : Term) (rest : List ℕ) → WellFormedTerm R E × WellFormedTerm R F → size R.edition.width E + size R.edition.width F ≤ n
        → giving (λ p. k p.0 p.1) (both e e ((spelled R E ++ spelled R F) ++ rest)) ≡ taken (k E F) rest
    two_terms k E F rest s l = two_takes (spelled R) (TermTo n) (spelled R) (TermTo n) k e e t t E F rest (s.0, omega arith) (s.1, omega arith)

    term_step_takes : Takes (spelled R) (TermTo (suc n)) (term_step R e)
    unfolding words size giving action_of
    term_step_takes Done rest h = refl
    term_step_takes Internal rest h = refl
    term_step_takes (Perform a) rest h = by_number_takes (arguments_words R.edition.width) (ArgumentsOf R) perform Refusal.reference (length R.labels) (arguments_at R) a.label
        (elements_take R.edition.width positive (sizes_of R (label R a.label))) a.arguments rest h.0.0 h.0.1
    term_step_takes (Sequence E F) rest h = two_terms Sequence E F rest h.0 (omega (arith, h.1))
    term_step_takes (Choice E F) rest h = two_terms Choice E F rest h.0 (omega (arith, h.1))
    term_step_takes (Star E) rest h = ap (giving Star) (t E rest (h.0, omega (arith, h.1)))
    term_step_takes (Parallel Δ E F) rest h = two_takes (λ Δ. Δ) (MaskFits R) (spell_both (spelled R) (TermTo n) (spelled R) (TermTo n)) (Both (spelled R) (TermTo n) (spelled R) (TermTo n))
        (λ Δ p. Parallel Δ p.0 p.1) (mask R) (both e e) (mask_takes 4 (length R.labels)) (both_takes (spelled R) (TermTo n) (spelled R) (TermTo n) e e t t)
        Δ (E, F) rest h.0.0 ((h.0.1, omega (arith, h.1)), (h.0.2, omega (arith, h.1)))
    term_step_takes (Guard C E) rest h = two_takes (cond_words R.edition.width) (GuardScope R) (spelled R) (TermTo n) Guard (guard R) e
        (cond_takes (guard_scope (attributes R) 0) positive) t C E rest h.0.0 (h.0.1, omega (arith, h.1))

  terms_take : (n : ℕ) → Takes (spelled R) (TermTo n) (terms R n)
  unfolding terms
  terms_take zero E rest h = let z : ⊥ = omega (arith, size_pos R.edition.width E, h.1) in absurd z
  terms_take (suc n) E rest h = term_step_takes n (terms R n) (terms_take n) E rest h

pub term_takes : (R : RuleSet) → 1 ≤ R.edition.width → Takes (words R.edition.width) (WellFormedTerm R) (read_term R)
unfolding read_term
term_takes R p E rest h = terms_take R p (length (words R.edition.width E ++ rest)) E rest (h, omega (arith, length-append (words R.edition.width E) rest, words_length R E h))

-- A term's words with nothing after them are read as that term.
pub alone_taken : (R : RuleSet) → 1 ≤ R.edition.width → (E : Term) → WellFormedTerm R E → read_term R (words R.edition.width E) ≡ taken E []
alone_taken R p E h = ap (read_term R) (sym (append-nil (words R.edition.width E))) ∙ term_takes R p E [] h

abbrev read_off : Read Term → Term
read_off (refused k) = Done
read_off (taken E u) = E

pub words_injective : (R : RuleSet) → 1 ≤ R.edition.width → (E F : Term) → WellFormedTerm R E → WellFormedTerm R F → words R.edition.width E ≡ words R.edition.width F → E ≡ F
words_injective R p E F h i e = ap read_off (sym (alone_taken R p E h) ∙ (ap (read_term R) e ∙ alone_taken R p F i))

-- ── refusal 10 ──

module _ (R : RuleSet) (ws : List ℕ) where
  abbrev AcceptedTerm : Option Term → Type 0
  AcceptedTerm none = Unit
  AcceptedTerm (some E) = (ws ≡ words R.edition.width E) × Running R E

  within_limits : (E : Term) → ws ≡ words R.edition.width E → WellFormedTerm R E → (b c : Bool) → (T b → reach R.edition.width E ≤ Limits.reach) → (T c → breadth E ≤ Limits.breadth) → AcceptedTerm (pick (b && c) (some E) none)
  within_limits E e p true true g b = (e, record { form = p; reach_limit = g tt; breadth_limit = b tt })
  within_limits E e p true false g b = tt
  within_limits E e p false c g b = tt

  term_accepted : (r : Read Term) → Sound (words R.edition.width) (WellFormedTerm R) ws r → AcceptedTerm (term_alone R.edition.width r)
  term_accepted (refused k) h = tt
  term_accepted (taken E []) h = within_limits E (h.0 ∙ append-nil (words R.edition.width E)) h.1 (leb (reach R.edition.width E) Limits.reach) (leb (breadth E) Limits.breadth)
      (leb→le (reach R.edition.width E) Limits.reach) (leb→le (breadth E) Limits.breadth)
  term_accepted (taken E (v ∷ vs)) h = tt

running_alone : (R : RuleSet) (E : Term) → Running R E → term_alone R.edition.width (taken E []) ≡ some E
running_alone R E h = pick_true _ _ (leb (reach R.edition.width E) Limits.reach && leb (breadth E) Limits.breadth)
    (T_and (leb (reach R.edition.width E) Limits.reach) (leb (breadth E) Limits.breadth) (le→leb (reach R.edition.width E) Limits.reach h.reach_limit) (le→leb (breadth E) Limits.breadth h.breadth_limit))

pub given_term_exact : (R : RuleSet) → 1 ≤ R.edition.width → (ws : List ℕ) (E : Term) → (given_term R ws ≡ some E) ↔ ((ws ≡ words R.edition.width E) × Running R E)
unfolding given_term
given_term_exact R p ws E = (
  (λ e. subst (AcceptedTerm R ws) e (term_accepted R ws (read_term R ws) (term_sound R ws))),
  (λ x. ap (λ us. term_alone R.edition.width (read_term R us)) x.0 ∙ (ap (term_alone R.edition.width) (alone_taken R p E x.1.form) ∙ running_alone R E x.1)),
)

-- ── refusal 11 ──

module _ (R : RuleSet) (ws : List ℕ) where
  abbrev AcceptedEvent : Option Action → Type 0
  AcceptedEvent none = Unit
  AcceptedEvent (some ρ) = (ws ≡ words R.edition.width (term_of_action ρ)) × WellFormedAction R ρ

  leaf_accepted : (E : Term) → ws ≡ words R.edition.width E → WellFormedTerm R E → AcceptedEvent (leaf_of E)
  leaf_accepted Done e p = tt
  leaf_accepted Internal e p = (e, tt)
  leaf_accepted (Perform a) e p = (e, p)
  leaf_accepted (Sequence E F) e p = tt
  leaf_accepted (Choice E F) e p = tt
  leaf_accepted (Star E) e p = tt
  leaf_accepted (Parallel Δ E F) e p = tt
  leaf_accepted (Guard C E) e p = tt

  event_accepted : (r : Read Term) → Sound (words R.edition.width) (WellFormedTerm R) ws r → AcceptedEvent (leaf_alone r)
  event_accepted (refused k) h = tt
  event_accepted (taken E []) h = leaf_accepted E (h.0 ∙ append-nil (words R.edition.width E)) h.1
  event_accepted (taken E (v ∷ vs)) h = tt

leaf_back : (ρ : Action) → leaf_of (term_of_action ρ) ≡ some ρ
leaf_back internal = refl
leaf_back (visible a) = refl

pub leaf_form : (R : RuleSet) (ρ : Action) → WellFormedAction R ρ → WellFormedTerm R (term_of_action ρ)
leaf_form R internal p = tt
leaf_form R (visible a) p = p

pub given_event_exact : (R : RuleSet) → 1 ≤ R.edition.width → (ws : List ℕ) (ρ : Action) → (given_event R ws ≡ some ρ) ↔ ((ws ≡ words R.edition.width (term_of_action ρ)) × WellFormedAction R ρ)
unfolding given_event
given_event_exact R p ws ρ = (
  (λ e. subst (AcceptedEvent R ws) e (event_accepted R ws (read_term R ws) (term_sound R ws))),
  (λ x. ap (λ us. leaf_alone (read_term R us)) x.0 ∙ (ap leaf_alone (alone_taken R p (term_of_action ρ) (leaf_form R ρ x.1)) ∙ leaf_back ρ)),
)
