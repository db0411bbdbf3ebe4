-- "4, 5 and 6 by the first offending word of the stream, at one word 4 before 5 before 6" (document 01, "Operations"): a rule stream is refused by
-- k exactly if the first offending word's number is k, and accepted exactly if none offends; the words after that word do not matter: `stream_refusals`.
use Rattle.std.specs.Prelude.{◌≡◌, Bool, true, false, ◌&&◌, ◌↔◌, T, eqb, ltb, leb, length, get_or, take}
use Rattle.std.proofs.Math.Path.{refl}
use Rattle.std.proofs.Common.{ap, sym, ◌∙◌, subst, eqb→eq, ltb→lt, lt→ltb}
use mathlib.Core.List.{List, [], ◌∷◌, ◌++◌, map}
use Rattle.std.proofs.Math.Option.{Option, none, some}
use Prim.Native.Nat.{ℕ, zero, suc, ◌≤◌, ◌<◌}
use native.Mathlib.Omega.{arith}
use Rattle.eb3.specs.Refusal
use Rattle.eb3.specs.Sizes.{reach, breadth}
use Rattle.eb3.specs.Limits
use Rattle.eb3.specs.Editions.{Edition, edition_1, edition_of}
use Rattle.eb3.specs.RuleSets.{RuleSet}
use Rattle.eb3.specs.Unfolding.{unfold_main}
use Rattle.eb3.specs.Reading.{Read, pick}
use Rattle.eb3.specs.RuleReading.{read_rules}
use Rattle.eb3.specs.Answers.{Answer, refused, answered, and_then}
use Rattle.eb3.specs.Blocks.{whole_blocks, block_count, stream, blocks_right, edition_in, Opened, open_blocks}
use Rattle.eb3.specs.Admission.{all_zero, ends_right, ended, within_limits, admission}
use Rattle.first_word.specs.FirstOffendingWord.{Declared, nothing_declared, Due, Tests, passed, tests, judge, follow, padding, padding_place, with_last, verdict, place, sections, first_offending}
use Rattle.first_word.specs.StreamRefusals.{StreamRefusals, AdmissionRefusals}
use Rattle.eb3.proofs.Laws.Reading.{picked, pick_false}
use Rattle.eb3.specs.Generic.Booleans.{T_or}
use Rattle.eb3.proofs.Laws.Refusals.{Within, and_then_within, or_refused_within, refused_within}
use Rattle.eb3.proofs.Laws.Admission.{opened}
use Rattle.eb3.proofs.Laws.Editions.{edition_proper}
use Rattle.eb3.specs.Generic.Lists.{one_of}
use Rattle.first_word.proofs.Laws.FirstOffendingWord.{Offends, followed}
use Rattle.first_word.proofs.Laws.FirstOffendingRules.{rules_follow}

-- ── the end of the stream ──

is_true : (b : Bool) → T b → b ≡ true
is_true true h = refl
is_true false h = absurd h

is_false : (b : Bool) → (T b → ⊥) → b ≡ false
is_false true h = absurd (h tt)
is_false false h = refl

same_test : (b c : Bool) → (T b → T c) → (T c → T b) → b ≡ c
same_test true c f g = sym (is_true c (f tt))
same_test false c f g = sym (is_false c g)

-- At most n words, all zero.
padding_is : (n : ℕ) (u : List ℕ) → padding n u ≡ pick (ltb (length u) (suc n) && all_zero u) none (some Refusal.form)
unfolding padding all_zero
padding_is n [] = let h : 0 < suc n = omega arith in ap (λ b. pick (b && true) none (some Refusal.form)) (sym (is_true (ltb 0 (suc n)) (lt→ltb 0 (suc n) h)))
padding_is zero (w ∷ t) =
    ap (λ b. pick (b && (eqb w 0 && all_zero t)) none (some Refusal.form)) (sym (is_false (ltb (suc (length t)) 1) (λ h. let l : suc (length t) < 1 = ltb→lt (suc (length t)) 1 h in let z : ⊥ = omega arith in z)))
padding_is (suc n) (w ∷ t) = ap (λ x. pick (eqb w 0) x (some Refusal.form)) (padding_is n t) ∙ (go (eqb w 0) (ltb (length t) (suc n)) (all_zero t) ∙ ap (λ b. pick (b && (eqb w 0 && all_zero t)) none (some Refusal.form)) longer)
  where
    go : (b c d : Bool) → pick b (pick (c && d) none (some Refusal.form)) (some Refusal.form) ≡ pick (c && (b && d)) none (some Refusal.form)
    go true c d = refl
    go false true d = refl
    go false false d = refl

    longer : ltb (length t) (suc n) ≡ ltb (suc (length t)) (suc (suc n))
    longer = same_test (ltb (length t) (suc n)) (ltb (suc (length t)) (suc (suc n)))
        (λ h. let l : length t < suc n = ltb→lt (length t) (suc n) h in lt→ltb (suc (length t)) (suc (suc n)) (omega arith))
        (λ h. let l : suc (length t) < suc (suc n) = ltb→lt (suc (length t)) (suc (suc n)) h in lt→ltb (length t) (suc n) (omega arith))

-- ── the theorem ──

-- The number of a refusal, none for an answer.
abbrev pub refusal : {X : Type 0} → Answer X → Option ℕ
refusal (refused k) = some k
refusal (answered x) = none

ended_is : (r : Read RuleSet) → followed r (λ R u. padding 253 u) ≡ refusal (ended r)
unfolding followed ended
ended_is (Read.refused k) = refl
ended_is (Read.taken R u) = padding_is 253 u ∙ go (ends_right u)
  where
    go : (b : Bool) → pick b none (some Refusal.form) ≡ refusal (pick b (answered R) (refused Refusal.form))
    go true = refl
    go false = refl

pub first_offending_word : (L : Edition) → 1 ≤ L.function_parameters → (words : List ℕ) → refusal (ended (read_rules L words)) ≡ first_offending L words
first_offending_word L many words = sym (rules_follow L many words ∙ ended_is (read_rules L words))

abbrev Number : Option ℕ → ℕ
Number none = 0
Number (some k) = k

refused_by : {X : Type 0} (a : Answer X) (k : ℕ) → refusal a ≡ some k → a ≡ refused k
refused_by (refused j) k e = ap (λ o. refused (Number o)) e
refused_by (answered x) k e = absurd (subst Offends (sym e) tt)

accepted : {X : Type 0} (a : Answer X) → refusal a ≡ none → (x : X) × (a ≡ answered x)
accepted (refused k) e = absurd (subst Offends e tt)
accepted (answered x) e = (x, refl)

-- Refused by k exactly if the first offending word's number is k.
pub refused_by_first : (L : Edition) → 1 ≤ L.function_parameters → (words : List ℕ) (k : ℕ) → (ended (read_rules L words) ≡ refused k) ↔ (first_offending L words ≡ some k)
refused_by_first L many words k = (λ e. sym (first_offending_word L many words) ∙ ap refusal e, λ e. refused_by (ended (read_rules L words)) k (first_offending_word L many words ∙ e))

-- Accepted exactly if no word offends.
pub accepted_by_all : (L : Edition) → 1 ≤ L.function_parameters → (words : List ℕ) → ((R : RuleSet) × (ended (read_rules L words) ≡ answered R)) ↔ (first_offending L words ≡ none)
accepted_by_all L many words = (λ e. sym (first_offending_word L many words) ∙ ap refusal e.1, λ e. accepted (ended (read_rules L words)) (first_offending_word L many words ∙ e))

-- ── the words after the offending one ──

-- At the place of an offending word: the words up to it decide.
padding_decided : (n : ℕ) (t u : List ℕ) → padding_place n t < length t → padding n (take (suc (padding_place n t)) t ++ u) ≡ padding n t
unfolding padding padding_place
padding_decided n [] u h = let z : ⊥ = omega arith in absurd z
padding_decided zero (w ∷ t) u h = refl
padding_decided (suc n) (w ∷ t) u h = go (eqb w 0) refl h (λ l. padding_decided n t u l)
  where
    go : (b : Bool) → eqb w 0 ≡ b → pick b (suc (padding_place n t)) 0 < suc (length t) → (padding_place n t < length t → padding n (take (suc (padding_place n t)) t ++ u) ≡ padding n t)
        → padding (suc n) (take (suc (pick b (suc (padding_place n t)) 0)) (w ∷ t) ++ u) ≡ pick b (padding n t) (some Refusal.form)
    go true e l ih = ap (λ b. pick b (padding n (take (suc (padding_place n t)) t ++ u)) (some Refusal.form)) e ∙ ih (omega arith)
    go false e l ih = ap (λ b. pick b (padding n u) (some Refusal.form)) e

-- One word: whether it passes decides whether the words after it count.
judged_alone : (x : Tests) (a b : Option ℕ) → passed x ≡ false → judge x a ≡ judge x b
unfolding judge
judged_alone x a b e = go x.form x.reference x.kind e
  where
    go : (f r k : Bool) → f && (r && k) ≡ false → pick f (pick r (pick k a (some Refusal.kind)) (some Refusal.reference)) (some Refusal.form) ≡ pick f (pick r (pick k b (some Refusal.kind)) (some Refusal.reference)) (some Refusal.form)
    go true true true e = absurd (subst T e tt)
    go true true false e = refl
    go true false k e = refl
    go false r k e = refl

module _ (L : Edition) where
  pub decided : (t u : List ℕ) (D : Declared) (ds : List Due) → place L t D ds < length t → verdict 253 L (take (suc (place L t D ds)) t ++ u) D ds ≡ verdict 253 L t D ds
  unfolding verdict place
  decided [] u D ds h = let z : ⊥ = omega arith in absurd z
  decided (w ∷ t) u D [] h = padding_decided 253 (w ∷ t) u h
  decided (w ∷ t) u D (d ∷ ds) h = go (passed (tests L D d w)) refl h (λ l. decided t u (follow L D d w).declared ((follow L D d w).due ++ ds) l)
    where
      p : ℕ
      p = place L t (follow L D d w).declared ((follow L D d w).due ++ ds)

      rest : List ℕ → Option ℕ
      rest v = verdict 253 L v (follow L D d w).declared ((follow L D d w).due ++ ds)

      go : (b : Bool) → passed (tests L D d w) ≡ b → pick b (suc p) 0 < suc (length t) → (p < length t → rest (take (suc p) t ++ u) ≡ rest t)
          → verdict 253 L (take (suc (pick b (suc p) 0)) (w ∷ t) ++ u) D (d ∷ ds) ≡ judge (tests L D d w) (rest t)
      go true e l ih = ap (judge (tests L D d w)) (ih (omega arith))
      go false e l ih = judged_alone (tests L D d w) (rest u) (rest t) e

-- ── the words before it ──

padding_before : (n : ℕ) (t : List ℕ) (i : ℕ) → i ≤ padding_place n t → padding_place n (take i t) ≡ i
unfolding padding_place
padding_before n t zero h = refl
padding_before n [] (suc i) h = let z : ⊥ = omega arith in absurd z
padding_before zero (w ∷ t) (suc i) h = let z : ⊥ = omega arith in absurd z
padding_before (suc n) (w ∷ t) (suc i) h = go (eqb w 0) h (λ l. padding_before n t i l)
  where
    go : (b : Bool) → suc i ≤ pick b (suc (padding_place n t)) 0 → (i ≤ padding_place n t → padding_place n (take i t) ≡ i) → pick b (suc (padding_place n (take i t))) 0 ≡ suc i
    go true l ih = ap suc (ih (omega arith))
    go false l ih = let z : ⊥ = omega arith in absurd z

before : (L : Edition) (t : List ℕ) (i : ℕ) (D : Declared) (ds : List Due) → i ≤ place L t D ds → place L (take i t) D ds ≡ i
unfolding place
before L t zero D ds h = refl
before L [] (suc i) D ds h = let z : ⊥ = omega arith in absurd z
before L (w ∷ t) (suc i) D [] h = padding_before 253 (w ∷ t) (suc i) h
before L (w ∷ t) (suc i) D (d ∷ ds) h = go (passed (tests L D d w)) h (λ l. before L t i (follow L D d w).declared ((follow L D d w).due ++ ds) l)
  where
    p : List ℕ → ℕ
    p t = place L t (follow L D d w).declared ((follow L D d w).due ++ ds)

    go : (b : Bool) → suc i ≤ pick b (suc (p t)) 0 → (i ≤ p t → p (take i t) ≡ i) → pick b (suc (p (take i t))) 0 ≡ suc i
    go true l ih = ap suc (ih (omega arith))
    go false l ih = let z : ⊥ = omega arith in absurd z

-- ── Admit ──

opened_within : (rules : List ℕ) → Within (1 ∷ 2 ∷ 3 ∷ []) (open_blocks rules)
unfolding open_blocks edition_in one_of
opened_within rules =
    picked W (whole_blocks rules) _ _
    (λ a. picked W (blocks_right 0 (block_count rules) rules) _ _
    (λ b. and_then_within (1 ∷ 2 ∷ 3 ∷ []) (edition_in rules) _
    (picked W (eqb (get_or (stream rules) 1 0) (block_count rules)) _ _ (λ c. or_refused_within (1 ∷ 2 ∷ 3 ∷ []) Refusal.edition (edition_of (get_or (stream rules) 0 0)) tt) tt) (λ L. tt)) tt) tt
  where
    W : {X : Type 0} → Answer X → Type 0
    W a = Within (1 ∷ 2 ∷ 3 ∷ []) a

limits_within : (R : RuleSet) → Within (7 ∷ 8 ∷ []) (within_limits R)
unfolding within_limits one_of
limits_within R =
    picked (Within (7 ∷ 8 ∷ [])) (leb (reach R.edition.width (unfold_main R)) Limits.reach) _ _ (λ a. picked (Within (7 ∷ 8 ∷ [])) (leb (breadth (unfold_main R)) Limits.breadth) _ _ (λ b. tt) tt) tt

-- No number of 4 to 6 is one of these.
not_opened : (k : ℕ) → 4 ≤ k → T (one_of (1 ∷ 2 ∷ 3 ∷ []) k) → ⊥
unfolding one_of
not_opened k h t = T_or (eqb k 1) _ t (λ u. let e : k ≡ 1 = eqb→eq k 1 u in omega arith)
    (λ t. T_or (eqb k 2) _ t (λ u. let e : k ≡ 2 = eqb→eq k 2 u in omega arith) (λ t. T_or (eqb k 3) _ t (λ u. let e : k ≡ 3 = eqb→eq k 3 u in omega arith) (λ t. t)))

not_limits : (k : ℕ) → k ≤ 6 → T (one_of (7 ∷ 8 ∷ []) k) → ⊥
unfolding one_of
not_limits k h t = T_or (eqb k 7) _ t (λ u. let e : k ≡ 7 = eqb→eq k 7 u in omega arith) (λ t. T_or (eqb k 8) _ t (λ u. let e : k ≡ 8 = eqb→eq k 8 u in omega arith) (λ t. t))

-- The second of three tests in a row refuses by k, where the first and the third do not.
second_refuses : {X Y Z : Type 0} (k : ℕ) (a : Answer X) (f : X → Answer Y) (g : Y → Answer Z) → ((j : ℕ) → a ≡ refused j → j ≡ k → ⊥) → ((y : Y) → g y ≡ refused k → ⊥)
    → (and_then (and_then a f) g ≡ refused k) ↔ ((x : X) × (a ≡ answered x) × (f x ≡ refused k))
unfolding and_then
second_refuses {X} {Y} {Z} k (refused j) f g p q = (λ e. absurd (p j refl (same e)), λ e. absurd (subst (λ o. Offends (refusal o)) e.1 tt))
  where
    same : {W : Type 0} → Path (Answer W) (refused j) (refused k) → j ≡ k
    same e = ap (λ a. Number (refusal a)) e
second_refuses {X} {Y} {Z} k (answered x) f g p q = (λ e. (x, refl, go (f x) e), λ e. ap (λ a. and_then (and_then a f) g) e.1 ∙ ap (λ a. and_then a g) e.2)
  where
    go : (b : Answer Y) → and_then b g ≡ refused k → b ≡ refused k
    go (refused j) e = ap (λ a. refused (Number (refusal a))) e
    go (answered y) e = absurd (q y e)

pub admission_refusals : AdmissionRefusals
unfolding admission
admission_refusals = record {
  refused_exactly = λ rules k lo hi. (
    (λ e. let x = (tests_in_row rules k lo hi).0 e in (x.0, x.1, (refused_by_first x.0.edition (many rules x.0 x.1) x.0.words k).0 x.2)),
    (λ e. (tests_in_row rules k lo hi).1 (e.0, e.1, (refused_by_first e.0.edition (many rules e.0 e.1) e.0.words k).1 e.2)),
  );
}
  where
    many : (rules : List ℕ) (o : Opened) → open_blocks rules ≡ answered o → 1 ≤ o.edition.function_parameters
    many rules o e = (edition_proper o.edition (opened rules o e).defined).parameters.0

    tests_in_row : (rules : List ℕ) (k : ℕ) → 4 ≤ k → k ≤ 6 → (and_then (and_then (open_blocks rules) λ o. ended (read_rules o.edition o.words)) within_limits ≡ refused k)
        ↔ ((o : Opened) × (open_blocks rules ≡ answered o) × (ended (read_rules o.edition o.words) ≡ refused k))
    tests_in_row rules k lo hi = second_refuses k (open_blocks rules) (λ o. ended (read_rules o.edition o.words)) within_limits
        (λ j e s. not_opened k lo (subst (λ n. T (one_of (1 ∷ 2 ∷ 3 ∷ []) n)) s (refused_within (1 ∷ 2 ∷ 3 ∷ []) (open_blocks rules) (opened_within rules) j e)))
        (λ R e. not_limits k hi (refused_within (7 ∷ 8 ∷ []) (within_limits R) (limits_within R) k e))

pub stream_refusals : (L : Edition) → 1 ≤ L.function_parameters → StreamRefusals L
stream_refusals L many = record {
  refused_exactly = refused_by_first L many;
  accepted_exactly = accepted_by_all L many;
  words_before = λ words i h. before L words i nothing_declared sections h;
  words_after = λ words rest h. decided L words rest nothing_declared sections h;
}

-- ── examples ──

-- One domain of 1, one label without parameters, no function, main alone without parameters; then its term.
abbrev small : List ℕ → List ℕ
small term = 1 ∷ 1 ∷ 1 ∷ 0 ∷ 0 ∷ 1 ∷ 0 ∷ term

-- In a guard: a variable out of scope, cut short before its number, before, now of no function; a mask bit of no label; a code 30; a word after
-- the end; main with a parameter; and main internal, accepted.
pub examples : map (first_offending edition_1)
    (small (26 ∷ 8 ∷ 2 ∷ 0 ∷ []) ∷ small (26 ∷ 8 ∷ 2 ∷ []) ∷ small (26 ∷ 8 ∷ 7 ∷ 0 ∷ []) ∷ small (26 ∷ 8 ∷ 6 ∷ 0 ∷ []) ∷ small (25 ∷ 2 ∷ []) ∷ small (30 ∷ []) ∷ small (20 ∷ 1 ∷ []) ∷ (1 ∷ 1 ∷ 1 ∷ 0 ∷ 0 ∷ 1 ∷ 1 ∷ []) ∷ small (20 ∷ []) ∷ [])
    ≡ some 5 ∷ some 4 ∷ some 4 ∷ some 5 ∷ some 5 ∷ some 4 ∷ some 4 ∷ some 4 ∷ none ∷ []
unfolding verdict judge padding
examples = refl

-- With constants of two words, one is judged at its second: an argument of 1 + 65,536 × h for a domain of 1 is no element (6), or no number (4).
abbrev two_words : Edition
two_words = record { number = 2; top = 131070; width = 2; function_parameters = 2; counts_written = true }

abbrev with_argument : List ℕ → List ℕ
with_argument words = 1 ∷ 1 ∷ 1 ∷ 1 ∷ 0 ∷ 0 ∷ 1 ∷ 0 ∷ 21 ∷ 0 ∷ 1 ∷ words

pub examples_of_two_words : map (first_offending two_words) (with_argument (1 ∷ []) ∷ with_argument (1 ∷ 0 ∷ []) ∷ with_argument (1 ∷ 2 ∷ []) ∷ with_argument (0 ∷ 0 ∷ []) ∷ []) ≡ some 4 ∷ some 6 ∷ some 4 ∷ none ∷ []
unfolding verdict judge padding with_last
examples_of_two_words = refl

-- The words before an offending one need not begin any rule set's spelling: where no variable is in scope, code 2 passes, and no number after it does.
pub no_variable_after : (w : ℕ) (t : List ℕ) → first_offending edition_1 (small (26 ∷ 8 ∷ 2 ∷ w ∷ t)) ≡ some 5
unfolding verdict judge
no_variable_after w t = pick_false _ _ (ltb w 0) (λ h. let l : w < 0 = ltb→lt w 0 h in let z : ⊥ = omega arith in z)
