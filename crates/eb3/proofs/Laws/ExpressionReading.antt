-- The readers of data expressions and conditions are sound and complete: what they accept is exactly a spelling of an expression in its scope.
use Rattle.std.specs.Prelude.{◌≡◌, ltb, length}
use Rattle.std.proofs.Math.Path.{refl, ap}
use Rattle.std.proofs.Common.{◌∙◌, subst, arith, lt→ltb, length-append}
use mathlib.Core.List.{List, [], ◌∷◌, ◌++◌}
use Prim.Native.Nat.{ℕ, zero, suc, ◌+◌, ◌≤◌, ◌<◌}
use Rattle.std.proofs.Math.Dec.{leb, leb→le, le→leb}
use Rattle.eb3.specs.Refusal
use Rattle.eb3.specs.Expressions.{Data, Undefined, Constant, Variable, Add, Subtract, If, Now, Before, Args, Nil, Cons, Cond, Equal, Less, And, Or, Not, True}
use Rattle.eb3.specs.Scopes.{Scope, DataInScope, ArgsInScope, CondInScope}
use Rattle.eb3.specs.Sizes.{data_size, args_size, cond_size}
use Rattle.eb3.specs.Spelling.{number_words, data_words, args_words, cond_words}
use Rattle.eb3.specs.RuleSpelling.{one_word}
use Rattle.eb3.specs.Reading.{taken, Reader, giving, both, number_of}
use Rattle.eb3.specs.ExpressionReading.{DataKind, CondKind, Readers, data_kind, cond_kind, constant_of, args_of, data_by, cond_by, data_step, cond_step, readers, read_data, read_cond}
use Rattle.eb3.proofs.Laws.Reading.{picked, pick_true, by_code, Sound, Sounds, giving_sound, both_sound, spell_both, Both, number_sound, Takes, both_takes, number_takes}
use Rattle.eb3.proofs.Laws.Spelling.{data_length, cond_length}
use Rattle.eb3.proofs.Laws.ReadingCombined.{two_sound, two_takes, by_number_sound, by_number_takes, judged_sound, judged_takes}

abbrev width : Scope → ℕ
width P = P.edition.width

-- ── soundness ──

module _ (P : Scope) where
  abbrev DataScope : Data → Type 0
  DataScope a = DataInScope a P

  abbrev CondScope : Cond → Type 0
  CondScope c = CondInScope c P

  abbrev ArgsScope : ℕ → Args → Type 0
  ArgsScope n rs = ArgsInScope rs P n

  constant_sound : Sounds (number_words (width P)) (λ v. v ≤ P.edition.top) (constant_of (width P) P.edition.top)
  unfolding constant_of
  constant_sound t = judged_sound (width P) (λ v. leb v P.edition.top) (λ v. v ≤ P.edition.top) Refusal.form [] (λ v. leb→le v P.edition.top) t

  args_sound : (d : Reader Data) → Sounds (data_words (width P)) DataScope d → (n : ℕ) → Sounds (args_words (width P)) (ArgsScope n) (args_of d n)
  unfolding args_of args_words
  args_sound d h zero t = (refl, refl)
  args_sound d h (suc n) t = two_sound (data_words (width P)) DataScope (args_words (width P)) (ArgsScope n) (args_words (width P)) (ArgsScope (suc n)) Cons [] d (args_of d n) h (args_sound d h n)
      (λ a rs. refl) (λ a rs p q. (n, refl, p, q)) t

  module _ (e : Readers) (d : Sounds (data_words (width P)) DataScope e.datum) (c : Sounds (cond_words (width P)) CondScope e.condition) (t : List ℕ) where
    -- After code n, read as of kind k, reading the rest t is sound for the words n ∷ t.
    abbrev DataAt : ℕ → DataKind → Type 0
    DataAt n k = Sound (data_words (width P)) DataScope (n ∷ t) (data_by P e k t)

    abbrev CondAt : ℕ → CondKind → Type 0
    CondAt n k = Sound (cond_words (width P)) CondScope (n ∷ t) (cond_by e k t)

    pair_at : (n : ℕ) (k : Data → Data → Data) → ((a b : Data) → data_words (width P) (k a b) ≡ n ∷ (data_words (width P) a ++ data_words (width P) b)) → ((a b : Data) → DataScope a → DataScope b → DataScope (k a b)) → DataAt n (DataKind.pair k)
    pair_at n k s q = two_sound (data_words (width P)) DataScope (data_words (width P)) DataScope (data_words (width P)) DataScope k (n ∷ []) e.datum e.datum d d s q t

    attribute_at : (n : ℕ) (k : ℕ → Args → Data) (limit : ℕ) → ((f : ℕ) (rs : Args) → data_words (width P) (k f rs) ≡ n ∷ f ∷ args_words (width P) rs)
        → ((f : ℕ) (rs : Args) → f < limit → ArgsScope (P.arity f) rs → DataScope (k f rs)) → DataAt n (DataKind.attribute k limit)
    attribute_at n k limit s q = by_number_sound (args_words (width P)) (λ f. ArgsScope (P.arity f)) k Refusal.reference limit (λ f. args_of e.datum (P.arity f)) (data_words (width P)) DataScope n
        (λ f. args_sound e.datum d (P.arity f)) s q t

    select_at : DataAt 5 DataKind.select
    unfolding data_words
    select_at = two_sound (cond_words (width P)) CondScope (spell_both (data_words (width P)) DataScope (data_words (width P)) DataScope) (Both (data_words (width P)) DataScope (data_words (width P)) DataScope) (data_words (width P)) DataScope
        (λ x p. If x p.0 p.1) (5 ∷ []) e.condition (both e.datum e.datum) c (both_sound (data_words (width P)) DataScope (data_words (width P)) DataScope e.datum e.datum d d)
        (λ x p. refl) (λ x p h i. (h, i.0, i.1)) t

    data_at : (n : ℕ) → DataAt n (data_kind P n)
    unfolding data_words
    data_at n =
        by_code DataAt n 0 _ _ (refl, tt)
        (by_code DataAt n 1 _ _ (giving_sound (number_words (width P)) (λ v. v ≤ P.edition.top) (data_words (width P)) DataScope (1 ∷ []) t Constant (constant_of (width P) P.edition.top t) (λ v. refl) (λ v h. h) (constant_sound t))
        (by_code DataAt n 2 _ _ (giving_sound one_word (λ i. i < P.variables) (data_words (width P)) DataScope (2 ∷ []) t Variable (number_of Refusal.reference P.variables t) (λ i. refl) (λ i h. h) (number_sound Refusal.reference P.variables t))
        (by_code DataAt n 3 _ _ (pair_at 3 Add (λ a b. refl) (λ a b p q. (p, q)))
        (by_code DataAt n 4 _ _ (pair_at 4 Subtract (λ a b. refl) (λ a b p q. (p, q)))
        (by_code DataAt n 5 _ _ select_at
        (by_code DataAt n 6 _ _ (attribute_at 6 Now P.now (λ f rs. refl) (λ f rs l h. (l, h)))
        (by_code DataAt n 7 _ _ (picked (DataAt 7) (ltb 0 P.before) _ _ (λ b. attribute_at 7 Before P.before (λ f rs. refl) (λ f rs l h. (l, h))) tt)
        tt)))))))

    compare_at : (n : ℕ) (k : Data → Data → Cond) → ((a b : Data) → cond_words (width P) (k a b) ≡ n ∷ (data_words (width P) a ++ data_words (width P) b)) → ((a b : Data) → DataScope a → DataScope b → CondScope (k a b)) → CondAt n (CondKind.compare k)
    compare_at n k s q = two_sound (data_words (width P)) DataScope (data_words (width P)) DataScope (cond_words (width P)) CondScope k (n ∷ []) e.datum e.datum d d s q t

    join_at : (n : ℕ) (k : Cond → Cond → Cond) → ((a b : Cond) → cond_words (width P) (k a b) ≡ n ∷ (cond_words (width P) a ++ cond_words (width P) b)) → ((a b : Cond) → CondScope a → CondScope b → CondScope (k a b)) → CondAt n (CondKind.join k)
    join_at n k s q = two_sound (cond_words (width P)) CondScope (cond_words (width P)) CondScope (cond_words (width P)) CondScope k (n ∷ []) e.condition e.condition c c s q t

    cond_at : (n : ℕ) → CondAt n (cond_kind n)
    unfolding cond_words
    cond_at n =
        by_code CondAt n 8 _ _ (compare_at 8 Equal (λ a b. refl) (λ a b p q. (p, q)))
        (by_code CondAt n 9 _ _ (compare_at 9 Less (λ a b. refl) (λ a b p q. (p, q)))
        (by_code CondAt n 10 _ _ (join_at 10 And (λ a b. refl) (λ a b p q. (p, q)))
        (by_code CondAt n 11 _ _ (join_at 11 Or (λ a b. refl) (λ a b p q. (p, q)))
        (by_code CondAt n 12 _ _ (giving_sound (cond_words (width P)) CondScope (cond_words (width P)) CondScope (12 ∷ []) t Not (e.condition t) (λ a. refl) (λ a h. h) (c t))
        (by_code CondAt n 13 _ _ (refl, tt)
        tt)))))

  module _ (e : Readers) (d : Sounds (data_words (width P)) DataScope e.datum) (c : Sounds (cond_words (width P)) CondScope e.condition) where
    data_step_sound : Sounds (data_words (width P)) DataScope (data_step P e)
    data_step_sound [] = tt
    data_step_sound (n ∷ t) = data_at e d c t n

    cond_step_sound : Sounds (cond_words (width P)) CondScope (cond_step e)
    cond_step_sound [] = tt
    cond_step_sound (n ∷ t) = cond_at e d c t n

  readers_sound : (n : ℕ) → Sounds (data_words (width P)) DataScope (readers P n).datum × Sounds (cond_words (width P)) CondScope (readers P n).condition
  unfolding readers
  readers_sound zero = (λ s. tt, λ s. tt)
  readers_sound (suc n) = let h = readers_sound n in (data_step_sound (readers P n) h.0 h.1, cond_step_sound (readers P n) h.0 h.1)

pub data_sound : (P : Scope) → Sounds (data_words P.edition.width) (λ a. DataInScope a P) (read_data P)
unfolding read_data
data_sound P s = (readers_sound P (length s)).0 s

pub cond_sound : (P : Scope) → Sounds (cond_words P.edition.width) (λ c. CondInScope c P) (read_cond P)
unfolding read_cond
cond_sound P s = (readers_sound P (length s)).1 s

-- ── completeness ──

-- A code at least, so that to a depth of 0 there is nothing to take.
data_positive : (w : ℕ) (a : Data) → 1 ≤ data_size w a
unfolding data_size
data_positive w Undefined = omega arith
data_positive w (Constant v) = omega arith
data_positive w (Variable i) = omega arith
data_positive w (Add a b) = omega arith
data_positive w (Subtract a b) = omega arith
data_positive w (If c a b) = omega arith
data_positive w (Now f rs) = omega arith
data_positive w (Before f rs) = omega arith

cond_positive : (w : ℕ) (c : Cond) → 1 ≤ cond_size w c
unfolding cond_size
cond_positive w (Equal a b) = omega arith
cond_positive w (Less a b) = omega arith
cond_positive w (And c d) = omega arith
cond_positive w (Or c d) = omega arith
cond_positive w (Not c) = omega arith
cond_positive w True = omega arith

module _ (P : Scope) (positive : 1 ≤ P.edition.width) where
  -- What the readers to a depth of n take: no more words than n.
  abbrev DataTo : ℕ → Data → Type 0
  DataTo n a = DataInScope a P × (data_size (width P) a ≤ n)

  abbrev ArgsTo : ℕ → ℕ → Args → Type 0
  ArgsTo n k rs = ArgsInScope rs P k × (args_size (width P) rs ≤ n)

  abbrev CondTo : ℕ → Cond → Type 0
  CondTo n c = CondInScope c P × (cond_size (width P) c ≤ n)

  constant_takes : Takes (number_words (width P)) (λ v. v ≤ P.edition.top) (constant_of (width P) P.edition.top)
  unfolding constant_of
  constant_takes = judged_takes (width P) (λ v. leb v P.edition.top) (λ v. v ≤ P.edition.top) Refusal.form positive (λ v. le→leb v P.edition.top)

  args_takes : (n : ℕ) (d : Reader Data) → Takes (data_words (width P)) (DataTo n) d → (k : ℕ) → Takes (args_words (width P)) (ArgsTo n k) (args_of d k)
  unfolding args_of args_words args_size
  args_takes n d h zero Nil rest s = refl
  args_takes n d h zero (Cons a rs) rest s = let z : ⊥ = omega (arith, s.0.1) in absurd z
  args_takes n d h (suc k) Nil rest s = let z : ⊥ = omega (arith, s.0) in absurd z
  args_takes n d h (suc k) (Cons a rs) rest s =
      let e : s.0.0 ≡ k = omega (arith, s.0.1) in
      two_takes (data_words (width P)) (DataTo n) (args_words (width P)) (ArgsTo n k) Cons d (args_of d k) h (args_takes n d h k) a rs rest
      (s.0.2, omega (arith, s.1)) (subst (λ m. ArgsInScope rs P m) e s.0.3, omega (arith, s.1))

  module _ (n : ℕ) (e : Readers) (d : Takes (data_words (width P)) (DataTo n) e.datum) (c : Takes (cond_words (width P)) (CondTo n) e.condition) where
    two_data : {C : Type 0} (k : Data → Data → C) (a b : Data) (rest : List ℕ) → DataInScope a P × DataInScope b P → data_size (width P) a + data_size (width P) b ≤ n
        → giving (λ p. k p.0 p.1) (both e.datum e.datum ((data_words (width P) a ++ data_words (width P) b) ++ rest)) ≡ taken (k a b) rest
    two_data k a b rest s l = two_takes (data_words (width P)) (DataTo n) (data_words (width P)) (DataTo n) k e.datum e.datum d d a b rest (s.0, omega arith) (s.1, omega arith)

    two_conds : (k : Cond → Cond → Cond) (a b : Cond) (rest : List ℕ) → CondInScope a P × CondInScope b P → cond_size (width P) a + cond_size (width P) b ≤ n
        → giving (λ p. k p.0 p.1) (both e.condition e.condition ((cond_words (width P) a ++ cond_words (width P) b) ++ rest)) ≡ taken (k a b) rest
    two_conds k a b rest s l = two_takes (cond_words (width P)) (CondTo n) (cond_words (width P)) (CondTo n) k e.condition e.condition c c a b rest (s.0, omega arith) (s.1, omega arith)

    attribute_takes : (k : ℕ → Args → Data) (limit f : ℕ) (rs : Args) (rest : List ℕ) → f < limit → ArgsTo n (P.arity f) rs
        → data_by P e (DataKind.attribute k limit) (f ∷ (args_words (width P) rs ++ rest)) ≡ taken (k f rs) rest
    attribute_takes k limit f rs rest l s = by_number_takes (args_words (width P)) (λ f. ArgsTo n (P.arity f)) k Refusal.reference limit (λ f. args_of e.datum (P.arity f)) f
        (args_takes n e.datum d (P.arity f)) rs rest l s

    data_step_takes : Takes (data_words (width P)) (DataTo (suc n)) (data_step P e)
    unfolding data_words data_size giving
    data_step_takes Undefined rest h = refl
    data_step_takes (Constant v) rest h = ap (giving Constant) (constant_takes v rest h.0)
    data_step_takes (Variable i) rest h = ap (giving Variable) (number_takes Refusal.reference P.variables i rest h.0)
    data_step_takes (Add a b) rest h = two_data Add a b rest h.0 (omega (arith, h.1))
    data_step_takes (Subtract a b) rest h = two_data Subtract a b rest h.0 (omega (arith, h.1))
    data_step_takes (If x a b) rest h = two_takes (cond_words (width P)) (CondTo n) (spell_both (data_words (width P)) (DataTo n) (data_words (width P)) (DataTo n)) (Both (data_words (width P)) (DataTo n) (data_words (width P)) (DataTo n))
        (λ x p. If x p.0 p.1) e.condition (both e.datum e.datum) c (both_takes (data_words (width P)) (DataTo n) (data_words (width P)) (DataTo n) e.datum e.datum d d)
        x (a, b) rest (h.0.0, omega (arith, h.1)) ((h.0.1, omega (arith, h.1)), (h.0.2, omega (arith, h.1)))
    data_step_takes (Now f rs) rest h = attribute_takes Now P.now f rs rest h.0.0 (h.0.1, omega (arith, h.1))
    data_step_takes (Before f rs) rest h =
        ap (λ k. data_by P e k (f ∷ (args_words (width P) rs ++ rest))) (pick_true _ _ (ltb 0 P.before) (lt→ltb 0 P.before (omega (arith, h.0.0))))
        ∙ attribute_takes Before P.before f rs rest h.0.0 (h.0.1, omega (arith, h.1))

    cond_step_takes : Takes (cond_words (width P)) (CondTo (suc n)) (cond_step e)
    unfolding cond_words cond_size giving
    cond_step_takes (Equal a b) rest h = two_data Equal a b rest h.0 (omega (arith, h.1))
    cond_step_takes (Less a b) rest h = two_data Less a b rest h.0 (omega (arith, h.1))
    cond_step_takes (And a b) rest h = two_conds And a b rest h.0 (omega (arith, h.1))
    cond_step_takes (Or a b) rest h = two_conds Or a b rest h.0 (omega (arith, h.1))
    cond_step_takes (Not a) rest h = ap (giving Not) (c a rest (h.0, omega (arith, h.1)))
    cond_step_takes True rest h = refl

  readers_take : (n : ℕ) → Takes (data_words (width P)) (DataTo n) (readers P n).datum × Takes (cond_words (width P)) (CondTo n) (readers P n).condition
  unfolding readers
  readers_take zero = (
    (λ a rest h. let z : ⊥ = omega (arith, data_positive (width P) a, h.1) in absurd z),
    (λ c rest h. let z : ⊥ = omega (arith, cond_positive (width P) c, h.1) in absurd z),
  )
  readers_take (suc n) = let h = readers_take n in (data_step_takes n (readers P n) h.0 h.1, cond_step_takes n (readers P n) h.0 h.1)

pub data_takes : (P : Scope) → 1 ≤ P.edition.width → Takes (data_words P.edition.width) (λ a. DataInScope a P) (read_data P)
unfolding read_data
data_takes P p a rest h = (readers_take P p (length (data_words P.edition.width a ++ rest))).0 a rest (h, omega (arith, length-append (data_words P.edition.width a) rest, data_length P.edition.width a))

pub cond_takes : (P : Scope) → 1 ≤ P.edition.width → Takes (cond_words P.edition.width) (λ c. CondInScope c P) (read_cond P)
unfolding read_cond
cond_takes P p c rest h = (readers_take P p (length (cond_words P.edition.width c ++ rest))).1 c rest (h, omega (arith, length-append (cond_words P.edition.width c) rest, cond_length P.edition.width c))
