-- Laws of readers, for any reader. Soundness: what is taken is spelled by the words taken, and has a property (`Sound`).
-- Completeness: a spelling at the beginning of the words is taken, whatever follows it (`Takes`).
use Rattle.std.specs.Prelude.{◌≡◌, Bool, true, false, T, eqb, ltb, leb, length}
use Rattle.std.proofs.Math.Path.{refl, ap, sym, subst}
use Rattle.std.proofs.Common.{◌∙◌, arith, eqb→eq, ltb→lt, lt→ltb, leb→le, le→leb}
use mathlib.Core.List.{List, [], ◌∷◌, ◌++◌, append_assoc}
use Prim.Native.Nat.{ℕ, zero, suc, ◌+◌, ◌*◌, ◌/◌, ◌%◌, ◌≤◌, ◌<◌}
use Rattle.eb3.specs.Refusal
use Rattle.eb3.specs.Generic.Lists.{concat_map}
use Rattle.eb3.specs.Spelling.{number_words}
use Rattle.eb3.specs.RuleSpelling.{one_word, counted_words}
use Rattle.eb3.specs.Reading.{Read, refused, taken, Reader, pick, giving, then, both, number_of, count_of, repeat, counted, for_each, series, number_in}
use Rattle.eb3.specs.Generic.AllLists.{All, AllFor, AllFrom}

-- `pick` where its test holds, and where it does not.
pub pick_true : {A : Type 0} (x y : A) (b : Bool) → T b → pick b x y ≡ x
pick_true x y true t = refl
pick_true x y false t = absurd t

pub pick_false : {A : Type 0} (x y : A) (b : Bool) → (T b → ⊥) → pick b x y ≡ y
pick_false x y true n = absurd (n tt)
pick_false x y false n = refl

-- A property that holds of x where the test holds, and of y, holds of what `pick` gives.
pub picked : {A : Type 0} (P : A → Type 0) (b : Bool) (x y : A) → (T b → P x) → P y → P (pick b x y)
picked P true x y p q = p tt
picked P false x y p q = q

-- A choice by the code c: what holds of x at code n, and of y at code c, holds of what is picked at c.
pub by_code : {K : Type 0} (P : ℕ → K → Type 0) (c n : ℕ) (x y : K) → P n x → P c y → P c (pick (eqb c n) x y)
by_code P c n x y p q = picked (P c) (eqb c n) x y (λ t. subst (λ m. P m x) (sym (eqb→eq c n t)) p) q

-- ── soundness ──

abbrev pub Sound : {A : Type 0} → (A → List ℕ) → (A → Type 0) → List ℕ → Read A → Type 0
Sound spell P s (refused k) = Unit
Sound spell P s (taken a u) = (s ≡ spell a ++ u) × P a

abbrev pub Sounds : {A : Type 0} → (A → List ℕ) → (A → Type 0) → Reader A → Type 0
Sounds spell P f = (s : List ℕ) → Sound spell P s (f s)

module _ {A B : Type 0} (spell : A → List ℕ) (P : A → Type 0) (spell' : B → List ℕ) (Q : B → Type 0) where
  -- After words that are read already.
  pub giving_sound : (pre t : List ℕ) (f : A → B) (r : Read A) → ((a : A) → spell' (f a) ≡ pre ++ spell a) → ((a : A) → P a → Q (f a)) → Sound spell P t r → Sound spell' Q (pre ++ t) (giving f r)
  unfolding giving
  giving_sound pre t f (refused k) e q h = tt
  giving_sound pre t f (taken a u) e q h = (ap (λ x. pre ++ x) h.0 ∙ (sym (append_assoc pre (spell a) u) ∙ ap (λ x. x ++ u) (sym (e a))), q a h.1)

  pub then_sound : (pre t : List ℕ) (g : A → Reader B) (r : Read A) → Sound spell P t r → ((a : A) (u : List ℕ) → P a → Sound spell' Q (pre ++ (spell a ++ u)) (g a u)) → Sound spell' Q (pre ++ t) (then r g)
  unfolding then
  then_sound pre t g (refused k) h q = tt
  then_sound pre t g (taken a u) h q = subst (λ x. Sound spell' Q (pre ++ x) (g a u)) (sym h.0) (q a u h.1)

  abbrev pub spell_both : A × B → List ℕ
  spell_both p = spell p.0 ++ spell' p.1

  abbrev pub Both : A × B → Type 0
  Both p = P p.0 × Q p.1

  behind_sound : (a : A) (t u : List ℕ) → t ≡ spell a ++ u → P a → (r : Read B) → Sound spell' Q u r → Sound spell_both Both t (giving (λ b. (a, b)) r)
  unfolding giving
  behind_sound a t u e h (refused k) i = tt
  behind_sound a t u e h (taken b v) i = (e ∙ (ap (λ x. spell a ++ x) i.0 ∙ sym (append_assoc (spell a) (spell' b) v)), (h, i.1))

  pub both_sound : (f : Reader A) (g : Reader B) → Sounds spell P f → Sounds spell' Q g → Sounds spell_both Both (both f g)
  unfolding both then
  both_sound f g p q t = go (f t) (p t)
    where
      go : (r : Read A) → Sound spell P t r → Sound spell_both Both t (then r λ a u. giving (λ b. (a, b)) (g u))
      go (refused k) h = tt
      go (taken a u) h = behind_sound a t u h.0 h.1 (g u) (q u)

-- Numbers and counts.
pub number_sound : (k limit : ℕ) → Sounds one_word (λ n. n < limit) (number_of k limit)
unfolding number_of
number_sound k limit [] = tt
number_sound k limit (w ∷ t) = picked (Sound one_word (λ n. n < limit) (w ∷ t)) (ltb w limit) (taken w t) (refused k) (λ h. (refl, ltb→lt w limit h)) tt

pub count_sound : (lo hi : ℕ) → Sounds one_word (λ n. (lo ≤ n) × (n ≤ hi)) (count_of lo hi)
unfolding count_of
count_sound lo hi [] = tt
count_sound lo hi (w ∷ t) =
    picked (Sound one_word (λ n. (lo ≤ n) × (n ≤ hi)) (w ∷ t)) (leb lo w) (pick (leb w hi) (taken w t) (refused Refusal.form)) (refused Refusal.form)
    (λ h. picked (Sound one_word (λ n. (lo ≤ n) × (n ≤ hi)) (w ∷ t)) (leb w hi) (taken w t) (refused Refusal.form) (λ k. (refl, (leb→le lo w h, leb→le w hi k))) tt) tt

two_words : (n a m : ℕ) → a < 65536 → number_words (suc (suc n)) (a + 65536 * m) ≡ a ∷ number_words (suc n) m
unfolding number_words
two_words n a m h =
    let p : (a + 65536 * m) % 65536 ≡ a = omega arith in let q : (a + 65536 * m) / 65536 ≡ m = omega arith in
    λ i. p i ∷ number_words (suc n) (q i)

pub number_in_sound : (n : ℕ) → Sounds (number_words n) (λ v. Unit) (number_in n)
unfolding number_in number_words
number_in_sound zero t = tt
number_in_sound (suc zero) [] = tt
number_in_sound (suc zero) (w ∷ t) = (refl, tt)
number_in_sound (suc (suc n)) t = then_sound one_word (λ a. a < 65536) (number_words (suc (suc n))) (λ v. Unit) [] t _ (number_of Refusal.form 65536 t) (number_sound Refusal.form 65536 t)
    (λ a u h. giving_sound (number_words (suc n)) (λ v. Unit) (number_words (suc (suc n))) (λ v. Unit) (a ∷ []) u (λ m. a + 65536 * m) (number_in (suc n) u) (λ m. two_words n a m h) (λ m p. tt) (number_in_sound (suc n) u))

-- Several in a row.
module _ {A : Type 0} (spell : A → List ℕ) (P : A → Type 0) (f : Reader A) (h : Sounds spell P f) where
  abbrev pub Repeated : ℕ → List A → Type 0
  Repeated n xs = (length xs ≡ n) × All P xs

  pub repeat_sound : (n : ℕ) → Sounds (concat_map spell) (Repeated n) (repeat n f)
  unfolding repeat
  repeat_sound zero t = (refl, (refl, tt))
  repeat_sound (suc n) t = giving_sound (spell_both spell P (concat_map spell) (Repeated n)) (Both spell P (concat_map spell) (Repeated n)) (concat_map spell) (Repeated (suc n)) [] t (λ p. p.0 ∷ p.1) (both f (repeat n f) t)
      (λ p. refl) (λ p q. (ap suc q.1.0, (q.0, q.1.1))) (both_sound spell P (concat_map spell) (Repeated n) f (repeat n f) h (repeat_sound n) t)

  abbrev pub Counted : ℕ → ℕ → List A → Type 0
  Counted lo hi xs = ((lo ≤ length xs) × (length xs ≤ hi)) × All P xs

  headed : (n : ℕ) (xs : List A) → length xs ≡ n → counted_words spell xs ≡ n ∷ concat_map spell xs
  headed n xs e = ap (λ m. m ∷ concat_map spell xs) e

  repeated_counted : (lo hi n : ℕ) → (lo ≤ n) × (n ≤ hi) → (u : List ℕ) (r : Read (List A)) → Sound (concat_map spell) (Repeated n) u r → Sound (counted_words spell) (Counted lo hi) (n ∷ u) r
  repeated_counted lo hi n l u (refused k) i = tt
  repeated_counted lo hi n l u (taken xs v) i =
      (ap (λ x. n ∷ x) i.0 ∙ ap (λ m. m ∷ (concat_map spell xs ++ v)) (sym i.1.0), ((omega (arith, l, i.1.0), omega (arith, l, i.1.0)), i.1.1))

  pub counted_sound : (lo hi : ℕ) → Sounds (counted_words spell) (Counted lo hi) (counted lo hi f)
  unfolding counted
  counted_sound lo hi t = then_sound one_word (λ n. (lo ≤ n) × (n ≤ hi)) (counted_words spell) (Counted lo hi) [] t (λ n. repeat n f) (count_of lo hi t) (count_sound lo hi t)
      (λ n u l. repeated_counted lo hi n l u (repeat n f u) (repeat_sound n u))

-- One for each entry of a list.
module _ {A B : Type 0} (spell : A → List ℕ) (P : B → A → Type 0) (f : B → Reader A) (h : (b : B) → Sounds spell (P b) (f b)) where
  pub for_each_sound : (bs : List B) → Sounds (concat_map spell) (AllFor P bs) (for_each bs f)
  unfolding for_each
  for_each_sound [] t = (refl, tt)
  for_each_sound (b ∷ bs) t = giving_sound (spell_both spell (P b) (concat_map spell) (AllFor P bs)) (Both spell (P b) (concat_map spell) (AllFor P bs)) (concat_map spell) (AllFor P (b ∷ bs)) [] t (λ p. p.0 ∷ p.1) (both (f b) (for_each bs f) t)
      (λ p. refl) (λ p q. q) (both_sound spell (P b) (concat_map spell) (AllFor P bs) (f b) (for_each bs f) (h b) (for_each_sound bs) t)

-- A series.
module _ {A : Type 0} (spell : A → List ℕ) (P : ℕ → A → Type 0) (f : ℕ → Reader A) (h : (i : ℕ) → Sounds spell (P i) (f i)) where
  abbrev pub Serial : ℕ → ℕ → List A → Type 0
  Serial n i xs = (length xs ≡ n) × AllFrom P i xs

  pub series_sound : (n i : ℕ) → Sounds (concat_map spell) (Serial n i) (series n i f)
  unfolding series
  series_sound zero i t = (refl, (refl, tt))
  series_sound (suc n) i t = giving_sound (spell_both spell (P i) (concat_map spell) (Serial n (i + 1))) (Both spell (P i) (concat_map spell) (Serial n (i + 1))) (concat_map spell) (Serial (suc n) i) [] t (λ p. p.0 ∷ p.1) (both (f i) (series n (i + 1) f) t)
      (λ p. refl) (λ p q. (ap suc q.1.0, (q.0, q.1.1))) (both_sound spell (P i) (concat_map spell) (Serial n (i + 1)) (f i) (series n (i + 1) f) (h i) (series_sound n (i + 1)) t)

-- ── completeness ──

-- The spelling of a thing with the property is taken, whatever follows it.
abbrev pub Takes : {A : Type 0} → (A → List ℕ) → (A → Type 0) → Reader A → Type 0
Takes {A} spell P f = (a : A) (rest : List ℕ) → P a → f (spell a ++ rest) ≡ taken a rest

module _ {A B : Type 0} (spell : A → List ℕ) (P : A → Type 0) (spell' : B → List ℕ) (Q : B → Type 0) where
  pub both_takes : (f : Reader A) (g : Reader B) → Takes spell P f → Takes spell' Q g → Takes (spell_both spell P spell' Q) (Both spell P spell' Q) (both f g)
  unfolding both then giving
  both_takes f g p q x rest h =
      ap (both f g) (append_assoc (spell x.0) (spell' x.1) rest)
      ∙ (ap (λ r. then r λ a u. giving (λ b. (a, b)) (g u)) (p x.0 (spell' x.1 ++ rest) h.0) ∙ ap (giving (λ b. (x.0, b))) (q x.1 rest h.1))

pub number_takes : (k limit : ℕ) → Takes one_word (λ n. n < limit) (number_of k limit)
unfolding number_of
number_takes k limit n rest h = pick_true _ _ (ltb n limit) (lt→ltb n limit h)

pub count_takes : (lo hi : ℕ) → Takes one_word (λ n. (lo ≤ n) × (n ≤ hi)) (count_of lo hi)
unfolding count_of
count_takes lo hi n rest h = pick_true _ _ (leb lo n) (le→leb lo n h.0) ∙ pick_true _ _ (leb n hi) (le→leb n hi h.1)

some_takes : (n : ℕ) → Takes (number_words (suc n)) (λ v. Unit) (number_in (suc n))
unfolding number_in number_words then giving
some_takes zero v rest h = refl
some_takes (suc n) v rest h =
    let low : v % 65536 < 65536 = omega arith in
    ap (λ r. then r λ w u. giving (λ m. w + 65536 * m) (number_in (suc n) u)) (number_takes Refusal.form 65536 (v % 65536) (number_words (suc n) (v / 65536) ++ rest) low)
    ∙ (ap (giving (λ m. v % 65536 + 65536 * m)) (some_takes n (v / 65536) rest tt) ∙ whole)
  where
    whole : taken (v % 65536 + 65536 * (v / 65536)) rest ≡ taken v rest
    whole = let e : v % 65536 + 65536 * (v / 65536) ≡ v = omega arith in ap (λ m. taken m rest) e

pub number_in_takes : (n : ℕ) → 1 ≤ n → Takes (number_words n) (λ v. Unit) (number_in n)
number_in_takes zero h v rest p = let z : ⊥ = omega arith in absurd z
number_in_takes (suc n) h v rest p = some_takes n v rest tt

-- One thing, and then the rest of a row.
row_takes : {A : Type 0} (f : Reader A) (g : Reader (List A)) (us vs rest : List ℕ) (x : A) (xs : List A) → f (us ++ (vs ++ rest)) ≡ taken x (vs ++ rest) → g (vs ++ rest) ≡ taken xs rest
    → giving (λ (p : A × List A). p.0 ∷ p.1) (both f g ((us ++ vs) ++ rest)) ≡ taken (x ∷ xs) rest
unfolding both then giving
row_takes {A} f g us vs rest x xs p q =
    ap (λ s. giving (λ (p : A × List A). p.0 ∷ p.1) (both f g s)) (append_assoc us vs rest)
    ∙ (ap (λ r. giving (λ (p : A × List A). p.0 ∷ p.1) (then r λ a u. giving (λ b. (a, b)) (g u))) p
    ∙ ap (λ r. giving (λ (p : A × List A). p.0 ∷ p.1) (giving (λ b. (x, b)) r)) q)

module _ {A : Type 0} (spell : A → List ℕ) (P : A → Type 0) (f : Reader A) (h : Takes spell P f) where
  pub repeat_takes : (xs : List A) (rest : List ℕ) → All P xs → repeat (length xs) f (concat_map spell xs ++ rest) ≡ taken xs rest
  unfolding repeat
  repeat_takes [] rest p = refl
  repeat_takes (x ∷ xs) rest p = row_takes f (repeat (length xs) f) (spell x) (concat_map spell xs) rest x xs (h x (concat_map spell xs ++ rest) p.0) (repeat_takes xs rest p.1)

  pub counted_takes : (lo hi : ℕ) → Takes (counted_words spell) (λ xs. ((lo ≤ length xs) × (length xs ≤ hi)) × All P xs) (counted lo hi f)
  unfolding counted then
  counted_takes lo hi xs rest p =
      ap (λ r. then r λ n. repeat n f) (count_takes lo hi (length xs) (concat_map spell xs ++ rest) p.0) ∙ repeat_takes xs rest p.1

module _ {A B : Type 0} (spell : A → List ℕ) (P : B → A → Type 0) (f : B → Reader A) (h : (b : B) → Takes spell (P b) (f b)) where
  pub for_each_takes : (bs : List B) (xs : List A) (rest : List ℕ) → AllFor P bs xs → for_each bs f (concat_map spell xs ++ rest) ≡ taken xs rest
  unfolding for_each
  for_each_takes [] [] rest p = refl
  for_each_takes [] (x ∷ xs) rest p = absurd p
  for_each_takes (b ∷ bs) [] rest p = absurd p
  for_each_takes (b ∷ bs) (x ∷ xs) rest p = row_takes (f b) (for_each bs f) (spell x) (concat_map spell xs) rest x xs (h b x (concat_map spell xs ++ rest) p.0) (for_each_takes bs xs rest p.1)

module _ {A : Type 0} (spell : A → List ℕ) (P : ℕ → A → Type 0) (f : ℕ → Reader A) (h : (i : ℕ) → Takes spell (P i) (f i)) where
  pub series_takes : (i : ℕ) (xs : List A) (rest : List ℕ) → AllFrom P i xs → series (length xs) i f (concat_map spell xs ++ rest) ≡ taken xs rest
  unfolding series
  series_takes i [] rest p = refl
  series_takes i (x ∷ xs) rest p = row_takes (f i) (series (length xs) (i + 1) f) (spell x) (concat_map spell xs) rest x xs (h i x (concat_map spell xs ++ rest) p.0) (series_takes (i + 1) xs rest p.1)

-- Where f reads a from the words us, `then` goes on with g a on the words after us.
pub then_takes : {A B : Type 0} (f : Reader A) (g : A → Reader B) (us vs rest : List ℕ) (a : A) → f (us ++ (vs ++ rest)) ≡ taken a (vs ++ rest) → then (f ((us ++ vs) ++ rest)) g ≡ g a (vs ++ rest)
unfolding then
then_takes f g us vs rest a h = ap (λ s. then (f s) g) (append_assoc us vs rest) ∙ ap (λ r. then r g) h

-- Exactly k of a kind.
pub exactly_takes : {A : Type 0} (spell : A → List ℕ) (P : A → Type 0) (f : Reader A) → Takes spell P f → (k : ℕ) → Takes (concat_map spell) (λ xs. (length xs ≡ k) × All P xs) (repeat k f)
exactly_takes spell P f t k xs rest h = subst (λ k. repeat k f (concat_map spell xs ++ rest) ≡ taken xs rest) h.0 (repeat_takes spell P f t xs rest h.1)
