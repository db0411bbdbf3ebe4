-- Laws of readers that recur: two operands after a code, a number that says what follows, a number that is judged.
use Rattle.std.specs.Prelude.{◌≡◌, Bool, List, [], ◌∷◌, ◌++◌, ℕ, ◌≤◌, ◌<◌, T}
use Rattle.std.proofs.Math.Path.{ap}
use Rattle.std.proofs.Common.{sym, ◌∙◌, append_assoc}
use Rattle.eb3.specs.Spelling.{number_words}
use Rattle.eb3.specs.RuleSpelling.{one_word}
use Rattle.eb3.specs.Reading.{refused, taken, Reader, pick, giving, then, both, number_of, by_number, number_in}
use Rattle.eb3.proofs.Laws.Reading.{picked, pick_true, Sound, Sounds, giving_sound, then_sound, both_sound, spell_both, Both, number_sound, number_in_sound, Takes, both_takes, number_takes, number_in_takes}

-- Two operands after the words pre, which are read already.
module _ {A B C : Type 0} (spell : A → List ℕ) (P : A → Type 0) (spell' : B → List ℕ) (Q : B → Type 0) where
  pub two_sound : (spell'' : C → List ℕ) (S : C → Type 0) (k : A → B → C) (pre : List ℕ) (f : Reader A) (g : Reader B) → Sounds spell P f → Sounds spell' Q g
      → ((a : A) (b : B) → spell'' (k a b) ≡ pre ++ (spell a ++ spell' b)) → ((a : A) (b : B) → P a → Q b → S (k a b))
      → (t : List ℕ) → Sound spell'' S (pre ++ t) (giving (λ p. k p.0 p.1) (both f g t))
  two_sound spell'' S k pre f g p q e h t =
      giving_sound (spell_both spell P spell' Q) (Both spell P spell' Q) spell'' S pre t (λ p. k p.0 p.1) (both f g t)
      (λ p. e p.0 p.1) (λ p i. h p.0 p.1 i.0 i.1) (both_sound spell P spell' Q f g p q t)

  pub two_takes : (k : A → B → C) (f : Reader A) (g : Reader B) → Takes spell P f → Takes spell' Q g
      → (a : A) (b : B) (rest : List ℕ) → P a → Q b → giving (λ p. k p.0 p.1) (both f g ((spell a ++ spell' b) ++ rest)) ≡ taken (k a b) rest
  unfolding giving
  two_takes k f g p q a b rest h i = ap (giving (λ p. k p.0 p.1)) (both_takes spell P spell' Q f g p q (a, b) rest (h, i))

-- A code, a number below a limit, and what the number says.
module _ {A C : Type 0} (spell : A → List ℕ) (P : ℕ → A → Type 0) (k : ℕ → A → C) (kind limit : ℕ) (g : ℕ → Reader A) where
  pub by_number_sound : (spell' : C → List ℕ) (S : C → Type 0) (c : ℕ) → ((n : ℕ) → Sounds spell (P n) (g n))
      → ((n : ℕ) (a : A) → spell' (k n a) ≡ c ∷ n ∷ spell a) → ((n : ℕ) (a : A) → n < limit → P n a → S (k n a))
      → (t : List ℕ) → Sound spell' S (c ∷ t) (by_number kind limit (λ n u. giving (k n) (g n u)) t)
  unfolding by_number
  by_number_sound spell' S c h e q t = then_sound one_word (λ n. n < limit) spell' S (c ∷ []) t (λ n u. giving (k n) (g n u)) (number_of kind limit t) (number_sound kind limit t)
      (λ n u l. giving_sound spell (P n) spell' S (c ∷ n ∷ []) u (k n) (g n u) (e n) (λ a. q n a l) (h n u))

  pub by_number_takes : (n : ℕ) → Takes spell (P n) (g n) → (a : A) (rest : List ℕ) → n < limit → P n a
      → by_number kind limit (λ n u. giving (k n) (g n u)) (n ∷ (spell a ++ rest)) ≡ taken (k n a) rest
  unfolding by_number then giving
  by_number_takes n h a rest l p = ap (λ r. then r λ n u. giving (k n) (g n u)) (number_takes kind limit n (spell a ++ rest) l) ∙ ap (giving (k n)) (h a rest p)

-- A number of w words that is judged by a test, after words that are read already.
abbrev pub judged : ℕ → (ℕ → Bool) → ℕ → Reader ℕ
judged w test kind t = then (number_in w t) λ v u. pick (test v) (taken v u) (refused kind)

module _ (w : ℕ) (test : ℕ → Bool) (P : ℕ → Type 0) (kind : ℕ) where
  pub judged_sound : (pre : List ℕ) → ((v : ℕ) → T (test v) → P v) → (t : List ℕ) → Sound (λ v. pre ++ number_words w v) P (pre ++ t) (judged w test kind t)
  judged_sound pre h t = then_sound (number_words w) (λ v. Unit) (λ v. pre ++ number_words w v) P pre t _ (number_in w t) (number_in_sound w t)
      (λ v u p. picked (Sound (λ v. pre ++ number_words w v) P (pre ++ (number_words w v ++ u))) (test v) (taken v u) (refused kind) (λ l. (sym (append_assoc pre (number_words w v) u), h v l)) tt)

  pub judged_takes : 1 ≤ w → ((v : ℕ) → P v → T (test v)) → Takes (number_words w) P (judged w test kind)
  unfolding then
  judged_takes positive h v rest p = ap (λ r. then r λ v u. pick (test v) (taken v u) (refused kind)) (number_in_takes w positive v rest tt) ∙ pick_true _ _ (test v) (h v p)
