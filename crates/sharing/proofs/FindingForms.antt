-- The forms of a shared term, known by the first of its words; it is done where that word says so (document 01, "Moves, in order").
use mathlib.Core.Path.{◌≡◌, refl, ap, ◌∙◌}
use mathlib.Core.Bool.{false}
use mathlib.Core.List.{List, ◌∷◌, ◌++◌, append_assoc}
use Prim.Native.Nat.{ℕ}
use native.Mathlib.Omega.{arith}
use lib.ListN.{drop, get_or}
use Rattle.eb3.specs.Scopes.{Scope}
use Rattle.eb3.specs.Terms.{Term, done?}
use Rattle.sharing.specs.Shared.{Shared, Ended, Part, Then, Beside, term_of, part_word, shared_words, Stands}

-- ── the first word ──

unfoldable pub front_word : Shared → ℕ
front_word Ended = 30
front_word (Part l E) = part_word l
front_word (Then S l F) = 22
front_word (Beside S T) = 25

pub shared_front : (S : Shared) (rest : List ℕ) → get_or (shared_words S ++ rest) 0 0 ≡ front_word S
unfolding front_word shared_words
shared_front Ended rest = refl
shared_front (Part l E) rest = refl
shared_front (Then S l F) rest = refl
shared_front (Beside S T) rest = refl

pub when_ended : (S : Shared) → front_word S ≡ 30 → S ≡ Ended
unfolding front_word
when_ended Ended h = refl
when_ended (Part l E) h = absurd (omega (arith, h))
when_ended (Then S l F) h = absurd (omega (arith, h))
when_ended (Beside S T) h = absurd (omega (arith, h))

pub not_ended : (u : List ℕ) (P : Scope) (S : Shared) → Stands u P S → (front_word S ≡ 30 → ⊥) → done? (term_of S) ≡ false
unfolding front_word term_of done?
not_ended u P Ended s h = absurd (h refl)
not_ended u P (Part l E) s h = s.0
not_ended u P (Then S l F) s h = refl
not_ended u P (Beside S T) s h = refl

-- ── by the first word ──

pub ended_cases : (t : List ℕ) (Q : Shared → List ℕ → Type 0) → ((rest : List ℕ) → t ≡ rest → Q Ended rest) → (S : Shared) (rest : List ℕ) → 30 ∷ t ≡ shared_words S ++ rest → Q S rest
unfolding shared_words
ended_cases t Q f Ended rest e = f rest (ap (drop 1) e)
ended_cases t Q f (Part l E) rest e = absurd (omega (arith, ap (λ x. get_or x 0 0) e))
ended_cases t Q f (Then S l F) rest e = absurd (omega (arith, ap (λ x. get_or x 0 0) e))
ended_cases t Q f (Beside S T) rest e = absurd (omega (arith, ap (λ x. get_or x 0 0) e))

pub then_cases : (t : List ℕ) (Q : Shared → List ℕ → Type 0) → ((S : Shared) (l : ℕ) (F : Term) (rest : List ℕ) → t ≡ part_word l ∷ (shared_words S ++ rest) → Q (Then S l F) rest)
    → (S : Shared) (rest : List ℕ) → 22 ∷ t ≡ shared_words S ++ rest → Q S rest
unfolding shared_words
then_cases t Q f Ended rest e = absurd (omega (arith, ap (λ x. get_or x 0 0) e))
then_cases t Q f (Part l E) rest e = absurd (omega (arith, ap (λ x. get_or x 0 0) e))
then_cases t Q f (Then S l F) rest e = f S l F rest (ap (drop 1) e)
then_cases t Q f (Beside S T) rest e = absurd (omega (arith, ap (λ x. get_or x 0 0) e))

pub beside_cases : (t : List ℕ) (Q : Shared → List ℕ → Type 0) → ((S T : Shared) (rest : List ℕ) → t ≡ shared_words S ++ (shared_words T ++ rest) → Q (Beside S T) rest)
    → (S : Shared) (rest : List ℕ) → 25 ∷ t ≡ shared_words S ++ rest → Q S rest
unfolding shared_words
beside_cases t Q f Ended rest e = absurd (omega (arith, ap (λ x. get_or x 0 0) e))
beside_cases t Q f (Part l E) rest e = absurd (omega (arith, ap (λ x. get_or x 0 0) e))
beside_cases t Q f (Then S l F) rest e = absurd (omega (arith, ap (λ x. get_or x 0 0) e))
beside_cases t Q f (Beside S T) rest e = f S T rest (ap (drop 1) e ∙ append_assoc (shared_words S) (shared_words T) rest)

pub part_cases : (s : List ℕ) (w : ℕ) → w ≡ get_or s 0 0 → (w ≡ 22 → ⊥) → (w ≡ 25 → ⊥) → (w ≡ 30 → ⊥) → (Q : Shared → List ℕ → Type 0)
    → ((l : ℕ) (E : Term) (rest : List ℕ) → s ≡ part_word l ∷ rest → Q (Part l E) rest) → (S : Shared) (rest : List ℕ) → s ≡ shared_words S ++ rest → Q S rest
unfolding shared_words
part_cases s w a b c d Q f Ended rest e = absurd (d (a ∙ ap (λ x. get_or x 0 0) e))
part_cases s w a b c d Q f (Part l E) rest e = f l E rest e
part_cases s w a b c d Q f (Then S l F) rest e = absurd (b (a ∙ ap (λ x. get_or x 0 0) e))
part_cases s w a b c d Q f (Beside S T) rest e = absurd (c (a ∙ ap (λ x. get_or x 0 0) e))
