-- Whether a label is in a mask of a term: known of the operands, and then of the whole (document 01, "Moves, in order").
use mathlib.Core.Path.{◌≡◌, sym, ap, ◌∙◌, subst}
use mathlib.Core.Bool.{true}
use mathlib.Core.List.{List, ◌∷◌, ◌++◌}
use Prim.Native.Nat.{ℕ, ◌≤◌, ◌<◌}
use native.Mathlib.Omega.{arith}
use lib.ListN.{length, take, drop, get_or}
use Rattle.eb3.specs.Scopes.{Scope}
use Rattle.eb3.specs.Expressions.{Cond}
use Rattle.eb3.specs.Terms.{Term, Done, Internal, Perform, Sequence, Choice, Star, Parallel, Guard, VisibleAction}
use Rattle.eb3.specs.Sizes.{zero_mask}
use Rattle.eb3.specs.Spelling.{cond_words, words}
use Rattle.words.specs.Checking.{last_of}
use Rattle.words.specs.Laws.Checking.{last_behind, last_len, behind_len}
use Rattle.expressions.specs.Answering.{CondAt}
use Rattle.actions.specs.Codes.{ActionAt}
use Rattle.listing.specs.Listing.{TermAt}
use Rattle.listing.specs.Positions.{code_in_front, TwoAt, GuardedAt}
use Rattle.listing.specs.Laws.Positions.{term_front, second_at}
use Rattle.listing.specs.Laws.Operands.{front_form, front_len, mask_len}
use Rattle.listing.specs.Laws.CasesByCode.{perform_cases, sequence_cases, choice_cases, star_cases, parallel_cases, guard_cases}
use Rattle.sharing.specs.Shared.{Unmasked}
use Rattle.sharing.specs.Masks.{MaskFree}

-- ── what is known of a term by its code ──

-- As `MaskFree`, for two operands one after the other.
pub record TwoMaskFree (t : List ℕ) (n : ℕ) : Type 0 where
  pub shorter : n ≤ length t
  pub right : (P : Scope) (E F : Term) (rest : List ℕ) → TwoAt t P E F rest → (n ≡ length rest) × Unmasked E × Unmasked F

-- The loop has passed over the words of s before x: what holds of x holds of s.
pub record Passing (s x : List ℕ) : Type 0 where
  pub shorter : length x ≤ length s
  pub carries : (n : ℕ) → MaskFree x n → MaskFree s n

pub passing_none : (s : List ℕ) → Passing s s
passing_none s = record { shorter = omega arith; carries = λ n h. h }

-- Where x begins with the code k: what is shown of words that begin with k holds of s.
pub at_front : (s x t : List ℕ) (w k : ℕ) → Passing s x → w ≡ get_or x 0 0 → t ≡ drop 1 x → w ≡ k → 0 < k → (n : ℕ) → MaskFree (k ∷ t) n → MaskFree s n
at_front s x t w k p a b e z n h = p.carries n (subst (λ u. MaskFree u n) (sym (front_form x t w k a b e z)) h)

-- The loop goes on with the words y, which begin with the last operand of the term at x.
pub goes_on : (s x t y : List ℕ) (w k : ℕ) → Passing s x → w ≡ get_or x 0 0 → t ≡ drop 1 x → w ≡ k → 0 < k → length y ≤ length t → ((n : ℕ) → MaskFree y n → MaskFree (k ∷ t) n) → Passing s y
goes_on s x t y w k p a b e z l h = record { shorter = omega (arith, l, p.shorter, behind_len x t b); carries = λ n g. at_front s x t w k p a b e z n (h n g) }

pub goes_less : (x t y : List ℕ) (w k : ℕ) → (w ≡ get_or x 0 0) × (w < 65536) → t ≡ drop 1 x → w ≡ k → 0 < k → length y ≤ length t → length y < length x
goes_less x t y w k f b z h l = omega (arith, l, behind_len x t b, front_len x w f.0 f.1)

pub behind_mask_less : (d e u : List ℕ) (l : ℕ) → e ≡ drop 4 d → u ≡ last_of l e → length u ≤ length d
behind_mask_less d e u l h g = omega (arith, mask_len d e h, last_len l e u g)

abbrev Told : ℕ → Scope → Term → List ℕ → Type 0
Told n P E rest = (n ≡ length rest) × Unmasked E

module _ (t : List ℕ) where
  pub action_mask_free : (n : ℕ) → (n ≤ length t) × ((a : VisibleAction) (rest : List ℕ) → ActionAt t a rest → n ≡ length rest) → MaskFree (21 ∷ t) n
  action_mask_free n h = record { shorter = omega (arith, h.0); right = perform_cases t (Told n) (λ P a rest k. (h.1 a rest k, tt)) }

  pub sequence_mask_free : (n : ℕ) → TwoMaskFree t n → MaskFree (22 ∷ t) n
  sequence_mask_free n h = record { shorter = omega (arith, h.shorter); right = sequence_cases t (Told n) (λ P E F rest k. let g = h.right P E F rest k in (g.0, (g.1, g.2))) }

  pub choice_mask_free : (n : ℕ) → TwoMaskFree t n → MaskFree (23 ∷ t) n
  choice_mask_free n h = record { shorter = omega (arith, h.shorter); right = choice_cases t (Told n) (λ P E F rest k. let g = h.right P E F rest k in (g.0, (g.1, g.2))) }

  pub star_mask_free : (n : ℕ) → MaskFree t n → MaskFree (24 ∷ t) n
  star_mask_free n h = record { shorter = omega (arith, h.shorter); right = star_cases t (Told n) (λ P E rest k. h.right P E rest k) }

  pub parallel_mask_free : (d : List ℕ) → zero_mask (take 4 d) ≡ true → t ≡ drop 4 d → (n : ℕ) → TwoMaskFree t n → MaskFree (25 ∷ d) n
  parallel_mask_free d m e n h = record {
    shorter = omega (arith, h.shorter, mask_len d t e);
    right = parallel_cases d (Told n) (λ P Δ E F rest k.
        let g = h.right P E F rest (subst (λ v. TwoAt v P E F rest) (sym e) k.sides) in
        (g.0, (ap zero_mask (sym k.mask) ∙ m, g.1, g.2)));
  }

  pub guard_mask_free : (c : ℕ) (u : List ℕ) → (c ≤ length t) × ((P : Scope) (C : Cond) (rest : List ℕ) → CondAt t P C rest → c ≡ length rest) → u ≡ last_of c t → (n : ℕ) → MaskFree u n → MaskFree (26 ∷ t) n
  guard_mask_free c u j e n h = record {
    shorter = omega (arith, h.shorter, last_len c t u e);
    right = guard_cases t (Told n) (λ P C E rest k. h.right P E rest (guarded P C E rest k));
  }
    where
      guarded : (P : Scope) (C : Cond) (E : Term) (rest : List ℕ) → GuardedAt t P C E rest → TermAt u P E rest
      guarded P C E rest k =
          let n : c ≡ length (words P.edition.width E ++ rest) = j.1 P C (words P.edition.width E ++ rest) k.condition in
          let q : u ≡ words P.edition.width E ++ rest = e ∙ ap (λ m. last_of m t) n ∙ ap (last_of (length (words P.edition.width E ++ rest))) k.condition.spelled ∙ last_behind (cond_words P.edition.width C) (words P.edition.width E ++ rest) in
          subst (λ v. TermAt v P E rest) (sym q) k.guarded

-- What is known of a code after the cases from 21 to 26: it is none of these.
abbrev pub NoOperands : ℕ → Type 0
NoOperands w = (((((Unit {0} × (w ≡ 21 → ⊥)) × (w ≡ 22 → ⊥)) × (w ≡ 23 → ⊥)) × (w ≡ 24 → ⊥)) × (w ≡ 25 → ⊥)) × (w ≡ 26 → ⊥)

by_leaf : (w : ℕ) → NoOperands w → (s : List ℕ) (P : Scope) (X : Term) (rest : List ℕ) → s ≡ words P.edition.width X ++ rest → w ≡ code_in_front X → (drop 1 s ≡ rest) × Unmasked X
unfolding code_in_front words
by_leaf w h s P Done rest e f = (ap (drop 1) e, tt)
by_leaf w h s P Internal rest e f = (ap (drop 1) e, tt)
by_leaf w h s P (Perform a) rest e f = absurd (h.0.0.0.0.0.1 f)
by_leaf w h s P (Sequence E F) rest e f = absurd (h.0.0.0.0.1 f)
by_leaf w h s P (Choice E F) rest e f = absurd (h.0.0.0.1 f)
by_leaf w h s P (Star E) rest e f = absurd (h.0.0.1 f)
by_leaf w h s P (Parallel Δ E F) rest e f = absurd (h.0.1 f)
by_leaf w h s P (Guard C E) rest e f = absurd (h.1 f)

pub leaf_mask_free : (s t : List ℕ) (w : ℕ) → w ≡ get_or s 0 0 → t ≡ drop 1 s → NoOperands w → MaskFree s (length t)
leaf_mask_free s t w a b h = record {
  shorter = omega (arith, behind_len s t b);
  right = λ P E rest k.
      let g = by_leaf w h s P E rest k.spelled (a ∙ term_front s P E rest k) in
      (ap length (b ∙ g.0), g.1);
}

-- ── two operands ──

pub two_mask_free : (t u : List ℕ) (l : ℕ) → MaskFree t l → u ≡ last_of l t → (n : ℕ) → MaskFree u n → TwoMaskFree t n
two_mask_free t u l h e n g = record {
  shorter = omega (arith, g.shorter, last_len l t u e);
  right = λ P E F rest k.
      let a = h.right P E (words P.edition.width F ++ rest) k.first in
      let b = g.right P F rest (second_at l u k a.0 e) in
      (b.0, a.1, b.1);
}
