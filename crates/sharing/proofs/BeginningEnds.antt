-- Words that are the last ones of the unfolding, and the term that they begin with: the place of a part is the number of these words (document 01,
-- "Unfolding, size and breadth").
use mathlib.Core.Path.{◌≡◌, refl, sym, ap, ◌∙◌, subst}
use mathlib.Core.Bool.{Bool, true, false, ◌&&◌, cond}
use mathlib.Core.List.{List, [], ◌∷◌}
use Prim.Native.Nat.{ℕ, ◌+◌, ◌-◌, ◌≤◌}
use native.Mathlib.Omega.{arith}
use lib.Dec.{eqb}
use lib.ListN.{length, take, drop, get_or, length-drop}
use borrow.Author.Tests.{eqb-true, eqb-false}
use Rattle.eb3.specs.Scopes.{Scope}
use Rattle.eb3.specs.Terms.{Term, Mask}
use Rattle.eb3.specs.Sizes.{zero_mask}
use Rattle.words.specs.Checking.{last_of}
use Rattle.words.specs.Ends.{Tail}
use Rattle.words.specs.Laws.Checking.{part, tail_on, tail_at, tail_short}
use Rattle.listing.specs.Listing.{TermAt}
use Rattle.listing.specs.Positions.{code_in_front}
use Rattle.listing.specs.Laws.Positions.{term_front}
use Rattle.listing.specs.Laws.Operands.{is_done, other_test}
use Rattle.sharing.specs.Shared.{Shared, Ended, Part, no_mask, term_of, shared_words, Unmasked, PartAt, Stands}

-- ── the last words ──

-- s are the last words of u.
pub record Under (u s : List ℕ) : Type 0 where
  pub fewer : length s ≤ length u
  pub end : s ≡ last_of (length s) u

under_tail : {u s : List ℕ} → Under u s → Tail s u
unfolding last_of
under_tail {u} {s} h = (length u - length s, h.end)

pub under_on : {u s : List ℕ} (v : List ℕ) → Under u s → Tail v s → Under u v
under_on {u} {s} v h t =
    let a : Tail v u = tail_on v s u (under_tail h) t in
    record { fewer = tail_short v u a; end = sym (tail_at v u a) }

pub last_tail : (n : ℕ) (s v : List ℕ) → v ≡ last_of n s → Tail v s
unfolding last_of
last_tail n s v e = (length s - n, e)

-- A slice lent from word k to the end has as many words as follow the first k.
pub lent_length : (k : ℕ) (s : List ℕ) → length (take (length s - k) (drop k s)) ≡ length s - k
lent_length k s = ap length (part k s) ∙ length-drop k s

-- ── parts ──

pub part_at : {u v : List ℕ} {P : Scope} {F : Term} {rest : List ℕ} → Under u v → TermAt v P F rest → Unmasked F → PartAt u P (length v) F
part_at {u} {v} {P} {F} {rest} h t b = record { rest = rest; within = h.fewer; there = subst (λ z. TermAt z P F rest) h.end t; unmasked = b }

-- The term that v begins with, held in one word; done is spelled out.
pub record OneWord (u : List ℕ) (P : Scope) (F : Term) (w : ℕ) : Type 0 where
  pub shared : Shared
  pub stands : Stands u P shared
  pub is : term_of shared ≡ F
  pub word : shared_words shared ≡ w ∷ []

pub one_word : {u v : List ℕ} {P : Scope} {F : Term} {rest : List ℕ} → Under u v → TermAt v P F rest → Unmasked F → OneWord u P F (cond (eqb (get_or v 0 0) 30) 30 (32 + length v))
unfolding term_of shared_words
one_word {u} {v} {P} {F} {rest} h t b = go (eqb (get_or v 0 0) 30) refl
  where
    front : get_or v 0 0 ≡ code_in_front F
    front = term_front v P F rest t

    go : (z : Bool) → eqb (get_or v 0 0) 30 ≡ z → OneWord u P F (cond z 30 (32 + length v))
    go true e = record { shared = Ended; stands = tt; is = sym (is_done F (sym (eqb-true (get_or v 0 0) 30 e) ∙ front)); word = refl }
    go false e = record {
      shared = Part (length v) F;
      stands = (other_test F (λ k. eqb-false (get_or v 0 0) 30 e (front ∙ k)), part_at h t b);
      is = refl;
      word = refl;
    }

-- ── masks ──

first_zero : (w : ℕ) (b : Bool) → eqb w 0 && b ≡ true → (w ≡ 0) × (b ≡ true)
first_zero w b h = go (eqb w 0) refl h
  where
    go : (z : Bool) → eqb w 0 ≡ z → z && b ≡ true → (w ≡ 0) × (b ≡ true)
    go true e k = (eqb-true w 0 e, k)
    go false e k = absurd (let q : ◌≡◌ {A = ℕ} 0 1 = cc in omega arith)

-- A mask of four words without a label.
pub zero_mask_is : (Δ : Mask) → length Δ ≡ 4 → zero_mask Δ ≡ true → Δ ≡ no_mask
unfolding zero_mask
zero_mask_is [] l h = absurd (omega arith)
zero_mask_is (a ∷ []) l h = absurd (omega arith)
zero_mask_is (a ∷ b ∷ []) l h = absurd (omega arith)
zero_mask_is (a ∷ b ∷ c ∷ []) l h = absurd (omega arith)
zero_mask_is (a ∷ b ∷ c ∷ d ∷ e ∷ Δ) l h = absurd (omega arith)
zero_mask_is (a ∷ b ∷ c ∷ d ∷ []) l h =
    let p = first_zero a _ h in
    let q = first_zero b _ p.1 in
    let r = first_zero c _ q.1 in
    let s = first_zero d _ r.1 in
    ap (λ w. w ∷ b ∷ c ∷ d ∷ []) p.0 ∙ (ap (λ w. 0 ∷ w ∷ c ∷ d ∷ []) q.0 ∙ (ap (λ w. 0 ∷ 0 ∷ w ∷ d ∷ []) r.0 ∙ ap (λ w. 0 ∷ 0 ∷ 0 ∷ w ∷ []) s.0))
