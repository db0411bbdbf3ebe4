-- What a successor is written from: a term that the last words of the unfolding begin with, and a path; and the term known by its first word. Then what is
-- made of an operand's successor: done, a sequence (document 01, "Moves, in order").
use mathlib.Core.Path.{◌≡◌, refl, sym, ap, ◌∙◌}
use mathlib.Core.Bool.{true}
use mathlib.Core.List.{List, [], ◌∷◌}
use Prim.Native.Nat.{ℕ, ◌+◌, ◌-◌, ◌≤◌}
use native.Mathlib.Omega.{arith}
use Rattle.std.specs.Prelude.{Option}
use lib.ListN.{length, take, drop, get_or, set}
use Rattle.eb3.specs.Expressions.{Cond}
use Rattle.eb3.specs.Scopes.{Scope}
use Rattle.eb3.specs.Terms.{Term, Done, Perform, Sequence, Choice, Star, Parallel, Guard, VisibleAction, Action, Mask}
use Rattle.eb3.specs.Sizes.{size}
use Rattle.actions.specs.Codes.{action_code}
use Rattle.listing.specs.Listing.{TermAt}
use Rattle.listing.specs.Positions.{code_in_front}
use Rattle.listing.specs.Laws.Positions.{term_front}
use Rattle.listing.specs.Laws.ByCode.{by_perform as of_perform, by_sequence as of_sequence, by_choice as of_choice, by_star as of_star, by_parallel as of_parallel, by_guard as of_guard}
use Rattle.paths.specs.Paths.{Followed, followed, within, follow, marked}
use Rattle.sharing.specs.Shared.{Ended, Then, term_of, shared_words, Unmasked, PartAt}
use Rattle.sharing.specs.Beginning.{Reached, BeganRight, Beginning, EndPut}
use Rattle.sharing.proofs.BeginningCodes.{reached_same, further}
use Rattle.sharing.proofs.BeginningPuts.{put_two, put_behind}
use Rattle.sharing.proofs.BeginningEnds.{Under}

-- Skipping the term that s begins with answers r, the number of words after it.
abbrev pub Skipped : List ℕ → ℕ → Type 0
Skipped s r = (r ≤ length s) × ((P : Scope) (E : Term) (rest : List ℕ) → TermAt s P E rest → r ≡ length rest)

-- The slice of x from word a to the end, in the form in which the code lends it.
abbrev pub lent : ℕ → List ℕ → List ℕ
lent a x = take (length x - a) (drop a x)

-- What is known of the term that s begins with, s being the last words of u, and of a path p.
pub record Given (u s : List ℕ) (P : Scope) (E : Term) (rest p : List ℕ) : Type 0 where
  pub few : length u ≤ 65503
  pub under : Under u s
  pub there : TermAt s P E rest
  pub mask_free : Unmasked E
  pub led : marked P.edition.width E p ≡ true
  pub short : length p ≤ 65535

-- ── the term known by its first word ──

-- What holds of the successor of G, where there is room for it.
abbrev Led : List ℕ → List ℕ → ℕ → List ℕ → List ℕ → Option Reached → List ℕ → Scope → List ℕ → Term → Type 0
Led s p at x y r u P rest G = Given u s P G rest p → at + size P.edition.width (follow G p).successor ≤ length x → BeganRight u P (follow G p) at x y r

module _ {s p : List ℕ} {at : ℕ} {x y : List ℕ} {r : Option Reached} where
  pub begun : Beginning s p at x y r → (u : List ℕ) (P : Scope) (rest : List ℕ) (G : Term) → Led s p at x y r u P rest G
  begun m u P rest G g k = m.right u P G rest g.few g.under.fewer g.under.end g.there g.mask_free g.led g.short k

  from_led : length y ≡ length x → ((u : List ℕ) (P : Scope) (rest : List ℕ) (G : Term) → TermAt s P G rest → Led s p at x y r u P rest G) → Beginning s p at x y r
  from_led same f = record {
    same_length = same;
    right = λ u P G rest few fewer end t b m l k. f u P rest G t (record { few = few; under = record { fewer = fewer; end = end }; there = t; mask_free = b; led = m; short = l }) k;
  }

  module _ (same : length y ≡ length x) where
    pub by_any : ((u : List ℕ) (P : Scope) (rest : List ℕ) (G : Term) → get_or s 0 0 ≡ code_in_front G → Led s p at x y r u P rest G) → Beginning s p at x y r
    by_any f = from_led same (λ u P rest G t. f u P rest G (term_front s P G rest t))

    pub by_action : get_or s 0 0 ≡ 21 → ((u : List ℕ) (P : Scope) (rest : List ℕ) (a : VisibleAction) → Led s p at x y r u P rest (Perform a)) → Beginning s p at x y r
    by_action e f = by_any (λ u P rest G h. of_perform (Led s p at x y r u P rest) (f u P rest) G (sym e ∙ h))

    pub by_sequence : get_or s 0 0 ≡ 22 → ((u : List ℕ) (P : Scope) (rest : List ℕ) (E F : Term) → Led s p at x y r u P rest (Sequence E F)) → Beginning s p at x y r
    by_sequence e f = by_any (λ u P rest G h. of_sequence (Led s p at x y r u P rest) (f u P rest) G (sym e ∙ h))

    pub by_choice : get_or s 0 0 ≡ 23 → ((u : List ℕ) (P : Scope) (rest : List ℕ) (E F : Term) → Led s p at x y r u P rest (Choice E F)) → Beginning s p at x y r
    by_choice e f = by_any (λ u P rest G h. of_choice (Led s p at x y r u P rest) (f u P rest) G (sym e ∙ h))

    pub by_star : get_or s 0 0 ≡ 24 → ((u : List ℕ) (P : Scope) (rest : List ℕ) (E : Term) → Led s p at x y r u P rest (Star E)) → Beginning s p at x y r
    by_star e f = by_any (λ u P rest G h. of_star (Led s p at x y r u P rest) (f u P rest) G (sym e ∙ h))

    pub by_parallel : get_or s 0 0 ≡ 25 → ((u : List ℕ) (P : Scope) (rest : List ℕ) (Δ : Mask) (E F : Term) → Led s p at x y r u P rest (Parallel Δ E F)) → Beginning s p at x y r
    by_parallel e f = by_any (λ u P rest G h. of_parallel (Led s p at x y r u P rest) (f u P rest) G (sym e ∙ h))

    pub by_guard : get_or s 0 0 ≡ 26 → ((u : List ℕ) (P : Scope) (rest : List ℕ) (C : Cond) (E : Term) → Led s p at x y r u P rest (Guard C E)) → Beginning s p at x y r
    by_guard e f = by_any (λ u P rest G h. of_guard (Led s p at x y r u P rest) (f u P rest) G (sym e ∙ h))

-- ── what is made ──

-- Done in the place of what moved.
pub ended : {u : List ℕ} {P : Scope} {at : ℕ} {x y : List ℕ} {left a : ℕ} {r : Option Reached} (ρ : Action) (rest : List ℕ) → EndPut left a at x y r → at + 1 ≤ length x → left ≡ length rest → a ≡ action_code ρ
    → BeganRight u P (followed ρ Done rest) at x y r
unfolding term_of shared_words
ended {u} {P} {at} {x} {y} {left} {a} {r} ρ rest m k e f =
    let w = m.right k in
    record { shared = Ended; stands = tt; is_successor = refl; written = w.0; answered = w.1 ∙ reached_same refl e f }

-- What an operand becomes, and then F, which stays in the unfolding and is held as its place l.
pub then_began : {u : List ℕ} {P : Scope} {at : ℕ} {x y : List ℕ} {r : Option Reached} (f : Followed) (l : ℕ) (F : Term) → at + 2 ≤ length x → PartAt u P l F
    → BeganRight u P f (at + 2) (set (set x at 22) (at + 1) (32 + l)) y r → BeganRight u P (within (λ X. Sequence X F) f) at x y r
unfolding term_of shared_words
then_began {u} {P} {at} {x} {y} {r} f l F h part b =
    let w = shared_words b.shared in
    let n : at + 2 + length w ≡ at + length (22 ∷ (32 + l) ∷ w) = omega arith in
    record {
      shared = Then b.shared l F;
      stands = (b.stands, part);
      is_successor = ap (λ X. Sequence X F) b.is_successor;
      written = put_behind x (22 ∷ (32 + l) ∷ []) w (set (set x at 22) (at + 1) (32 + l)) y at (at + 2) h refl (put_two x at 22 (32 + l) h) b.written;
      answered = further n b.answered;
    }
