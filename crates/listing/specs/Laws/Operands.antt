-- Where the operands of a term are, and which of them are done: what the tests on codes and on conditions say (document 01, "Moves, in order").
use Rattle.std.specs.Prelude.{◌≡◌, refl, Bool, true, false, ◌&&◌, List, [], ◌∷◌, ◌++◌, ℕ, ◌+◌, ◌*◌, ◌/◌, ◌%◌, ◌≤◌, ◌<◌, eqb, length, drop, get_or}
use Rattle.std.proofs.Common.{sym, ◌∙◌, arith, length-drop, drop_of_length-le}
use Rattle.std.proofs.Math.Path.{ap}
use Rattle.std.proofs.Math.Seq.{drop-length}
use Rattle.eb3.specs.Expressions.{Cond}
use Rattle.eb3.specs.Scopes.{Scope}
use Rattle.eb3.specs.Terms.{Term, Done, Internal, Perform, Sequence, Choice, Star, Parallel, Guard, done?}
use Rattle.eb3.specs.Spelling.{cond_words, words}
use Rattle.words.specs.Checking.{last_of}
use Rattle.words.specs.Laws.Checking.{last_behind}
use Rattle.expressions.specs.Answering.{truth, answer, Judged}
use Rattle.expressions.specs.Laws.Answering.{truth_word}
use Rattle.listing.specs.Listing.{TermAt, holding}
use Rattle.listing.specs.Positions.{code_in_front, TwoAt, GuardedAt}
use Rattle.listing.specs.Laws.Positions.{term_front}
use Rattle.listing.specs.Laws.ByCode.{by_done}

-- ── numbers in one ──

pub answer_is : (left n : ℕ) → answer left n ≡ left + 65536 * n
unfolding answer
answer_is left n = refl

module _ (r left n : ℕ) (e : r ≡ answer left n) (h : left ≤ 65535) where
  pub answered_left : r % 65536 ≡ left
  answered_left = omega (arith, e, answer_is left n)

  pub answered_count : r / 65536 ≡ n
  answered_count = omega (arith, e, answer_is left n)

-- ── which operands are done ──

pub is_done : (E : Term) → 30 ≡ code_in_front E → E ≡ Done
is_done E e = by_done (λ X. X ≡ Done) refl E e

pub done_test : (E : Term) → 30 ≡ code_in_front E → done? E ≡ true
unfolding done?
done_test E e = ap done? (is_done E e)

pub other_test : (E : Term) → (code_in_front E ≡ 30 → ⊥) → done? E ≡ false
unfolding done? code_in_front
other_test Done h = absurd (h refl)
other_test Internal h = refl
other_test (Perform a) h = refl
other_test (Sequence E F) h = refl
other_test (Choice E F) h = refl
other_test (Star E) h = refl
other_test (Parallel Δ E F) h = refl
other_test (Guard C E) h = refl

module _ {t : List ℕ} {P : Scope} {E F : Term} {rest : List ℕ} (s : TwoAt t P E F rest) where
  pub first_done : get_or t 0 0 ≡ 30 → done? E ≡ true
  first_done e = done_test E (sym e ∙ term_front t P E (words P.edition.width F ++ rest) s.first)

  pub first_other : (get_or t 0 0 ≡ 30 → ⊥) → done? E ≡ false
  first_other h = other_test E (λ e. h (term_front t P E (words P.edition.width F ++ rest) s.first ∙ e))

  -- after a term that is done
  behind_done : get_or t 0 0 ≡ 30 → drop 1 t ≡ words P.edition.width F ++ rest
  unfolding words
  behind_done e =
      let d : E ≡ Done = is_done E (sym e ∙ term_front t P E (words P.edition.width F ++ rest) s.first) in
      ap (drop 1) (s.first.spelled ∙ ap (λ X. words P.edition.width X ++ (words P.edition.width F ++ rest)) d)

  pub second_behind : (u : List ℕ) → get_or t 0 0 ≡ 30 → u ≡ drop 1 t → TermAt u P F rest
  second_behind u e f = record { plain = s.second.plain; fits = s.second.fits; spelled = f ∙ behind_done e; closed = s.second.closed }

abbrev pub BothDone : List ℕ → Bool → Type 0
BothDone t b = (P : Scope) (E F : Term) (rest : List ℕ) → TwoAt t P E F rest → b ≡ (done? E && done? F)

done_code : (F : Term) → eqb (code_in_front F) 30 ≡ done? F
unfolding done? code_in_front
done_code Done = refl
done_code Internal = refl
done_code (Perform a) = refl
done_code (Sequence E F) = refl
done_code (Choice E F) = refl
done_code (Star E) = refl
done_code (Parallel Δ E F) = refl
done_code (Guard C E) = refl

pub both_second : (t u : List ℕ) (w v : ℕ) → w ≡ get_or t 0 0 → w ≡ 30 → u ≡ drop 1 t → v ≡ get_or u 0 0 → BothDone t (eqb v 30)
both_second t u w v a e f i P E F rest s =
    let b = second_behind s u (sym a ∙ e) f in
    ap (λ n. eqb n 30) (i ∙ term_front u P F rest b) ∙ done_code F ∙ ap (λ x. x && done? F) (sym (first_done s (sym a ∙ e)))

pub both_first : (t : List ℕ) (w : ℕ) → w ≡ get_or t 0 0 → (w ≡ 30 → ⊥) → BothDone t false
both_first t w a h P E F rest s = ap (λ x. x && done? F) (sym (first_other s (λ e. h (a ∙ e))))

both_words : (w : ℕ) (t : List ℕ) (E F : Term) (rest : List ℕ) → t ≡ words w E ++ (words w F ++ rest) → E ≡ Done → F ≡ Done → drop 1 (drop 1 t) ≡ rest
unfolding words
both_words w t E F rest e f g = ap (λ x. drop 1 (drop 1 x)) (e ∙ (λ i. words w (f i) ++ (words w (g i) ++ rest)))

when_done : (E : Term) → done? E ≡ true → E ≡ Done
unfolding done?
when_done Done h = refl
when_done Internal h = cc
when_done (Perform a) h = cc
when_done (Sequence E F) h = cc
when_done (Choice E F) h = cc
when_done (Star E) h = cc
when_done (Parallel Δ E F) h = cc
when_done (Guard C E) h = cc

and_first : (a b : Bool) → (a && b) ≡ true → a ≡ true
and_first true b h = refl
and_first false b h = h

and_second : (a b : Bool) → (a && b) ≡ true → b ≡ true
and_second true b h = h
and_second false b h = cc

pub behind_both : {t : List ℕ} {P : Scope} {E F : Term} {rest : List ℕ} → TwoAt t P E F rest → (done? E && done? F) ≡ true → drop 1 (drop 1 t) ≡ rest
behind_both {t} {P} {E} {F} {rest} s q = both_words P.edition.width t E F rest s.first.spelled (when_done E (and_first (done? E) (done? F) q)) (when_done F (and_second (done? E) (done? F) q))

-- ── a guard ──

pub truth_none : (b : Bool) → truth b ≡ 0 → b ≡ false
unfolding truth
truth_none true e = absurd (omega arith)
truth_none false e = refl

pub truth_some : (b : Bool) → (truth b ≡ 0 → ⊥) → b ≡ true
unfolding truth
truth_some true h = refl
truth_some false h = absurd (h refl)

module _ (t M u : List ℕ) (c : ℕ) (judged : Judged t M c) (isu : u ≡ last_of (c / 65536) t) where
  module _ (P : Scope) (C : Cond) (E : Term) (rest : List ℕ) (s : GuardedAt t P C E rest) where
    told : c ≡ answer (truth (holding M C)) (length (words P.edition.width E ++ rest))
    told = judged P C (words P.edition.width E ++ rest) s.condition

    pub holds : c % 65536 ≡ truth (holding M C)
    holds = answered_left c (truth (holding M C)) (length (words P.edition.width E ++ rest)) told (omega (arith, truth_word (holding M C)))

    pub guarded_here : TermAt u P E rest
    guarded_here =
        let e : c / 65536 ≡ length (words P.edition.width E ++ rest) = answered_count c (truth (holding M C)) (length (words P.edition.width E ++ rest)) told (omega (arith, truth_word (holding M C))) in
        let q : u ≡ words P.edition.width E ++ rest = isu ∙ ap (λ n. last_of n t) e ∙ ap (last_of (length (words P.edition.width E ++ rest))) s.condition.spelled ∙ last_behind (cond_words P.edition.width C) (words P.edition.width E ++ rest) in
        record { plain = s.guarded.plain; fits = s.guarded.fits; spelled = q; closed = s.guarded.closed }

-- ── the code at the front ──

pub front_form : (s t : List ℕ) (w k : ℕ) → w ≡ get_or s 0 0 → t ≡ drop 1 s → w ≡ k → 0 < k → s ≡ k ∷ t
front_form [] t w k a b e z = absurd (omega arith)
front_form (x ∷ s) t w k a b e z = λ i. (sym a ∙ e) i ∷ sym b i

-- ── what the recursion asks ──

pub front_len : (s : List ℕ) (w : ℕ) → w ≡ get_or s 0 0 → w < 65536 → w ≤ 65536 * length s
front_len [] w e h = omega arith
front_len (x ∷ s) w e h = omega arith

pub mask_len : (d t : List ℕ) → t ≡ drop 4 d → length t ≤ length d
mask_len d t e = omega (arith, ap length e, length-drop 4 d)

pub mask_short : (d t : List ℕ) → t ≡ drop 4 d → length d ≤ 65535 → length t ≤ 65535
mask_short d t e h = omega (arith, mask_len d t e)

pub mask_short_drop : (d : List ℕ) → length d < 4 → drop (length d) d ≡ drop 4 d
mask_short_drop d h = drop-length d ∙ sym (drop_of_length-le d {i = 4} (omega arith))
