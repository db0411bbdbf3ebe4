-- A shared term spelled out: a part copied from its place, done, and what is made of two terms spelled out one after the other (document 01, "Operations": Run
-- writes the last term).
use mathlib.Core.Path.{◌≡◌, refl, sym, ap, ◌∙◌, subst}
use mathlib.Core.List.{List, [], ◌∷◌, ◌++◌}
use Prim.Native.Nat.{ℕ, ◌+◌, ◌-◌, ◌≤◌, ◌<◌}
use native.Mathlib.Omega.{arith}
use Rattle.std.specs.Prelude.{Option, None, Some}
use Rattle.std.proofs.lemmas.Option.{none-some, same_Some}
use lib.ListN.{length, take, drop, set, get_or, length-append, length-set}
use lib.Seq.{take_at, length-take-le}
use Rattle.eb3.specs.Scopes.{Scope}
use Rattle.eb3.specs.Terms.{Term}
use Rattle.eb3.specs.Spelling.{words}
use Rattle.words.specs.Checking.{last_of}
use Rattle.listing.specs.Listing.{Fits, TermAt}
use Rattle.listing.specs.Laws.Fits.{fits_length}
use Rattle.listing.specs.Laws.Operands.{front_form}
use Rattle.sharing.specs.Shared.{Shared, Ended, Part, Then, Beside, term_of, part_word, shared_words, PartAt, Stands}
use Rattle.sharing.specs.Beginning.{put_at}
use Rattle.sharing.specs.Laws.Shared.{size_some}
use Rattle.sharing.specs.Splicing.{SpelledTo, spelled_to, ExpandedRight, Expanded, PartExpanded, DoneExpanded}
use Rattle.sharing.proofs.BeginningPuts.{put_one, put_length, put_behind}

-- ── how far spelling out came ──

pub came_same : {r : Option SpelledTo} {left l i j : ℕ} → left ≡ l → i ≡ j → r ≡ Some (spelled_to left i) → r ≡ Some (spelled_to l j)
came_same {l = l} {i} e f h = h ∙ (ap (λ k. Some (spelled_to k i)) e ∙ ap (λ k. Some (spelled_to l k)) f)

module _ {left l i j : ℕ} (e : ◌≡◌ {A = Option SpelledTo} (Some (spelled_to left i)) (Some (spelled_to l j))) where
  numbers_same : spelled_to left i ≡ spelled_to l j
  numbers_same = same_Some (spelled_to left i) (spelled_to l j) e

  pub left_same : left ≡ l
  left_same = ap (λ (x : SpelledTo). x.left) numbers_same

  pub end_same : i ≡ j
  end_same = ap (λ (x : SpelledTo). x.end) numbers_same

-- ── a part ──

-- e are the words from the part's place on, of which k are left after the part.
module _ (u e : List ℕ) (w k : ℕ) (high : 32 ≤ w) (is : e ≡ last_of (w - 32) u) (skipped : (k ≤ length e) × ((P : Scope) (E : Term) (rest : List ℕ) → TermAt e P E rest → k ≡ length rest)) where
  module _ (P : Scope) (l : ℕ) (E : Term) (q : w ≡ part_word l) (p : PartAt u P l E) where
    there : TermAt e P E p.rest
    there =
        let n : w - 32 ≡ l = omega (arith, q) in
        subst (λ v. TermAt v P E p.rest) (sym (is ∙ ap (λ j. last_of j u) n)) p.there

    pub part_count : length e - k ≡ length (words P.edition.width E)
    part_count = omega (arith, skipped.1 P E p.rest there, ap length there.spelled, length-append (words P.edition.width E) p.rest)

    part_words : take (length e - k) e ≡ words P.edition.width E
    part_words = ap (take (length e - k)) there.spelled ∙ take_at (words P.edition.width E) p.rest (length e - k) (sym part_count)

  pub part_made : (entry exit x : List ℕ) (left at : ℕ) → at ≤ length entry → length e - k ≤ length entry - at → x ≡ take (length e - k) e → exit ≡ put_at at x entry
      → PartExpanded u w left at entry exit (Some (spelled_to left (at + (length e - k))))
  part_made entry exit x left at h m f g = record {
    same_length = ap length g ∙ put_length at x entry (omega (arith, ap length f, length-take-le (length e - k) e (omega arith)));
    right = λ P l E q p room. record {
      answered = ap (λ n. Some (spelled_to left (at + n))) (part_count P l E q p);
      written = g ∙ ap (λ v. put_at at v entry) (f ∙ part_words P l E q p);
    };
  }

-- ── done ──

pub done_made : (left at : ℕ) (entry : List ℕ) → at < length entry → DoneExpanded left at entry (set entry at 30) (Some (spelled_to left (at + 1)))
done_made left at entry h = record {
  same_length = length-set entry at 30;
  right = λ room. record { answered = refl; written = put_one entry at 30 h };
}

-- ── a shared term by its first word ──

pub expand_front : (s t u entry exit : List ℕ) (w k at : ℕ) (r : Option SpelledTo) → w ≡ get_or s 0 0 → t ≡ drop 1 s → w ≡ k → 0 < k → Expanded (k ∷ t) u at entry exit r → Expanded s u at entry exit r
expand_front s t u entry exit w k at r a b e z h = subst (λ v. Expanded v u at entry exit r) (sym (front_form s t w k a b e z)) h

-- The term that a shared term means fits, as its parts do,
term_fits : (u : List ℕ) (P : Scope) (S : Shared) → Stands u P S → Fits P (term_of S)
unfolding term_of
term_fits u P Ended st = tt
term_fits u P (Part l E) st = st.1.there.fits
term_fits u P (Then S l F) st = (term_fits u P S st.0, st.1.there.fits)
term_fits u P (Beside S T) st = (refl, term_fits u P S st.0, term_fits u P T st.1)

-- so that it has at least one word:
words_some : (u : List ℕ) (P : Scope) (S : Shared) → Stands u P S → 1 ≤ length (words P.edition.width (term_of S))
words_some u P S st = omega (arith, fits_length P (term_of S) (term_fits u P S st), size_some P.edition.width (term_of S))

-- where the array has no place left, nothing is written.
pub expand_none : (s u entry : List ℕ) (at : ℕ) → length entry ≤ at → Expanded s u at entry entry None
expand_none s u entry at h = record { same_length = refl; right = λ P S rest e st room. absurd (omega (arith, words_some u P S st)) }

-- The result for a shared term S, spelled out from `at` on where there is room: the answer r, and what the array is then.
abbrev pub Tells : ℕ → List ℕ → List ℕ → ℕ → Option SpelledTo → Shared → List ℕ → Type 0
Tells width entry exit at r S rest = at + length (words width (term_of S)) ≤ length entry → ExpandedRight (words width (term_of S)) (length rest) at entry exit r

module _ (entry exit t : List ℕ) (at : ℕ) (r : Option SpelledTo) where
  done_tells : (width : ℕ) → DoneExpanded (length t) at entry exit r → (S : Shared) (rest : List ℕ) → 30 ∷ t ≡ shared_words S ++ rest → Tells width entry exit at r S rest
  unfolding shared_words term_of words
  done_tells width h Ended rest e room = record { answered = came_same (ap length (ap (drop 1) e)) refl (h.right room).answered; written = (h.right room).written }
  done_tells width h (Part l E) rest e room = absurd (let z : 30 ≡ 32 + l = ap (λ v. get_or v 0 0) e in omega (arith, z))
  done_tells width h (Then S l F) rest e room = absurd (let z : ◌≡◌ {A = ℕ} 30 22 = ap (λ v. get_or v 0 0) e in omega (arith, z))
  done_tells width h (Beside S T) rest e room = absurd (let z : ◌≡◌ {A = ℕ} 30 25 = ap (λ v. get_or v 0 0) e in omega (arith, z))

  pub done_expanded : (u : List ℕ) → DoneExpanded (length t) at entry exit r → Expanded (30 ∷ t) u at entry exit r
  done_expanded u h = record { same_length = h.same_length; right = λ P S rest e st. done_tells P.edition.width h S rest e }

-- What is known of a word once the codes of terms that have started are excluded: it is none of 22, 25 and 30.
abbrev pub NotBegun : ℕ → Type 0
NotBegun w = ((Unit {0} × (w ≡ 22 → ⊥)) × (w ≡ 25 → ⊥)) × (w ≡ 30 → ⊥)

module _ (entry exit s t u : List ℕ) (w at : ℕ) (r : Option SpelledTo) (a : w ≡ get_or s 0 0) (b : t ≡ drop 1 s) (h : PartExpanded u w (length t) at entry exit r) (other : NotBegun w) where
  part_tells : (P : Scope) (S : Shared) (rest : List ℕ) → s ≡ shared_words S ++ rest → Stands u P S → Tells P.edition.width entry exit at r S rest
  unfolding shared_words term_of
  part_tells P Ended rest e st room = absurd (other.1 (a ∙ ap (λ v. get_or v 0 0) e))
  part_tells P (Part l E) rest e st room =
      let m = h.right P l E (a ∙ ap (λ v. get_or v 0 0) e) st.1 room in
      record { answered = came_same (ap length (b ∙ ap (drop 1) e)) refl m.answered; written = m.written }
  part_tells P (Then S l F) rest e st room = absurd (other.0.0.1 (a ∙ ap (λ v. get_or v 0 0) e))
  part_tells P (Beside S T) rest e st room = absurd (other.0.1 (a ∙ ap (λ v. get_or v 0 0) e))

  pub part_expanded : Expanded s u at entry exit r
  part_expanded = record { same_length = h.same_length; right = part_tells }

-- ── what follows ──

-- The same is said of a sequence: a shared term, and a part that follows it.
abbrev ThenTells : List ℕ → List ℕ → List ℕ → List ℕ → ℕ → Option SpelledTo → Type 0
ThenTells t u entry exit at r =
    (P : Scope) (S : Shared) (l : ℕ) (F : Term) (rest : List ℕ) → 22 ∷ t ≡ 22 ∷ part_word l ∷ (shared_words S ++ rest) → Stands u P S → PartAt u P l F → at + (1 + (length (words P.edition.width (term_of S)) + length (words P.edition.width F))) ≤ length entry
    → ExpandedRight (22 ∷ (words P.edition.width (term_of S) ++ words P.edition.width F)) (length rest) at entry exit r

module _ (t u entry exit : List ℕ) (at : ℕ) (r : Option SpelledTo) (long : length exit ≡ length entry) (says : ThenTells t u entry exit at r) where
  then_tells : (P : Scope) (S : Shared) (rest : List ℕ) → 22 ∷ t ≡ shared_words S ++ rest → Stands u P S → Tells P.edition.width entry exit at r S rest
  unfolding shared_words term_of words
  then_tells P Ended rest e st room = absurd (let z : ◌≡◌ {A = ℕ} 22 30 = ap (λ x. get_or x 0 0) e in omega (arith, z))
  then_tells P (Part l E) rest e st room = absurd (let z : 22 ≡ 32 + l = ap (λ x. get_or x 0 0) e in omega (arith, z))
  then_tells P (Then S l F) rest e st room =
      let n : at + (1 + (length (words P.edition.width (term_of S)) + length (words P.edition.width F))) ≡ at + length (22 ∷ (words P.edition.width (term_of S) ++ words P.edition.width F)) = omega (arith, length-append (words P.edition.width (term_of S)) (words P.edition.width F)) in
      let k : at + (1 + (length (words P.edition.width (term_of S)) + length (words P.edition.width F))) ≤ length entry = omega (arith, n, room) in
      says P S l F rest e st.0 st.1 k
  then_tells P (Beside S T) rest e st room = absurd (let z : ◌≡◌ {A = ℕ} 22 25 = ap (λ x. get_or x 0 0) e in omega (arith, z))

  then_told : Expanded (22 ∷ t) u at entry exit r
  then_told = record { same_length = long; right = then_tells }

module _ (t v u entry mid : List ℕ) (at : ℕ) (a : Option SpelledTo) (free : at < length entry) (vt : v ≡ drop 1 t) (h : Expanded v u (at + 1) (set entry at 22) mid a) where
  then_long : length mid ≡ length entry
  then_long = h.same_length ∙ length-set entry at 22

  module _ (P : Scope) (S : Shared) (l n : ℕ) (rest : List ℕ) (e : 22 ∷ t ≡ 22 ∷ part_word l ∷ (shared_words S ++ rest)) (st : Stands u P S) (room : at + (1 + (length (words P.edition.width (term_of S)) + n)) ≤ length entry) where
    behind : t ≡ part_word l ∷ (shared_words S ++ rest)
    behind = ap (drop 1) e

    first : ExpandedRight (words P.edition.width (term_of S)) (length rest) (at + 1) (set entry at 22) mid a
    first = h.right P S rest (vt ∙ ap (drop 1) behind) st (omega (arith, length-set entry at 22))

    some : a ≡ None → ⊥
    some z = none-some _ (sym z ∙ first.answered)

  -- There is no room for what is followed.
  pub then_lost : a ≡ None → Expanded (22 ∷ t) u at entry mid None
  then_lost z = then_told t u entry mid at None then_long (λ P S l F rest e st p room. absurd (some P S l (length (words P.edition.width F)) rest e st room z))

  module _ (exit : List ℕ) (w left place : ℕ) (r : Option SpelledTo) (is : a ≡ Some (spelled_to left place)) (wt : w ≡ get_or t 0 0) (u' : List ℕ) (same : u' ≡ u) (made : PartExpanded u' w left place mid exit r) where
    g : PartExpanded u w left place mid exit r
    g = subst (λ x. PartExpanded x w left place mid exit r) same made

    module _ (P : Scope) (S : Shared) (l : ℕ) (F : Term) (rest : List ℕ) (e : 22 ∷ t ≡ 22 ∷ part_word l ∷ (shared_words S ++ rest)) (st : Stands u P S) (p : PartAt u P l F) (room : at + (1 + (length (words P.edition.width (term_of S)) + length (words P.edition.width F))) ≤ length entry) where
      abbrev E_words : List ℕ
      E_words = words P.edition.width (term_of S)

      behind_is : t ≡ part_word l ∷ (shared_words S ++ rest)
      behind_is = behind P S l (length (words P.edition.width F)) rest e st room

      one : ExpandedRight E_words (length rest) (at + 1) (set entry at 22) mid a
      one = first P S l (length (words P.edition.width F)) rest e st room

      left_is : left ≡ length rest
      left_is = left_same (sym is ∙ one.answered)

      place_is : place ≡ at + 1 + length E_words
      place_is = end_same (sym is ∙ one.answered)

      second : ExpandedRight (words P.edition.width F) left place mid exit r
      second = g.right P l F (wt ∙ ap (λ x. get_or x 0 0) behind_is) p (omega (arith, place_is, then_long))

      then_answer : r ≡ Some (spelled_to (length rest) (at + length (22 ∷ (E_words ++ words P.edition.width F))))
      then_answer = came_same left_is (omega (arith, place_is, length-append E_words (words P.edition.width F))) second.answered

      then_written : exit ≡ put_at at (22 ∷ (E_words ++ words P.edition.width F)) entry
      then_written =
          let m : mid ≡ put_at at (22 ∷ E_words) entry = put_behind entry (22 ∷ []) E_words (set entry at 22) mid at (at + 1) (omega arith) refl (put_one entry at 22 free) one.written in
          put_behind entry (22 ∷ E_words) (words P.edition.width F) mid exit at place (omega arith) (omega (arith, place_is)) m second.written

    pub then_expanded : Expanded (22 ∷ t) u at entry exit r
    then_expanded = then_told t u entry exit at r (g.same_length ∙ then_long) (λ P S l F rest e st p room. record { answered = then_answer P S l F rest e st p room; written = then_written P S l F rest e st p room })
