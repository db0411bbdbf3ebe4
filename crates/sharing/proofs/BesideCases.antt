-- Two shared terms in parallel spelled out, after the code and a mask without a label (document 01, "Operations": Run writes the last term).
use mathlib.Core.Path.{◌≡◌, refl, sym, ap, ◌∙◌, subst}
use mathlib.Core.List.{List, [], ◌∷◌, ◌++◌, append_assoc}
use Prim.Native.Nat.{ℕ, ◌+◌, ◌-◌, ◌≤◌, ◌<◌}
use native.Mathlib.Omega.{arith}
use Rattle.std.specs.Prelude.{Option, None, Some}
use Rattle.std.proofs.lemmas.Option.{none-some}
use lib.ListN.{length, drop, get_or, length-append}
use Rattle.eb3.specs.Scopes.{Scope}
use Rattle.eb3.specs.Spelling.{words}
use Rattle.words.specs.Checking.{last_of}
use Rattle.words.specs.Laws.Checking.{last_behind}
use Rattle.sharing.specs.Shared.{Shared, Ended, Part, Then, Beside, term_of, shared_words, Stands}
use Rattle.sharing.specs.Beginning.{put_at}
use Rattle.sharing.specs.Splicing.{SpelledTo, spelled_to, ExpandedRight, Expanded}
use Rattle.sharing.proofs.BeginningPuts.{put_length, put_behind}
use Rattle.sharing.proofs.ExpandingCases.{came_same, left_same, end_same, Tells}

-- The code and the mask.
abbrev pub head : List ℕ
head = 25 ∷ 0 ∷ 0 ∷ 0 ∷ 0 ∷ []

-- What is said of two shared terms in parallel, spelled out from `at` on where there is room: the answer r, and what the array is then.
abbrev BesideTells : List ℕ → List ℕ → List ℕ → List ℕ → ℕ → Option SpelledTo → Type 0
BesideTells t u entry exit at r =
    (P : Scope) (S T : Shared) (rest : List ℕ) → 25 ∷ t ≡ 25 ∷ ((shared_words S ++ shared_words T) ++ rest) → Stands u P S → Stands u P T → at + (5 + (length (words P.edition.width (term_of S)) + length (words P.edition.width (term_of T)))) ≤ length entry
    → ExpandedRight (head ++ (words P.edition.width (term_of S) ++ words P.edition.width (term_of T))) (length rest) at entry exit r

module _ (t u entry exit : List ℕ) (at : ℕ) (r : Option SpelledTo) (long : length exit ≡ length entry) (says : BesideTells t u entry exit at r) where
  beside_tells : (P : Scope) (S : Shared) (rest : List ℕ) → 25 ∷ t ≡ shared_words S ++ rest → Stands u P S → Tells P.edition.width entry exit at r S rest
  unfolding shared_words term_of words
  beside_tells P Ended rest e st room = absurd (let z : ◌≡◌ {A = ℕ} 25 30 = ap (λ x. get_or x 0 0) e in omega (arith, z))
  beside_tells P (Part l E) rest e st room = absurd (let z : 25 ≡ 32 + l = ap (λ x. get_or x 0 0) e in omega (arith, z))
  beside_tells P (Then S l F) rest e st room = absurd (let z : ◌≡◌ {A = ℕ} 25 22 = ap (λ x. get_or x 0 0) e in omega (arith, z))
  beside_tells P (Beside S T) rest e st room =
      let n : at + (5 + (length (words P.edition.width (term_of S)) + length (words P.edition.width (term_of T)))) ≡ at + length (head ++ (words P.edition.width (term_of S) ++ words P.edition.width (term_of T))) = omega (arith, length-append (words P.edition.width (term_of S)) (words P.edition.width (term_of T))) in
      let k : at + (5 + (length (words P.edition.width (term_of S)) + length (words P.edition.width (term_of T)))) ≤ length entry = omega (arith, n, room) in
      says P S T rest e st.0 st.1 k

  beside_told : Expanded (25 ∷ t) u at entry exit r
  beside_told = record { same_length = long; right = beside_tells }

module _ (t u entry : List ℕ) (at : ℕ) where
  pub beside_short : length entry - at < 5 → Expanded (25 ∷ t) u at entry entry None
  beside_short h = beside_told t u entry entry at None refl (λ P S T rest e s_stands t_stands room. absurd (omega (arith, h, room)))

  module _ (front mid : List ℕ) (a : Option SpelledTo) (free : at + 5 ≤ length entry) (f : front ≡ put_at at head entry) (h : Expanded t u (at + 5) front mid a) where
    beside_long : length mid ≡ length entry
    beside_long = h.same_length ∙ ap length f ∙ put_length at head entry free

    module _ (P : Scope) (S T : Shared) (rest : List ℕ) (e : 25 ∷ t ≡ 25 ∷ ((shared_words S ++ shared_words T) ++ rest)) (s_stands : Stands u P S) (room : at + (5 + (length (words P.edition.width (term_of S)) + length (words P.edition.width (term_of T)))) ≤ length entry) where
      behind : t ≡ shared_words S ++ (shared_words T ++ rest)
      behind = ap (drop 1) e ∙ append_assoc (shared_words S) (shared_words T) rest

      first : ExpandedRight (words P.edition.width (term_of S)) (length (shared_words T ++ rest)) (at + 5) front mid a
      first = h.right P S (shared_words T ++ rest) behind s_stands (omega (arith, ap length f, put_length at head entry free))

      some : a ≡ None → ⊥
      some z = none-some _ (sym z ∙ first.answered)

    -- There is no room for the first of the two.
    pub beside_lost : a ≡ None → Expanded (25 ∷ t) u at entry mid None
    beside_lost z = beside_told t u entry mid at None beside_long (λ P S T rest e s_stands t_stands room. absurd (some P S T rest e s_stands room z))

    module _ (exit v : List ℕ) (left place : ℕ) (r : Option SpelledTo) (is : a ≡ Some (spelled_to left place)) (vt : v ≡ last_of left t) (u' : List ℕ) (same : u' ≡ u) (made : Expanded v u' place mid exit r) where
      g : Expanded v u place mid exit r
      g = subst (λ x. Expanded v x place mid exit r) same made

      module _ (P : Scope) (S T : Shared) (rest : List ℕ) (e : 25 ∷ t ≡ 25 ∷ ((shared_words S ++ shared_words T) ++ rest)) (s_stands : Stands u P S) (t_stands : Stands u P T)
          (room : at + (5 + (length (words P.edition.width (term_of S)) + length (words P.edition.width (term_of T)))) ≤ length entry) where
        abbrev S_words : List ℕ
        S_words = words P.edition.width (term_of S)

        abbrev T_words : List ℕ
        T_words = words P.edition.width (term_of T)

        there : t ≡ shared_words S ++ (shared_words T ++ rest)
        there = behind P S T rest e s_stands room

        one : ExpandedRight S_words (length (shared_words T ++ rest)) (at + 5) front mid a
        one = first P S T rest e s_stands room

        left_is : left ≡ length (shared_words T ++ rest)
        left_is = left_same (sym is ∙ one.answered)

        place_is : place ≡ at + 5 + length S_words
        place_is = end_same (sym is ∙ one.answered)

        here : v ≡ shared_words T ++ rest
        here = vt ∙ ap (λ n. last_of n t) left_is ∙ ap (last_of (length (shared_words T ++ rest))) there ∙ last_behind (shared_words S) (shared_words T ++ rest)

        second : ExpandedRight T_words (length rest) place mid exit r
        second = g.right P T rest here t_stands (omega (arith, place_is, beside_long))

        beside_answer : r ≡ Some (spelled_to (length rest) (at + length (head ++ (S_words ++ T_words))))
        beside_answer = came_same refl (omega (arith, place_is, length-append S_words T_words)) second.answered

        beside_written : exit ≡ put_at at (head ++ (S_words ++ T_words)) entry
        beside_written =
            let m : mid ≡ put_at at (head ++ S_words) entry = put_behind entry head S_words front mid at (at + 5) (omega arith) refl f one.written in
            put_behind entry (head ++ S_words) T_words mid exit at place (omega arith) (omega (arith, place_is)) m second.written

      pub beside_expanded : Expanded (25 ∷ t) u at entry exit r
      beside_expanded =
          beside_told t u entry exit at r (g.same_length ∙ beside_long)
          (λ P S T rest e s_stands t_stands room. record { answered = beside_answer P S T rest e s_stands t_stands room; written = beside_written P S T rest e s_stands t_stands room })
