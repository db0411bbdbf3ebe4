-- The words at the beginning of a term that stay as they are: a case for each way that one step returns, and the steps one after the other
-- (document 01, "Moves, in order").
use mathlib.Core.Path.{◌≡◌, sym, ap, ◌∙◌, subst}
use mathlib.Core.Bool.{true, false, cond}
use mathlib.Core.List.{List, [], ◌∷◌, ◌++◌, append_assoc}
use Prim.Native.Nat.{ℕ, ◌+◌, ◌≤◌, ◌<◌}
use native.Mathlib.Omega.{arith}
use lib.Dec.{eqb}
use lib.ListN.{length, take, drop, get_or}
use lib.Seq.{drop-drop, take-add}
use borrow.Author.Tests.{eq-eqb, ne_eqb}
use Rattle.eb3.specs.Reading.{pick}
use Rattle.eb3.specs.Scopes.{Scope}
use Rattle.eb3.specs.Terms.{Term, Sequence, Parallel, Mask, done?}
use Rattle.eb3.specs.Spelling.{words}
use Rattle.words.specs.Laws.Checking.{part}
use Rattle.listing.specs.Laws.ByCode.{by_sequence, by_parallel}
use Rattle.listing.specs.Listing.{TermAt}
use Rattle.listing.specs.Laws.Operands.{other_test}
use Rattle.listing.specs.Laws.Positions.{term_front}
use Rattle.paths.specs.Paths.{within, follow, marked}
use Rattle.successors.specs.Building.{built_words}
use Rattle.successors.specs.Unchanged.{Moving, Ahead, leading_words, Staying}
use Rattle.successors.specs.Laws.Terms.{sequence_two, parallel_two, parallel_head}
use Rattle.successors.specs.Laws.Following.{parallel_left_follows, parallel_left_marked, parallel_right_follows, parallel_right_marked}
use Rattle.successors.proofs.Parallels.{right_there, head_there}
use Rattle.successors.proofs.Writes.{lent}

-- ── how many words of the path lead there ──

module _ (s p : List ℕ) where
  pub leads_none : get_or s 0 0 ≡ 22 → 0 ≡ leading_words s p
  unfolding leading_words
  leads_none e = ap (λ b. pick b 0 (pick (eqb (get_or p 0 0) 1) 1 2)) (sym (eq-eqb (get_or s 0 0) 22 e))

  module _ (z : get_or s 0 0 ≡ 22 → ⊥) where
    leads_by : (n : ℕ) → n ≡ pick (eqb (get_or p 0 0) 1) 1 2 → n ≡ leading_words s p
    unfolding leading_words
    leads_by n e = e ∙ ap (λ b. pick b 0 (pick (eqb (get_or p 0 0) 1) 1 2)) (sym (ne_eqb (get_or s 0 0) 22 z))

    pub leads_one : get_or p 0 0 ≡ 1 → 1 ≡ leading_words s p
    leads_one e = leads_by 1 (ap (λ b. pick b 1 2) (sym (eq-eqb (get_or p 0 0) 1 e)))

    pub leads_two : (get_or p 0 0 ≡ 1 → ⊥) → 2 ≡ leading_words s p
    leads_two e = leads_by 2 (ap (λ b. pick b 1 2) (sym (ne_eqb (get_or p 0 0) 1 e)))

  -- ── one step ──

  stays_by : (n l : ℕ) → l ≡ leading_words s p → n ≤ 65540 → l ≤ n → Ahead s p n l → Staying s p n
  stays_by n l e b h a = record { bounded = b; fewer = λ _. omega (arith, e, h); ahead = λ _. subst (Ahead s p n) e a }

  pub stays_sequence : (t : List ℕ) → t ≡ drop 1 s → get_or s 0 0 ≡ 22 → (get_or t 0 0 ≡ 30 → ⊥) → Staying s p 1
  unfolding follow marked words
  stays_sequence t behind e d =
      stays_by 1 0 (leads_none e) (omega arith) (omega arith)
      (λ P G rest k. by_sequence (λ X. TermAt s P X rest → marked P.edition.width X p ≡ true → Moving s p 1 0 P X rest)
      (λ E F k j.
      let i : TermAt (drop 1 s) P E (words P.edition.width F ++ rest) = (sequence_two s P rest E F k).first in
      let n : done? E ≡ false = other_test E (λ z. d (ap (λ l. get_or l 0 0) behind ∙ (term_front (drop 1 s) P E (words P.edition.width F ++ rest) i ∙ z))) in
      let f : follow (Sequence E F) p ≡ within (λ x. Sequence x F) (follow E p) = ap (λ b. cond b (follow F p) (within (λ x. Sequence x F) (follow E p))) n in
      let o : take 1 s ≡ 22 ∷ [] = ap (take 1) k.spelled in
      record {
        operand = E;
        behind = words P.edition.width F ++ rest;
        there = i;
        led = sym (ap (λ b. cond b (marked P.edition.width F p) (marked P.edition.width E p)) n) ∙ j;
        same_action = ap (λ x. x.action) f;
        stays = ap (λ x. words P.edition.width x.successor ++ rest) f
            ∙ (ap (λ l. 22 ∷ l) (append_assoc (built_words P.edition.width E p) (words P.edition.width F) rest) ∙ ap (λ h. h ++ (built_words P.edition.width E p ++ (words P.edition.width F ++ rest))) (sym o));
      }) G (sym e ∙ term_front s P G rest k) k)

  module _ (e : get_or s 0 0 ≡ 25) where
    by_code : (n l : ℕ) → ((P : Scope) (rest : List ℕ) (Δ : Mask) (E F : Term) → TermAt s P (Parallel Δ E F) rest → marked P.edition.width (Parallel Δ E F) p ≡ true → Moving s p n l P (Parallel Δ E F) rest) → Ahead s p n l
    by_code n l f P G rest k = by_parallel (λ X. TermAt s P X rest → marked P.edition.width X p ≡ true → Moving s p n l P X rest) (f P rest) G (sym e ∙ term_front s P G rest k) k

    pub stays_left : get_or p 0 0 ≡ 1 → Staying s p 5
    unfolding words
    stays_left d =
        stays_by 5 1 (leads_one (λ z. omega arith) d) (omega arith) (omega arith)
        (by_code 5 1 (λ P rest Δ E F k j.
        let f = parallel_left_follows p Δ E F d in
        let b = built_words P.edition.width E (drop 1 p) in
        record {
          operand = E;
          behind = words P.edition.width F ++ rest;
          there = (parallel_two s P rest Δ E F k).first;
          led = parallel_left_marked p Δ E F P.edition.width d j;
          same_action = ap (λ x. x.action) f;
          stays = ap (λ x. words P.edition.width x.successor ++ rest) f
              ∙ (append_assoc (25 ∷ Δ) (b ++ words P.edition.width F) rest
              ∙ (ap (λ l. (25 ∷ Δ) ++ l) (append_assoc b (words P.edition.width F) rest) ∙ ap (λ h. h ++ (b ++ (words P.edition.width F ++ rest))) (sym (parallel_head s P rest Δ E F k))));
        }))

    pub stays_right : (n : ℕ) → n ≡ get_or p 1 0 → n < 65536 → get_or p 0 0 ≡ 2 → Staying s p (5 + n)
    unfolding words
    stays_right n is small d =
        stays_by (5 + n) 2 (leads_two (λ z. omega arith) (λ z. omega arith)) (omega arith) (omega arith)
        (by_code (5 + n) 2 (λ P rest Δ E F k j.
        let f = parallel_right_follows p Δ E F d in
        let m = parallel_right_marked p Δ E F P.edition.width d j in
        let b = built_words P.edition.width F (drop 2 p) in
        record {
          operand = F;
          behind = rest;
          there = right_there s p n is P rest Δ E F k m.0;
          led = m.1;
          same_action = ap (λ x. x.action) f;
          stays = ap (λ x. words P.edition.width x.successor ++ rest) f
              ∙ (append_assoc (25 ∷ Δ) (words P.edition.width E ++ b) rest
              ∙ (ap (λ l. (25 ∷ Δ) ++ l) (append_assoc (words P.edition.width E) b rest)
              ∙ (sym (append_assoc (25 ∷ Δ) (words P.edition.width E) (b ++ rest)) ∙ ap (λ h. h ++ (b ++ rest)) (sym (head_there s p n is P rest Δ E F k m.0)))));
        }))

-- ── the steps one after the other ──

-- The first `at` words of the term stay, and `used` words of the path lead to what comes after them: never more than stay.
pub record Passed (s p : List ℕ) (at used : ℕ) : Type 0 where
  pub inside : at ≤ length s
  pub along : used ≤ length p
  pub no_more : used ≤ at
  pub ahead : Ahead s p at used

-- What a step says of the parts of s and p that were lent, said of s and p without their first words.
pub stays_there : (s p : List ℕ) (at used n : ℕ) → Staying (lent at s) (lent used p) n → Staying (drop at s) (drop used p) n
stays_there s p at used n h = subst (λ l. Staying (drop at s) l n) (part used p) (subst (λ l. Staying l (lent used p) n) (part at s) h)

module _ (s p : List ℕ) (at used : ℕ) (g : Passed s p at used) where
  module _ (n l : ℕ) (h : Staying (drop at s) (drop used p) n) (some : 0 < n) (given : l ≡ leading_words (lent at s) (lent used p)) where
    is : l ≡ leading_words (drop at s) (drop used p)
    is = given ∙ (ap (λ c. leading_words c (lent used p)) (part at s) ∙ ap (leading_words (drop at s)) (part used p))

    further : Ahead (drop at s) (drop used p) n l
    further = subst (Ahead (drop at s) (drop used p) n) (sym is) (h.ahead some)

    pub passed_next : at + n ≤ length s → used + l ≤ length p → Passed s p (at + n) (used + l)
    passed_next i k = record {
      inside = i;
      along = k;
      no_more = omega (arith, is, h.fewer some, g.no_more);
      ahead = λ P E rest t j.
          let u = g.ahead P E rest t j in
          let v = further P u.operand u.behind u.there u.led in
          let q : drop l (drop used p) ≡ drop (used + l) p = drop-drop l used p in
          let o : List ℕ → List ℕ = λ c. built_words P.edition.width v.operand c ++ v.behind in
          record {
            operand = v.operand;
            behind = v.behind;
            there = subst (λ c. TermAt c P v.operand v.behind) (drop-drop n at s) v.there;
            led = subst (λ c. marked P.edition.width v.operand c ≡ true) q v.led;
            same_action = u.same_action ∙ (v.same_action ∙ ap (λ c. (follow v.operand c).action) q);
            stays = u.stays
                ∙ (ap (λ c. take at s ++ c) v.stays
                ∙ (sym (append_assoc (take at s) (take n (drop at s)) (o (drop l (drop used p))))
                ∙ (ap (λ c. c ++ o (drop l (drop used p))) (sym (take-add at n s)) ∙ ap (λ c. take (at + n) s ++ o c) q)));
          };
    }
