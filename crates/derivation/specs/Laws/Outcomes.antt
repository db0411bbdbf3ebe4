-- Laws of the bounds of an answer and of the outcome for a term's moves, whatever is searched (document 01, "Moves, in order").
use Rattle.std.specs.Prelude.{◌≡◌, refl, List, [], ◌++◌, ℕ, ◌+◌, ◌-◌, ◌≤◌, ◌<◌, length, drop}
use Rattle.std.proofs.Common.{ap, sym, ◌∙◌, subst, arith}
use Rattle.std.proofs.Math.Seq.{drop-length}
use Rattle.derivation.specs.declared.arrays.Derivation.{Derivation}
use Rattle.derivation.specs.declared.arrays.Derivation.TheVariants.{At, Behind, NoRoom}
use Rattle.derivation.specs.Derived.{Roomed, Placed}
use Rattle.derivation.specs.Arms.{Outcome, Decided}
use Rattle.derivation.specs.Laws.Answers.{by_order, same_place, same_rest, no_rest, not_lost, decided_as, decided_place}

-- ── the bounds ──

pub placed_lost : (n k l : ℕ) → Placed n k l NoRoom
placed_lost n k l = record { place = λ i e. not_lost {r = At i} tt (sym e); rest = λ j left e. not_lost {r = Behind j left} tt (sym e) }

pub placed_more : {n k l : ℕ} {r : Derivation} (m j : ℕ) → Placed n k l r → n ≤ m → k ≤ j → Placed m j l r
placed_more m j h a b = record { place = h.place; rest = λ i left e. let w = h.rest i left e in (omega (arith, w.0), omega (arith, w.1)) }

-- where the path begins at i
pub placed_at : (n k l i : ℕ) (r : Derivation) → r ≡ At i → i ≤ l → Placed n k l r
placed_at n k l i r e a = record { place = λ j f. omega (arith, same_place (sym e ∙ f)); rest = λ j left f. no_rest (sym e ∙ f) }

-- where move k is passed
pub placed_passed : (n k l left j : ℕ) (r : Derivation) → r ≡ Behind j left → left ≤ n → j ≤ k → Placed n k l r
placed_passed n k l left j r e a b = record {
  place = λ i f. no_rest (sym f ∙ e);
  rest = λ i m f. let w = same_rest (sym e ∙ f) in (omega (arith, w.0), omega (arith, w.1));
}

-- where there is one move with an empty path
pub placed_single : (n k left l : ℕ) (r : Derivation) → (k ≡ 0 → r ≡ At l) → (1 ≤ k → r ≡ Behind (k - 1) left) → left ≤ n → Placed n k l r
placed_single n k left l r f g b = by_order k 1 (λ z. placed_at n k l l r (f (omega arith)) (omega arith)) (λ z. placed_passed n k l left (k - 1) r (g z) b (omega arith))

pub single_roomed : (k left l : ℕ) (r : Derivation) → (k ≡ 0 → r ≡ At l) → (1 ≤ k → r ≡ Behind (k - 1) left) → Roomed r
single_roomed k left l r f g = by_order k 1 (λ z. subst Roomed (sym (f (omega arith))) tt) (λ z. subst Roomed (sym (g z)) tt)

-- ── outcomes ──

pub outcome_as : {count left k : ℕ} {r : Derivation} {p exit : List ℕ} (count' left' : ℕ) (p' : List ℕ) → count' ≡ count → left' ≡ left → (k < count → p ≡ p')
    → Outcome count p left k exit r → Outcome count' p' left' k exit r
outcome_as {count} {left} {k} {r} count' left' p' a b e h = record {
  found = λ z.
      let y : k < count = omega arith in
      let w = h.found y in
      (w.0, w.1, w.2 ∙ e y);
  none_found = λ z. h.none_found (omega arith) ∙ (λ i. Behind (k - sym a i) (sym b i));
}

-- move k is one of the first moves
pub outcome_early : {count left k : ℕ} {r : Derivation} {p exit : List ℕ} (count' left' : ℕ) → k < count → count ≤ count' → Outcome count p left k exit r → Outcome count' p left' k exit r
outcome_early count' left' l m h = record { found = λ z. h.found l; none_found = λ z. absurd (omega arith) }

-- a moves come before these
pub outcome_later : {count left j : ℕ} {r : Derivation} {p exit : List ℕ} (a k : ℕ) → a ≤ k → j ≡ k - a → Outcome count p left j exit r → Outcome (a + count) p left k exit r
outcome_later {count} {left} {j} a k l e h = record {
  found = λ z. h.found (omega arith);
  none_found = λ z. let q : j - count ≡ k - (a + count) = omega arith in h.none_found (omega arith) ∙ ap (λ n. Behind n left) q;
}

-- there are no moves
pub outcome_none : (count k left : ℕ) (r : Derivation) (p exit : List ℕ) → count ≡ 0 → r ≡ Behind k left → Outcome count p left k exit r
outcome_none count k left r p exit e q = record {
  found = λ y. absurd (omega arith);
  none_found = λ y. let f : k ≡ k - count = omega arith in q ∙ ap (λ n. Behind n left) f;
}

pub outcome_place : {count left k i : ℕ} {p exit : List ℕ} → Outcome count p left k exit (At i) → (k < count) × (drop i exit ≡ p)
outcome_place {count} {left} {k} {i} {p} {exit} h = by_order k count (λ l. let w = h.found l in (l, ap (λ a. drop a exit) (same_place w.1) ∙ w.2)) (λ l. no_rest (h.none_found l))

pub outcome_passed : {count left k j m : ℕ} {p exit : List ℕ} → Outcome count p left k exit (Behind j m) → (count ≤ k) × (j ≡ k - count) × (m ≡ left)
outcome_passed {count} {left} {k} {j} {m} {p} {exit} h = by_order k count (λ l. no_rest (sym (h.found l).1)) (λ l. let w = same_rest (h.none_found l) in (l, w.0, w.1))

-- one move with an empty path
pub outcome_single : (k left : ℕ) (r : Derivation) (entry : List ℕ) → (k ≡ 0 → r ≡ At (length entry)) → (1 ≤ k → r ≡ Behind (k - 1) left) → Outcome 1 [] left k entry r
outcome_single k left r entry f g = record { found = λ z. (length entry, f (omega arith), drop-length entry); none_found = λ z. g (omega arith) }

-- ── a decision written before a path ──

module _ {o : List ℕ} {r q : Derivation} {mid exit : List ℕ} (h : Decided o r mid exit q) where
  pub decided_outcome : {count left k : ℕ} {p : List ℕ} → Roomed q → Outcome count p left k mid r → Outcome count (o ++ p) left k exit q
  decided_outcome z e = record {
    found = λ l.
        let y = e.found l in
        let w = decided_place (decided_as y.1 h) z in
        (w.0, w.1, w.3 ∙ ap (λ x. o ++ x) y.2);
    none_found = λ l. (decided_as (e.none_found l) h).wrote;
  }

pub decided_placed : {o : List ℕ} {r q : Derivation} {mid exit : List ℕ} → Decided o r mid exit q → {n k l : ℕ} → Placed n k l r → Placed n k l q
decided_placed {r = At i} {q = At j} h {n} {k} {l} s = placed_at n k l j _ refl (let w = h.wrote.0 in omega (arith, w, s.place i refl))
decided_placed {r = At i} {q = Behind j left} h s = absurd h.wrote
decided_placed {r = At i} {q = NoRoom} h {n} {k} {l} s = placed_lost n k l
decided_placed {r = Behind j left} {q} h {n} {k} {l} s = let w = s.rest j left refl in placed_passed n k l left j q h.wrote w.1 w.0
decided_placed {r = NoRoom} {q} h {n} {k} {l} s = subst (Placed n k l) (sym h.wrote) (placed_lost n k l)

pub decided_path : {o : List ℕ} {r q : Derivation} {entry mid exit : List ℕ} → mid ≡ entry → Decided o r mid exit q → Decided o r entry exit q
decided_path {o} {r} {q} {entry} {mid} {exit} e h = subst (λ p. Decided o r p exit q) e h
