-- Laws of the answers of a search for a path, whatever is searched: which answers are the same, by the order of two numbers, with a decision written before
-- the path, and the room before a path (document 01, "Moves, in order").
use Rattle.std.specs.Prelude.{◌≡◌, refl, ⊤, Bool, true, false, List, [], ◌∷◌, ◌++◌, ℕ, ◌+◌, ◌≤◌, ◌<◌, ltb, length, drop}
use Rattle.std.proofs.Common.{ap, sym, subst, arith, length-drop, ltb-true, ltb-false}
use Rattle.derivation.specs.declared.arrays.Derivation.{Derivation}
use Rattle.derivation.specs.declared.arrays.Derivation.TheVariants.{At, Behind, NoRoom}
use Rattle.derivation.specs.Derived.{Roomed}
use Rattle.derivation.specs.Arms.{Decided}

pub by_order : {A : Type 0} (r n : ℕ) → (r < n → A) → (n ≤ r → A) → A
by_order {A} r n f g = go (ltb r n) refl
  where
    go : (b : Bool) → ltb r n ≡ b → A
    go true e = f (ltb-true r n e)
    go false e = g (ltb-false r n e)

-- ── which answers are the same ──

abbrev place_of : Derivation → ℕ
place_of (At i) = i
place_of (Behind j left) = 0
place_of NoRoom = 0

abbrev due_of : Derivation → ℕ
due_of (At i) = 0
due_of (Behind j left) = j
due_of NoRoom = 0

abbrev left_of : Derivation → ℕ
left_of (At i) = 0
left_of (Behind j left) = left
left_of NoRoom = 0

abbrev IsPlace : Derivation → Type 0
IsPlace (At i) = ⊤
IsPlace (Behind j left) = ⊥
IsPlace NoRoom = ⊥

pub same_place : {i j : ℕ} → At i ≡ At j → i ≡ j
same_place e = ap place_of e

pub same_rest : {i j m n : ℕ} → Behind i m ≡ Behind j n → (i ≡ j) × (m ≡ n)
same_rest e = (ap due_of e, ap left_of e)

pub no_rest : {A : Type 0} {i j left : ℕ} → At i ≡ Behind j left → A
no_rest e = absurd (subst IsPlace e tt)

pub not_lost : {A : Type 0} {r : Derivation} → Roomed r → r ≡ NoRoom → A
not_lost z e = absurd (subst Roomed e z)

-- ── a decision written before the path ──

pub sized : {c n m : ℕ} {r q : Derivation} {entry exit : List ℕ} → n ≡ m → Decided (c ∷ n ∷ []) r entry exit q → Decided (c ∷ m ∷ []) r entry exit q
sized {c} {n} {m} {r} {q} {entry} {exit} e h = subst (λ i. Decided (c ∷ i ∷ []) r entry exit q) e h

module _ {o mid exit : List ℕ} where
  pub decided_as : {r s q : Derivation} → r ≡ s → Decided o r mid exit q → Decided o s mid exit q
  decided_as {r} {s} {q} e h = subst (λ d. Decided o d mid exit q) e h

  pub before_room : {r q : Derivation} → Decided o r mid exit q → Roomed q → Roomed r
  before_room {r = At i} h z = tt
  before_room {r = Behind j left} h z = tt
  before_room {r = NoRoom} h z = not_lost z h.wrote

  pub decided_room : {r q : Derivation} → Decided o r mid exit q → Roomed r → ((i : ℕ) → r ≡ At i → length o ≤ i) → Roomed q
  decided_room {r = At i} {q = At j} h z f = tt
  decided_room {r = At i} {q = Behind j left} h z f = tt
  decided_room {r = At i} {q = NoRoom} h z f = let w : i < length o = h.wrote in absurd (omega (arith, w, f i refl))
  decided_room {r = Behind j left} h z f = subst Roomed (sym h.wrote) tt
  decided_room {r = NoRoom} h z f = absurd z

  pub decided_place : {i : ℕ} {q : Derivation} → Decided o (At i) mid exit q → Roomed q → (j : ℕ) × (q ≡ At j) × (j + length o ≡ i) × (drop j exit ≡ o ++ drop i mid)
  decided_place {q = At j} h z = (j, refl, h.wrote.0, h.wrote.1)
  decided_place {q = Behind j left} h z = absurd h.wrote
  decided_place {q = NoRoom} h z = absurd z

-- Before a path that is at least w words shorter than the array, at least w words are free.
pub place_room : (w r : ℕ) (x p : List ℕ) → r ≤ length x → drop r x ≡ p → w + length p ≤ length x → w ≤ r
place_room w r x p a e l = omega (arith, ap length e, length-drop r x)
