-- Numbers written one after the other into an array, from some place on (document 01, "Moves, in order").
use mathlib.Core.Path.{◌≡◌, refl, sym, ap, ◌∙◌, subst}
use mathlib.Core.Bool.{Bool, true, false, cond, not}
use Rattle.std.proofs.Math.Decide.{ℕ_discrete}
use mathlib.Core.List.{List, [], ◌∷◌, ◌++◌, append_assoc, append-nil}
use Prim.Native.Nat.{ℕ, ◌+◌, ◌≤◌, ◌<◌}
use native.Mathlib.Numerals.{add-one}
use native.Mathlib.Omega.{arith}
use lib.ListN.{length, take, drop, get_or, length-append, length-drop, take-append-drop}
use lib.Seq.{length-take-le, drop-cons, take_at, drop_at, drop-drop}
use borrow.Author.Tests.{eq-eqb, ne_eqb}
use Rattle.std.specs.Prelude.{Option, Some, None, eqb, ⊤}
use Rattle.std.proofs.lemmas.List.{at_drop_all}
use Rattle.listing.specs.declared.combining.Out.{Out}
use Rattle.listing.specs.Combining.{outside, equal_to, pairs, Written, Wrote}
use Rattle.listing.specs.Putting.{Puts}

pub written_none : (e : ℕ) (x : List ℕ) → e ≤ length x → Written [] e x x e
written_none e x h = record { end = omega arith; inside = h; text = sym (take-append-drop e x) }

module _ {o : List ℕ} {e : ℕ} {x y : List ℕ} {at : ℕ} (w : Written o e x y at) where
  begin : e ≤ length x
  begin = omega (arith, w.end, w.inside)

  front_length : length (take e x ++ o) ≡ at
  front_length = length-append (take e x) o ∙ ap (λ n. n + length o) (length-take-le e x begin) ∙ sym w.end

  text_front : y ≡ (take e x ++ o) ++ drop at x
  text_front = w.text ∙ sym (append_assoc (take e x) o (drop at x))

  pub written_length : length y ≡ length x
  written_length = omega (arith, ap length text_front, length-append (take e x ++ o) (drop at x), front_length, length-drop at x, w.inside)

  pub written_take : take at y ≡ take e x ++ o
  written_take = ap (take at) text_front ∙ take_at (take e x ++ o) (drop at x) at front_length

  written_drop : drop at y ≡ drop at x
  written_drop = ap (drop at) text_front ∙ drop_at (take e x ++ o) (drop at x) at front_length

  pub written_more : {p z : List ℕ} {r : ℕ} → Written p at y z r → Written (o ++ p) e x z r
  written_more {p} {z} {r} v =
      let d : drop r y ≡ drop r x =
      ap (λ n. drop n y) v.end ∙ sym (drop-drop (length p) at y) ∙ ap (drop (length p)) written_drop
      ∙ drop-drop (length p) at x ∙ ap (λ n. drop n x) (sym v.end) in
      record {
        end = omega (arith, w.end, v.end, length-append o p);
        inside = omega (arith, v.inside, written_length);
        text = v.text ∙ ap (λ l. l ++ (p ++ drop r y)) written_take ∙ ap (λ l. (take e x ++ o) ++ (p ++ l)) d
            ∙ append_assoc (take e x) o (p ++ drop r x) ∙ ap (λ l. take e x ++ l) (sym (append_assoc o p (drop r x)));
      }

-- ── on the way ──

-- Of all that is to be written, todo is still to be.
pub record Writing (all : List ℕ) (e : ℕ) (x0 x : List ℕ) (at : ℕ) (todo : List ℕ) : Type 0 where
  pub done : List ℕ
  pub split : all ≡ done ++ todo
  pub so_far : Written done e x0 x at

pub writing_start : (all : List ℕ) (e : ℕ) (x : List ℕ) → e ≤ length x → Writing all e x x e all
writing_start all e x h = record { done = []; split = refl; so_far = written_none e x h }

module _ {all : List ℕ} {e : ℕ} {x0 x : List ℕ} {at : ℕ} {todo : List ℕ} (w : Writing all e x0 x at todo) where
  pub writing_pass : {rest : List ℕ} → todo ≡ rest → Writing all e x0 x at rest
  writing_pass h = record { done = w.done; split = w.split ∙ ap (λ l. w.done ++ l) h; so_far = w.so_far }

  -- the next numbers had no room
  pub writing_lost : {p y : List ℕ} (rest : List ℕ) → todo ≡ p ++ rest → Wrote p at x y None → Wrote all e x0 y None
  writing_lost {p} {y} rest h v = record {
    same_length = v.same_length ∙ written_length w.so_far;
    written = omega (arith, v.written, written_length w.so_far, w.so_far.end, ap length w.split, length-append w.done todo, ap length h, length-append p rest);
  }

  pub writing_next : {p y rest : List ℕ} {r : ℕ} → todo ≡ p ++ rest → Wrote p at x y (Some r) → Writing all e x0 y r rest
  writing_next {p} {y} {rest} h v = record {
    done = w.done ++ p;
    split = w.split ∙ ap (λ t. w.done ++ t) h ∙ sym (append_assoc w.done p rest);
    so_far = written_more w.so_far v.written;
  }

  pub writing_ends : todo ≡ [] → Wrote all e x0 x (Some at)
  writing_ends h = record { same_length = written_length w.so_far; written = rw (w.split ∙ ap (λ t. w.done ++ t) h ∙ append-nil w.done) w.so_far }

-- ── by the writer ──

-- Of all that is to be written by the writer that was b and is e, todo is still to be.
pub record Putting (all : List ℕ) (b e : Out) (todo : List ℕ) : Type 0 where
  pub same_array : e.numbers.ghost_name ≡ b.numbers.ghost_name
  pub so_far : Writing all b.at b.numbers.now e.numbers.now e.at todo

pub putting_start : (all : List ℕ) (b : Out) → b.at ≤ length b.numbers.now → Putting all b b all
putting_start all b h = record { same_array = refl; so_far = writing_start all b.at b.numbers.now h }

module _ {all : List ℕ} {b e : Out} {todo : List ℕ} (w : Putting all b e todo) where
  pub putting_pass : {rest : List ℕ} → todo ≡ rest → Putting all b e rest
  putting_pass h = record { same_array = w.same_array; so_far = writing_pass w.so_far h }

  pub putting_lost : {p : List ℕ} {f : Out} (rest : List ℕ) → todo ≡ p ++ rest → Puts p e f None → Puts all b f None
  putting_lost rest h v = record { same_array = v.same_array ∙ w.same_array; wrote = writing_lost w.so_far rest h v.wrote }

  pub putting_next : {p rest : List ℕ} {f : Out} (t : ⊤) → todo ≡ p ++ rest → Puts p e f (Some t) → Putting all b f rest
  putting_next t h v = record { same_array = v.same_array ∙ w.same_array; so_far = writing_next w.so_far h v.wrote }

  pub putting_ends : (t : ⊤) → todo ≡ [] → Puts all b e (Some t)
  putting_ends t h = record { same_array = w.same_array; wrote = writing_ends w.so_far h }

-- ── the three lists, step by step ──

module _ (i : ℕ) (x : List ℕ) (h : i < length x) where
  drop_next : drop i x ≡ get_or x i 0 ∷ drop (i + 1) x
  drop_next = rw add-one (drop-cons x i 0 h)

  pub outside_in : (p : ℕ → Bool) → true ≡ p (get_or x i 0) → outside p (drop i x) ≡ outside p (drop (i + 1) x)
  unfolding outside
  outside_in p e = ap (outside p) drop_next ∙ ap (λ b. cond b (outside p (drop (i + 1) x)) (get_or x i 0 ∷ outside p (drop (i + 1) x))) (sym e)

  pub outside_out : (p : ℕ → Bool) → false ≡ p (get_or x i 0) → outside p (drop i x) ≡ (get_or x i 0 ∷ []) ++ outside p (drop (i + 1) x)
  unfolding outside
  outside_out p e = ap (outside p) drop_next ∙ ap (λ b. cond b (outside p (drop (i + 1) x)) (get_or x i 0 ∷ outside p (drop (i + 1) x))) (sym e)

  pub pairs_in : (p : ℕ → Bool) (ys : List ℕ) → true ≡ p (get_or x i 0) → pairs p (drop i x) ys ≡ equal_to (get_or x i 0) ys ++ pairs p (drop (i + 1) x) ys
  unfolding pairs
  pairs_in p ys e = ap (λ l. pairs p l ys) drop_next ∙ ap (λ b. cond b (equal_to (get_or x i 0) ys) [] ++ pairs p (drop (i + 1) x) ys) (sym e)

  pub pairs_out : (p : ℕ → Bool) (ys : List ℕ) → false ≡ p (get_or x i 0) → pairs p (drop i x) ys ≡ pairs p (drop (i + 1) x) ys
  unfolding pairs
  pairs_out p ys e = ap (λ l. pairs p l ys) drop_next ∙ ap (λ b. cond b (equal_to (get_or x i 0) ys) [] ++ pairs p (drop (i + 1) x) ys) (sym e)

-- what is outside the numbers that differ from a is what equals it
pub outside_different : (a : ℕ) (xs : List ℕ) → outside (λ b. not (eqb b a)) xs ≡ equal_to a xs
unfolding outside equal_to
outside_different a [] = refl
outside_different a (x ∷ xs) = go (outside_different a xs) (ℕ_discrete x a)
  where
    go : outside (λ b. not (eqb b a)) xs ≡ equal_to a xs → Dec (x ≡ a) → outside (λ b. not (eqb b a)) (x ∷ xs) ≡ equal_to a (x ∷ xs)
    go ih (yes e) = ap (λ b. cond (not b) (outside (λ b. not (eqb b a)) xs) (x ∷ outside (λ b. not (eqb b a)) xs)) (eq-eqb x a e)
        ∙ ap (λ n. n ∷ outside (λ b. not (eqb b a)) xs) e ∙ ap (λ l. a ∷ l) ih
        ∙ sym (ap (λ b. cond b (a ∷ equal_to a xs) (equal_to a xs)) (eq-eqb x a e))
    go ih (no n) = ap (λ b. cond (not b) (outside (λ b. not (eqb b a)) xs) (x ∷ outside (λ b. not (eqb b a)) xs)) (ne_eqb x a n)
        ∙ ih ∙ sym (ap (λ b. cond b (a ∷ equal_to a xs) (equal_to a xs)) (ne_eqb x a n))

pub puts_equal : (a : ℕ) (xs : List ℕ) {b e : Out} {r : Option ⊤} → Puts (outside (λ b. not (eqb b a)) xs) b e r → Puts (equal_to a xs) b e r
puts_equal a xs {b} {e} {r} w = subst (λ l. Puts l b e r) (outside_different a xs) w

-- ── all that there are are read ──

module _ (i : ℕ) (x : List ℕ) (h : length x ≤ i) where
  pub outside_end : (p : ℕ → Bool) → outside p (drop i x) ≡ []
  unfolding outside
  outside_end p = at_drop_all (outside p) x i h

  pub pairs_end : (p : ℕ → Bool) (ys : List ℕ) → pairs p (drop i x) ys ≡ []
  unfolding pairs
  pairs_end p ys = at_drop_all (λ l. pairs p l ys) x i h
