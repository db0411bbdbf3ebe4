-- Words written whole, and what began with them closed: a case for each way that the writing of words returns.
use mathlib.Core.Path.{◌≡◌, refl, sym, ap, ◌∙◌, subst}
use mathlib.Core.Bool.{Bool, true, false}
use mathlib.Core.List.{List, ◌++◌, append_assoc}
use Prim.Native.Nat.{ℕ, ◌+◌, ◌-◌, ◌*◌, ◌≤◌, ◌<◌}
use native.Mathlib.Omega.{arith}
use lib.ListN.{length, take, drop, length-append, length-drop}
use Rattle.eb3.specs.Bytes.{written}
use Rattle.words.specs.Checking.{last_of}
use Rattle.words.specs.Laws.Checking.{part, back_rest}
use Rattle.writing.specs.Wrote.{Wrote}
use Rattle.successors.specs.Parts.{Bounded, Unbuilt, Made, Whole, Added, Going, with_right, Closed}
use Rattle.successors.specs.declared.Built.{Built}
use Rattle.successors.proofs.Ends.{last_split, between_length, same_before}
use Rattle.successors.proofs.Writes.{never, had_room, room_there, written_behind, lent, back, back_length}

pub bounded_within : {n m n' m' : ℕ} {x y z : List ℕ} {r : Built} → Bounded n m y z r → length y ≡ length x → n ≤ n' → m ≤ m' → Bounded n' m' x z r
bounded_within b e h k = record {
  same_length = b.same_length ∙ e;
  left_bounded = omega (arith, b.left_bounded);
  due_bounded = omega (arith, b.due_bounded);
  path_bounded = omega (arith, b.path_bounded);
  size_bounded = omega (arith, b.size_bounded);
}

-- With the right operand one more term is due.
pub right_bounded : {n m m' : ℕ} {x y : List ℕ} {X : Built} → Bounded n m x y X → X.due + 1 ≤ n → m ≤ m' → Bounded n m' x y (with_right X)
right_bounded b h k = record { same_length = b.same_length; left_bounded = b.left_bounded; due_bounded = h; path_bounded = omega (arith, b.path_bounded); size_bounded = b.size_bounded }

pub unbuilt_bounded : (n m : ℕ) {x y : List ℕ} {r : Built} → length y ≡ length x → Unbuilt r → Bounded n m x y r
unbuilt_bounded n m e u = record { same_length = e; left_bounded = omega (arith, u.left); due_bounded = omega (arith, u.due); path_bounded = omega (arith, u.path_left); size_bounded = omega (arith, u.words) }

unbuilt_made : {o : List ℕ} {a n m : ℕ} {x y : List ℕ} {r : Built} → (2 * length o ≤ length x → ⊥) → Unbuilt r → Made o a n m x y r
unbuilt_made f u = record { has_room = λ h. absurd (f h); right = λ k. absurd (never k u.ok) }

-- The same words, with another number of words left.
pub made_left : {o : List ℕ} {a n m : ℕ} {x y : List ℕ} {r : Built} (left : ℕ) → Made o a n m x y r
    → Made o a left m x y (record { ok = r.ok; action = r.action; words = r.words; left = left; due = 0; path_left = r.path_left })
made_left left g = record {
  has_room = g.has_room;
  right = λ k.
      let f = g.right k in
      record { action = f.action; size = f.size; left = refl; due = refl; path_left = f.path_left; written_there = f.written_there };
}

-- ── words at the beginning ──

module _ (o x y : List ℕ) (a n m : ℕ) (b : Bool) (h : Wrote o x y b) where
  pub wrote_whole : b ≡ true → Whole o a n m x y (record { ok = true; action = a; words = length o; left = n; due = 0; path_left = m })
  wrote_whole e = record {
    bounds = record { same_length = h.same_length; left_bounded = omega arith; due_bounded = omega arith; path_bounded = omega arith; size_bounded = had_room o x y b h e };
    made = record { has_room = λ _. refl; right = λ _. record { action = refl; size = refl; left = refl; due = refl; path_left = refl; written_there = h.right e } };
  }

  pub whole_lost : (f : Built) → b ≡ false → Unbuilt f → Whole o a n m x y f
  whole_lost f e u = record {
    bounds = unbuilt_bounded n m h.same_length u;
    made = unbuilt_made (λ k. never (room_there o x y b h k) e) u;
  }

-- ── words after others ──

module _ (w : List ℕ) (X : Built) (x z : List ℕ) (b : Bool) (room : 2 * X.words ≤ length x) (ok : X.ok ≡ true) (given : Wrote w (lent (2 * X.words) x) z b) where
  here : Wrote w (drop (2 * X.words) x) z b
  here = subst (λ l. Wrote w l z b) (part (2 * X.words) x) given

  rest_length : length (drop (2 * X.words) x) ≡ length x - 2 * X.words
  rest_length = length-drop (2 * X.words) x

  same : length (back (2 * X.words) x z) ≡ length x
  same = back_length x z (2 * X.words) room here.same_length

  pub added : b ≡ true → Added w X x (back (2 * X.words) x z) (record { ok = X.ok; action = X.action; words = X.words + length w; left = X.left; due = 0; path_left = X.path_left })
  added e = record {
    bounds = record {
      same_length = same;
      left_bounded = omega arith;
      due_bounded = omega arith;
      path_bounded = omega arith;
      size_bounded = omega (arith, had_room w (drop (2 * X.words) x) z b here e, rest_length, room);
    };
    has_room = λ _ _. ok;
    right = λ _. record {
      before = ok;
      action = refl;
      size = refl;
      left = refl;
      due = refl;
      path_left = refl;
      written_there = back_rest x z (2 * X.words) ∙ ap (λ l. take (2 * X.words) x ++ l) (here.right e);
    };
  }

  pub added_lost : (f : Built) → b ≡ false → Unbuilt f → Added w X x (back (2 * X.words) x z) f
  added_lost f e u = record {
    bounds = unbuilt_bounded X.left X.path_left same u;
    has_room = λ _ k. absurd (never (room_there w (drop (2 * X.words) x) z b here (omega (arith, rest_length))) e);
    right = λ k. absurd (never k u.ok);
  }

-- Words after others that were written whole are written whole with them.
pub added_made : (o w b x y : List ℕ) (a n m : ℕ) (X r : Built) → length x ≡ length b → 2 * X.words ≤ length x → Made o a n m b x X → Added w X x y r → Made (o ++ w) a n m b y r
added_made o w b x y a n m X r same fits M A = record {
  has_room = λ k.
      let l : length (o ++ w) ≡ length o + length w = length-append o w in
      let ok : X.ok ≡ true = M.has_room (omega arith) in
      let s : X.words ≡ length o = (M.right ok).size in
      A.has_room ok (omega (arith, l, s, same));
  right = λ ok.
      let g = A.right ok in
      let f = M.right g.before in
      let s : X.words ≡ length o = f.size in
      record {
        action = g.action ∙ f.action;
        size = omega (arith, g.size, s, length-append o w);
        left = g.left ∙ f.left;
        due = g.due;
        path_left = g.path_left ∙ f.path_left;
        written_there = g.written_there ∙ written_behind o w b x (2 * X.words) (omega (arith, s, fits, same)) (omega (arith, s)) f.written_there;
      };
}

-- ── what began, closed ──

module _ (t : List ℕ) (X : Built) (e : ℕ) (x : List ℕ) (inside : X.left ≤ length t) (room : 2 * X.words ≤ length x) where
  pub closed_none : (f : Built) → X.left < e → Unbuilt f → Closed t X e x x f
  closed_none f h u = record {
    bounds = unbuilt_bounded e X.path_left refl u;
    before = λ k. absurd (never k u.ok);
    made = λ o rest b a m same B i j. unbuilt_made (λ k. let g : length rest ≤ X.left = (B.right (B.has_room k)).behind in omega (arith, g, h, j)) u;
  }

  abbrev between : List ℕ
  between = take ((length t - e) - (length t - X.left)) (drop (length t - X.left) t)

  pub closed : (y : List ℕ) (Y : Built) → e ≤ X.left → Added between X x y Y → Closed t X e x y (record { ok = Y.ok; action = Y.action; words = Y.words; left = e; due = 0; path_left = Y.path_left })
  closed y Y h A = record {
    bounds = record { same_length = A.bounds.same_length; left_bounded = omega arith; due_bounded = omega arith; path_bounded = A.bounds.path_bounded; size_bounded = A.bounds.size_bounded };
    before = λ k. (A.right k).before;
    made = λ o rest b a m same B i j.
        let l : length between ≡ X.left - e = between_length t X.left e h inside in
        record {
          has_room = λ k.
              let ok : X.ok ≡ true = B.has_room k in
              let q : o ≡ (B.right ok).part ++ between = whole o rest b a m B i ok in
              let s : X.words ≡ length (B.right ok).part = (B.right ok).size in
              A.has_room ok (omega (arith, s, ap length q, length-append (B.right ok).part between, same));
          right = λ k.
              let g = A.right k in
              let f = B.right g.before in
              let q : o ≡ f.part ++ between = whole o rest b a m B i g.before in
              let s : X.words ≡ length f.part = f.size in
              record {
                action = g.action ∙ f.action;
                size = omega (arith, g.size, s, ap length q, length-append f.part between);
                left = refl;
                due = refl;
                path_left = g.path_left ∙ f.path_left;
                written_there = g.written_there ∙ (written_behind f.part between b x (2 * X.words) (omega (arith, s, room, same)) (omega (arith, s)) f.written_there ∙ ap (λ z. written z b) (sym q));
              };
        };
  }
    where
      whole : (o rest b : List ℕ) (a m : ℕ) (B : Going t o rest a m b x X) → last_of e t ≡ rest → (ok : X.ok ≡ true) → o ≡ (B.right ok).part ++ between
      whole o rest b a m B i ok =
          let f = B.right ok in
          same_before o (f.part ++ between) rest
          (f.onward
          ∙ (ap (λ z. f.part ++ z) (last_split t X.left e h inside ∙ ap (λ z. between ++ z) i) ∙ sym (append_assoc f.part between rest)))
