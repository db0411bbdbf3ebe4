-- The beginning of a successor: carried over to longer words, after words that are already written, and the term known by its first word.
use mathlib.Core.Path.{◌≡◌, refl, sym, ap, ◌∙◌, subst}
use mathlib.Core.Bool.{true}
use mathlib.Core.List.{List, [], ◌∷◌, ◌++◌, append-nil, append_assoc}
use Prim.Native.Nat.{ℕ, ◌+◌, ◌-◌, ◌*◌, ◌≤◌}
use native.Mathlib.Omega.{arith}
use lib.ListN.{length, take, drop, get_or, length-append, length-drop}
use Rattle.eb3.specs.Expressions.{Cond}
use Rattle.eb3.specs.Scopes.{Scope}
use Rattle.eb3.specs.Terms.{Term, Perform, Sequence, Choice, Star, Parallel, Guard, VisibleAction, Mask}
use Rattle.eb3.specs.Spelling.{words}
use Rattle.words.specs.Checking.{last_of}
use Rattle.words.specs.Ends.{Tail}
use Rattle.words.specs.Laws.Checking.{part, back_rest}
use Rattle.actions.specs.Codes.{action_code}
use Rattle.listing.specs.Listing.{Fits, TermAt}
use Rattle.listing.specs.Rows.{terms_words}
use Rattle.eb3.specs.Generic.AllLists.{all_append}
use Rattle.listing.specs.Laws.Rows.{terms_append}
use Rattle.listing.specs.Laws.Positions.{term_front}
use Rattle.listing.specs.Laws.ByCode.{by_perform as of_perform, by_sequence as of_sequence, by_choice as of_choice, by_star as of_star, by_parallel as of_parallel, by_guard as of_guard}
use Rattle.paths.specs.Paths.{follow, marked}
use Rattle.successors.specs.Building.{built_words, Building}
use Rattle.successors.specs.Parts.{Bounded, Made, Whole, Going, Begun, BegunOf, Beginning, Behind, After, with_right, Closed}
use Rattle.successors.specs.Unchanged.{Unchanged}
use Rattle.successors.specs.declared.Built.{Built}
use Rattle.successors.proofs.Ends.{last_within, last_none}
use Rattle.successors.proofs.Writes.{written_behind, lent, back, back_length}
use Rattle.successors.proofs.Made.{bounded_within}

-- ── one beginning out of another ──

row_longer : (w : ℕ) (Es : List Term) (F : Term) (rest : List ℕ) → terms_words w Es ++ (words w F ++ rest) ≡ terms_words w (Es ++ (F ∷ [])) ++ rest
row_longer w Es F rest =
    sym (append_assoc (terms_words w Es) (words w F) rest) ∙ ap (λ l. l ++ rest) (sym (terms_append w Es (F ∷ []) ∙ ap (λ l. terms_words w Es ++ l) (append-nil (words w F))))

-- What goes on with the last words of an end of s goes on with those of s.
pub begun_within : {P : Scope} {s u o rest : List ℕ} {a m : ℕ} {x y : List ℕ} {r : Built} → Tail u s → r.left ≤ length u → Begun P u o rest a m x y r → Begun P s o rest a m x y r
begun_within {P} {s} {u} {o} {rest} {a} {m} {x} {y} {r} t l g =
    let e : last_of r.left u ≡ last_of r.left s = last_within s u r.left t l in
    record {
      going = record {
        has_room = g.going.has_room;
        right = λ k.
            let f = g.going.right k in
            record {
              part = f.part;
              action = f.action;
              path_left = f.path_left;
              size = f.size;
              behind = f.behind;
              onward = f.onward ∙ ap (λ z. f.part ++ z) e;
              written_there = f.written_there;
            };
      };
      stands = λ k.
          let f = g.stands k in
          record { standing = f.standing; due = f.due; fit = f.fit; there = sym e ∙ f.there };
    }

-- The words o followed by rest, which are equal to the words o' followed by rest'.
pub going_as : {s : List ℕ} {a m : ℕ} {x y : List ℕ} {r : Built} (o rest o' rest' : List ℕ) → o ++ rest ≡ o' ++ rest' → length rest ≤ length rest' → Going s o' rest' a m x y r → Going s o rest a m x y r
going_as {s} {a} {m} {x} {y} {r} o rest o' rest' e h g = record {
  has_room = λ k. g.has_room (omega (arith, k, h, ap length e, length-append o rest, length-append o' rest'));
  right = λ k.
      let f = g.right k in
      let b : length rest' ≤ r.left = f.behind in
      record {
        part = f.part;
        action = f.action;
        path_left = f.path_left;
        size = f.size;
        behind = omega (arith, b, h);
        onward = e ∙ f.onward;
        written_there = f.written_there;
      };
}

-- An operand F that comes after the one that moves, and stays, belongs to the successor.
pub begun_longer : {P : Scope} {s rest : List ℕ} {a m : ℕ} {x y : List ℕ} {r : Built} (o : List ℕ) (F : Term) (w : List ℕ) → Fits P F → w ≡ o ++ words P.edition.width F → Begun P s o (words P.edition.width F ++ rest) a m x y r → Begun P s w rest a m x y (with_right r)
begun_longer {P} {s} {rest} {a} {m} {x} {y} {r} o F w fits e g =
    let here = going_as w rest o (words P.edition.width F ++ rest) (ap (λ z. z ++ rest) e ∙ append_assoc o (words P.edition.width F) rest) (omega (arith, length-append (words P.edition.width F) rest)) g.going in
    record {
      going = record {
        has_room = here.has_room;
        right = λ k.
            let f = here.right k in
            record { part = f.part; action = f.action; path_left = f.path_left; size = f.size; behind = f.behind; onward = f.onward; written_there = f.written_there };
      };
      stands = λ k.
          let f = g.stands k in
          let d : r.due ≡ length f.standing = f.due in
          record {
            standing = f.standing ++ (F ∷ []);
            due = omega (arith, d, length-append f.standing (F ∷ []));
            fit = all_append (Fits P) f.standing (F ∷ []) f.fit (fits, tt);
            there = f.there ∙ row_longer P.edition.width f.standing F rest;
          };
    }

-- What holds where X was built, of what is built only there.
pub begun_where : {P : Scope} {s o rest : List ℕ} {a m : ℕ} {x y : List ℕ} {r : Built} (X : Built) → (2 * length o ≤ length x → X.ok ≡ true) → (r.ok ≡ true → X.ok ≡ true) → (X.ok ≡ true → Begun P s o rest a m x y r) → Begun P s o rest a m x y r
begun_where X room before f = record { going = record { has_room = λ k. (f (room k)).going.has_room k; right = λ k. (f (before k)).going.right k }; stands = λ k. (f (before k)).stands k }

-- What is written whole, with the rest at the end of s.
pub whole_begun : {P : Scope} {s o rest : List ℕ} {a m : ℕ} {x y : List ℕ} {r : Built} (n : ℕ) → n ≡ length rest → last_of n s ≡ rest → Made o a n m x y r → Begun P s o rest a m x y r
whole_begun {P} {s} {o} {rest} {a} {m} {x} {y} {r} n e l g = record {
  going = record {
    has_room = g.has_room;
    right = λ k.
        let f = g.right k in
        let q : r.left ≡ n = f.left in
        record {
          part = o;
          action = f.action;
          path_left = f.path_left;
          size = f.size;
          behind = omega (arith, e, q);
          onward = ap (λ z. o ++ z) (sym (ap (λ j. last_of j s) q ∙ l));
          written_there = f.written_there;
        };
  };
  stands = λ k. record { standing = []; due = (g.right k).due; fit = tt; there = ap (λ j. last_of j s) (g.right k).left ∙ l };
}

-- ── after words that are already written ──

module _ (X : Built) (u p x : List ℕ) where
  pub behind_begun : (z : List ℕ) (Y : Built) → 2 * X.words ≤ length x → X.ok ≡ true → Beginning u p (lent (2 * X.words) x) z Y
      → Behind X u p x (back (2 * X.words) x z) (record { ok = Y.ok; action = Y.action; words = X.words + Y.words; left = Y.left; due = Y.due; path_left = Y.path_left })
  behind_begun z Y room ok given =
      let here : Beginning u p (drop (2 * X.words) x) z Y = subst (λ l. Beginning u p l z Y) (part (2 * X.words) x) given in
      let rest_length : length (drop (2 * X.words) x) ≡ length x - 2 * X.words = length-drop (2 * X.words) x in
      record {
        bounds = record {
          same_length = back_length x z (2 * X.words) room here.bounds.same_length;
          left_bounded = here.bounds.left_bounded;
          due_bounded = here.bounds.due_bounded;
          path_bounded = here.bounds.path_bounded;
          size_bounded = omega (arith, here.bounds.size_bounded, rest_length, room);
        };
        before = λ _. ok;
        begun = λ h b a n m same M P E rest i j.
            let g = here.begun P E rest i j in
            let s : X.words ≡ length h = (M.right ok).size in
            record {
              going = record {
                has_room = λ k. g.going.has_room (omega (arith, s, rest_length, same, length-append h (built_words P.edition.width E p)));
                right = λ k.
                    let f = g.going.right k in
                    let y : Y.words ≡ length f.part = f.size in
                    record {
                      part = h ++ f.part;
                      action = f.action;
                      path_left = f.path_left;
                      size = omega (arith, s, y, length-append h f.part);
                      behind = f.behind;
                      onward = append_assoc h (built_words P.edition.width E p) rest ∙ (ap (λ l. h ++ l) f.onward ∙ sym (append_assoc h f.part (last_of Y.left u)));
                      written_there = back_rest x z (2 * X.words) ∙ (ap (λ l. take (2 * X.words) x ++ l) f.written_there ∙ written_behind h f.part b x (2 * X.words) (omega (arith, s, room, same)) (omega (arith, s)) (M.right ok).written_there);
                    };
              };
              stands = λ k.
                  let f = g.stands k in
                  record { standing = f.standing; due = f.due; fit = f.fit; there = f.there };
            };
      }

-- Behind the first words of s.
pub after_head : (s : List ℕ) (n : ℕ) (p x y z : List ℕ) (X r : Built) → n ≤ length s → Whole (take n s) 0 0 0 x y X → Behind X (lent n s) p y z r → After s n p x z r
after_head s n p x y z X r long W given =
    let B : Behind X (drop n s) p y z r = subst (λ l. Behind X l p y z r) (part n s) given in
    record {
      bounds = bounded_within B.bounds W.bounds.same_length (omega (arith, length-drop n s)) (omega arith);
      due_behind = omega (arith, B.bounds.due_bounded, length-drop n s, long);
      begun = λ P E rest i j. begun_within (n, refl) B.bounds.left_bounded (B.begun (take n s) x 0 0 0 W.bounds.same_length W.made P E rest i j);
    }

-- ── the whole term ──

-- After the words that stay come the operand's successor and then all words after the operand: this is the whole successor.
pub built : (s p : List ℕ) (n l : ℕ) (x y z : List ℕ) (X r : Built) → Unchanged s p n l → After s n (lent l p) x y X → Closed s X 0 y z r → Building s p x z r
built s p n l x y z X r U given C = record {
  same_length = C.bounds.same_length ∙ given.bounds.same_length;
  has_room = λ P E i j k. (made P E i j).has_room k;
  right = λ P E i j k.
      let f = (made P E i j).right k in
      record { action = f.action ∙ ap action_code (sym (U.ahead P E [] i j).same_action); size = f.size; written_there = f.written_there };
}
  where
    q : List ℕ
    q = drop l p

    A : After s n q x y X
    A = subst (λ c. After s n c x y X) (part l p) given

    made : (P : Scope) (E : Term) (i : TermAt s P E []) (j : marked P.edition.width E p ≡ true)
        → Made (built_words P.edition.width E p) (action_code (follow (U.ahead P E [] i j).operand q).action) 0 (length (follow (U.ahead P E [] i j).operand q).rest) x z r
    made P E i j =
        let u = U.ahead P E [] i j in
        let h = take n s in
        let o = built_words P.edition.width u.operand q in
        let e : built_words P.edition.width E p ++ [] ≡ (h ++ o) ++ u.behind = u.stays ∙ sym (append_assoc h o u.behind) in
        let g = going_as (built_words P.edition.width E p) [] (h ++ o) u.behind e (omega arith) (A.begun P u.operand u.behind u.there u.led).going in
        C.made (built_words P.edition.width E p) [] x (action_code (follow u.operand q).action) (length (follow u.operand q).rest) A.bounds.same_length g (last_none s) refl

-- ── the term known by its first word ──

module _ (s p x y : List ℕ) (r : Built) (b : Bounded (length s) (length p) x y r) where
  abbrev Led : Scope → List ℕ → Term → Type 0
  Led P rest G = TermAt s P G rest → marked P.edition.width G p ≡ true → BegunOf P s (follow G p) rest x y r

  pub by_action : get_or s 0 0 ≡ 21 → ((P : Scope) (rest : List ℕ) (a : VisibleAction) → Led P rest (Perform a)) → Beginning s p x y r
  by_action e f = record { bounds = b; begun = λ P G rest t. of_perform (Led P rest) (f P rest) G (sym e ∙ term_front s P G rest t) t }

  pub by_sequence : get_or s 0 0 ≡ 22 → ((P : Scope) (rest : List ℕ) (E F : Term) → Led P rest (Sequence E F)) → Beginning s p x y r
  by_sequence e f = record { bounds = b; begun = λ P G rest t. of_sequence (Led P rest) (f P rest) G (sym e ∙ term_front s P G rest t) t }

  pub by_choice : get_or s 0 0 ≡ 23 → ((P : Scope) (rest : List ℕ) (E F : Term) → Led P rest (Choice E F)) → Beginning s p x y r
  by_choice e f = record { bounds = b; begun = λ P G rest t. of_choice (Led P rest) (f P rest) G (sym e ∙ term_front s P G rest t) t }

  pub by_star : get_or s 0 0 ≡ 24 → ((P : Scope) (rest : List ℕ) (E : Term) → Led P rest (Star E)) → Beginning s p x y r
  by_star e f = record { bounds = b; begun = λ P G rest t. of_star (Led P rest) (f P rest) G (sym e ∙ term_front s P G rest t) t }

  pub by_parallel : get_or s 0 0 ≡ 25 → ((P : Scope) (rest : List ℕ) (Δ : Mask) (E F : Term) → Led P rest (Parallel Δ E F)) → Beginning s p x y r
  by_parallel e f = record { bounds = b; begun = λ P G rest t. of_parallel (Led P rest) (f P rest) G (sym e ∙ term_front s P G rest t) t }

  pub by_guard : get_or s 0 0 ≡ 26 → ((P : Scope) (rest : List ℕ) (C : Cond) (E : Term) → Led P rest (Guard C E)) → Beginning s p x y r
  by_guard e f = record { bounds = b; begun = λ P G rest t. of_guard (Led P rest) (f P rest) G (sym e ∙ term_front s P G rest t) t }
