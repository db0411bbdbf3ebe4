-- A parallel both of whose sides may move: both sides' lists, the sides of move k among them, and the answer of the walk into the sides.
use mathlib.Core.Path.{◌≡◌, refl, sym, ap, ◌∙◌, subst}
use mathlib.Core.List.{List, ◌++◌}
use Prim.Native.Nat.{ℕ, ◌+◌, ◌-◌, ◌≤◌}
use native.Mathlib.Omega.{arith}
use lib.ListN.{length, take, drop, length-append, length-drop}
use lib.Seq.{take_at, drop_at, length-take-le}
use Rattle.std.specs.Prelude.{Option, Some, None, IsSome}
use Rattle.std.proofs.lemmas.Bool.{false≢true}
use Rattle.eb3.specs.Scopes.{Scope}
use Rattle.eb3.specs.Terms.{Term}
use Rattle.eb3.specs.Spelling.{words}
use Rattle.words.specs.Checking.{last_of}
use Rattle.words.specs.Laws.Checking.{part, back_rest, last_len}
use Rattle.listing.specs.Listing.{TermAt, holding, codes, Right, Listed}
use Rattle.listing.specs.declared.lister.Moves.{Moves}
use Rattle.listing.specs.Positions.{TwoAt}
use Rattle.listing.specs.Laws.Positions.{second_at, behind_term}
use Rattle.paths.specs.Paths.{Sides, alone, paired, locate}
use Rattle.derivation.specs.declared.arrays.Derivation.{Derivation}
use Rattle.derivation.specs.declared.arrays.Derivation.TheVariants.{At, Behind, NoRoom}
use Rattle.derivation.specs.Derived.{Roomed, Placed, shown_count}
use Rattle.derivation.specs.Searching.{Within, shown_combined, SidesAre}
use Rattle.derivation.specs.Arms.{Made, SidesDerived, sides_path, combined_count, ListedDerived}
use Rattle.derivation.specs.Laws.Outcomes.{placed_lost, placed_at, placed_passed}
use Rattle.derivation.proofs.Counts.{count_all}

made_placed : (n k l : ℕ) (r : Derivation) → Made l r → Placed n k l r
made_placed n k l (At i) h = placed_at n k l i (At i) refl h
made_placed n k l (Behind j left) h = absurd h
made_placed n k l NoRoom h = placed_lost n k l

-- l is what listing the left side's moves answered, q what listing the right side's answered, into the array after them
module _ (t M acts mid : List ℕ) (l : Moves) (first : Listed t M acts mid (Some l)) where
  first_fits : l.count ≤ length mid
  first_fits = omega (arith, first.count_bounded, first.same_length)

  module _ (P : Scope) (E F : Term) (rest : List ℕ) (s : TwoAt t P E F rest) where
    first_right : Right (holding M) E (words P.edition.width F ++ rest) mid l
    first_right = first.right P E (words P.edition.width F ++ rest) s.first

    first_listed : take l.count mid ≡ codes (holding M) E
    first_listed = ap (λ n. take n mid) first_right.counted ∙ first_right.listed

  module _ (u back : List ℕ) (q : Option Moves) (isu : u ≡ last_of l.left t) (lent : Listed u M (take (length mid - l.count) (drop l.count mid)) back q) where
    behind : Listed u M (drop l.count mid) back q
    behind = rw (← part l.count mid) lent

    abbrev whole : List ℕ
    whole = take l.count mid ++ (back ++ drop (length mid - l.count) (drop l.count mid))

    whole_is : whole ≡ take l.count mid ++ back
    whole_is = back_rest mid back l.count

    pub whole_length : length whole ≡ length acts
    whole_length = omega (arith, ap length whole_is, length-append (take l.count mid) back, length-take-le l.count mid first_fits, behind.same_length, length-drop l.count mid, first.same_length, first_fits)

    pub u_len : length u ≤ length t
    u_len = last_len l.left t u isu

    second_here : (P : Scope) (E F : Term) (rest : List ℕ) → TwoAt t P E F rest → TermAt u P F rest
    second_here P E F rest s = second_at l.left u s (first_right P E F rest s).left_over isu

    pub listed_lost_second : (x δ k : ℕ) (entry : List ℕ) → q ≡ None → ListedDerived x δ t M k entry entry (length acts) NoRoom
    listed_lost_second x δ k entry f = record {
      placed = placed_lost (length t) k (length entry);
      has_room = λ P E F rest s a b.
          let h : IsSome q = behind.has_room P F rest (second_here P E F rest s) (omega (arith, b, (first_right P E F rest s).counted, length-drop l.count mid, first.same_length)) in
          absurd (false≢true (subst IsSome f h));
      right = λ P E F rest s z. absurd z;
    }

    -- the scratch array in two: the left's numbers, and the right's with what was free after them
    module _ (r : Moves) (isr : q ≡ Some r) (xs free : List ℕ) (isx : xs ≡ take l.count whole) (isf : free ≡ drop l.count whole) where
      second : Listed u M (drop l.count mid) back (Some r)
      second = subst (Listed u M (drop l.count mid) back) isr behind

      abbrev ys : List ℕ
      ys = take r.count free

      module _ (P : Scope) (E F : Term) (rest : List ℕ) (s : TwoAt t P E F rest) where
        abbrev cE : List ℕ
        cE = codes (holding M) E

        abbrev cF : List ℕ
        cF = codes (holding M) F

        second_right : Right (holding M) F rest back r
        second_right = second.right P F rest (second_here P E F rest s)

        front_is : whole ≡ cE ++ back
        front_is = whole_is ∙ ap (λ x. x ++ back) (first_listed P E F rest s)

        left_is : xs ≡ cE
        left_is = isx ∙ ap (take l.count) front_is ∙ take_at cE back l.count (sym (first_right P E F rest s).counted)

        right_is : ys ≡ cF
        right_is =
            ap (take r.count) (isf ∙ (λ i. drop ((first_right P E F rest s).counted i) (front_is i)) ∙ drop_at cE back (length cE) refl)
            ∙ ap (λ n. take n back) second_right.counted
            ∙ second_right.listed

        count_is : (x δ : ℕ) → length (shown_combined x δ xs ys) ≡ combined_count x δ M E F
        count_is x δ = λ i. length (shown_combined x δ (left_is i) (right_is i))

        locate_is : (x δ k : ℕ) → locate (alone x δ) (paired x δ) xs ys k ≡ locate (alone x δ) (paired x δ) cE cF k
        locate_is x δ k = λ i. locate (alone x δ) (paired x δ) (left_is i) (right_is i) k

        left_at : TermAt t P E u
        left_at =
            let e : words P.edition.width F ++ rest ≡ u = sym (second_here P E F rest s).spelled in
            subst (TermAt t P E) e s.first

        behind_right : (v : List ℕ) → v ≡ last_of r.left u → v ≡ rest
        behind_right v e = e ∙ ap (λ n. last_of n u) second_right.left_over ∙ behind_term u P F rest (second_here P E F rest s)

        within_is : (w : Sides) → Within (length xs) (length ys) w → Within (shown_count 0 M E) (shown_count 0 M F) w
        within_is w h =
            subst (λ n. Within (shown_count 0 M E) n w) (ap length right_is ∙ sym (count_all M F))
            (subst (λ n. Within n (length ys) w) (ap length left_is ∙ sym (count_all M E)) h)

      module _ (x δ k : ℕ) (entry : List ℕ) where
        pub listed_none : (due : ℕ) → k ≡ length (shown_combined x δ xs ys) + due → (v : List ℕ) (q : Derivation) → v ≡ last_of r.left u → q ≡ Behind due (length v) → ListedDerived x δ t M k entry entry (length acts) q
        listed_none due loc v q isv isq = record {
          placed = placed_passed (length t) k (length entry) (length v) due q isq (omega (arith, last_len _ u v isv, u_len)) (omega arith);
          has_room = λ P E F rest s a b. subst Roomed (sym isq) tt;
          right = λ P E F rest s i.
              let e = count_is P E F rest s x δ in
              let f : due ≡ k - combined_count x δ M E F = omega (arith, loc, e) in
              record {
                found = λ y. absurd (omega (arith, loc, e));
                none_found = λ y. isq ∙ (λ j. Behind (f j) (length (behind_right P E F rest s v isv j)));
              };
        }

        pub listed_sides : (w : Sides) → SidesAre x δ xs ys k w → (exit : List ℕ) (m : ℕ) (q : Derivation) → m ≡ length acts → SidesDerived t u M w entry exit m q → ListedDerived x δ t M k entry exit (length acts) q
        listed_sides w loc exit m q ism h = record {
          placed = made_placed (length t) k (length entry) q h.made;
          has_room = λ P E F rest s a b. h.has_room P E F rest (left_at P E F rest s) (second_here P E F rest s) (within_is P E F rest s w loc.within) a (omega (arith, b)) (omega (arith, b));
          right = λ P E F rest s i.
              let e = count_is P E F rest s x δ in
              record {
                found = λ y.
                    let f = h.found P E F rest (left_at P E F rest s) (second_here P E F rest s) (within_is P E F rest s w loc.within) i in
                    (f.0, f.1, f.2 ∙ ap (sides_path M P.edition.width E F) (sym loc.located ∙ locate_is P E F rest s x δ k));
                none_found = λ y. absurd (omega (arith, loc.shows, e));
              };
        }
