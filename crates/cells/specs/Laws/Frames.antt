-- Cells that keep their values: in a function's turn the cell of an element is its old one where the expression is before f(x0), or asks whether x0 is
-- another element; so copying the old cells, and computing one, makes all cells new (`kept_cells`, `named_past`, `named_one`).
-- Document 01, "Memory and the history machine".
use Rattle.std.specs.Prelude.{◌≡◌, refl, true, false, List, [], ◌∷◌, ◌++◌, ℕ, suc, ◌+◌, ◌-◌, ◌≤◌, ◌<◌, drop, get_or, set}
use Rattle.std.proofs.Common.{sym, subst, ◌∙◌, arith, lit<, length-set, eq-eqb, ne_eqb}
use Rattle.std.proofs.Math.Path.{ap}
use Rattle.std.proofs.Math.Bool.{cond}
use Rattle.std.proofs.Math.Decide.{ℕ_discrete, dec_lt}
use Rattle.std.proofs.Math.ListN.{length}
use Rattle.eb3.specs.Values.{Value, undefined, number, equal, encode, decode, AtMost}
use Rattle.eb3.specs.Expressions.{Data, Variable, If, Equal, evaluate_data}
use Rattle.eb3.specs.Attributes.{function, expression, number_of_functions}
use Rattle.eb3.proofs.Laws.Attributes.{apply_numbers}
use Rattle.eb3.specs.Scopes.{DataInScope}
use Rattle.eb3.specs.Cells.{offset, cells_up_to}
use Rattle.eb3.specs.Spelling.{data_words}
use Rattle.words.specs.Checking.{last_of}
use Rattle.words.specs.Laws.Checking.{last_behind}
use Rattle.expressions.specs.declared.valued.Valued.{Valued}
use Rattle.expressions.specs.Stores.{stored, row_place, now_place, before_place, cell_in, reading_in, variable_in, environment_in, parameter_place, argument_place, old_cells_place, begin_place}
use Rattle.expressions.specs.Answering.{DataAt, Evaluated}
use Rattle.expressions.specs.Laws.Answering.{data_parted}
use Rattle.expressions.specs.Laws.Values.{word_of_value}
use Rattle.cells.specs.Filling.{Ready}
use Rattle.cells.specs.Laws.Cells.{next_offset}
use Rattle.cells.specs.Turns.{Partly, Turn, Reached}
use Rattle.cells.specs.Laws.Turns.{stored_there, stored_else, reading_kept, decode_small, turn_value, value_small, size_here, begin_here, count_here, cells_here}
use Rattle.cells.specs.Frames.{kept_value, Naming, argument, value_now, value_before, naming, AsksOne, Tells, Copied, Placed}
use Rattle.cells.specs.Laws.Fronts.{asking, asked_spelled}

-- ── words and values ──

is_named : (x : ℕ) (v : Value) → x < 65535 → x ≡ encode 65535 v → equal (number x) v ≡ true
unfolding equal encode
is_named x undefined h e = absurd (let z : ⊥ = omega arith in z)
is_named x (number n) h e = eq-eqb x n e

not_named : (x : ℕ) (v : Value) → (x ≡ encode 65535 v → ⊥) → equal (number x) v ≡ false
unfolding equal encode
not_named x undefined n = refl
not_named x (number k) n = ne_eqb x k n

-- ── an element in the store's first word ──

-- Of m, and x stored in its first word; the old cells begin after it.
module _ (m : List ℕ) (x : ℕ) (behind : argument_place 0 ≤ before_place m) where
  abbrev mx : List ℕ
  mx = set m parameter_place x

  else_where : (i : ℕ) → argument_place 0 ≤ i → stored mx i ≡ stored m i
  else_where i h = stored_else m parameter_place i x (λ e. let z : ⊥ = omega arith in z)

  reads_same : (at g : ℕ) → 1 ≤ at → (vs : List Value) → reading_in mx at g vs ≡ reading_in m at g vs
  reads_same at g h vs = reading_kept m mx at g (else_where (row_place g) (omega arith)) (else_where (begin_place g) (omega arith)) (λ i l. else_where i (omega arith)) vs

  argument_same : (i : ℕ) → variable_in mx (suc i) ≡ variable_in m (suc i)
  unfolding variable_in
  argument_same i = ap (decode 65534) (else_where (suc i) (omega arith))

  -- what names an element does not read it
  naming_same : (q : Naming) → evaluate_data (naming q) (environment_in mx) ≡ evaluate_data (naming q) (environment_in m)
  unfolding evaluate_data
  naming_same (argument i) = argument_same i
  naming_same (value_now g i) = reads_same now_place g (omega arith) _ ∙ ap (λ v. reading_in m now_place g (v ∷ [])) (argument_same i)
  naming_same (value_before g i) =
      ap (λ at. reading_in mx at g (variable_in mx (suc i) ∷ [])) (else_where old_cells_place (omega arith))
      ∙ reads_same (before_place m) g behind _ ∙ ap (λ v. reading_in m (before_place m) g (v ∷ [])) (argument_same i)

  module _ (there : parameter_place < length m) (small : x ≤ 65534) where
    element_read : variable_in mx 0 ≡ number x
    unfolding variable_in
    element_read = ap (decode 65534) (stored_there m parameter_place x there) ∙ decode_small x small

    -- before f(x0) reads the old cell
    kept_read : (f : ℕ) → x < stored m (row_place f) → evaluate_data (kept_value f) (environment_in mx) ≡ decode 65534 (stored m (before_place m + (stored m (begin_place f) + x)))
    unfolding evaluate_data reading_in cell_in
    kept_read f h =
        ap (λ v. reading_in mx (before_place mx) f (v ∷ [])) element_read
        ∙ ap (λ at. reading_in mx at f (number x ∷ [])) (else_where old_cells_place (omega arith))
        ∙ reads_same (before_place m) f behind (number x ∷ [])
        ∙ apply_numbers (stored m (row_place f) ∷ []) (λ xs. cell_in m (before_place m) f (get_or xs 0 0)) (x ∷ []) (h, tt)

-- ── in function f's turn ──

-- Of m, the store when the turn begins.
module _ {t : List ℕ} {f left : ℕ} (T : Turn t f left) (m : List ℕ) (entered : Reached T m 0) (s : List ℕ) (at k : ℕ) (placed : Placed t f left s m at k) where
  abbrev place : ℕ
  place = stored m (begin_place f)

  abbrev spelt : Data
  spelt = expression (function T.A f) T.o

  abbrev new_cells : List Value
  new_cells = cells_up_to T.A T.o T.b (number_of_functions T.A)

  -- the word of element x's new cell
  abbrev new_word : ℕ → ℕ
  new_word x = encode 65535 (evaluate_data spelt (environment_in (set m parameter_place x)))

  begins_at : at ≡ now_place + offset T.A f
  begins_at = placed.begin ∙ ap (λ i. now_place + i) (begin_here T m entered k place placed.size refl)

  element : (x : ℕ) → x < k → x < stored T.M (row_place f)
  element x h = omega (arith, size_here T m entered k place placed.size refl)

  small_element : (x : ℕ) → x < k → x ≤ 63
  small_element x h = let e = element x h in let l = T.filling.small f T.known in omega arith

  all_new : (M' : List ℕ) → length M' ≡ length m → ((x : ℕ) → x < k → stored M' (at + x) ≡ new_word x)
      → ((i : ℕ) → argument_place 0 ≤ i → i < at → stored M' i ≡ stored m i) → ((i : ℕ) → at + k ≤ i → stored M' i ≡ stored m i)
      → Partly T.A T.o T.b T.M M' (offset T.A (suc f))
  all_new M' same cells below above = record {
    same_length = same ∙ entered.same_length;
    begun = record { words = λ c l. words c l (dec_lt c (offset T.A f)); small = λ c l. small c l (dec_lt c (offset T.A f)) };
    kept_below = λ i h l. below i h (omega (arith, begins_at)) ∙ entered.kept_below i h l;
    kept_above = λ i l. above i (omega (arith, begins_at, cells_here T m entered k place placed.size refl)) ∙ entered.kept_above i l;
  }
    where
      last : (c : ℕ) → c < offset T.A (suc f) → (c < offset T.A f → ⊥) → c - offset T.A f < k
      last c l n = omega (arith, next_offset T.A f, count_here T m entered k place placed.size refl)

      words : (c : ℕ) → c < offset T.A (suc f) → Dec (c < offset T.A f) → stored M' (now_place + c) ≡ encode 65535 (get_or new_cells c undefined)
      words c l (yes h) = below (now_place + c) (omega arith) (omega (arith, begins_at)) ∙ entered.begun.words c (omega arith)
      words c l (no n) =
          let h : c - offset T.A f < k = last c l n in
          let i : now_place + c ≡ at + (c - offset T.A f) = omega (arith, begins_at) in
          let j : offset T.A f + (c - offset T.A f) ≡ c = omega arith in
          ap (stored M') i ∙ cells (c - offset T.A f) h
          ∙ ap (encode 65535) (turn_value T m (c - offset T.A f) 0 entered (element (c - offset T.A f) h) ∙ ap (λ o. get_or new_cells o undefined) j)

      small : (c : ℕ) → c < offset T.A (suc f) → Dec (c < offset T.A f) → AtMost 65534 (get_or new_cells c undefined)
      small c l (yes h) = entered.begun.small c (omega arith)
      small c l (no n) =
          let j : offset T.A f + (c - offset T.A f) ≡ c = omega arith in
          subst (λ o. AtMost 65534 (get_or new_cells o undefined)) j (value_small T m (c - offset T.A f) 0 entered (element (c - offset T.A f) (last c l n)))

  -- ── the expression ──

  abbrev ready : Ready T.A T.o T.b t T.D T.M T.w T.j f
  ready = T.filling.ready f T.known

  stands_here : DataAt s ready.scope spelt ready.stands.0
  stands_here = record { plain = ready.plain; in_scope = ready.in_scope; spelled = placed.expression_at ∙ ap (λ n. last_of n t) T.place ∙ ready.stands.1 }

  -- ── old cells ──

  old_behind : now_place + offset T.A f + k ≤ before_place m
  old_behind = omega (arith, T.filling.apart, cells_here T m entered k place placed.size refl, entered.kept_below old_cells_place (omega arith) (lit< tt))

  module _ (from : ℕ) (is_from : from ≡ before_place m + place) (words : (i : ℕ) → stored m i < 65536) where
    later : at ≤ from
    later = omega (arith, is_from, old_behind, placed.begin)

    kept_word : (x : ℕ) → x < k → stored m (from + x) ≡ encode 65535 (evaluate_data (kept_value f) (environment_in (set m parameter_place x)))
    kept_word x h =
        let i : from + x ≡ before_place m + (place + x) = omega (arith, is_from) in
        let v = kept_read m x (let o = old_behind in omega arith) (let r = T.filling.room in omega (arith, entered.same_length)) (let l = small_element x h in omega arith) f (omega (arith, placed.size)) in
        sym (word_of_value (stored m (from + x)) (words (from + x))) ∙ ap (λ o. encode 65535 (decode 65534 (stored m o))) i ∙ ap (encode 65535) (sym v)

    pub kept_cells : Tells true s (λ d. d ≡ kept_value f) → (M' : List ℕ) → Copied m M' from at k → Partly T.A T.o T.b T.M M' (offset T.A (suc f))
    kept_cells tells M' copied =
        let e : spelt ≡ kept_value f = (tells ready.scope spelt ready.stands.0 stands_here).0 refl in
        all_new M' copied.same_length
        (λ x h. copied.copies later x h ∙ kept_word x h ∙ ap (λ d. encode 65535 (evaluate_data d (environment_in (set m parameter_place x)))) (sym e))
        (λ i h l. copied.kept_below i l)
        (λ i h. copied.kept_above i h)

    -- ── one element named ──

    -- d is what the element's name answers, a what its value does, u and v the words after them.
    module _ (asks : Tells true s AsksOne) (d : Valued) (named : Evaluated (drop 4 s) m d) (u : List ℕ) (is_u : u ≡ last_of d.left s)
        (a : Valued) (valued : Evaluated u (set m parameter_place d.value) a) (v : List ℕ) (is_v : v ≡ last_of a.left u) (keeps : Tells true v (λ b. b ≡ kept_value f)) where
      asks_here : AsksOne spelt
      asks_here = (asks ready.scope spelt ready.stands.0 stands_here).0 refl

      abbrev name : Data
      name = naming asks_here.named

      abbrev yes_value : Data
      yes_value = asks_here.yes_value

      abbrev no_value : Data
      no_value = asks_here.no_value

      abbrev behind_yes : List ℕ
      behind_yes = data_words ready.scope.edition.width no_value ++ ready.stands.0

      spelt_words : s ≡ asking 0 (data_words ready.scope.edition.width name ++ (data_words ready.scope.edition.width yes_value ++ behind_yes))
      spelt_words = asked_spelled s ready.scope spelt ready.stands.0 stands_here asks_here

      scoped : DataInScope (If (Equal (Variable 0) name) yes_value no_value) ready.scope
      scoped = subst (λ y. DataInScope y ready.scope) asks_here.asked ready.in_scope

      name_at : DataAt (drop 4 s) ready.scope name (data_words ready.scope.edition.width yes_value ++ behind_yes)
      name_at = record { plain = ready.plain; in_scope = scoped.0.1; spelled = ap (drop 4) spelt_words }

      name_word : d.value ≡ encode 65535 (evaluate_data name (environment_in m))
      name_word = (data_parted (drop 4 s) m d ready.scope (data_words ready.scope.edition.width yes_value ++ behind_yes) named name name_at).word

      yes_at : DataAt u ready.scope yes_value behind_yes
      yes_at = record {
        plain = ready.plain;
        in_scope = scoped.1;
        spelled = is_u ∙ ap (λ n. last_of n s) (data_parted (drop 4 s) m d ready.scope (data_words ready.scope.edition.width yes_value ++ behind_yes) named name name_at).left
            ∙ ap (last_of (length (data_words ready.scope.edition.width yes_value ++ behind_yes))) spelt_words ∙ last_behind (asking 0 (data_words ready.scope.edition.width name)) (data_words ready.scope.edition.width yes_value ++ behind_yes);
      }

      yes_word : a.value ≡ encode 65535 (evaluate_data yes_value (environment_in (set m parameter_place d.value)))
      yes_word = (data_parted u (set m parameter_place d.value) a ready.scope behind_yes valued yes_value yes_at).word

      no_at : DataAt v ready.scope no_value ready.stands.0
      no_at = record {
        plain = ready.plain;
        in_scope = scoped.2;
        spelled = (data_parted u (set m parameter_place d.value) a ready.scope behind_yes valued yes_value yes_at).behind v is_v;
      }

      spelt_is : spelt ≡ If (Equal (Variable 0) name) yes_value (kept_value f)
      spelt_is = asks_here.asked ∙ ap (If (Equal (Variable 0) name) yes_value) ((keeps ready.scope no_value ready.stands.0 no_at).0 refl)

      chosen : (x : ℕ) → x < k → evaluate_data spelt (environment_in (set m parameter_place x))
          ≡ cond (equal (number x) (evaluate_data name (environment_in m))) (evaluate_data yes_value (environment_in (set m parameter_place x))) (evaluate_data (kept_value f) (environment_in (set m parameter_place x)))
      unfolding evaluate_data
      chosen x h =
          let o : argument_place 0 ≤ before_place m = omega (arith, old_behind) in
          let r : parameter_place < length m = omega (arith, T.filling.room, entered.same_length) in
          let l : x ≤ 65534 = omega (arith, small_element x h) in
          ap (λ y. evaluate_data y (environment_in (set m parameter_place x))) spelt_is
          ∙ (λ j. cond (equal (element_read m x o r l j) (naming_same m x o asks_here.named j)) (evaluate_data yes_value (environment_in (set m parameter_place x))) (evaluate_data (kept_value f) (environment_in (set m parameter_place x))))

      one_word : (x : ℕ) → x < k → x ≡ d.value → a.value ≡ new_word x
      one_word x h e =
          let l : x < 65535 = omega (arith, small_element x h) in
          yes_word ∙ ap (λ y. encode 65535 (evaluate_data yes_value (environment_in (set m parameter_place y)))) (sym e)
          ∙ ap (λ q. encode 65535 (cond q (evaluate_data yes_value (environment_in (set m parameter_place x))) (evaluate_data (kept_value f) (environment_in (set m parameter_place x))))) (sym (is_named x _ l (e ∙ name_word)))
          ∙ ap (encode 65535) (sym (chosen x h))

      other_word : (x : ℕ) → x < k → (x ≡ d.value → ⊥) → stored m (from + x) ≡ new_word x
      other_word x h n =
          kept_word x h
          ∙ ap (λ q. encode 65535 (cond q (evaluate_data yes_value (environment_in (set m parameter_place x))) (evaluate_data (kept_value f) (environment_in (set m parameter_place x))))) (sym (not_named x _ (λ e. n (e ∙ sym name_word))))
          ∙ ap (encode 65535) (sym (chosen x h))

      module _ (M' : List ℕ) (copied : Copied (set m parameter_place d.value) M' from at k) where
        copied_word : (x : ℕ) → x < k → stored M' (at + x) ≡ stored m (from + x)
        copied_word x h = copied.copies later x h ∙ stored_else m parameter_place (from + x) d.value (λ e. let z : ⊥ = omega (arith, later, placed.begin) in z)

        copied_new : (x : ℕ) → x < k → (x ≡ d.value → ⊥) → stored M' (at + x) ≡ new_word x
        copied_new x h n = copied_word x h ∙ other_word x h n

        below : (i : ℕ) → argument_place 0 ≤ i → i < at → stored M' i ≡ stored m i
        below i h l = copied.kept_below i l ∙ stored_else m parameter_place i d.value (λ e. let z : ⊥ = omega arith in z)

        above : (i : ℕ) → at + k ≤ i → stored M' i ≡ stored m i
        above i h = copied.kept_above i h ∙ stored_else m parameter_place i d.value (λ e. let z : ⊥ = omega (arith, placed.begin) in z)

        pub none_named : k ≤ d.value → Partly T.A T.o T.b T.M M' (offset T.A (suc f))
        none_named h = all_new M' (copied.same_length ∙ length-set m parameter_place d.value) (λ x l. copied_new x l (λ e. let z : ⊥ = omega arith in z)) below above

        pub one_named : d.value < k → at + k ≤ length m → Partly T.A T.o T.b T.M (set M' (at + d.value) a.value) (offset T.A (suc f))
        one_named h room = all_new (set M' (at + d.value) a.value) (length-set M' (at + d.value) a.value ∙ copied.same_length ∙ length-set m parameter_place d.value)
            (λ x l. cell x l (ℕ_discrete x d.value))
            (λ i l q. stored_else M' (at + d.value) i a.value (λ e. let z : ⊥ = omega arith in z) ∙ below i l q)
            (λ i l. stored_else M' (at + d.value) i a.value (λ e. let z : ⊥ = omega arith in z) ∙ above i l)
          where
            cell : (x : ℕ) → x < k → Dec (x ≡ d.value) → stored (set M' (at + d.value) a.value) (at + x) ≡ new_word x
            cell x l (yes e) =
                ap (λ y. stored (set M' (at + d.value) a.value) (at + y)) e
                ∙ stored_there M' (at + d.value) a.value (omega (arith, copied.same_length, length-set m parameter_place d.value)) ∙ one_word x l e
            cell x l (no n) = stored_else M' (at + d.value) (at + x) a.value (λ e. n (omega arith)) ∙ copied_new x l n
