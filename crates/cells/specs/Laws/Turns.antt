-- Laws of filling: in a function's turn its expression, evaluated in the store, has the cell's value (`turn_value`), so one cell more is new.
-- Document 01, "Memory and the history machine".
use Rattle.std.specs.Prelude.{◌≡◌, refl, List, [], ◌∷◌, ◌≢◌, set}
use Rattle.std.proofs.Common.{sym, ◌∙◌, mul-le-mul_left, add-one, lit<, get_or-set_same, get_or-set_other}
use Rattle.std.proofs.Math.Path.{ap, subst}
use Rattle.std.proofs.Math.Option.{Option, none, some}
use Prim.Native.Nat.{ℕ, zero, suc, ◌+◌, ◌*◌, ◌≤◌, ◌<◌}
use native.Mathlib.Omega.{arith}
use Rattle.std.proofs.Math.Decide.{ℕ_discrete}
use Rattle.std.proofs.Math.ListN.{length, get_or, length-set}
use Rattle.eb3.specs.Generic.Lists.{Within}
use Rattle.eb3.specs.Values.{Value, undefined, number, encode, decode, AtMost}
use Rattle.eb3.proofs.Laws.Values.{decode_encode}
use Rattle.eb3.specs.Expressions.{Reading, environment, variables, evaluate_data}
use Rattle.eb3.specs.Terms.{VisibleAction}
use Rattle.eb3.specs.Attributes.{Attributes, domain, function, expression, variables_in_scope, number_of_functions, apply_in_domain, evaluate}
use Rattle.eb3.proofs.Laws.Attributes.{apply_cong}
use Rattle.eb3.specs.Cells.{cell_count, offset, total_cells, cell_at, cells_up_to}
use Rattle.eb3.proofs.Laws.Cells.{length_cells, cells_apart, renewed}
use Rattle.words.specs.Checking.{last_of}
use Rattle.expressions.specs.declared.valued.Valued.{Valued}
use Rattle.expressions.specs.Stores.{stored, row_place, now_place, before_place, cell_in, reading_in, variable_in, environment_in, parameter_place, argument_place, old_cells_place, begin_place}
use Rattle.expressions.specs.Answering.{DataAt, Evaluated}
use Rattle.expressions.specs.Laws.Answering.{data_parted, data_at_most}
use Rattle.cells.specs.Layout.{RowLaid}
use Rattle.cells.specs.Filling.{arguments_of, Ready, Filling, Filled}
use Rattle.cells.specs.Laws.Cells.{next_offset, cells_first}
use Rattle.cells.specs.Agreement.{Agree, data_agrees}
use Rattle.cells.specs.Reads.{Begun}
use Rattle.cells.specs.Laws.Reads.{row_cells, row_index, begun_reads}
use Rattle.cells.specs.Turns.{Partly, Turn, Reached, FunctionFilled}

-- ── a word stored ──

pub stored_there : (M : List ℕ) (i v : ℕ) → i < length M → stored (set M i v) i ≡ v
unfolding stored
stored_there M i v h = get_or-set_same M i v 65535 h

pub stored_else : (M : List ℕ) (i j v : ℕ) → j ≢ i → stored (set M i v) j ≡ stored M j
unfolding stored
stored_else M i j v n = get_or-set_other M i j v 65535 n

-- ── reading from a store of which other words changed ──

module _ (M M' : List ℕ) (at g : ℕ) (sizes : stored M' (row_place g) ≡ stored M (row_place g)) (begins : stored M' (begin_place g) ≡ stored M (begin_place g)) (cells : (i : ℕ) → at ≤ i → stored M' i ≡ stored M i) where
  pub reading_kept : (vs : List Value) → reading_in M' at g vs ≡ reading_in M at g vs
  unfolding reading_in cell_in
  reading_kept vs =
      ap (λ n. apply_in_domain (n ∷ []) (λ xs. decode 65534 (stored M' (at + (stored M' (begin_place g) + get_or xs 0 0)))) vs) sizes
      ∙ apply_cong (stored M (row_place g) ∷ []) _ _
      (λ xs w. ap (decode 65534) (ap (λ i. stored M' (at + (i + get_or xs 0 0))) begins ∙ cells (at + (stored M (begin_place g) + get_or xs 0 0)) (omega arith))) vs

pub decode_small : (x : ℕ) → x ≤ 65534 → decode 65534 x ≡ number x
unfolding encode
decode_small x h = decode_encode 65534 65535 (lit< tt) (number x) h

-- ── function f's turn ──

scope_variables : (x : ℕ) (o : Option VisibleAction) → variables_in_scope (x ∷ []) o ≡ x ∷ arguments_of o
scope_variables x none = refl
scope_variables x (some a) = refl

-- Where some cells of function f are new, y of them, and x is stored as its parameter.
module _ {t : List ℕ} {f left : ℕ} (T : Turn t f left) (M' : List ℕ) (x y : ℕ) (reached : Reached T M' y) (element : x < stored T.M (row_place f)) where
  abbrev here : Ready T.A T.o T.b t T.D T.M T.w T.j f
  here = T.filling.ready f T.known

  abbrev M'' : List ℕ
  M'' = set M' parameter_place x

  abbrev all : List Value
  all = cells_up_to T.A T.o T.b (number_of_functions T.A)

  abbrev new : List Value
  new = cells_up_to T.A T.o T.b f

  defined : f < number_of_functions T.A
  defined = subst (λ n. f < n) T.filling.functions T.known

  small_element : x ≤ 63
  small_element = let h = T.filling.small f T.known in omega arith

  -- words of the store that filling keeps
  kept : (i : ℕ) → argument_place 0 ≤ i → i < now_place → stored M'' i ≡ stored T.M i
  kept i h l = stored_else M' parameter_place i x (λ e. let z : ⊥ = omega arith in z) ∙ reached.kept_below i h l

  old_place : before_place M'' ≡ before_place T.M
  old_place = kept old_cells_place (omega arith) (lit< tt)

  row_laid : (g : ℕ) → g < f → RowLaid T.A M'' g
  row_laid g h =
      let row = T.filling.laid g (let d = defined in omega arith) in
      let r16 : f < 16 = let k = T.known in let l = T.few in omega arith in
      record {
        one_parameter = row.one_parameter ∙ ap (λ n. n ∷ []) (sym (kept (row_place g) (omega arith) (omega arith)));
        begins = kept (begin_place g) (omega arith) (omega arith) ∙ row.begins;
      }

  begun_below : Begun M'' now_place new (offset T.A f)
  begun_below =
      let first : (c : ℕ) → c < offset T.A f → get_or all c undefined ≡ get_or new c undefined = cells_first T.A T.o T.b f (number_of_functions T.A) (let d = defined in omega arith) in
      record {
        words = λ c l. stored_else M' parameter_place (now_place + c) x (λ e. let z : ⊥ = omega arith in z) ∙ reached.begun.words c (omega arith) ∙ ap (encode 65535) (first c l);
        small = λ c l. subst (AtMost 65534) (first c l) (reached.begun.small c (omega arith));
      }

  now_reads : (g : ℕ) → g < here.scope.now → (vs : List Value) → reading_in M'' now_place g vs ≡ cell_at T.A new g vs
  now_reads g h vs =
      let k : g < f = let n = here.names_below in omega arith in
      begun_reads T.A M'' now_place new (offset T.A f) begun_below g (row_laid g k) (cells_apart T.A g f k) vs

  before_reads : (g : ℕ) → g < here.scope.before → (vs : List Value) → reading_in M'' (before_place M'') g vs ≡ T.b g vs
  before_reads g h vs =
      let k : g < 16 = let n = here.names_known in let l = T.few in let e = T.filling.functions in omega arith in
      ap (λ at. reading_in M'' at g vs) old_place
      ∙ reading_kept T.M M'' (before_place T.M) g (kept (row_place g) (omega arith) (omega arith)) (kept (begin_place g) (omega arith) (omega arith))
      (λ i l. let a = T.filling.apart in stored_else M' parameter_place i x (λ e. let z : ⊥ = omega arith in z) ∙ reached.kept_above i (omega arith)) vs
      ∙ here.before_reads g h vs

  variables_read : (i : ℕ) → i < here.scope.variables → variable_in M'' i ≡ variables (x ∷ arguments_of T.o) i
  unfolding variable_in variables
  variables_read zero h =
      let r = T.filling.room in
      ap (decode 65534) (stored_there M' parameter_place x (omega (arith, reached.same_length)))
      ∙ decode_small x (let s = small_element in omega arith)
  variables_read (suc i) h =
      let l : i < length (arguments_of T.o) = let v = here.variables_few in omega arith in
      let n = T.filling.arguments_few in
      ap (decode 65534) (kept (suc i) (omega arith) (omega arith)) ∙ T.filling.variables_there i l

  agreeing : Agree here.scope (environment_in M'') (environment T.A.edition.top (x ∷ arguments_of T.o) (cell_at T.A new) T.b)
  agreeing = record { top = sym T.filling.largest; variable = variables_read; now = now_reads; before = before_reads }

  within : Within (domain T.A f) (x ∷ [])
  within = subst (λ ns. Within ns (x ∷ [])) (sym (T.filling.laid f defined).one_parameter) (element, tt)

  pub turn_value : evaluate_data (expression (function T.A f) T.o) (environment_in M'') ≡ get_or all (offset T.A f + x) undefined
  unfolding evaluate
  turn_value =
      data_agrees here.scope _ _ agreeing (expression (function T.A f) T.o) here.in_scope
      ∙ ap (λ xs. evaluate_data (expression (function T.A f) T.o) (environment T.A.edition.top xs (cell_at T.A new) T.b)) (sym (scope_variables x T.o))
      ∙ renewed T.A T.o T.b (number_of_functions T.A) f (x ∷ []) new defined within here.scope here.names_below here.in_scope (λ c l. refl)
      ∙ ap (λ i. get_or all (offset T.A f + i) undefined) (row_index T.A T.M f (T.filling.laid f defined) x)

  pub value_small : AtMost 65534 (get_or all (offset T.A f + x) undefined)
  value_small = subst (AtMost 65534) turn_value (data_at_most M'' here.scope here.plain (expression (function T.A f) T.o) here.in_scope)

-- ── one cell more ──

-- Of m, the store when the turn begins: function f has k cells, which begin at p.
module _ {t : List ℕ} {f left : ℕ} (T : Turn t f left) (m : List ℕ) (entered : Reached T m 0) (k p : ℕ) (is_k : k ≡ stored m (row_place f)) (is_p : p ≡ stored m (begin_place f)) where
  below_16 : f < 16
  below_16 = let k = T.known in let l = T.few in omega arith

  row_here : RowLaid T.A T.M f
  row_here = T.filling.laid f (subst (λ n. f < n) T.filling.functions T.known)

  pub size_here : k ≡ stored T.M (row_place f)
  size_here = let h = below_16 in is_k ∙ entered.kept_below (row_place f) (omega arith) (omega arith)

  pub begin_here : p ≡ offset T.A f
  begin_here = let h = below_16 in is_p ∙ entered.kept_below (begin_place f) (omega arith) (omega arith) ∙ row_here.begins

  pub count_here : cell_count (domain T.A f) ≡ k
  count_here = row_cells T.A T.M f row_here ∙ sym size_here

  pub cells_here : offset T.A f + k ≤ total_cells T.A
  cells_here = let h = cells_apart T.A f (number_of_functions T.A) (subst (λ n. f < n) T.filling.functions T.known) in omega (arith, count_here)

  pub turn_room : now_place + p + k ≤ length m
  turn_room = let r = T.filling.room in let h = cells_here in omega (arith, begin_here, entered.same_length)

  pub turn_end : (M' : List ℕ) (x : ℕ) → x ≤ k → k ≤ x → Reached T M' x → Partly T.A T.o T.b T.M M' (offset T.A (suc f))
  turn_end M' x h l r =
      let e : offset T.A f + x ≡ offset T.A (suc f) = omega (arith, next_offset T.A f, count_here) in
      subst (Partly T.A T.o T.b T.M M') e r

  module _ (M' : List ℕ) (x : ℕ) (r : Valued) (s : List ℕ) (reached : Reached T M' x) (h : x < k) (is_s : s ≡ last_of left t) (evaluated : Evaluated s (set M' parameter_place x) r) where
    element_here : x < stored T.M (row_place f)
    element_here = omega (arith, size_here)

    abbrev ready : Ready T.A T.o T.b t T.D T.M T.w T.j f
    ready = T.filling.ready f T.known

    data_here : DataAt s ready.scope (expression (function T.A f) T.o) ready.stands.0
    data_here = record { plain = ready.plain; in_scope = ready.in_scope; spelled = is_s ∙ ap (λ n. last_of n t) T.place ∙ ready.stands.1 }

    word_here : r.value ≡ encode 65535 (get_or (cells_up_to T.A T.o T.b (number_of_functions T.A)) (offset T.A f + x) undefined)
    word_here = (data_parted s (set M' parameter_place x) r ready.scope ready.stands.0 evaluated (expression (function T.A f) T.o) data_here).word
        ∙ ap (encode 65535) (turn_value T M' x x reached element_here)

    abbrev M''' : List ℕ
    M''' = set (set M' parameter_place x) (now_place + p + x) r.value

    two_else : (i : ℕ) → argument_place 0 ≤ i → i ≢ now_place + p + x → stored M''' i ≡ stored M' i
    two_else i l n = stored_else (set M' parameter_place x) (now_place + p + x) i r.value n ∙ stored_else M' parameter_place i x (λ e. let z : ⊥ = omega arith in z)

    Cell : ℕ → Type 0
    Cell c = (stored M''' (now_place + c) ≡ encode 65535 (get_or (cells_up_to T.A T.o T.b (number_of_functions T.A)) c undefined))
        × AtMost 65534 (get_or (cells_up_to T.A T.o T.b (number_of_functions T.A)) c undefined)

    cell_here : (c : ℕ) → c < offset T.A f + (x + 1) → Dec (c ≡ offset T.A f + x) → Cell c
    unfolding Cell
    cell_here c l (yes e) =
        let q : now_place + c ≡ now_place + p + x = omega (arith, begin_here) in
        let w : now_place + p + x < length (set M' parameter_place x) = omega (arith, turn_room, length-set M' parameter_place x, reached.same_length, entered.same_length) in (
          ap (stored M''') q ∙ stored_there (set M' parameter_place x) (now_place + p + x) r.value w ∙ word_here
              ∙ ap (λ i. encode 65535 (get_or (cells_up_to T.A T.o T.b (number_of_functions T.A)) i undefined)) (sym e),
          subst (λ i. AtMost 65534 (get_or (cells_up_to T.A T.o T.b (number_of_functions T.A)) i undefined)) (sym e) (value_small T M' x x reached element_here),
        )
    cell_here c l (no n) =
        let q : c < offset T.A f + x = omega arith in
        (two_else (now_place + c) (omega arith) (λ e. let z : ⊥ = omega (arith, begin_here) in z) ∙ reached.begun.words c q, reached.begun.small c q)

    pub turn_next : Reached T M''' (x + 1)
    unfolding Cell
    turn_next = record {
      same_length = length-set (set M' parameter_place x) (now_place + p + x) r.value ∙ length-set M' parameter_place x ∙ reached.same_length;
      begun = record {
        words = λ c l. (cell_here c l (ℕ_discrete c (offset T.A f + x))).0;
        small = λ c l. (cell_here c l (ℕ_discrete c (offset T.A f + x))).1;
      };
      kept_below = λ i a l. two_else i a (λ e. let z : ⊥ = omega arith in z) ∙ reached.kept_below i a l;
      kept_above = λ i l. two_else i (omega arith) (λ e. let q = cells_here in let z : ⊥ = omega (arith, begin_here) in z) ∙ reached.kept_above i l;
    }

-- ── all functions ──

-- a place in the directory is far below what a number holds
pub row_bounded : (w f : ℕ) → w ≤ 256 → f ≤ 16 → w * f ≤ 4096
row_bounded w f h k = let a : w * f ≤ w * 16 = mul-le-mul_left w k in omega arith

pub fill_start : (A : Attributes) (o : Option VisibleAction) (b : Reading) (M : List ℕ) → Partly A o b M M (offset A 0)
unfolding offset
fill_start A o b M = record {
  same_length = refl;
  begun = record { words = λ c l. absurd (let z : ⊥ = omega arith in z); small = λ c l. absurd (let z : ⊥ = omega arith in z) };
  kept_below = λ i h l. refl;
  kept_above = λ i h. refl;
}

module _ (A : Attributes) (o : Option VisibleAction) (b : Reading) (t D M : List ℕ) (w j n : ℕ) (filling : Filling A o b t D M w j n) where
  pub fill_next : (M' M'' : List ℕ) (f left : ℕ) → n ≤ 16 → f < n → left ≡ get_or D (w * f + j) 0 → FunctionFilled t f left M' M'' → Partly A o b M M' (offset A f) → Partly A o b M M'' (offset A (f + 1))
  fill_next M' M'' f left few h e filled q =
      let z : offset A f ≡ offset A f + 0 = omega arith in
      let T : Turn t f left = record { A = A; o = o; b = b; D = D; M = M; w = w; j = j; n = n; filling = filling; few = few; known = h; place = e } in
      subst (λ i. Partly A o b M M'' (offset A i)) (sym (add-one f)) (filled T (subst (Partly A o b M M') z q))

  pub fill_end : (M' : List ℕ) (f : ℕ) → f ≤ n → n ≤ f → Partly A o b M M' (offset A f) → Filled A o b M M'
  fill_end M' f h l q =
      let e : f ≡ number_of_functions A = omega (arith, filling.functions) in
      let p : Partly A o b M M' (total_cells A) = subst (λ i. Partly A o b M M' (offset A i)) e q in
      record {
        cells = λ c k. p.begun.words c (omega (arith, length_cells A o b (number_of_functions A)));
        kept_below = p.kept_below;
        kept_above = p.kept_above;
      }
