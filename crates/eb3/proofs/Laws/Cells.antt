-- The memory is right: after any trace the cells hold the values of all functions at all elements (`cells_after_values`);
-- and what a loop needs that renews the cells in order, now reading the buffer that it writes (`renewed`).
use Rattle.std.specs.Prelude.{◌≡◌, ◌≢◌, eqb, length}
use Rattle.std.proofs.Math.Path.{refl, ap, sym}
use Rattle.std.proofs.Common.{◌∙◌, mul-le-mul_right, eqb→eq, get_or-append-add}
use Rattle.std.proofs.Math.Bool.{cond}
use mathlib.Core.List.{List, [], ◌∷◌, ◌++◌, map}
use Rattle.std.proofs.Math.Option.{Option, none, some}
use Prim.Native.Nat.{ℕ, zero, suc, ◌+◌, ◌*◌, ◌≤◌, ◌<◌}
use Rattle.std.proofs.Math.Decide.{ℕ_discrete, dec_lt}
use native.Mathlib.Omega.{arith}
use Rattle.std.proofs.Math.Dec.{eqb_refl}
use Rattle.std.proofs.Math.ListN.{get_or, length-append, get_or-append, get_or-eq_default}
use Rattle.eb3.specs.Generic.Booleans.{cond_true, cond_false}
use Rattle.eb3.specs.Generic.Lists.{Within}
use Rattle.eb3.specs.Values.{ValuesAtMost, Value, undefined, number, AtMost}
use Rattle.eb3.specs.Expressions.{Undefined, Reading, no_reading, environment, evaluate_data}
use Rattle.eb3.specs.Terms.{VisibleAction}
use Rattle.eb3.specs.Attributes.{Attributes, function, domain, number_of_functions, Trace, last_action, apply_in_domain, expression, variables_in_scope, evaluate, now_below, before_values, attribute_value, value_at}
use Rattle.eb3.specs.Scopes.{Scope, DataInScope, start_scope, label_scope, ExpressionsInScope}
use Rattle.eb3.proofs.Laws.Attributes.{apply_cong, apply_undefined, apply_empty_domain, apply_numbers, now_below_is, now_below_beyond, no_domain_beyond, data_cong, AllAtMost, TraceAtMost, ReadingAtMost, ActionAtMost, apply_at_most, evaluate_at_most, value_at_most}
use Rattle.eb3.specs.Cells.{cell_count, cell_index, offset, total_cells, cell_at, concat_tabulate, tabulate, cells_up_to, initial_cells, renew, cells_after, values_up_to, all_values}

-- Rows of a table.
length_concat_tabulate : (n m : ℕ) (h : ℕ → List Value) → ((x : ℕ) → length (h x) ≡ m) → length (concat_tabulate n h) ≡ n * m
unfolding concat_tabulate
length_concat_tabulate zero m h e = omega arith
length_concat_tabulate (suc n) m h e = omega (arith, length-append (h zero) (concat_tabulate n (λ x. h (suc x))), e zero, length_concat_tabulate n m (λ x. h (suc x)) (λ x. e (suc x)))

length_tabulate : (ns : List ℕ) (h : List ℕ → Value) → length (tabulate ns h) ≡ cell_count ns
unfolding tabulate cell_count
length_tabulate [] h = refl
length_tabulate (n ∷ ns) h = length_concat_tabulate n (cell_count ns) (λ x. tabulate ns (λ xs. h (x ∷ xs))) (λ x. length_tabulate ns (λ xs. h (x ∷ xs)))

cell_index_below : (ns xs : List ℕ) → Within ns xs → cell_index ns xs < cell_count ns
unfolding cell_index cell_count
cell_index_below [] [] w = omega arith
cell_index_below [] (x ∷ xs) w = absurd w
cell_index_below (n ∷ ns) [] w = absurd w
cell_index_below (n ∷ ns) (x ∷ xs) w = let h = cell_index_below ns xs w.1 in omega (arith, mul-le-mul_right (cell_count ns) w.0)

getD_concat_tabulate : (n m : ℕ) (h : ℕ → List Value) → ((x : ℕ) → length (h x) ≡ m) → (x k : ℕ) (z : Value) → x < n → k < m → get_or (concat_tabulate n h) (x * m + k) z ≡ get_or (h x) k z
unfolding concat_tabulate
getD_concat_tabulate zero m h e x k z l q = let b : ⊥ = omega arith in absurd b
getD_concat_tabulate (suc n) m h e zero k z l q =
    let a : zero * m + k ≡ k = omega arith in
    rw a (get_or-append (h zero) (concat_tabulate n (λ x. h (suc x))) z k (omega (arith, e zero)))
getD_concat_tabulate (suc n) m h e (suc x) k z l q =
    let a : suc x * m + k ≡ length (h zero) + (x * m + k) = omega (arith, e zero) in
    rw a (get_or-append-add (h zero) (concat_tabulate n (λ x. h (suc x))) (x * m + k) z ∙ getD_concat_tabulate n m (λ x. h (suc x)) (λ x. e (suc x)) x k z (omega arith) q)

get_d_tabulate : (ns : List ℕ) (h : List ℕ → Value) (xs : List ℕ) (z : Value) → Within ns xs → get_or (tabulate ns h) (cell_index ns xs) z ≡ h xs
unfolding tabulate cell_index
get_d_tabulate [] h [] z w = refl
get_d_tabulate [] h (x ∷ xs) z w = absurd w
get_d_tabulate (n ∷ ns) h [] z w = absurd w
get_d_tabulate (n ∷ ns) h (x ∷ xs) z w =
    getD_concat_tabulate n (cell_count ns) (λ x. tabulate ns (λ xs. h (x ∷ xs))) (λ x. length_tabulate ns (λ xs. h (x ∷ xs))) x (cell_index ns xs) z w.0 (cell_index_below ns xs w.1)
    ∙ get_d_tabulate ns (λ xs. h (x ∷ xs)) xs z w.1

module _ (A : Attributes) where
  pub length_cells : (o : Option VisibleAction) (b : Reading) (i : ℕ) → length (cells_up_to A o b i) ≡ offset A i
  unfolding cells_up_to offset
  length_cells o b zero = refl
  length_cells o b (suc i) = length-append (cells_up_to A o b i) _ ∙ (λ j. length_cells o b i j + length_tabulate (domain A i) (evaluate A o (cell_at A (cells_up_to A o b i)) b i) j)

  -- A function's cells are before those of every later function.
  pub cells_apart : (g i : ℕ) → g < i → offset A g + cell_count (domain A g) ≤ offset A i
  unfolding offset
  cells_apart g zero h = omega arith
  cells_apart g (suc i) h = go (λ l. cells_apart g i l) (ℕ_discrete g i)
    where
      go : (g < i → offset A g + cell_count (domain A g) ≤ offset A i) → Dec (g ≡ i) → offset A g + cell_count (domain A g) ≤ offset A i + cell_count (domain A i)
      go k (yes e) = rw e (omega arith)
      go k (no n) = let m = k (omega arith) in omega arith

  cell_at_other : (i g : ℕ) (xs ys : List Value) → length xs ≡ offset A i → length ys ≡ cell_count (domain A i) → g ≢ i → (v : List Value) → cell_at A (xs ++ ys) g v ≡ cell_at A xs g v
  unfolding cell_at
  cell_at_other i g xs ys p q n v = apply_cong (domain A g) _ _ (λ es w. go (cell_index (domain A g) es) (cell_index_below (domain A g) es w) (dec_lt g i)) v
    where
      go : (e : ℕ) → e < cell_count (domain A g) → Dec (g < i) → get_or (xs ++ ys) (offset A g + e) undefined ≡ get_or xs (offset A g + e) undefined
      go e l (yes h) = get_or-append xs ys undefined (offset A g + e) (omega (arith, cells_apart g i h))
      go e l (no h) = let m : offset A i + cell_count (domain A i) ≤ offset A g = cells_apart i g (omega arith) in
          get_or-eq_default (xs ++ ys) undefined (omega (arith, length-append xs ys)) ∙ sym (get_or-eq_default xs undefined (omega arith))

  cell_at_here : (i : ℕ) (xs : List Value) (h : List ℕ → Value) → length xs ≡ offset A i → (v : List Value) → cell_at A (xs ++ tabulate (domain A i) h) i v ≡ apply_in_domain (domain A i) h v
  unfolding cell_at
  cell_at_here i xs h p v = apply_cong (domain A i) _ _ (λ es w. go es w) v
    where
      go : (es : List ℕ) → Within (domain A i) es → get_or (xs ++ tabulate (domain A i) h) (offset A i + cell_index (domain A i) es) undefined ≡ h es
      go es w = rw (← p) (get_or-append-add xs (tabulate (domain A i) h) (cell_index (domain A i) es) undefined ∙ get_d_tabulate (domain A i) h es undefined w)

  cell_at_none : (g : ℕ) (v : List Value) → cell_at A [] g v ≡ undefined
  unfolding cell_at
  cell_at_none g v = apply_undefined (domain A g) v

  -- The cells of the functions below i hold the values that function i reads by now.
  cell_at_now : (o : Option VisibleAction) (b : Reading) (i g : ℕ) (v : List Value) → cell_at A (cells_up_to A o b i) g v ≡ now_below A o b i g v
  unfolding cells_up_to now_below
  cell_at_now o b zero g v = cell_at_none g v
  cell_at_now o b (suc i) g v = go (cell_at_now o b i) (ℕ_discrete g i)
    where
      go : ((g : ℕ) (v : List Value) → cell_at A (cells_up_to A o b i) g v ≡ now_below A o b i g v) → Dec (g ≡ i)
          → cell_at A (cells_up_to A o b i ++ tabulate (domain A i) (evaluate A o (cell_at A (cells_up_to A o b i)) b i)) g v
          ≡ cond (eqb g i) (apply_in_domain (domain A i) (evaluate A o (now_below A o b i) b i) v) (now_below A o b i g v)
      go ih (yes e) =
          rw e (cell_at_here i (cells_up_to A o b i) (evaluate A o (cell_at A (cells_up_to A o b i)) b i) (length_cells o b i) v
          ∙ ((λ j. apply_in_domain (domain A i) (evaluate A o (λ g v. ih g v j) b i) v)
          ∙ sym (cond_true _ _ (eqb i i) (eqb_refl i))))
      go ih (no n) =
          cell_at_other i g (cells_up_to A o b i) (tabulate (domain A i) (evaluate A o (cell_at A (cells_up_to A o b i)) b i)) (length_cells o b i) (length_tabulate (domain A i) _) n v
          ∙ (ih g v ∙ sym (cond_false _ _ (eqb g i) (λ t. n (eqb→eq g i t))))

  -- Cells filled from the last label and the values before it are the values over the trace.
  cells_values : (H : Trace) (i : ℕ) → cells_up_to A (last_action H) (before_values A H) i ≡ values_up_to A H i
  unfolding cells_up_to values_up_to attribute_value
  cells_values H zero = refl
  cells_values H (suc i) = λ j. cells_values H i j ++ tabulate (domain A i) (evaluate A (last_action H) (λ g v. cell_at_now (last_action H) (before_values A H) i g v j) (before_values A H) i)

  pub cell_at_values : (H : Trace) (g : ℕ) (v : List Value) → cell_at A (all_values A H) g v ≡ value_at A H g v
  unfolding value_at attribute_value
  cell_at_values H g v = ap (λ (c : List Value). cell_at A c g v) (sym (cells_values H (number_of_functions A))) ∙ (cell_at_now (last_action H) (before_values A H) (number_of_functions A) g v ∙ go (dec_lt g (number_of_functions A)))
    where
      go : Dec (g < number_of_functions A) → now_below A (last_action H) (before_values A H) (number_of_functions A) g v ≡ apply_in_domain (domain A g) (evaluate A (last_action H) (now_below A (last_action H) (before_values A H) g) (before_values A H) g) v
      go (yes h) = now_below_is A (last_action H) (before_values A H) (number_of_functions A) g h v
      go (no h) = now_below_beyond A (last_action H) (before_values A H) (number_of_functions A) g (omega arith) v
          ∙ sym (ap (λ n. apply_in_domain n (evaluate A (last_action H) (now_below A (last_action H) (before_values A H) g) (before_values A H) g) v) (no_domain_beyond A g (omega arith)) ∙ apply_empty_domain _ v)

  pub initial_values : initial_cells A ≡ all_values A []
  unfolding initial_cells before_values
  initial_values = cells_values [] (number_of_functions A)

  pub renew_values : (H : Trace) (e : VisibleAction) → renew A (all_values A H) e ≡ all_values A (e ∷ H)
  unfolding renew before_values value_at attribute_value
  renew_values H e = (λ j. cells_up_to A (some e) (λ g v. cell_at_values H g v j) (number_of_functions A)) ∙ cells_values (e ∷ H) (number_of_functions A)

  -- After any trace the cells hold the values of all functions at all elements.
  pub cells_after_values : (H : Trace) → cells_after A H ≡ all_values A H
  unfolding cells_after
  cells_after_values [] = initial_values
  cells_after_values (e ∷ H) = ap (λ c. renew A c e) (cells_after_values H) ∙ renew_values H e

  -- C cells, and each at most the largest number.
  pub length_values : (H : Trace) → length (all_values A H) ≡ total_cells A
  length_values H = ap length (sym (cells_values H (number_of_functions A))) ∙ length_cells (last_action H) (before_values A H) (number_of_functions A)

module _ (A : Attributes) (o : Option VisibleAction) (b : Reading) where
  -- A cell of the finished memory.
  pub cell_value : (i f : ℕ) (xs : List ℕ) → f < i → Within (domain A f) xs
      → get_or (cells_up_to A o b i) (offset A f + cell_index (domain A f) xs) undefined ≡ evaluate A o (now_below A o b f) b f xs
  unfolding cell_at
  cell_value i f xs l w = sym (apply_numbers (domain A f) (λ ys. get_or (cells_up_to A o b i) (offset A f + cell_index (domain A f) ys) undefined) xs w)
      ∙ (cell_at_now A o b i f (map number xs) ∙ (now_below_is A o b i f l (map number xs) ∙ apply_numbers (domain A f) (evaluate A o (now_below A o b f) b f) xs w))

  -- A buffer whose cells below f's offset are those of `cells_up_to` gives, for every function below f, the value of `now_below`, whatever follows them.
  pub prefix_cells : (f : ℕ) (cells : List Value) → ((c : ℕ) → c < offset A f → get_or cells c undefined ≡ get_or (cells_up_to A o b f) c undefined)
      → (g : ℕ) → g < f → (v : List Value) → cell_at A cells g v ≡ now_below A o b f g v
  unfolding cell_at
  prefix_cells f cells equal g l v =
      apply_cong (domain A g) (λ ys. get_or cells (offset A g + cell_index (domain A g) ys) undefined) (λ ys. get_or (cells_up_to A o b f) (offset A g + cell_index (domain A g) ys) undefined)
      (λ ys w. equal (offset A g + cell_index (domain A g) ys) (omega (arith, cell_index_below (domain A g) ys w, cells_apart A g f l))) v
      ∙ cell_at_now A o b f g v

  -- So the value computed over the buffer is the cell.
  pub renewed : (i f : ℕ) (xs : List ℕ) (cells : List Value) → f < i → Within (domain A f) xs → (P : Scope) → P.now ≤ f → DataInScope (expression (function A f) o) P
      → ((c : ℕ) → c < offset A f → get_or cells c undefined ≡ get_or (cells_up_to A o b f) c undefined)
      → evaluate A o (cell_at A cells) b f xs ≡ get_or (cells_up_to A o b i) (offset A f + cell_index (domain A f) xs) undefined
  unfolding evaluate
  renewed i f xs cells l w P p s equal =
      data_cong A P (variables_in_scope xs o) (cell_at A cells) (now_below A o b f) b (λ g h. prefix_cells f cells equal g (omega arith)) (expression (function A f) o) s
      ∙ sym (cell_value i f xs l w)

  -- A cell of the finished memory, now reading that memory itself.
  pub finished_cell : (i f : ℕ) (xs : List ℕ) → f < i → Within (domain A f) xs → (P : Scope) → P.now ≤ f → DataInScope (expression (function A f) o) P
      → get_or (cells_up_to A o b i) (offset A f + cell_index (domain A f) xs) undefined ≡ evaluate A o (cell_at A (cells_up_to A o b i)) b f xs
  unfolding evaluate
  finished_cell i f xs l w P p s =
      cell_value i f xs l w
      ∙ data_cong A P (variables_in_scope xs o) (now_below A o b f) (cell_at A (cells_up_to A o b i)) b
      (λ g h v. now_below_is A o b f g (omega arith) v ∙ (sym (now_below_is A o b i g (omega arith) v) ∙ sym (cell_at_now A o b i g v))) (expression (function A f) o) s

pub cells_counted : (A : Attributes) (M : List Value) (a : VisibleAction) → (length (initial_cells A) ≡ total_cells A) × (length (renew A M a) ≡ total_cells A)
unfolding initial_cells renew
cells_counted A M a = (length_cells A none no_reading (number_of_functions A), length_cells A (some a) (cell_at A M) (number_of_functions A))

-- Document 01: at start the empty-trace expressions fill the cells; a visible action computes all anew, now reading new cells, before old ones.
module _ (A : Attributes) (arity : ℕ → ℕ) (scoped : ExpressionsInScope A arity) (f : ℕ) (defined : f < number_of_functions A) (xs : List ℕ) (w : Within (domain A f) xs) where
  pub start_cell : get_or (initial_cells A) (offset A f + cell_index (domain A f) xs) undefined
      ≡ evaluate_data (function A f).at_start (environment A.edition.top xs (cell_at A (initial_cells A)) no_reading)
  unfolding initial_cells evaluate
  start_cell = finished_cell A none no_reading (number_of_functions A) f xs defined w (start_scope A f) (omega arith) (scoped.at_start f defined)

  pub renewed_cell : (cells : List Value) (a : VisibleAction) → get_or (renew A cells a) (offset A f + cell_index (domain A f) xs) undefined
      ≡ evaluate_data (get_or (function A f).at_label a.label Undefined) (environment A.edition.top (xs ++ a.arguments) (cell_at A (renew A cells a)) (cell_at A cells))
  unfolding renew evaluate
  renewed_cell cells a =
      finished_cell A (some a) (cell_at A cells) (number_of_functions A) f xs defined w (label_scope A f (arity a.label)) (omega arith) (scoped.at_label f a.label defined)

-- The value of function f at xs is stored at f's offset plus the cell index of xs.
pub value_cell : (A : Attributes) (H : Trace) (f : ℕ) → f < number_of_functions A → (xs : List ℕ) → Within (domain A f) xs
    → get_or (all_values A H) (offset A f + cell_index (domain A f) xs) undefined ≡ attribute_value A H f xs
unfolding attribute_value
value_cell A H f h xs w = ap (λ c. get_or c (offset A f + cell_index (domain A f) xs) undefined) (sym (cells_values A H (number_of_functions A)))
    ∙ cell_value A (last_action H) (before_values A H) (number_of_functions A) f xs h w

-- Every cell is at most the largest number, if constants and arguments are.
values_append : (top : ℕ) (us vs : List Value) → ValuesAtMost top us → ValuesAtMost top vs → ValuesAtMost top (us ++ vs)
values_append top [] vs h k = k
values_append top (u ∷ us) vs h k = (h.0, values_append top us vs h.1 k)

concat_tabulate_at_most : (top n : ℕ) (h : ℕ → List Value) → ((x : ℕ) → x < n → ValuesAtMost top (h x)) → ValuesAtMost top (concat_tabulate n h)
unfolding concat_tabulate
concat_tabulate_at_most top zero h b = tt
concat_tabulate_at_most top (suc n) h b = values_append top (h zero) _ (b zero (omega arith)) (concat_tabulate_at_most top n (λ x. h (suc x)) (λ x l. b (suc x) (omega arith)))

tabulate_at_most : (top : ℕ) (ns : List ℕ) (h : List ℕ → Value) → ((xs : List ℕ) → Within ns xs → AtMost top (h xs)) → ValuesAtMost top (tabulate ns h)
unfolding tabulate
tabulate_at_most top [] h b = (b [] tt, tt)
tabulate_at_most top (n ∷ ns) h b = concat_tabulate_at_most top n _ (λ x l. tabulate_at_most top ns (λ xs. h (x ∷ xs)) (λ xs w. b (x ∷ xs) (l, w)))

module _ (A : Attributes) (arity : ℕ → ℕ) (scoped : ExpressionsInScope A arity) (small : (f : ℕ) (xs : List ℕ) → Within (domain A f) xs → AllAtMost A.edition.top xs) where
  up_to_at_most : (H : Trace) → TraceAtMost A.edition.top H → (i : ℕ) → i ≤ number_of_functions A → ValuesAtMost A.edition.top (values_up_to A H i)
  unfolding values_up_to
  up_to_at_most H h zero l = tt
  up_to_at_most H h (suc i) l = values_append A.edition.top (values_up_to A H i) _ (up_to_at_most H h i (omega arith))
      (tabulate_at_most A.edition.top (domain A i) (attribute_value A H i) (λ xs w. value_at_most A arity scoped small H h i l xs w))

  pub values_at_most : (H : Trace) → TraceAtMost A.edition.top H → ValuesAtMost A.edition.top (all_values A H)
  values_at_most H h = up_to_at_most H h (number_of_functions A) (omega arith)

  -- The same of cells renewed from any cells: Move's memory need not come from a run.
  getD_at_most : (cells : List Value) → ValuesAtMost A.edition.top cells → (k : ℕ) → AtMost A.edition.top (get_or cells k undefined)
  getD_at_most [] h k = tt
  getD_at_most (v ∷ vs) h zero = h.0
  getD_at_most (v ∷ vs) h (suc k) = getD_at_most vs h.1 k

  cell_at_most : (cells : List Value) → ValuesAtMost A.edition.top cells → ReadingAtMost A.edition.top (cell_at A cells)
  unfolding cell_at
  cell_at_most cells h f vs = apply_at_most A.edition.top (domain A f) _ (λ xs w. getD_at_most cells h (offset A f + cell_index (domain A f) xs)) vs

  cells_at_most : (o : Option VisibleAction) (before : Reading) → ActionAtMost A arity scoped small o → ReadingAtMost A.edition.top before
      → (i : ℕ) → i ≤ number_of_functions A → ValuesAtMost A.edition.top (cells_up_to A o before i)
  unfolding cells_up_to
  cells_at_most o before u b zero l = tt
  cells_at_most o before u b (suc i) l =
      let h : ValuesAtMost A.edition.top (cells_up_to A o before i) = cells_at_most o before u b i (omega arith) in
      values_append A.edition.top (cells_up_to A o before i) _ h
      (tabulate_at_most A.edition.top (domain A i) _ (λ xs w. evaluate_at_most A arity scoped small o _ before u (cell_at_most (cells_up_to A o before i) h) b i l xs (small i xs w)))

  pub renew_at_most : (cells : List Value) (a : VisibleAction) → ValuesAtMost A.edition.top cells → AllAtMost A.edition.top a.arguments → ValuesAtMost A.edition.top (renew A cells a)
  unfolding renew
  renew_at_most cells a h u = cells_at_most (some a) (cell_at A cells) u (cell_at_most cells h) (number_of_functions A) (omega arith)
