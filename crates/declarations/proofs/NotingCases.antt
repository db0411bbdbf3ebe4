-- Functions, with what is noted of them in the directory: a case for each way that these functions return.
-- Document 01, "Blocks and the rule stream", item 4; refusals 4 and 5.
use Prim.Native.Nat.{ℕ, zero, suc, ◌+◌, ◌-◌, ◌*◌, ◌%◌, ◌≤◌, ◌<◌}
use native.Mathlib.Nat.{le_refl, mul-add, mul-one, le-mul_of_pos_right}
use native.Mathlib.Numerals.{add-one}
use native.Mathlib.Omega.{arith}
use mathlib.Core.Path.{◌≡◌, refl, sym, ap, ◌∙◌, subst}
use mathlib.Core.List.{List, [], ◌∷◌}
use lib.ListN.{length, get_or, set, replicate, length-set}
use lib.Seq.{get_or-set_same, get_or-set_other}
use Rattle.eb3.specs.Cells.{cell_count}
use Rattle.eb3.specs.Expressions.{Data}
use Rattle.eb3.specs.RuleSets.{Function, domain_size}
use Rattle.eb3.specs.Reading.{Read, refused, taken, number_of, series}
use Rattle.eb3.specs.ExpressionReading.{read_data}
use Rattle.eb3.specs.RuleReading.{function_from, read_function}
use Rattle.words.specs.Checking.{checked, last_of, Checked}
use Rattle.words.specs.Ends.{Tail, Fine}
use Rattle.words.specs.Laws.Checking.{tail_at, tail_on, tail_short, last_tail, last_all, last_last, last_length}
use Rattle.words.specs.Laws.Reading.{checked_refused, not_taken}
use Rattle.expression_check.specs.Laws.Reading.{data_ends}
use Rattle.tables.specs.Layout.{domain_count, label_count}
use Rattle.tables.specs.Tables.{edition_in, declared}
use Rattle.tables.specs.Laws.Tables.{from_length}
use Rattle.declarations.specs.declared.Counted.{Counted}
use Rattle.declarations.specs.Entering.{labels_of, cells_of, function_cells, functions_cells, found_cells, CellsBound}
use Rattle.declarations.specs.Laws.Scopes.{at_start, start_scope}
use Rattle.declarations.specs.Laws.Functions.{function_ends}
use Rattle.declarations.specs.Directory.{Standing, FunctionRow, FunctionRows, row_width, first_cell_in, at_start_in}
use Rattle.declarations.proofs.DirectoryLaws.{giving_taken, both_taken, for_each_count, left_is, stands_noted, row_stays}
use Rattle.declarations.specs.Noting.{start_of, for_label, label_expressions, expressions_of, function_of, LabelsNoted, ExpressionsNoted, FunctionNoted, FunctionsNoted}
use Rattle.declarations.proofs.FunctionCases.{sizes_in, expressions_out, expressions_in, function_on, function_out, function_stops, function_in, functions_next, functions_none, functions_out, functions_stop, functions_in, one_bound}
use Rattle.std.specs.Prelude.{Ok, Err, Result}
use Rattle.refusals.specs.declared.Refusal.{Refusal}

-- ── what is refused was not taken ──

no_function : (D : List ℕ) (r : Read Function) (j : Refusal) (F : Function) (u : List ℕ) → Err j ≡ function_cells D r → r ≡ taken F u → ⊥
unfolding function_cells
no_function D r j F u e f =
    let o : Err j ≡ found_cells (length u) (cells_of D F) = e ∙ ap (function_cells D) f in
    let z : ◌≡◌ {A = ℕ} 0 1 = cc in
    omega arith

no_functions : (D : List ℕ) (r : Read (List Function)) (j : Refusal) (Fs : List Function) (u : List ℕ) → Err j ≡ functions_cells D r → r ≡ taken Fs u → ⊥
unfolding functions_cells
no_functions D r j Fs u e f =
    let o : Err j ≡ found_cells (length u) _ = e ∙ ap (functions_cells D) f in
    let z : ◌≡◌ {A = ℕ} 0 1 = cc in
    omega arith

-- ── one more place ──

module _ (D D₁ : List ℕ) (at x : ℕ) (g : D₁ ≡ set D at x) where
  noted_length : length D₁ ≡ length D
  noted_length = ap length g ∙ length-set D at x

  noted_other : (j : ℕ) → j < at → get_or D₁ j 0 ≡ get_or D j 0
  noted_other j b = ap (λ E. get_or E j 0) g ∙ get_or-set_other D at j x 0 (omega arith)

  noted_here : at < length D → get_or D₁ at 0 ≡ x
  noted_here b = ap (λ E. get_or E at 0) g ∙ get_or-set_same D at x 0 b

-- ── both kinds of expressions ──

module _ (T t D D₁ : List ℕ) (n i at : ℕ) (g : D₁ ≡ set D at (length t % 4294967296)) (p : Checked) (e : p ≡ checked (read_data (at_start i) t)) where
  pub expressions_refused : (j : Refusal) → p ≡ Err j → ExpressionsNoted T n i t D at (Err j) D₁
  expressions_refused j h =
      let a = expressions_out T t n i p e j h in
      record {
        answer = a;
        same_length = noted_length D D₁ at _ g;
        kept = noted_other D D₁ at _ g;
        found = λ whole b u tl small room f. absurd (not_taken (expressions_of T n i t) j b u (checked_refused (expressions_of T n i t) j a) f);
      }

  pub expressions_noted : (r D₂ : List ℕ) (q : Checked) (m : ℕ) → p ≡ Ok m → r ≡ last_of m t → LabelsNoted T n i (label_count T) r D₁ (at + 1) q D₂ → ExpressionsNoted T n i t D at q D₂
  expressions_noted r D₂ q m h s l =
      let o = expressions_in T t n i p e r q m h s l.answer in
      record {
        answer = o;
        same_length = l.same_length ∙ noted_length D D₁ at _ g;
        kept = λ j b. l.kept j (omega arith) ∙ noted_other D D₁ at _ g j b;
        found = λ whole b u tl small room f.
            let k = both_taken (start_of T n i) (label_expressions T n i (label_count T)) t b u f in
            let v : k.0 ≡ r = left_is (start_of T n i) (data_ends _) t p m b.0 k.0 (e ∙ ap (λ S. checked (read_data S t)) (start_scope T n i)) h k.1 ∙ sym s in
            let rest : label_expressions T n i (label_count T) r ≡ taken b.1 u = ap (label_expressions T n i (label_count T)) (sym v) ∙ k.2 in
            let place : get_or D₂ at 0 ≡ length t % 4294967296 = l.kept at (omega arith) ∙ noted_here D D₁ at _ g (omega arith) in (
              stands_noted _ whole t D₂ at b.0 k.0 tl small place k.1,
              subst (λ y. Standing (edition_in T).width whole D₂ y b.1) (add-one at) (l.found whole b.1 u (tail_on r t whole tl (subst (λ y. Tail y t) (sym s) (last_tail m t))) small (omega (arith, noted_length D D₁ at _ g)) rest),
            );
      }

-- ── a function ──

one_cells : (D : List ℕ) (w : ℕ) (b : Data × List Data) → cells_of D (function_from (w ∷ [], b)) ≡ get_or D w 0
unfolding cells_of cell_count
one_cells D w b = omega arith

-- d is how many domains there are
module _ (T t D : List ℕ) (n i at begin d : ℕ) (p : Checked) (w : d ≡ domain_count T) (e : p ≡ checked (number_of 5 d t)) where
  pub function_refused : (j : Refusal) → p ≡ Err j → FunctionNoted T n i t D at begin (Err j) D
  function_refused j h =
      let o = function_out T t n i d p w e j h in
      record { answer = o; same_length = refl; kept = λ m b. refl; found = λ whole F u tl small room f. absurd (no_function (sizes_in T) (function_of T n i t) j F u o f) }

  -- x is the domain, z its size
  module _ (m x z : ℕ) (r D₁ D₂ D₃ : List ℕ) (q : Checked) (h : p ≡ Ok m) (s : r ≡ last_of m t) (y : x ≡ get_or t 0 0) (c : z ≡ domain_size (declared T) x) (low : z < 4294967296)
      (g₁ : D₁ ≡ set D at (z % 4294967296)) (g₂ : D₂ ≡ set D₁ (at + first_cell_in) (begin % 4294967296)) (l : ExpressionsNoted T n i r D₂ (at + at_start_in) q D₃) where
    long : length D₂ ≡ length D
    long = noted_length D₁ D₂ (at + first_cell_in) _ g₂ ∙ noted_length D D₁ at _ g₁

    others : (j : ℕ) → j < at → get_or D₃ j 0 ≡ get_or D j 0
    others j b = l.kept j (omega arith) ∙ noted_other D₁ D₂ (at + first_cell_in) _ g₂ j (omega arith) ∙ noted_other D D₁ at _ g₁ j b

    pub function_stopped : (j : Refusal) → q ≡ Err j → FunctionNoted T n i t D at begin (Err j) D₃
    function_stopped j b =
        let o = function_stops T t n i d p w e m r q h s l.answer j b in
        record { answer = o; same_length = l.same_length ∙ long; kept = others; found = λ whole F u tl small room f. absurd (no_function (sizes_in T) (function_of T n i t) j F u o f) }

    row_found : (whole : List ℕ) (F : Function) (u : List ℕ) → Tail t whole → length whole < 4294967296 → at + row_width (label_count T) ≤ length D → function_of T n i t ≡ taken F u
        → FunctionRow (edition_in T).width (sizes_in T) whole D₃ at begin F
    row_found whole F u tl small room f =
        let number : Ok m ≡ checked (number_of 5 (domain_count T) t) = sym h ∙ e ∙ ap (λ v. checked (number_of 5 v t)) w in
        let k = giving_taken function_from _ F u (sym (function_on T t n i m number) ∙ f) in
        let b = giving_taken (λ b. (get_or t 0 0 ∷ [], b)) (expressions_of T n i (last_of m t)) k.0 u k.1 in
        let is : F ≡ function_from (get_or t 0 0 ∷ [], b.0) = k.2 ∙ ap function_from b.2 in
        let rest : expressions_of T n i r ≡ taken b.0 u = ap (expressions_of T n i) s ∙ b.1 in
        let size : z % 4294967296 ≡ z = omega arith in
        subst (FunctionRow (edition_in T).width (sizes_in T) whole D₃ at begin) (sym is) record {
          cells = l.kept at (omega arith) ∙ noted_other D₁ D₂ (at + first_cell_in) _ g₂ at (omega arith) ∙ noted_here D D₁ at _ g₁ (omega arith) ∙ size ∙ c ∙ ap (λ v. get_or (sizes_in T) v 0) y ∙ sym (one_cells (sizes_in T) (get_or t 0 0) b.0);
          begins = l.kept (at + first_cell_in) (omega arith) ∙ noted_here D₁ D₂ (at + first_cell_in) _ g₂ (omega (arith, noted_length D D₁ at _ g₁));
          expressions = l.found whole b.0 u (tail_on r t whole tl (subst (λ v. Tail v t) (sym s) (last_tail m t))) small (omega (arith, long)) rest;
        }

    pub function_noted : (o : ℕ) → q ≡ Ok o → FunctionNoted T n i t D at begin (found_cells o z) D₃
    function_noted o b = record {
      answer = function_in T t n i d p w e m r q h s l.answer o x z b y c;
      same_length = l.same_length ∙ long;
      kept = others;
      found = row_found;
    }

-- where its row begins
pub placed : (T t D D' : List ℕ) (n i at begin : ℕ) (r : Result Counted Refusal) → at ≡ row_width (label_count T) * i → FunctionNoted T n i t D at begin r D' → FunctionNoted T n i t D (row_width (label_count T) * i) begin r D'
placed T t D D' n i at begin r e N = subst (λ a. FunctionNoted T n i t D a begin r D') e N

-- ── functions ──

-- With cells of others before.
abbrev more_cells : ℕ → Result Counted Refusal → Result Counted Refusal
more_cells c (Ok a) = found_cells a.left (c + a.cells)
more_cells c (Err j) = Err j

no_cells : (r : Result Counted Refusal) → r ≡ more_cells 0 r
no_cells (Ok a) =
    let z : a.cells ≡ 0 + a.cells = omega arith in
    ap (found_cells a.left) z
no_cells (Err j) = refl

all_cells_of : (c d : ℕ) (r : Result Counted Refusal) → more_cells c (more_cells d r) ≡ more_cells (c + d) r
all_cells_of c d (Ok a) =
    let z : c + (d + a.cells) ≡ c + d + a.cells = omega arith in
    ap (found_cells a.left) z
all_cells_of c d (Err j) = refl

function_left : (D t : List ℕ) (m c : ℕ) (r : Read Function) → Fine t r → found_cells m c ≡ function_cells D r → m ≤ length t
unfolding function_cells
function_left D t m c (refused j) fine e = absurd (let z : ◌≡◌ {A = ℕ} 0 1 = cc in omega arith)
function_left D t m c (taken F u) fine e =
    let q : ◌≡◌ {A = Counted} (record { left = m; cells = c }) (record { left = length u; cells = cells_of D F }) = cc in
    omega (arith, ap (λ x. x.left) q, tail_short u t fine)

functions_noted_none : (T t D : List ℕ) (n k i begin : ℕ) → k ≡ 0 → FunctionsNoted T n k i t D begin (found_cells (length t) 0) D
unfolding series
functions_noted_none T t D n zero i begin z = record {
  answer = functions_none T t n zero i z;
  same_length = refl;
  kept = λ j b. refl;
  found = λ whole Fs u tl small room f. (let y : [] ≡ Fs = cc in subst (FunctionRows (edition_in T).width (sizes_in T) whole D (row_width (label_count T)) i begin) y tt);
}
functions_noted_none T t D n (suc k) i begin z = absurd (omega arith)

-- a label's expression each
expressions_counted : (T t : List ℕ) (n i : ℕ) (F : Function) (u : List ℕ) → function_of T n i t ≡ taken F u → length F.at_label ≡ label_count T
unfolding read_function
expressions_counted T t n i F u f =
    let k = giving_taken function_from _ F u f in
    let b = both_taken _ (expressions_of T n i) t k.0 u k.1 in
    let c = both_taken (start_of T n i) (label_expressions T n i (label_count T)) b.0 k.0.1 u b.2 in
    ap (λ (F : Function). length F.at_label) k.2 ∙ for_each_count (labels_of T 0 (label_count T)) (for_label T n i) c.0 k.0.1.1 u c.2 ∙ from_length 0 (label_count T) _

steps : (w i k : ℕ) → (k ≡ 0 → ⊥) → (w * (i + 1) ≡ w * i + w) × (w * i + w ≤ w * (i + k)) × (w * (i + 1 + (k - 1)) ≡ w * (i + k))
steps w i k z =
    let one : w * (i + 1) ≡ w * i + w = mul-add w i 1 ∙ ap (λ x. w * i + x) (mul-one w) in
    let some : 0 < k = omega (arith, z) in
    let more : w ≤ w * k = le-mul_of_pos_right w some in
    let same : i + 1 + (k - 1) ≡ i + k = omega arith in
    (one, omega (arith, mul-add w i k, more), ap (λ x. w * x) same)

cells_left : (D t : List ℕ) (m c : ℕ) (r : Read Function) (F : Function) (v : List ℕ) → Fine t r → found_cells m c ≡ function_cells D r → r ≡ taken F v → (v ≡ last_of m t) × (c ≡ cells_of D F)
unfolding function_cells
cells_left D t m c r F v fine e g =
    let k : found_cells m c ≡ found_cells (length v) (cells_of D F) = e ∙ ap (function_cells D) g in
    let q : ◌≡◌ {A = Counted} (record { left = m; cells = c }) (record { left = length v; cells = cells_of D F }) = cc in
    let l : length v ≡ m = sym (ap (λ x. x.left) q) in
    let o : c ≡ cells_of D F = ap (λ x. x.cells) q in
    (sym (tail_at v t (subst (Fine t) g fine)) ∙ ap (λ n. last_of n t) l, o)

module _ (T t D D₁ : List ℕ) (n k i begin : ℕ) (p : Result Counted Refusal) (z : k ≡ 0 → ⊥) (N : FunctionNoted T n i t D (row_width (label_count T) * i) begin p D₁) where
  abbrev w : ℕ
  w = row_width (label_count T)

  functions_refused : (j : Refusal) → p ≡ Err j → FunctionsNoted T n k i t D begin (Err j) D₁
  functions_refused j h =
      let o = functions_out T t n k i p z N.answer j h in
      record {
        answer = o;
        same_length = N.same_length;
        kept = λ y b. N.kept y b;
        found = λ whole Fs u tl small room f. absurd (no_functions (sizes_in T) (series k i (function_of T n) t) j Fs u o f);
      }

  module _ (one : Counted) (r D₂ : List ℕ) (q : Result Counted Refusal) (h : p ≡ Ok one) (s : r ≡ last_of one.left t) (M : FunctionsNoted T n (k - 1) (i + 1) r D₁ (begin + one.cells) q D₂) where
    as_long : length D₂ ≡ length D
    as_long = M.same_length ∙ N.same_length

    before : (j : ℕ) → j < w * i → get_or D₂ j 0 ≡ get_or D j 0
    before j b = M.kept j (omega (arith, (steps w i k z).0)) ∙ N.kept j b

    functions_stopped : (j : Refusal) → q ≡ Err j → FunctionsNoted T n k i t D begin (Err j) D₂
    functions_stopped j b =
        let o = functions_stop T t n k i p z N.answer one r q h s M.answer j b in
        record { answer = o; same_length = as_long; kept = before; found = λ whole Fs u tl small room f. absurd (no_functions (sizes_in T) (series k i (function_of T n) t) j Fs u o f) }

    rows_found : (whole : List ℕ) (Fs : List Function) (u : List ℕ) → Tail t whole → length whole < 4294967296 → w * (i + k) ≤ length D → series k i (function_of T n) t ≡ taken Fs u
        → FunctionRows (edition_in T).width (sizes_in T) whole D₂ w i begin Fs
    rows_found whole Fs u tl small room f =
        let st = steps w i k z in
        let y = giving_taken (λ p. p.0 ∷ p.1) _ Fs u (sym (functions_next T t n k i z) ∙ f) in
        let b = both_taken (function_of T n i) (series (k - 1) (i + 1) (function_of T n)) t y.0 u y.1 in
        let left = cells_left (sizes_in T) t one.left one.cells (function_of T n i t) y.0.0 b.0 (function_ends (edition_in T) (domain_count T) (labels_of T 0 (label_count T)) (replicate n 1) i t) (sym h ∙ N.answer) b.1 in
        let rest : series (k - 1) (i + 1) (function_of T n) r ≡ taken y.0.1 u = ap (series (k - 1) (i + 1) (function_of T n)) (s ∙ sym left.0) ∙ b.2 in
        let row : FunctionRow (edition_in T).width (sizes_in T) whole D₁ (w * i) begin y.0.0 = N.found whole y.0.0 b.0 tl small (omega (arith, st.1)) b.1 in
        let here : FunctionRow (edition_in T).width (sizes_in T) whole D₂ (w * i) begin y.0.0 = row_stays (edition_in T).width (sizes_in T) whole D₁ D₂ (w * i) begin y.0.0
        (λ j v. M.kept j (omega (arith, st.0, expressions_counted T t n i y.0.0 b.0 b.1))) row in
        let others : FunctionRows (edition_in T).width (sizes_in T) whole D₂ w (i + 1) (begin + one.cells) y.0.1 = M.found whole y.0.1 u (tail_on r t whole tl (subst (λ v. Tail v t) (sym s) (last_tail one.left t))) small (omega (arith, st.2, N.same_length)) rest in
        subst (FunctionRows (edition_in T).width (sizes_in T) whole D₂ w i begin) (sym y.2) (
          here,
          subst (λ v. FunctionRows (edition_in T).width (sizes_in T) whole D₂ w v (begin + cells_of (sizes_in T) y.0.0) y.0.1) (add-one i) (subst (λ v. FunctionRows (edition_in T).width (sizes_in T) whole D₂ w (i + 1) (begin + v) y.0.1) left.1 others),
        )

    functions_noted : (two : Counted) → q ≡ Ok two → FunctionsNoted T n k i t D begin (found_cells two.left (one.cells + two.cells)) D₂
    functions_noted two b = record {
      answer = functions_in T t n k i p z N.answer one r q h s M.answer two b;
      same_length = as_long;
      kept = before;
      found = rows_found;
    }

    -- whatever the others are
    functions_step : FunctionsNoted T n k i t D begin (more_cells one.cells q) D₂
    functions_step = go q refl
      where
        go : (x : Result Counted Refusal) → q ≡ x → FunctionsNoted T n k i t D begin (more_cells one.cells x) D₂
        go (Ok two) e = functions_noted two e
        go (Err j) e = functions_stopped j e

-- ── functions by a loop ──

-- Those from i up to j are read, of k in all; `left` words are left of t, and they have this number of cells: what is then noted of the others makes what is
-- noted of all.
pub record FunctionsGoing (T t D₀ : List ℕ) (n k i begin : ℕ) (D : List ℕ) (left cells j : ℕ) : Type 0 where
  pub begun : i ≤ j
  pub few : j ≤ i + k
  pub short : left ≤ length t
  pub low : cells ≤ (j - i) * 4294967296
  pub rest : (r : Result Counted Refusal) (D' : List ℕ) → FunctionsNoted T n (i + k - j) j (last_of left t) D (begin + cells) r D' → FunctionsNoted T n k i t D₀ begin (more_cells cells r) D'

same_noted : (T t u D D' : List ℕ) (n k m i begin b : ℕ) (r : Result Counted Refusal) → t ≡ u → k ≡ m → begin ≡ b → FunctionsNoted T n k i t D begin r D' → FunctionsNoted T n m i u D b r D'
same_noted T t u D D' n k m i begin b r e f g h =
    subst (λ x. FunctionsNoted T n m i x D b r D') e (subst (λ x. FunctionsNoted T n x i t D b r D') f (subst (λ x. FunctionsNoted T n k i t D x r D') g h))

pub functions_start : (T t D : List ℕ) (n k i begin : ℕ) → FunctionsGoing T t D n k i begin D (length t) 0 i
functions_start T t D n k i begin = record {
  begun = omega arith;
  few = omega arith;
  short = le_refl (length t);
  low = omega arith;
  rest = λ r D' h. subst (λ x. FunctionsNoted T n k i t D begin x D') (no_cells r) (same_noted T _ t D D' n (i + k - i) k i (begin + 0) begin r (last_all (length t) t (le_refl (length t))) (omega arith) (omega arith) h);
}

module _ (T t D₀ D D₁ u : List ℕ) (n k i begin left cells j : ℕ) (p : Result Counted Refusal) (s : FunctionsGoing T t D₀ n k i begin D left cells j) (lt : j < i + k) (is_u : u ≡ last_of left t)
    (N : FunctionNoted T n j u D (row_width (label_count T) * j) (begin + cells) p D₁) where
  some : i + k - j ≡ 0 → ⊥
  some z = omega (arith, z, lt)

  pub functions_fail : (e : Refusal) → p ≡ Err e → FunctionsNoted T n k i t D₀ begin (Err e) D₁
  functions_fail e h =
      s.rest (Err e) D₁ (same_noted T u _ D D₁ n (i + k - j) (i + k - j) j (begin + cells) (begin + cells) (Err e) is_u refl refl (functions_refused T u D D₁ n (i + k - j) j (begin + cells) p some N e h))

  module _ (one : Counted) (h : p ≡ Ok one) (few : CellsBound p 1) where
    ended : one.left ≤ length u
    ended = function_left (sizes_in T) u one.left one.cells (function_of T n j u) (function_ends (edition_in T) (domain_count T) (labels_of T 0 (label_count T)) (replicate n 1) j u) (sym h ∙ N.answer)

    same : last_of one.left u ≡ last_of one.left t
    same =
        let l : one.left ≤ left = omega (arith, ended, ap length is_u, last_length left t s.short) in
        ap (last_of one.left) is_u ∙ last_last one.left left t s.short l

    pub functions_more : FunctionsGoing T t D₀ n k i begin D₁ one.left (cells + one.cells) (j + 1)
    functions_more = record {
      begun = omega (arith, s.begun);
      few = omega arith;
      short = omega (arith, ended, ap length is_u, last_length left t s.short, s.short);
      low = omega (arith, s.low, s.begun, one_bound p one h few);
      rest = λ r D' M.
          let others : FunctionsNoted T n (i + k - j - 1) (j + 1) (last_of one.left u) D₁ (begin + cells + one.cells) r D' =
          same_noted T (last_of one.left t) (last_of one.left u) D₁ D' n (i + k - (j + 1)) (i + k - j - 1) (j + 1) (begin + (cells + one.cells)) (begin + cells + one.cells) r (sym same) (omega arith) (omega arith) M in
          subst (λ x. FunctionsNoted T n k i t D₀ begin x D') (all_cells_of cells one.cells r) (s.rest (more_cells one.cells r) D'
          (same_noted T u _ D D' n (i + k - j) (i + k - j) j (begin + cells) (begin + cells) (more_cells one.cells r) is_u refl refl
          (functions_step T u D D₁ n (i + k - j) j (begin + cells) p some N one (last_of one.left u) D' r h refl others)));
    }

pub functions_end : (T t D₀ D : List ℕ) (n k i begin left cells j : ℕ) → FunctionsGoing T t D₀ n k i begin D left cells j → i + k ≤ j → FunctionsNoted T n k i t D₀ begin (found_cells left cells) D × (cells ≤ k * 4294967296)
functions_end T t D₀ D n k i begin left cells j s h =
    let z : cells + 0 ≡ cells = omega arith in (
      subst (λ y. FunctionsNoted T n k i t D₀ begin (found_cells left y) D) z (s.rest (found_cells left 0) D
          (subst (λ y. FunctionsNoted T n (i + k - j) j (last_of left t) D (begin + cells) (found_cells y 0) D) (last_length left t s.short) (functions_noted_none T (last_of left t) D n (i + k - j) j (begin + cells) (omega arith)))),
      omega (arith, s.low, s.few),
    )
