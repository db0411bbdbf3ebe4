-- Functions: their expressions, and their cells. A case for each way that these functions return.
-- Document 01, "Blocks and the rule stream", item 4; refusals 4 and 5.
use Prim.Native.Nat.{ℕ, zero, suc, ◌+◌, ◌-◌, ◌*◌, ◌≤◌}
use native.Mathlib.Numerals.{sub-one}
use native.Mathlib.Omega.{arith}
use mathlib.Core.Path.{◌≡◌, refl, sym, ap, ◌∙◌, subst}
use mathlib.Core.List.{List, [], ◌∷◌}
use lib.ListN.{length, get_or, replicate}
use Rattle.eb3.specs.Cells.{cell_count}
use Rattle.eb3.specs.Expressions.{Data}
use Rattle.eb3.specs.RuleSets.{Function, domain_size}
use Rattle.eb3.specs.Reading.{Read, refused, taken, Reader, giving, then, both, number_of, repeat, series}
use Rattle.eb3.specs.ExpressionReading.{read_data}
use Rattle.eb3.specs.RuleReading.{function_from, read_function}
use Rattle.words.specs.Checking.{checked, last_of, Checked}
use Rattle.words.specs.Ends.{Fine}
use Rattle.words.specs.Laws.Checking.{tail_at, both_in, both_out, number_word}
use Rattle.expression_check.specs.Laws.Reading.{data_ends}
use Rattle.tables.specs.Layout.{domain_count, label_count}
use Rattle.tables.specs.Tables.{edition_in, declared}
use Rattle.declarations.specs.declared.Counted.{Counted}
use Rattle.declarations.specs.Entering.{labels_of, cells_of, all_cells, function_cells, functions_cells, CellsBound, found_cells}
use Rattle.declarations.specs.Laws.Scopes.{one_each, at_start, start_scope}
use Rattle.declarations.specs.Laws.Functions.{function_ends}
use Rattle.declarations.specs.Noting.{start_of, label_expressions, function_of}
use Rattle.std.specs.Prelude.{Ok, Err, Result}
use Rattle.refusals.specs.declared.Refusal.{Refusal}
use Rattle.words.specs.Readings.{RefusedAs}
use Rattle.words.specs.Laws.Reading.{checked_refused}
use Rattle.refusals.specs.Numbers.{refusal}

-- ── both kinds ──

abbrev pub labels_for : List ℕ → ℕ → ℕ → Reader (List Data)
labels_for T n i = label_expressions T n i (label_count T)

module _ (T t : List ℕ) (n i : ℕ) (p : Checked) (e : p ≡ checked (read_data (at_start i) t)) where
  start : p ≡ checked (start_of T n i t)
  start = e ∙ ap (λ S. checked (read_data S t)) (start_scope T n i)

  pub expressions_out : (j : Refusal) → p ≡ Err j → Err j ≡ checked (both (start_of T n i) (labels_for T n i) t)
  expressions_out j h = both_out (start_of T n i) (labels_for T n i) t p j start h

  pub expressions_in : (r : List ℕ) (q : Checked) (m : ℕ) → p ≡ Ok m → r ≡ last_of m t → q ≡ checked (labels_for T n i r) → q ≡ checked (both (start_of T n i) (labels_for T n i) t)
  expressions_in r q m h s f = both_in (start_of T n i) (labels_for T n i) t r p q m (data_ends _) start h s f

-- ── a function ──

one_parameter : (d m : ℕ) (t : List ℕ) → Ok m ≡ checked (number_of 5 d t) → repeat 1 (number_of 5 d) t ≡ taken (get_or t 0 0 ∷ []) (last_of m t)
unfolding repeat both then giving
one_parameter d m t e = rw (number_word 5 d m t e)

abbrev pub sizes_in : List ℕ → List ℕ
sizes_in T = (declared T).domains

function_is : (T t : List ℕ) (n i : ℕ) → function_of T n i t ≡ giving function_from (both (repeat 1 (number_of 5 (domain_count T))) (both (start_of T n i) (labels_for T n i)) t)
unfolding read_function
function_is T t n i = ap (λ c. giving function_from (both (repeat c (number_of 5 (domain_count T))) (both (start_of T n i) (labels_for T n i)) t)) (one_each n i)

-- with its parameter read
pub function_on : (T t : List ℕ) (n i m : ℕ) → Ok m ≡ checked (number_of 5 (domain_count T) t) → function_of T n i t ≡ giving function_from (giving (λ b. (get_or t 0 0 ∷ [], b)) (both (start_of T n i) (labels_for T n i) (last_of m t)))
unfolding both then
function_on T t n i m e = function_is T t n i ∙ rw (one_parameter (domain_count T) m t e)

cells_given : (D : List ℕ) (w o z : ℕ) (r : Read (Data × List Data)) → Ok o ≡ checked r → z ≡ get_or D w 0 → found_cells o z ≡ function_cells D (giving function_from (giving (λ b. (w ∷ [], b)) r))
unfolding checked giving function_cells cells_of cell_count
cells_given D w o z (refused j) e f = absurd (let y : ◌≡◌ {A = ℕ} 0 1 = cc in omega arith)
cells_given D w o z (taken b u) e f =
    let k : o ≡ length u = cc in
    let c : z ≡ get_or D w 0 * 1 = omega (arith, f) in
    rw (k, c)

none_given : (D : List ℕ) (w : ℕ) (j : Refusal) (r : Read (Data × List Data)) → Err j ≡ checked r → Err j ≡ function_cells D (giving function_from (giving (λ b. (w ∷ [], b)) r))
unfolding checked giving function_cells
none_given D w j (refused k) e =
    let f : j ≡ refusal k = cc in
    ap Err f
none_given D w j (taken b u) e = absurd (let y : ◌≡◌ {A = ℕ} 0 1 = cc in omega arith)

-- d is how many domains there are
module _ (T t : List ℕ) (n i d : ℕ) (p : Checked) (w : d ≡ domain_count T) (e : p ≡ checked (number_of 5 d t)) where
  there : p ≡ checked (number_of 5 (domain_count T) t)
  there = e ∙ ap (λ y. checked (number_of 5 y t)) w

  pub function_out : (j : Refusal) → p ≡ Err j → Err j ≡ function_cells (sizes_in T) (function_of T n i t)
  unfolding giving both then repeat function_cells
  function_out j h = let x = checked_refused (number_of 5 (domain_count T) t) j (sym h ∙ there) in rw (function_is T t n i, x.read) (ap Err x.named)

  module _ (m : ℕ) (r : List ℕ) (q : Checked) (h : p ≡ Ok m) (s : r ≡ last_of m t) (f : q ≡ checked (both (start_of T n i) (labels_for T n i) r)) where
    rest : q ≡ checked (both (start_of T n i) (labels_for T n i) (last_of m t))
    rest = f ∙ ap (λ u. checked (both (start_of T n i) (labels_for T n i) u)) s

    pub function_stops : (j : Refusal) → q ≡ Err j → Err j ≡ function_cells (sizes_in T) (function_of T n i t)
    function_stops j b = rw (function_on T t n i m (sym h ∙ there)) (none_given (sizes_in T) (get_or t 0 0) j _ (sym b ∙ rest))

    pub function_in : (o x z : ℕ) → q ≡ Ok o → x ≡ get_or t 0 0 → z ≡ domain_size (declared T) x → found_cells o z ≡ function_cells (sizes_in T) (function_of T n i t)
    function_in o x z b c y = rw (function_on T t n i m (sym h ∙ there)) (cells_given (sizes_in T) (get_or t 0 0) o z _ (sym b ∙ rest) (y ∙ ap (λ v. get_or (sizes_in T) v 0) c))

-- ── functions ──

pub functions_none : (T t : List ℕ) (n k i : ℕ) → k ≡ 0 → found_cells (length t) 0 ≡ functions_cells (sizes_in T) (series k i (function_of T n) t)
unfolding series functions_cells all_cells
functions_none T t n k i z = rw z

pub functions_next : (T t : List ℕ) (n k i : ℕ) → (k ≡ 0 → ⊥) → series k i (function_of T n) t ≡ giving (λ p. p.0 ∷ p.1) (both (function_of T n i) (series (k - 1) (i + 1) (function_of T n)) t)
unfolding series
functions_next T t n zero i z = absurd (z refl)
functions_next T t n (suc k) i z = rw (sub-one (suc k))

-- what was read, where m words are left
left_of : (D t : List ℕ) (m c : ℕ) (r : Read Function) → Fine t r → found_cells m c ≡ function_cells D r → (F : Function) × ((r ≡ taken F (last_of m t)) × (c ≡ cells_of D F))
unfolding function_cells
left_of D t m c (refused j) f e = absurd (let y : ◌≡◌ {A = ℕ} 0 1 = cc in omega arith)
left_of D t m c (taken F u) f e =
    let q : ◌≡◌ {A = Counted} (record { left = m; cells = c }) (record { left = length u; cells = cells_of D F }) = cc in
    let k : m ≡ length u = ap (λ x. x.left) q in
    let o : c ≡ cells_of D F = ap (λ x. x.cells) q in
    (F, (ap (taken F) (sym (ap (λ j. last_of j t) k ∙ tail_at u t f)), o))

out_of : (D : List ℕ) (j : Refusal) (r : Read Function) → Err j ≡ function_cells D r → RefusedAs j r
unfolding function_cells
out_of D j (refused k) e = record { code = k; read = refl; named = cc }
out_of D j (taken F u) e = absurd (let y : ◌≡◌ {A = ℕ} 0 1 = cc in omega arith)

abbrev one_more : Function → Read (List Function) → Read (List Function)
one_more F r = giving {A = Function × List Function} (λ p. p.0 ∷ p.1) (giving (λ b. (F, b)) r)

sum_given : (D : List ℕ) (F : Function) (l c d : ℕ) (r : Read (List Function)) → c ≡ cells_of D F → found_cells l d ≡ functions_cells D r → found_cells l (c + d) ≡ functions_cells D (one_more F r)
unfolding giving functions_cells all_cells
sum_given D F l c d (refused j) f e = absurd (let y : ◌≡◌ {A = ℕ} 0 1 = cc in omega arith)
sum_given D F l c d (taken Fs u) f e =
    let q : ◌≡◌ {A = Counted} (record { left = l; cells = d }) (record { left = length u; cells = all_cells D Fs }) = cc in
    rw (ap (λ x. x.left) q, f, ap (λ x. x.cells) q)

stop_given : (D : List ℕ) (F : Function) (j : Refusal) (r : Read (List Function)) → Err j ≡ functions_cells D r → Err j ≡ functions_cells D (one_more F r)
unfolding giving functions_cells
stop_given D F j (refused k) e = e
stop_given D F j (taken Fs u) e = absurd (let y : ◌≡◌ {A = ℕ} 0 1 = cc in omega arith)

module _ (T t : List ℕ) (n k i : ℕ) (p : Result Counted Refusal) (z : k ≡ 0 → ⊥) (e : p ≡ function_cells (sizes_in T) (function_of T n i t)) where
  pub functions_out : (j : Refusal) → p ≡ Err j → Err j ≡ functions_cells (sizes_in T) (series k i (function_of T n) t)
  unfolding giving both then functions_cells
  functions_out j h = let x = out_of (sizes_in T) j (function_of T n i t) (sym h ∙ e) in rw (functions_next T t n k i z, x.read) (ap Err x.named)

  module _ (one : Counted) (r : List ℕ) (q : Result Counted Refusal) (h : p ≡ Ok one) (s : r ≡ last_of one.left t) (f : q ≡ functions_cells (sizes_in T) (series (k - 1) (i + 1) (function_of T n) r)) where
    it : (F : Function) × ((function_of T n i t ≡ taken F (last_of one.left t)) × (one.cells ≡ cells_of (sizes_in T) F))
    it = left_of (sizes_in T) t one.left one.cells (function_of T n i t) (function_ends (edition_in T) (domain_count T) (labels_of T 0 (label_count T)) (replicate n 1) i t) (sym h ∙ e)

    whole : series k i (function_of T n) t ≡ one_more it.0 (series (k - 1) (i + 1) (function_of T n) (last_of one.left t))
    unfolding both then
    whole = functions_next T t n k i z ∙ rw it.1.0

    others : q ≡ functions_cells (sizes_in T) (series (k - 1) (i + 1) (function_of T n) (last_of one.left t))
    others = f ∙ ap (λ u. functions_cells (sizes_in T) (series (k - 1) (i + 1) (function_of T n) u)) s

    pub functions_stop : (j : Refusal) → q ≡ Err j → Err j ≡ functions_cells (sizes_in T) (series k i (function_of T n) t)
    functions_stop j b = rw whole (stop_given (sizes_in T) it.0 j _ (sym b ∙ others))

    pub functions_in : (two : Counted) → q ≡ Ok two → found_cells two.left (one.cells + two.cells) ≡ functions_cells (sizes_in T) (series k i (function_of T n) t)
    functions_in two b = rw whole (sum_given (sizes_in T) it.0 two.left one.cells two.cells _ it.1.1 (sym b ∙ others))

-- no sum overflows
pub one_bound : (p : Result Counted Refusal) (one : Counted) → p ≡ Ok one → CellsBound p 1 → one.cells ≤ 1 * 4294967296
one_bound p one h e = subst (λ x. CellsBound x 1) h e
