-- One process and all of them: a case for each way that these functions return, and what they ask.
use mathlib.Core.Path.{◌≡◌, refl, ap, sym, ◌∙◌, subst}
use mathlib.Core.List.{List}
use Prim.Native.Nat.{ℕ, zero, suc, ◌+◌, ◌-◌, ◌≤◌, ◌<◌}
use native.Mathlib.Numerals.{sub-one}
use native.Mathlib.Omega.{arith}
use lib.ListN.{length, get_or, take, drop, set, length-take, length-set}
use lib.Seq.{paste, get_or-set_same}
use Rattle.eb3.specs.RuleSets.{RuleTerm, Process, RuleSet}
use Rattle.eb3.specs.Measures.{Measure}
use Rattle.eb3.specs.Reading.{Read, refused, taken, giving, then, counted, number_of}
use Rattle.eb3.specs.RuleReading.{parameter_limit, read_rule_term, read_process, read_processes}
use Rattle.measures.specs.Weighing.{measure}
use Rattle.measures.specs.declared.Weight.{Weight}
use Rattle.words.specs.Checking.{checked, last_of, Checked}
use Rattle.words.specs.Ends.{Tail}
use Rattle.words.specs.Laws.Checking.{tail_on, last_tail, last_all, last_last, last_length}
use Rattle.std.proofs.Common.{le_refl}
use Rattle.rule_terms.specs.declared.Weighed.{Weighed}
use Rattle.rule_terms.specs.Weighed.{weighed, Answer, found}
use Rattle.tables.specs.Layout.{processes_place, process_place, size_in, reach_in, breadth_in, body_in, domain_count, process_count}
use Rattle.tables.specs.Tables.{row, declared, callee}
use Rattle.tables.specs.Laws.Tables.{domains_length}
use Rattle.declarations.specs.Declaring.{Declares, entered_process}
use Rattle.declarations.specs.Laws.Declaring.{entered_length}
use Rattle.declarations.specs.Bounds.{Bounded}
use Rattle.declarations.specs.Laws.Processes.{entered_bounded}
use Rattle.declarations.specs.Rows.{RowAt}
use Rattle.declarations.specs.Laws.Rows.{numbers_row}
use Rattle.rules.specs.Sections.{process_weighed, main_weighed}
use Rattle.rules.specs.Filling.{ProcessesRead}
use Rattle.rules.specs.Laws.Sections.{processes_refused, process_row_front, last_answers, last_placed, next_answers, next_placed}
use Rattle.std.specs.Prelude.{Ok, Err}
use Rattle.refusals.specs.declared.Refusal.{Refusal}
use Rattle.refusals.specs.Numbers.{refusal}

-- ── one process ──

giving_weighed : (R : RuleSet) (M : ℕ → Measure) (ds : List ℕ) (r : Read RuleTerm) → weighed R M r ≡ process_weighed R M (giving (λ E. record { parameters = ds; term = E }) r)
unfolding weighed process_weighed giving
giving_weighed R M ds (refused k) = refl
giving_weighed R M ds (taken E t) = refl

module _ (T t : List ℕ) (hi d x : ℕ) (p : Checked) (e : p ≡ checked (counted 0 hi (number_of 5 d) t)) (f : d ≡ x) (g : x ≡ domain_count T) where
  abbrev after : List ℕ → List ℕ → Read Process
  after ds u = giving (λ E. record { parameters = ds; term = E }) (read_rule_term (declared T) ds u)

  by_tables : d ≡ length (declared T).domains
  by_tables = f ∙ g ∙ sym (domains_length T)

  there : (m : ℕ) → p ≡ Ok m → RowAt hi t (counted 0 hi (number_of 5 d) t) m
  there m h = numbers_row 0 hi 5 d m t p e h

  module _ (m k : ℕ) (h : p ≡ Ok m) (i : k ≡ get_or t 0 0) where
    pub row_ends : (k + 1 ≤ length t) × (k ≤ hi)
    row_ends = (omega (arith, i, (there m h).room), omega (arith, i, (there m h).small))

    pub process_in : (s : List ℕ) (q : Answer) → s ≡ last_of m t → q ≡ weighed (declared T) (callee T) (read_rule_term (declared T) (take (k + 1 - 1) (drop 1 t)) s)
        → q ≡ process_weighed (declared T) (callee T) (read_process (declared T) hi t)
    unfolding read_process then row
    process_in s q l w =
        let o : k + 1 - 1 ≡ get_or t 0 0 = omega (arith, i) in
        w ∙ (λ j. weighed (declared T) (callee T) (read_rule_term (declared T) (take (o j) (drop 1 t)) (l j)))
        ∙ giving_weighed (declared T) (callee T) (row t 0) (read_rule_term (declared T) (row t 0) (last_of m t))
        ∙ ap (λ r. process_weighed (declared T) (callee T) (then r after)) (sym (there m h).is)
        ∙ ap (λ n. process_weighed (declared T) (callee T) (then (counted 0 hi (number_of 5 n) t) after)) by_tables

  pub process_out : (k : Refusal) → p ≡ Err k → Err k ≡ process_weighed (declared T) (callee T) (read_process (declared T) hi t)
  unfolding read_process then process_weighed checked
  process_out k h = go (counted 0 hi (number_of 5 d) t) (sym h ∙ e) ∙ ap (λ n. process_weighed (declared T) (callee T) (then (counted 0 hi (number_of 5 n) t) after)) by_tables
    where
      go : (r : Read (List ℕ)) → Err k ≡ checked r → Err k ≡ process_weighed (declared T) (callee T) (then r after)
      go (refused j) q = (let z : k ≡ refusal j = cc in ap Err z)
      go (taken l u) q = absurd (let z : ◌≡◌ {A = ℕ} 0 1 = cc in omega arith)

-- ── entering it ──

pub entered_is : (T T₁ t : List ℕ) (p k a b c left x y : ℕ) → T₁ ≡ paste T (process_place p) (take (k + 1) t) (length (take (k + 1) t)) → k ≡ get_or t 0 0 → x ≡ left → y ≡ p + 1
    → set (set (set (set (set T₁ (process_place p + size_in) a) (process_place p + reach_in) b) (process_place p + breadth_in) c) (process_place p + body_in) x) processes_place y ≡ entered_process T p (take (get_or t 0 0 + 1) t) a b c left
unfolding entered_process
entered_is T T₁ t p k a b c left x y e f g i =
    let q : T₁ ≡ paste T (process_place p) (take (get_or t 0 0 + 1) t) (length (take (get_or t 0 0 + 1) t)) = e ∙ ap (λ n. paste T (process_place p) (take (n + 1) t) (length (take (n + 1) t))) f in
    (λ j. set (set (set (set (set (q j) (process_place p + size_in) a) (process_place p + reach_in) b) (process_place p + breadth_in) c) (process_place p + body_in) (g j)) processes_place (i j))

-- ── what the rest asks ──

last_set : (T : List ℕ) (v : ℕ) (B : List ℕ) → length (set B processes_place v) ≡ length T → processes_place < length T → process_count (set B processes_place v) ≡ v
last_set T v B h k = get_or-set_same B processes_place v 0 (omega (arith, length-set B processes_place v))

pub next_asks : (T T' t : List ℕ) (p left : ℕ) (w : Weight) → Bounded T → get_or t 0 0 ≤ 4 → process_place (p + 1) ≤ length T → T' ≡ entered_process T p (take (get_or t 0 0 + 1) t) w.size w.reach w.breadth left
    → (length T' ≡ length T) × (process_count T' ≡ p + 1) × Bounded T'
unfolding entered_process
next_asks T T' t p left w b few room e =
    let short : length (take (get_or t 0 0 + 1) t) ≤ 5 = omega (arith, length-take (get_or t 0 0 + 1) t) in
    let same : length T' ≡ length T = ap length e ∙ entered_length T p (take (get_or t 0 0 + 1) t) (measure w) left short room in
    let same₁ = entered_length T p (take (get_or t 0 0 + 1) t) (measure w) left short room in
    (same, ap (λ l. process_count l) e ∙ last_set T (p + 1) (set (set (set (set (paste T (process_place p) (take (get_or t 0 0 + 1) t) (length (take (get_or t 0 0 + 1) t))) (process_place p + size_in) w.size) (process_place p + reach_in) w.reach) (process_place p + breadth_in) w.breadth) (process_place p + body_in) left) same₁ (omega arith), subst Bounded (sym e) (entered_bounded T p (take (get_or t 0 0 + 1) t) (measure w) left short room b))

-- ── all of them ──

-- What is refused was not taken.
unread : (r : Read RuleSet) (k : Refusal) (Q : RuleSet) (u : List ℕ) → Err k ≡ main_weighed r → r ≡ taken Q u → ⊥
unfolding main_weighed
unread r k Q u e f =
    let o : Err k ≡ main_weighed (taken Q u) = e ∙ ap main_weighed f in
    let z : ◌≡◌ {A = ℕ} 0 1 = cc in
    omega arith

module _ (T t : List ℕ) (hi : ℕ) (q : Answer) (e : q ≡ process_weighed (declared T) (callee T) (read_process (declared T) hi t)) where
  pub all_refused : (n : ℕ) (k : Refusal) → 1 ≤ n → hi ≡ parameter_limit (n - 1) → q ≡ Err k → ProcessesRead t T n (Err k) T
  all_refused zero k l h f = absurd (let z : ⊥ = omega arith in z)
  all_refused (suc n) k l h f =
      let z : hi ≡ parameter_limit n = h ∙ ap parameter_limit (sub-one (suc n)) in
      let a : (R : RuleSet) → Declares T R → Err k ≡ main_weighed (read_processes (suc n) R t) =
      processes_refused T t n k (sym f ∙ e ∙ ap (λ j. process_weighed (declared T) (callee T) (read_process (declared T) j t)) z) in
      record { answer = λ R d narrow. a R d; same_length = refl; placed = λ whole R Q u tl p narrow g. absurd (unread (read_processes (suc n) R t) k Q u (a R p.declares) g) }

  module _ (n m : ℕ) (w : Weight) (h : hi ≡ parameter_limit n) (f : q ≡ found m w) where
    was : found m w ≡ process_weighed (declared T) (callee T) (read_process (declared T) (parameter_limit n) t)
    was = sym f ∙ e ∙ ap (λ j. process_weighed (declared T) (callee T) (read_process (declared T) j t)) h

    pub all_front : hi ≤ 4 → (get_or t 0 0 ≤ 4) × (get_or t 0 0 + 1 ≤ length t)
    all_front l =
        let r = process_row_front T t n m w was in
        (omega (arith, r.0, h), r.1)

    -- x is the word read
    module _ (p x : ℕ) (T' : List ℕ) (small : hi ≤ 4) (b : Bounded T) (count : process_count T ≡ p) (room : process_place (p + 1) ≤ length T) (i : x ≡ get_or t 0 0)
        (en : T' ≡ entered_process T p (take (get_or t 0 0 + 1) t) w.size w.reach w.breadth (length t - (x + 1))) where
      entered : T' ≡ entered_process T p (take (get_or t 0 0 + 1) t) w.size w.reach w.breadth (length t - (get_or t 0 0 + 1))
      entered = en ∙ ap (λ y. entered_process T p (take (get_or t 0 0 + 1) t) w.size w.reach w.breadth (length t - (y + 1))) i

      asks : (length T' ≡ length T) × (process_count T' ≡ p + 1) × Bounded T'
      asks = next_asks T T' t p (length t - (x + 1)) w b (all_front small).0 room en

      one_last : n ≡ 0 → ProcessesRead t T (suc n) (found m w) T'
      one_last z = record {
        answer = λ R d narrow. last_answers T t n m w was R d p T' b narrow count room entered z;
        same_length = asks.0;
        placed = λ whole R Q u tl o narrow g. last_placed T t n m w was R o.declares p T' b narrow count room entered z whole Q u tl o.rows g;
      }

      one_next : (r T'' : List ℕ) (v : Answer) → r ≡ last_of m t → ProcessesRead r T' n v T'' → ProcessesRead t T (suc n) v T''
      one_next r T'' v rest next = record {
        answer = λ R d narrow. next_answers T t n m w was R d p T' b narrow count room entered r rest v next.answer;
        same_length = next.same_length ∙ asks.0;
        placed = λ whole R Q u tl o narrow g. next_placed T t n m w was R o.declares p T' b narrow count room entered r rest T'' whole Q u tl o.rows g
            (λ P S y z k. next.placed whole P S u (tail_on r t whole tl (subst (λ y. Tail y t) (sym rest) (last_tail m t))) y z k);
      }

  pub all_last : (n m p x : ℕ) (w : Weight) (T' : List ℕ) → n ≡ 1 → hi ≡ parameter_limit (n - 1) → hi ≤ 4 → q ≡ found m w → Bounded T → process_count T ≡ p → process_place (n + p) ≤ length T → x ≡ get_or t 0 0
      → T' ≡ entered_process T p (take (get_or t 0 0 + 1) t) w.size w.reach w.breadth (length t - (x + 1)) → ProcessesRead t T n (found m w) T'
  all_last n m p x w T' o h small f b count room i en =
      let z : n - 1 ≡ 0 = omega arith in
      subst (λ y. ProcessesRead t T y (found m w) T') (sym o) (one_last 0 m w (h ∙ ap parameter_limit z) f p x T' small b count (omega arith) i en refl)

  pub all_next : (n m p x : ℕ) (w : Weight) (T' r T'' : List ℕ) (v : Answer) → 1 ≤ n → hi ≡ parameter_limit (n - 1) → hi ≤ 4 → q ≡ found m w → Bounded T → process_count T ≡ p → process_place (n + p) ≤ length T → x ≡ get_or t 0 0
      → T' ≡ entered_process T p (take (get_or t 0 0 + 1) t) w.size w.reach w.breadth (length t - (x + 1)) → r ≡ last_of m t → ProcessesRead r T' (n - 1) v T'' → ProcessesRead t T n v T''
  all_next zero m p x w T' r T'' v l h small f b count room i en rest next = absurd (let z : ⊥ = omega arith in z)
  all_next (suc n) m p x w T' r T'' v l h small f b count room i en rest next =
      one_next n m w (h ∙ ap parameter_limit (sub-one (suc n))) f p x T' small b count (omega arith) i en r T'' v rest (subst (λ y. ProcessesRead r T' y v T'') (sub-one (suc n)) next)

-- ── one process after the other ──

-- p of n processes are entered and give the tables T, and a is what the check of the last of them answered: what the others read by T, all read.
pub record Going (t T₀ : List ℕ) (n p : ℕ) (a : Weighed) (T : List ℕ) : Type 0 where
  pub within : p ≤ n
  pub short : a.left ≤ length t
  pub same_length : length T ≡ length T₀
  pub count : process_count T ≡ p
  pub bounded : Bounded T
  pub rest : (v : Answer) (T' : List ℕ) → 1 ≤ n - p → ProcessesRead (last_of a.left t) T (n - p) v T' → ProcessesRead t T₀ n v T'
  pub done : n ≡ p → ProcessesRead t T₀ n (Ok a) T

pub going_start : (t T : List ℕ) (n : ℕ) (w : Weight) → 1 ≤ n → process_count T ≡ 0 → Bounded T → Going t T n 0 (record { left = length t; weight = w }) T
going_start t T n w l z b = record {
  within = omega arith;
  short = le_refl (length t);
  same_length = refl;
  count = z;
  bounded = b;
  rest = λ v T' k r. subst (λ u. ProcessesRead u T n v T') (last_all (length t) t (le_refl (length t))) (subst (λ m. ProcessesRead (last_of (length t) t) T m v T') (let e : n - 0 ≡ n = omega arith in e) r);
  done = λ e. absurd (let z : ⊥ = omega arith in z);
}

module _ (t T₀ T u : List ℕ) (n p hi : ℕ) (a : Weighed) (g : Going t T₀ n p a T) (l : p < n) (q : Answer) (e : q ≡ process_weighed (declared T) (callee T) (read_process (declared T) hi u)) (i : u ≡ last_of a.left t) (h : hi ≡ parameter_limit (n - 1 - p)) (small : hi ≤ 4) where
  more : 1 ≤ n - p
  more = omega arith

  limit : hi ≡ parameter_limit (n - p - 1)
  limit = h ∙ ap parameter_limit (let e : n - 1 - p ≡ n - p - 1 = omega arith in e)

  back : (v : Answer) (T' : List ℕ) → ProcessesRead u T (n - p) v T' → ProcessesRead t T₀ n v T'
  back v T' r = g.rest v T' more (subst (λ y. ProcessesRead y T (n - p) v T') i r)

  pub going_refused : (k : Refusal) → q ≡ Err k → ProcessesRead t T₀ n (Err k) T
  going_refused k f = back (Err k) T (all_refused T u hi q e (n - p) k more limit f)

  module _ (b : Weighed) (f : q ≡ Ok b) where
    pub going_front : (get_or u 0 0 ≤ 4) × (get_or u 0 0 + 1 ≤ length u)
    going_front = all_front T u hi q e (n - p - 1) b.left b.weight limit f small

    left_short : b.left ≤ a.left
    left_short =
        let s = process_row_front T u (n - p - 1) b.left b.weight (was T u hi q e (n - p - 1) b.left b.weight limit f) in
        omega (arith, s.2, ap length i, last_length a.left t g.short)

    pub going_next : (x : ℕ) (T' : List ℕ) → x ≡ get_or u 0 0 → process_place n ≤ length T₀ → T' ≡ entered_process T p (take (get_or u 0 0 + 1) u) b.weight.size b.weight.reach b.weight.breadth (length u - (x + 1)) → Going t T₀ n (p + 1) b T'
    going_next x T' j room en =
        let here : process_place (n - p + p) ≤ length T = omega (arith, g.same_length, l) in
        let asks = next_asks T T' u p (length u - (x + 1)) b.weight g.bounded going_front.0 (omega (arith, g.same_length, l)) en in
        record {
          within = omega arith;
          short = omega (arith, left_short, g.short);
          same_length = asks.0 ∙ g.same_length;
          count = asks.1;
          bounded = asks.2;
          rest = λ v T'' m r. back v T'' (all_next T u hi q e (n - p) b.left p x b.weight T' (last_of b.left u) T'' v more limit small f g.bounded g.count here j en refl
              (subst (λ y. ProcessesRead y T' (n - p - 1) v T'') (sym (ap (last_of b.left) i ∙ last_last b.left a.left t g.short left_short))
              (subst (λ k. ProcessesRead (last_of b.left t) T' k v T'') (let d : n - (p + 1) ≡ n - p - 1 = omega arith in d) r)));
          done = λ z. back (Ok b) T' (all_last T u hi q e (n - p) b.left p x b.weight T' (let d : n - p ≡ 1 = omega arith in d) limit small f g.bounded g.count here j en);
        }

pub ruleset processing = (process_in, process_out)
