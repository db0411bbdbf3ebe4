-- Measures with every intermediate result cut off at a cap: the tests against limits below the cap are exact (document 01, refusals 7, 8 and 10).
use Rattle.std.specs.Prelude.{◌≡◌, Bool, true, false, ◌↔◌, eqb}
use Rattle.std.proofs.Math.Path.{refl, ap, sym}
use Rattle.std.proofs.Common.{◌∙◌, subst, mul-le-mul, mul-zero, mul_comm}
use Prim.Native.Nat.{ℕ, zero, suc, ◌+◌, ◌*◌, ◌≤◌, ◌<◌, max, min}
use native.Mathlib.Omega.{arith}
use Rattle.std.proofs.Math.Decide.{dec_le}
use Rattle.eb3.specs.Limits
use Rattle.eb3.specs.Generic.Booleans.{cond_map}
use Rattle.eb3.specs.Terms.{Term, Done, Internal, Perform, Sequence, Choice, Star, Parallel, Guard, Mask}
use Rattle.eb3.specs.Sizes.{cond_size, size, reach, breadth, zero_mask}
use Rattle.eb3.proofs.Laws.Sizes.{size_below_reach}
use Rattle.eb3.specs.RuleSets.{RuleTerm, rule_internal, rule_perform, rule_sequence, rule_choice, rule_star, rule_parallel, rule_guard, choice_over, parallel_over, call, RuleSet, domain_size, process, main_process}
use Rattle.eb3.specs.Unfolding.{unfold_main}
use Rattle.eb3.proofs.Laws.Unfolding.{right_nest_map}
use Rattle.eb3.specs.Measures.{whole, sat, Measure, measure_of, nothing, sequence_of, choice_of, star_of, parallel_breadth_of, parallel_of, guard_of, guard_size, measure_term, table, row_of, measure_main, measure_running}
use Rattle.eb3.proofs.Laws.Measures.{parallel_whole, row_of_next, main_measure}

abbrev pub saturated : ℕ → Measure → Measure
saturated cap m = record { size = sat cap m.size; reach = sat cap m.reach; breadth = sat cap m.breadth }

-- Sums, products and maxima of saturated numbers.
at_least : (c m n : ℕ) → c ≤ m → c ≤ n → min m c ≡ min n c
at_least c m n h k = omega arith

large_product : (c a b : ℕ) → c < a → min (min a c * min b c) c ≡ min (a * b) c
large_product c a zero h = let p : min 0 c ≡ 0 = omega arith in rw p (λ j. min ((mul-zero (min a c) ∙ sym (mul-zero a)) j) c)
large_product zero a (suc b) h = omega arith
large_product (suc c) a (suc b) h =
    let p : suc c ≤ min a (suc c) = omega arith in
    let q : 1 ≤ min (suc b) (suc c) = omega arith in
    at_least (suc c) (min a (suc c) * min (suc b) (suc c)) (a * suc b) (omega (arith, mul-le-mul p q)) (omega (arith, mul-le-mul (le_of_lt h) (le_by b)))
  where
    le_by : (b : ℕ) → 1 ≤ suc b
    le_by b = omega arith

    le_of_lt : {m n : ℕ} → m < n → m ≤ n
    le_of_lt h = omega arith

product : (c a b : ℕ) → min (min a c * min b c) c ≡ min (a * b) c
product c a b = go (dec_le a c) (dec_le b c)
  where
    go : Dec (a ≤ c) → Dec (b ≤ c) → min (min a c * min b c) c ≡ min (a * b) c
    go (yes h) (yes k) = let p : min a c ≡ a = omega arith in let q : min b c ≡ b = omega arith in λ j. min (p j * q j) c
    go (yes h) (no k) = (λ j. min (mul_comm (min a c) (min b c) j) c) ∙ (large_product c b a (omega arith) ∙ (λ j. min (mul_comm b a j) c))
    go (no h) k = large_product c a b (omega arith)

module _ (c : ℕ) where
  sum : (a b : ℕ) → sat c (sat c a + sat c b) ≡ sat c (a + b)
  sum a b = omega arith

  more : (k a : ℕ) → sat c (k + sat c a) ≡ sat c (k + a)
  more k a = omega arith

  larger : (a b : ℕ) → max (sat c a) (sat c b) ≡ sat c (max a b)
  larger a b = omega arith

  three : (k a b : ℕ) → sat c (sat c (k + sat c a) + sat c b) ≡ sat c (k + a + b)
  three k a b = (λ j. sat c (more k a j + sat c b)) ∙ sum (k + a) b

  sequence_sat : (l r : Measure) → sequence_of (sat c) (saturated c l) (saturated c r) ≡ saturated c (sequence_of whole l r)
  sequence_sat l r =
      λ j. record { size = three 1 l.size r.size j; reach = ((λ j. max (three 1 l.reach r.size j) (sat c r.reach)) ∙ larger _ _) j; breadth = larger l.breadth r.breadth j }

  choice_sat : (l r : Measure) → choice_of (sat c) (saturated c l) (saturated c r) ≡ saturated c (choice_of whole l r)
  choice_sat l r =
      λ j. record { size = three 1 l.size r.size j; reach = ((λ j. max (three 1 l.size r.size j) (larger l.reach r.reach j)) ∙ larger _ _) j; breadth = sum l.breadth r.breadth j }

  star_sat : (m : Measure) → star_of (sat c) (saturated c m) ≡ saturated c (star_of whole m)
  star_sat m = λ j. record { size = more 1 m.size j; reach = three 2 m.reach m.size j; breadth = more 1 m.breadth j }

  parallel_breadth_sat : (b : Bool) (l r : ℕ) → parallel_breadth_of (sat c) b (sat c l) (sat c r) ≡ sat c (parallel_breadth_of whole b l r)
  parallel_breadth_sat true l r = (λ j. max (sat c 1) (sum l r j)) ∙ larger 1 (l + r)
  parallel_breadth_sat false l r = (λ j. max (sat c 1) (sat c (sum l r j + product c l r j))) ∙ ((λ j. max (sat c 1) (sum (l + r) (l * r) j)) ∙ larger 1 (l + r + l * r))

  parallel_sat : (k : Mask) (l r : Measure) → parallel_of (sat c) k (saturated c l) (saturated c r) ≡ saturated c (parallel_of whole k l r)
  parallel_sat k l r = λ j. record { size = three 5 l.size r.size j; reach = three 5 l.reach r.reach j; breadth = parallel_breadth_sat (zero_mask k) l.breadth r.breadth j }

  guard_sat : (n : ℕ) (m : Measure) → guard_of (sat c) n (saturated c m) ≡ saturated c (guard_of whole n m)
  guard_sat n m =
      λ j. record { size = sum (1 + n) m.size j; reach = ((λ j. max (sum (1 + n) m.size j) (sat c m.reach)) ∙ larger _ _) j; breadth = sat c m.breadth }

  module _ (R : RuleSet) (cut full : ℕ → Measure) (alike : (p : ℕ) → saturated c (full p) ≡ cut p) where
    pub term_sat : (E : RuleTerm) → saturated c (measure_term whole R full E) ≡ measure_term (sat c) R cut E
    unfolding measure_term
    term_sat rule_internal = refl
    term_sat (rule_perform l rs) = refl
    term_sat (rule_sequence E F) = sym (sequence_sat _ _) ∙ (λ j. sequence_of (sat c) (term_sat E j) (term_sat F j))
    term_sat (rule_choice E F) = sym (choice_sat _ _) ∙ (λ j. choice_of (sat c) (term_sat E j) (term_sat F j))
    term_sat (rule_star E) = sym (star_sat _) ∙ (λ j. star_of (sat c) (term_sat E j))
    term_sat (rule_parallel k E F) = sym (parallel_sat k _ _) ∙ (λ j. parallel_of (sat c) k (term_sat E j) (term_sat F j))
    term_sat (rule_guard C E) = sym (guard_sat (guard_size R.edition.width C) _) ∙ (λ j. guard_of (sat c) (guard_size R.edition.width C) (term_sat E j))
    term_sat (choice_over d E) = right_nest_map (saturated c) (nothing whole) (nothing (sat c)) (choice_of whole) (choice_of (sat c)) refl (λ l r. sym (choice_sat l r)) (domain_size R d) _ _ (λ x. term_sat E)
    term_sat (parallel_over d k E) = right_nest_map (saturated c) (nothing whole) (nothing (sat c)) (parallel_of whole k) (parallel_of (sat c) k) refl (λ l r. sym (parallel_sat k l r)) (domain_size R d) _ _ (λ x. term_sat E)
    term_sat (call p rs) = alike p

  pub table_sat : (R : RuleSet) (i p : ℕ) → saturated c (row_of whole R i p) ≡ row_of (sat c) R i p
  unfolding table
  table_sat R zero p = refl
  table_sat R (suc i) p =
      ap (saturated c) (row_of_next whole R i p)
      ∙ (cond_map (saturated c) (eqb p i) (term_sat R (row_of (sat c) R i) (row_of whole R i) (table_sat R i) (process R i).term) (table_sat R i p)
      ∙ sym (row_of_next (sat c) R i p))

  -- What is computed with saturation is the saturation of the unfolding's measures.
  pub main_sat : (R : RuleSet) → measure_main (sat c) R ≡ saturated c (measure_of R.edition.width (unfold_main R))
  unfolding measure_main
  main_sat R = sym (ap (saturated c) (main_measure R) ∙ term_sat R (row_of (sat c) R (main_process R)) (row_of whole R (main_process R)) (table_sat R (main_process R)) (process R (main_process R)).term)

  -- So of a running term.
  pub measure_running_sat : (w : ℕ) (E : Term) → measure_running (sat c) w E ≡ saturated c (measure_of w E)
  unfolding measure_running size reach breadth
  measure_running_sat w Done = refl
  measure_running_sat w Internal = refl
  measure_running_sat w (Perform a) = refl
  measure_running_sat w (Sequence E F) = (λ j. sequence_of (sat c) (measure_running_sat w E j) (measure_running_sat w F j)) ∙ sequence_sat (measure_of w E) (measure_of w F)
  measure_running_sat w (Choice E F) = (λ j. choice_of (sat c) (measure_running_sat w E j) (measure_running_sat w F j)) ∙ choice_sat (measure_of w E) (measure_of w F)
  measure_running_sat w (Star E) = (λ j. star_of (sat c) (measure_running_sat w E j)) ∙ star_sat (measure_of w E)
  measure_running_sat w (Parallel Δ E F) =
      (λ j. parallel_of (sat c) Δ (measure_running_sat w E j) (measure_running_sat w F j)) ∙ (parallel_sat Δ (measure_of w E) (measure_of w F) ∙ ap (saturated c) (sym (parallel_whole w Δ E F)))
  measure_running_sat w (Guard C E) = (λ j. guard_of (sat c) (cond_size w C) (measure_running_sat w E j)) ∙ guard_sat (cond_size w C) (measure_of w E)

  -- No number that is stored exceeds the cap.
  pub term_small : (R : RuleSet) (callee : ℕ → Measure) → ((p : ℕ) → ((callee p).size ≤ c) × ((callee p).reach ≤ c) × ((callee p).breadth ≤ c)) → (E : RuleTerm)
      → ((measure_term (sat c) R callee E).size ≤ c) × ((measure_term (sat c) R callee E).reach ≤ c) × ((measure_term (sat c) R callee E).breadth ≤ c)
  term_small R callee small E =
      let e : saturated c (measure_term whole R callee E) ≡ measure_term (sat c) R callee E = term_sat R callee callee fixed E in
      let full : Measure = measure_term whole R callee E in
      let bound : (n : ℕ) → sat c n ≤ c = λ n. omega arith in
      (subst (λ (m : Measure). m.size ≤ c) e (bound full.size), subst (λ (m : Measure). m.reach ≤ c) e (bound full.reach), subst (λ (m : Measure). m.breadth ≤ c) e (bound full.breadth))
    where
      less : (n : ℕ) → n ≤ c → sat c n ≡ n
      less n h = omega arith

      fixed : (p : ℕ) → saturated c (callee p) ≡ callee p
      fixed p = λ j. record { size = less (callee p).size (small p).0 j; reach = less (callee p).reach (small p).1 j; breadth = less (callee p).breadth (small p).2 j }

-- A test against a limit below the cap is exact, and so is a number that passes it.
pub test_exact : (cap limit n : ℕ) → limit < cap → (limit < sat cap n) ↔ (limit < n)
test_exact cap limit n h = ((λ l. omega arith), (λ l. omega arith))

pub passed_exact : (cap limit n : ℕ) → limit < cap → sat cap n ≤ limit → sat cap n ≡ n
passed_exact cap limit n h l = omega arith

module _ (cap : ℕ) (reach_below : Limits.reach < cap) (breadth_below : Limits.breadth < cap) where
  -- Refusals 7 and 8 are decided on saturated numbers, for main and for a given term.
  pub main_tests : (R : RuleSet)
      → (Limits.reach < (measure_main (sat cap) R).reach ↔ Limits.reach < reach R.edition.width (unfold_main R)) × (Limits.breadth < (measure_main (sat cap) R).breadth ↔ Limits.breadth < breadth (unfold_main R))
  main_tests R =
      let g : (measure_main (sat cap) R).reach ≡ sat cap (reach R.edition.width (unfold_main R)) = ap (λ (m : Measure). m.reach) (main_sat cap R) in
      let b : (measure_main (sat cap) R).breadth ≡ sat cap (breadth (unfold_main R)) = ap (λ (m : Measure). m.breadth) (main_sat cap R) in
      (((λ l. omega arith), (λ l. omega arith)), ((λ l. omega arith), (λ l. omega arith)))

  pub term_tests : (w : ℕ) (E : Term)
      → (Limits.reach < (measure_running (sat cap) w E).reach ↔ Limits.reach < reach w E) × (Limits.breadth < (measure_running (sat cap) w E).breadth ↔ Limits.breadth < breadth E)
  term_tests w E =
      let g : (measure_running (sat cap) w E).reach ≡ sat cap (reach w E) = ap (λ (m : Measure). m.reach) (measure_running_sat cap w E) in
      let b : (measure_running (sat cap) w E).breadth ≡ sat cap (breadth E) = ap (λ (m : Measure). m.breadth) (measure_running_sat cap w E) in
      (((λ l. omega arith), (λ l. omega arith)), ((λ l. omega arith), (λ l. omega arith)))

  unsaturated : (w : ℕ) (E : Term) → reach w E ≤ Limits.reach → breadth E ≤ Limits.breadth → saturated cap (measure_of w E) ≡ measure_of w E
  unsaturated w E g b = λ j. record { size = s j; reach = r j; breadth = t j }
    where
      s : sat cap (size w E) ≡ size w E
      s = omega (arith, size_below_reach w E)

      r : sat cap (reach w E) ≡ reach w E
      r = omega arith

      t : sat cap (breadth E) ≡ breadth E
      t = omega arith

  -- Where the tests pass, the numbers answered are the true ones.
  pub main_answers : (R : RuleSet) → (measure_main (sat cap) R).reach ≤ Limits.reach → (measure_main (sat cap) R).breadth ≤ Limits.breadth
      → measure_main (sat cap) R ≡ measure_of R.edition.width (unfold_main R)
  main_answers R g b = main_sat cap R ∙ unsaturated R.edition.width (unfold_main R) (not_above (main_tests R).0.1 g) (not_above (main_tests R).1.1 b)
    where
      not_above : {m n limit : ℕ} → (limit < n → limit < m) → m ≤ limit → n ≤ limit
      not_above {m} {n} {limit} f h = go (dec_le n limit)
        where
          go : Dec (n ≤ limit) → n ≤ limit
          go (yes k) = k
          go (no k) = let z = f (omega arith) in omega arith
