-- The measures computed process by process are those of the unfolding, whatever the variables' values (`main_measure`).
use Rattle.std.specs.Prelude.{◌≡◌, Bool, true, false, cond, ℕ, zero, suc, ◌+◌, ◌<◌, eqb, length, get_or}
use Rattle.std.proofs.Math.Path.{refl, sym}
use Rattle.std.proofs.Common.{◌∙◌, arith, eqb→eq, length-append}
use mathlib.Core.List.{List, [], ◌∷◌, ◌++◌, map}
use Rattle.std.proofs.Math.Decide.{ℕ_discrete}
use Rattle.std.proofs.Math.Dec.{eqb_refl, eqb-zero-suc, eqb-suc-zero, eqb-suc-suc}
use Rattle.std.proofs.lemmas.List.{length-map}
use Rattle.eb3.specs.Generic.Booleans.{cond_true, cond_false, cond_map}
use Rattle.eb3.specs.Expressions.{Data, Undefined, Constant, Variable, Add, Subtract, If, Now, Before, Args, Nil, Cons, Cond, Equal, Less, And, Or, Not, True}
use Rattle.eb3.specs.Terms.{Term, Done, Choice, Parallel, Mask}
use Rattle.eb3.specs.Sizes.{data_size, args_size, cond_size, arguments_size, size, reach, breadth, zero_mask, parallel_breadth}
use Rattle.eb3.specs.RuleSets.{RuleTerm, rule_internal, rule_perform, rule_sequence, rule_choice, rule_star, rule_parallel, rule_guard, choice_over, parallel_over, call, RuleSet, domain_size, process, main_process}
use Rattle.eb3.specs.Unfolding.{Valuation, argument_value, instantiate_data, instantiate_args, instantiate_cond, unfold_term, unfold_below, unfold_main}
use Rattle.eb3.proofs.Laws.Unfolding.{right_nest_map}
use Rattle.eb3.specs.Measures.{whole, Measure, measure_of, leaf, nothing, sequence_of, choice_of, star_of, parallel_breadth_of, parallel_of, guard_of, guard_size, measure_term, table, row_of, measure_main}

parallel_breadth_whole : (b : Bool) (l r : ℕ) → parallel_breadth b l r ≡ parallel_breadth_of whole b l r
unfolding parallel_breadth
parallel_breadth_whole true l r = refl
parallel_breadth_whole false l r = refl

module _ (w : ℕ) where
  -- The size of a condition does not depend on the values that its variables get,
  mutual
    unfolding instantiate_cond data_size

    data_alike : (a : Data) (σ τ : Valuation) → data_size w (instantiate_data a σ) ≡ data_size w (instantiate_data a τ)
    data_alike Undefined σ τ = refl
    data_alike (Constant n) σ τ = refl
    data_alike (Variable i) σ τ = refl
    data_alike (Add a b) σ τ = λ j. 1 + data_alike a σ τ j + data_alike b σ τ j
    data_alike (Subtract a b) σ τ = λ j. 1 + data_alike a σ τ j + data_alike b σ τ j
    data_alike (If c a b) σ τ = λ j. 1 + cond_alike c σ τ j + data_alike a σ τ j + data_alike b σ τ j
    data_alike (Now f rs) σ τ = λ j. 2 + args_alike rs σ τ j
    data_alike (Before f rs) σ τ = λ j. 2 + args_alike rs σ τ j

    args_alike : (rs : Args) (σ τ : Valuation) → args_size w (instantiate_args rs σ) ≡ args_size w (instantiate_args rs τ)
    args_alike Nil σ τ = refl
    args_alike (Cons a rs) σ τ = λ j. data_alike a σ τ j + args_alike rs σ τ j

    cond_alike : (c : Cond) (σ τ : Valuation) → cond_size w (instantiate_cond c σ) ≡ cond_size w (instantiate_cond c τ)
    cond_alike (Equal a b) σ τ = λ j. 1 + data_alike a σ τ j + data_alike b σ τ j
    cond_alike (Less a b) σ τ = λ j. 1 + data_alike a σ τ j + data_alike b σ τ j
    cond_alike (And c d) σ τ = λ j. 1 + cond_alike c σ τ j + cond_alike d σ τ j
    cond_alike (Or c d) σ τ = λ j. 1 + cond_alike c σ τ j + cond_alike d σ τ j
    cond_alike (Not c) σ τ = λ j. 1 + cond_alike c σ τ j
    cond_alike True σ τ = refl

  pub parallel_whole : (Δ : Mask) (E F : Term) → measure_of w (Parallel Δ E F) ≡ parallel_of whole Δ (measure_of w E) (measure_of w F)
  unfolding size reach breadth
  parallel_whole Δ E F = λ j. record { size = 5 + size w E + size w F; reach = 5 + reach w E + reach w F; breadth = parallel_breadth_whole (zero_mask Δ) (breadth E) (breadth F) j }

  choice_whole : (E F : Term) → measure_of w (Choice E F) ≡ choice_of whole (measure_of w E) (measure_of w F)
  unfolding size reach breadth
  choice_whole E F = refl

  nothing_whole : measure_of w Done ≡ nothing whole
  unfolding size reach breadth
  nothing_whole = refl

-- and where a constant has one word, as a variable has, it is the size in the rule stream.
mutual
  unfolding instantiate_cond data_size

  data_kept : (a : Data) (σ : Valuation) → data_size 1 (instantiate_data a σ) ≡ data_size 1 a
  data_kept Undefined σ = refl
  data_kept (Constant n) σ = refl
  data_kept (Variable i) σ = refl
  data_kept (Add a b) σ = λ j. 1 + data_kept a σ j + data_kept b σ j
  data_kept (Subtract a b) σ = λ j. 1 + data_kept a σ j + data_kept b σ j
  data_kept (If c a b) σ = λ j. 1 + cond_kept c σ j + data_kept a σ j + data_kept b σ j
  data_kept (Now f rs) σ = λ j. 2 + args_kept rs σ j
  data_kept (Before f rs) σ = λ j. 2 + args_kept rs σ j

  args_kept : (rs : Args) (σ : Valuation) → args_size 1 (instantiate_args rs σ) ≡ args_size 1 rs
  args_kept Nil σ = refl
  args_kept (Cons a rs) σ = λ j. data_kept a σ j + args_kept rs σ j

  cond_kept : (c : Cond) (σ : Valuation) → cond_size 1 (instantiate_cond c σ) ≡ cond_size 1 c
  cond_kept (Equal a b) σ = λ j. 1 + data_kept a σ j + data_kept b σ j
  cond_kept (Less a b) σ = λ j. 1 + data_kept a σ j + data_kept b σ j
  cond_kept (And c d) σ = λ j. 1 + cond_kept c σ j + cond_kept d σ j
  cond_kept (Or c d) σ = λ j. 1 + cond_kept c σ j + cond_kept d σ j
  cond_kept (Not c) σ = λ j. 1 + cond_kept c σ j
  cond_kept True σ = refl

pub guard_size_one : (C : Cond) → guard_size 1 C ≡ cond_size 1 C
guard_size_one C = cond_kept C []

module _ (R : RuleSet) (callee : ℕ → Valuation → Term) (measured : ℕ → Measure) (alike : (p : ℕ) (vs : Valuation) → measure_of R.edition.width (callee p vs) ≡ measured p) where
  pub unfold_measure : (E : RuleTerm) (σ : Valuation) → measure_of R.edition.width (unfold_term R callee E σ) ≡ measure_term whole R measured E
  unfolding unfold_term measure_term size reach breadth
  unfold_measure rule_internal σ = refl
  unfold_measure (rule_perform l rs) σ = λ j. leaf whole (2 + arguments_size R.edition.width (length-map rs (argument_value σ) j))
  unfold_measure (rule_sequence E F) σ = λ j. sequence_of whole (unfold_measure E σ j) (unfold_measure F σ j)
  unfold_measure (rule_choice E F) σ = λ j. choice_of whole (unfold_measure E σ j) (unfold_measure F σ j)
  unfold_measure (rule_star E) σ = λ j. star_of whole (unfold_measure E σ j)
  unfold_measure (rule_parallel Δ E F) σ = parallel_whole R.edition.width Δ (unfold_term R callee E σ) (unfold_term R callee F σ) ∙ (λ j. parallel_of whole Δ (unfold_measure E σ j) (unfold_measure F σ j))
  unfold_measure (rule_guard c E) σ = λ j. guard_of whole (cond_alike R.edition.width c σ [] j) (unfold_measure E σ j)
  unfold_measure (choice_over d E) σ = right_nest_map (measure_of R.edition.width) Done (nothing whole) Choice (choice_of whole) (nothing_whole R.edition.width) (choice_whole R.edition.width) (domain_size R d) _ _ (λ x. unfold_measure E (σ ++ (x ∷ [])))
  unfold_measure (parallel_over d Δ E) σ = right_nest_map (measure_of R.edition.width) Done (nothing whole) (Parallel Δ) (parallel_of whole Δ) (nothing_whole R.edition.width) (parallel_whole R.edition.width Δ) (domain_size R d) _ _ (λ x. unfold_measure E (σ ++ (x ∷ [])))
  unfold_measure (call p rs) σ = alike p (map (argument_value σ) rs)

getD_snoc : {A : Type 0} (xs : List A) (m d : A) (p : ℕ) → get_or (xs ++ (m ∷ [])) p d ≡ cond (eqb p (length xs)) m (get_or xs p d)
getD_snoc [] m d zero = refl
getD_snoc [] m d (suc p) = sym (λ j. cond (eqb-suc-zero p j) m d)
getD_snoc (x ∷ xs) m d zero = sym (λ j. cond (eqb-zero-suc (length xs) j) m x)
getD_snoc (x ∷ xs) m d (suc p) = getD_snoc xs m d p ∙ sym (λ j. cond (eqb-suc-suc p (length xs) j) m (get_or xs p d))

length_table : (cut : ℕ → ℕ) (R : RuleSet) (i : ℕ) → length (table cut R i) ≡ i
unfolding table
length_table cut R zero = refl
length_table cut R (suc i) = omega (arith, length-append (table cut R i) (measure_term cut R (row_of cut R i) (process R i).term ∷ []), length_table cut R i)

pub row_of_next : (cut : ℕ → ℕ) (R : RuleSet) (i p : ℕ)
    → row_of cut R (suc i) p ≡ cond (eqb p i) (measure_term cut R (row_of cut R i) (process R i).term) (row_of cut R i p)
unfolding table
row_of_next cut R i p = getD_snoc (table cut R i) _ _ p ∙ (λ j. cond (eqb p (length_table cut R i j)) (measure_term cut R (row_of cut R i) (process R i).term) (row_of cut R i p))

pub below_measure : (R : RuleSet) (i p : ℕ) (σ : Valuation) → measure_of R.edition.width (unfold_below R i p σ) ≡ row_of whole R i p
unfolding unfold_below table
below_measure R zero p σ = nothing_whole R.edition.width
below_measure R (suc i) p σ =
    cond_map (measure_of R.edition.width) (eqb p i) (unfold_measure R (unfold_below R i) (row_of whole R i) (below_measure R i) (process R i).term σ) (below_measure R i p σ)
    ∙ sym (row_of_next whole R i p)

pub main_measure : (R : RuleSet) → measure_of R.edition.width (unfold_main R) ≡ measure_main whole R
unfolding unfold_main measure_main
main_measure R = unfold_measure R (unfold_below R (main_process R)) (row_of whole R (main_process R)) (below_measure R (main_process R)) (process R (main_process R)).term []

-- A row of the table is its process's measure over the rows before it, however long the table has grown.
pub row_is : (cut : ℕ → ℕ) (R : RuleSet) (i p : ℕ) → p < i → row_of cut R i p ≡ measure_term cut R (row_of cut R p) (process R p).term
row_is cut R zero p h = let z : ⊥ = omega arith in absurd z
row_is cut R (suc i) p h = row_of_next cut R i p ∙ go (λ l. row_is cut R i p l) (ℕ_discrete p i)
  where
    go : (p < i → row_of cut R i p ≡ measure_term cut R (row_of cut R p) (process R p).term) → Dec (p ≡ i)
        → cond (eqb p i) (measure_term cut R (row_of cut R i) (process R i).term) (row_of cut R i p) ≡ measure_term cut R (row_of cut R p) (process R p).term
    go ih (yes e) = rw e (cond_true _ _ (eqb i i) (eqb_refl i))
    go ih (no n) = cond_false _ _ (eqb p i) (λ t. n (eqb→eq p i t)) ∙ ih (omega arith)
