-- What calls and quantifiers unfold to (document 01, "Unfolding, size and breadth"; source 000's S_M-11 and quantification); the other codes are in
-- UnfoldingClauses.
use Rattle.std.specs.Prelude.{◌≡◌, refl, List, [], ◌∷◌, ◌++◌, map, ℕ, zero, suc, ◌<◌, eqb}
use Rattle.std.proofs.Common.{◌∙◌, arith, eqb→eq}
use Rattle.std.proofs.Math.Bool.{cond}
use Rattle.std.proofs.Math.Decide.{ℕ_discrete}
use Rattle.std.proofs.Math.Dec.{eqb_refl}
use Rattle.eb3.specs.Generic.Booleans.{cond_true, cond_false}
use Rattle.eb3.specs.Terms.{Done, Choice, Parallel, Mask}
use Rattle.eb3.specs.RuleSets.{Argument, RuleTerm, choice_over, parallel_over, call, RuleSet, domain_size, process}
use Rattle.eb3.specs.Unfolding.{Valuation, argument_value, right_nest, unfold_term, unfold_below, unfold_in}

pub below_is : (R : RuleSet) (i p : ℕ) → p < i → (σ : Valuation) → unfold_below R i p σ ≡ unfold_in R p (process R p).term σ
unfolding unfold_below
below_is R zero p h σ = let z : ⊥ = omega arith in absurd z
below_is R (suc i) p h σ = go (λ l. below_is R i p l σ) (ℕ_discrete p i)
  where
    go : (p < i → unfold_below R i p σ ≡ unfold_in R p (process R p).term σ) → Dec (p ≡ i)
        → cond (eqb p i) (unfold_term R (unfold_below R i) (process R i).term σ) (unfold_below R i p σ) ≡ unfold_in R p (process R p).term σ
    go ih (yes e) = rw e (cond_true _ _ (eqb i i) (eqb_refl i))
    go ih (no n) = cond_false _ _ (eqb p i) (λ t. n (eqb→eq p i t)) ∙ ih (omega arith)

-- A call is replaced by the callee's body over the argument values.
pub call_unfolds : (R : RuleSet) (i p : ℕ) (rs : List Argument) (σ : Valuation) → p < i → unfold_in R i (call p rs) σ ≡ unfold_in R p (process R p).term (map (argument_value σ) rs)
unfolding unfold_term
call_unfolds R i p rs σ h = below_is R i p h (map (argument_value σ) rs)

-- 27 and 28 become choices or parallels of the copies for element 0, 1 and so on,
pub choice_unfolds : (R : RuleSet) (i d : ℕ) (E : RuleTerm) (σ : Valuation)
    → unfold_in R i (choice_over d E) σ ≡ right_nest Done Choice (domain_size R d) (λ x. unfold_in R i E (σ ++ (x ∷ [])))
unfolding unfold_term
choice_unfolds R i d E σ = refl

pub parallel_unfolds : (R : RuleSet) (i d : ℕ) (Δ : Mask) (E : RuleTerm) (σ : Valuation)
    → unfold_in R i (parallel_over d Δ E) σ ≡ right_nest Done (Parallel Δ) (domain_size R d) (λ x. unfold_in R i E (σ ++ (x ∷ [])))
unfolding unfold_term
parallel_unfolds R i d Δ E σ = refl

-- nested to the right; over one element, that copy alone.
pub nest_one : {A : Type 0} (z : A) (join : A → A → A) (copy : ℕ → A) → right_nest z join 1 copy ≡ copy 0
unfolding right_nest
nest_one z join copy = refl

pub nest_more : {A : Type 0} (z : A) (join : A → A → A) (n : ℕ) (copy : ℕ → A)
    → right_nest z join (suc (suc n)) copy ≡ join (copy 0) (right_nest z join (suc n) (λ x. copy (suc x)))
unfolding right_nest
nest_more z join n copy = refl

-- A map that carries one join to another carries nests to nests, and what joins keep, nests keep.
pub right_nest_map : {A B : Type 0} (h : A → B) (a : A) (b : B) (f : A → A → A) (g : B → B → B) → h a ≡ b → ((x y : A) → h (f x y) ≡ g (h x) (h y))
    → (n : ℕ) (copy : ℕ → A) (image : ℕ → B) → ((x : ℕ) → h (copy x) ≡ image x) → h (right_nest a f n copy) ≡ right_nest b g n image
unfolding right_nest
right_nest_map h a b f g p q zero copy image e = p
right_nest_map h a b f g p q (suc zero) copy image e = e zero
right_nest_map h a b f g p q (suc (suc n)) copy image e =
    q (copy zero) (right_nest a f (suc n) (λ x. copy (suc x)))
    ∙ (λ j. g (e zero j) (right_nest_map h a b f g p q (suc n) (λ x. copy (suc x)) (λ x. image (suc x)) (λ x. e (suc x)) j))

pub right_nest_keeps : {A : Type 0} (Q : A → Type 0) (a : A) (f : A → A → A) → Q a → ((x y : A) → Q x → Q y → Q (f x y))
    → (n : ℕ) (copy : ℕ → A) → ((x : ℕ) → x < n → Q (copy x)) → Q (right_nest a f n copy)
unfolding right_nest
right_nest_keeps Q a f p q zero copy e = p
right_nest_keeps Q a f p q (suc zero) copy e = e zero (omega arith)
right_nest_keeps Q a f p q (suc (suc n)) copy e =
    q (copy zero) (right_nest a f (suc n) (λ x. copy (suc x))) (e zero (omega arith)) (right_nest_keeps Q a f p q (suc n) (λ x. copy (suc x)) (λ x h. e (suc x) (omega arith)))
