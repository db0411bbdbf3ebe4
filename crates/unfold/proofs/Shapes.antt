-- A term's words by its code: what the part of the unfolding that is for the code says.
use mathlib.Core.Path.{◌≡◌, refl, sym, ap, ◌∙◌, subst}
use mathlib.Core.Bool.{Bool, true, false}
use mathlib.Core.List.{List, [], ◌∷◌, ◌++◌, map, append_assoc, append-nil}
use Prim.Native.Nat.{ℕ, zero, suc, ◌+◌, ◌-◌, ◌*◌, ◌≤◌, ◌<◌}
use native.Mathlib.Omega.{arith}
use lib.Dec.{eqb}
use lib.ListN.{length, take, drop, get_or, length-append}
use lib.Seq.{take_at, get_or-drop, drop-drop}
use Rattle.eb3.specs.Generic.Lists.{Within, concat_map}
use Rattle.eb3.specs.Expressions.{Cond}
use Rattle.eb3.specs.Terms.{Term, Done, Choice, Parallel}
use Rattle.eb3.specs.Scopes.{CondInScope, guard_scope}
use Rattle.eb3.specs.Reading.{pick}
use Rattle.eb3.specs.RuleSets.{Argument, constant_argument, variable_argument, RuleTerm, rule_internal, rule_perform, rule_sequence, rule_choice, rule_star, rule_parallel, rule_guard, choice_over, parallel_over, call, RuleSet, domain_size, sizes_of, label, process, attributes}
use Rattle.eb3.specs.Spelling.{number_words, cond_words, arguments_words, words}
use Rattle.eb3.specs.RuleSpelling.{argument_words, rule_words}
use Rattle.eb3.specs.Unfolding.{argument_value, instantiate_cond, right_nest, unfold_term, unfold_in}
use Rattle.eb3.proofs.Laws.Unfolding.{call_unfolds}
use Rattle.eb3.proofs.Laws.Elements.{within_counted, within_more, arguments_within}
use Rattle.eb3.specs.WellFormedness.{ArgumentsFit, Allowed}
use Rattle.words.specs.Checking.{last_of}
use Rattle.tables.specs.Layout.{label_place, process_place, body_at}
use Rattle.tables.specs.Tables.{from, row, declared}
use Rattle.tables.specs.Laws.Editions.{width_in_tables}
use Rattle.unfold.specs.Unfolded.{Ready, unfolded_words}
use Rattle.unfold.specs.Puts.{Exactly}
use Rattle.unfold.specs.Instantiation.{test, expression_words, instantiate}
use Rattle.unfold.specs.Laws.Instantiation.{last_behind}
use Rattle.unfold.specs.Saying.{Unfolds, Performs, Guards, Stars, Copies, Joins, Overs, argument_at, Enters, Calls}
use Rattle.unfold.proofs.RuleFacts.{domain_same, label_row, parameters_row, body_stands, guard_plain, arguments_counted}

-- ── arguments, and their values ──

arguments_long : (rs : List Argument) → length (concat_map (argument_words 1) rs) ≡ 2 * length rs
unfolding argument_words number_words
arguments_long [] = refl
arguments_long (constant_argument v ∷ rs) = omega (arith, arguments_long rs)
arguments_long (variable_argument i ∷ rs) = omega (arith, arguments_long rs)

-- j arguments are before these
values_from : (σ s rest : List ℕ) (rs : List Argument) (j : ℕ) → drop (2 * j) s ≡ concat_map (argument_words 1) rs ++ rest → from j (length rs) (argument_at σ s) ≡ map (argument_value σ) rs
unfolding from argument_words number_words argument_value argument_at
values_from σ s rest [] j e = refl
values_from σ s rest (constant_argument v ∷ rs) j e = λ i. at_j i ∷ values_from σ s rest rs (suc j) later i
  where
    code : get_or s (2 * j) 0 ≡ 1
    code = ap (λ k. get_or s k 0) (let z : 2 * j ≡ 2 * j + 0 = omega arith in z) ∙ sym (get_or-drop (2 * j) s 0 0) ∙ ap (λ l. get_or l 0 0) e

    word : get_or s (2 * j + 1) 0 ≡ v
    word = sym (get_or-drop (2 * j) s 1 0) ∙ ap (λ l. get_or l 1 0) e

    at_j : pick (eqb (get_or s (2 * j) 0) 2) (get_or σ (get_or s (2 * j + 1) 0) 0) (get_or s (2 * j + 1) 0) ≡ v
    at_j = ap (λ c. pick (eqb c 2) (get_or σ (get_or s (2 * j + 1) 0) 0) (get_or s (2 * j + 1) 0)) code ∙ word

    later : drop (2 * suc j) s ≡ concat_map (argument_words 1) rs ++ rest
    later = ap (λ k. drop k s) (let z : 2 * suc j ≡ 2 * j + 2 = omega arith in z) ∙ sym (drop-drop 2 (2 * j) s) ∙ ap (drop 2) e
values_from σ s rest (variable_argument v ∷ rs) j e = λ i. at_j i ∷ values_from σ s rest rs (suc j) later i
  where
    code : get_or s (2 * j) 0 ≡ 2
    code = ap (λ k. get_or s k 0) (let z : 2 * j ≡ 2 * j + 0 = omega arith in z) ∙ sym (get_or-drop (2 * j) s 0 0) ∙ ap (λ l. get_or l 0 0) e

    word : get_or s (2 * j + 1) 0 ≡ v
    word = sym (get_or-drop (2 * j) s 1 0) ∙ ap (λ l. get_or l 1 0) e

    at_j : pick (eqb (get_or s (2 * j) 0) 2) (get_or σ (get_or s (2 * j + 1) 0) 0) (get_or s (2 * j + 1) 0) ≡ get_or σ v 0
    at_j = ap (λ c. pick (eqb c 2) (get_or σ (get_or s (2 * j + 1) 0) 0) (get_or s (2 * j + 1) 0)) code ∙ ap (λ k. get_or σ k 0) word

    later : drop (2 * suc j) s ≡ concat_map (argument_words 1) rs ++ rest
    later = ap (λ k. drop k s) (let z : 2 * suc j ≡ 2 * j + 2 = omega arith in z) ∙ sym (drop-drop 2 (2 * j) s) ∙ ap (drop 2) e

values_are : (σ s rest : List ℕ) (rs : List Argument) → s ≡ concat_map (argument_words 1) rs ++ rest → from 0 (length rs) (argument_at σ s) ≡ map (argument_value σ) rs
values_are σ s rest rs e = values_from σ s rest rs 0 e

-- ── by the code ──

abbrev Either : Bool → Type 0 → Type 0 → Type 0
Either true A B = A
Either false A B = B

-- m words are left after the code
abbrev pub Shape : List ℕ → List ℕ → ℕ → ℕ → List ℕ → ℕ → List ℕ → List ℕ → Type 0
Shape t T m i σ c ws rest =
    Either (eqb c 20) (Exactly (20 ∷ []) m ws rest)
    (Either (eqb c 21) (Performs t T m σ ws rest)
    (Either (eqb c 22) (Joins t T m i σ 22 0 ws rest)
    (Either (eqb c 23) (Joins t T m i σ 23 0 ws rest)
    (Either (eqb c 24) (Stars t T m i σ ws rest)
    (Either (eqb c 25) (Joins t T m i σ 25 4 ws rest)
    (Either (eqb c 26) (Guards t T m i σ ws rest)
    (Either (eqb c 27) (Overs t T m i σ 23 0 ws rest)
    (Either (eqb c 28) (Overs t T m i σ 25 4 ws rest)
    (Either (eqb c 29) (Calls t T m i σ ws rest) ⊥)))))))))

-- A term where n words are left; u is the words after its code c.
module _ (t T : List ℕ) (n m i : ℕ) (σ : List ℕ) (R : RuleSet) (ready : Ready t T R) (there : i ≤ length R.processes) (Γ : List ℕ) (values : Within (sizes_of R Γ) σ) (few : length Γ ≤ 8) (is_m : m ≡ length (last_of n t) - 1) where
  -- Rows of expressions are put where a constant has one word.
  one_word : R.edition.width ≡ 1
  one_word = width_in_tables T R ready.declares.same_edition

  module _ (c : ℕ) (u : List ℕ) (e : last_of n t ≡ c ∷ u) where
    m_long : m ≡ length u
    m_long = omega (arith, is_m, ap length e)

    behind : last_of m t ≡ u
    behind = ap (λ k. last_of k t) m_long ∙ last_behind t u (c ∷ []) n e

    -- a part of it, after some words
    part_of : (E : RuleTerm) (v rest : List ℕ) → u ≡ v ++ (rule_words R.edition.width E ++ rest) → Allowed R i Γ E → Unfolds t T (length (rule_words R.edition.width E ++ rest)) i σ (unfolded_words R i E σ) rest
    part_of E v rest f a = record {
      rules = R;
      domains = Γ;
      term = E;
      ready = ready;
      there = record { process_there = there; fits = a; values = values; few = few; spelled = last_behind t (rule_words R.edition.width E ++ rest) (c ∷ v) n (e ∙ ap (λ z. c ∷ z) f) };
      same_words = refl;
    }

    joins : (k : ℕ) (Δ : List ℕ) (E F : RuleTerm) (ws rest : List ℕ) → length Δ ≡ k → u ≡ Δ ++ (rule_words R.edition.width E ++ (rule_words R.edition.width F ++ rest)) → Allowed R i Γ E → Allowed R i Γ F
        → ws ≡ c ∷ (Δ ++ (unfolded_words R i E σ ++ unfolded_words R i F σ)) → Joins t T m i σ c k ws rest
    joins k Δ E F ws rest l f a b g =
        let two = rule_words R.edition.width E ++ (rule_words R.edition.width F ++ rest) in
        let long : length (last_of m t) ≡ k + length two = ap length (behind ∙ f) ∙ length-append Δ two ∙ ap (λ j. j + length two) l in
        record {
          holds = omega arith;
          says = record {
            front = c ∷ Δ;
            back = unfolded_words R i E σ ++ unfolded_words R i F σ;
            between = two;
            one = record { same_words = ap (λ z. c ∷ z) (sym (ap (take k) (behind ∙ f) ∙ take_at Δ two k l)); same_left = omega arith };
            two = record {
              front = unfolded_words R i E σ;
              back = unfolded_words R i F σ;
              between = rule_words R.edition.width F ++ rest;
              one = part_of E Δ (rule_words R.edition.width F ++ rest) f a;
              two = part_of F (Δ ++ rule_words R.edition.width E) rest (f ∙ sym (append_assoc Δ (rule_words R.edition.width E) (rule_words R.edition.width F ++ rest))) b;
              joined = refl;
            };
            joined = g;
          };
        }

    stars : (E : RuleTerm) (ws rest : List ℕ) → u ≡ rule_words R.edition.width E ++ rest → Allowed R i Γ E → ws ≡ 24 ∷ unfolded_words R i E σ → Stars t T m i σ ws rest
    stars E ws rest f a g = record {
      front = 24 ∷ [];
      back = unfolded_words R i E σ;
      between = rule_words R.edition.width E ++ rest;
      one = record { same_words = refl; same_left = m_long ∙ ap length f };
      two = part_of E [] rest f a;
      joined = g;
    }

    guards : (C : Cond) (E : RuleTerm) (ws rest : List ℕ) → u ≡ cond_words R.edition.width C ++ (rule_words R.edition.width E ++ rest) → CondInScope C (guard_scope (attributes R) (length Γ)) → Allowed R i Γ E
        → ws ≡ 26 ∷ (cond_words R.edition.width (instantiate_cond C σ) ++ unfolded_words R i E σ) → Guards t T m i σ ws rest
    unfolding expression_words instantiate
    guards C E ws rest f h a g = record {
      front = 26 ∷ cond_words R.edition.width (instantiate_cond C σ);
      back = unfolded_words R i E σ;
      between = rule_words R.edition.width E ++ rest;
      one = record {
        front = 26 ∷ [];
        back = cond_words R.edition.width (instantiate_cond C σ);
        between = u;
        one = record { same_words = refl; same_left = m_long };
        two = record {
          row = test C ∷ [];
          counted = refl;
          all_plain = (guard_plain T R ready.declares (length Γ) C h, tt);
          spelled = last_behind t u (c ∷ []) n e ∙ f ∙ ap (λ z. z ++ (rule_words R.edition.width E ++ rest)) (ap (λ w. cond_words w C) one_word ∙ sym (append-nil (cond_words 1 C)));
          instantiated = ap (λ w. cond_words w (instantiate_cond C σ)) one_word ∙ sym (append-nil (cond_words 1 (instantiate_cond C σ)));
        };
        joined = refl;
      };
      two = part_of E (cond_words R.edition.width C) rest f a;
      joined = g;
    }

    performs : (l : ℕ) (rs : List Argument) (ws rest : List ℕ) → u ≡ l ∷ (concat_map (argument_words R.edition.width) rs ++ rest) → l < length R.labels → ArgumentsFit R Γ (label R l) rs
        → ws ≡ 21 ∷ l ∷ arguments_words R.edition.width (map (argument_value σ) rs) → Performs t T m σ ws rest
    performs l rs ws rest f h a g =
        let args = concat_map (argument_words R.edition.width) rs ++ rest in
        let here : last_of m t ≡ l ∷ args = behind ∙ f in
        let label_is : get_or (last_of m t) 0 0 ≡ l = ap (λ z. get_or z 0 0) here in
        let long : length (last_of m t) ≡ suc (length args) = ap length here in
        let count : length rs ≡ length (row T (label_place (get_or (last_of m t) 0 0))) = arguments_counted R Γ (label R l) rs a ∙ ap length (sym (ap (λ k. row T (label_place k)) label_is ∙ label_row t T R ready l h)) in
        let behind_is : drop 1 (last_of m t) ≡ concat_map (argument_words 1) rs ++ rest = ap (drop 1) here ∙ ap (λ w. concat_map (argument_words w) rs ++ rest) one_word in
        let length_is : length (drop 1 (last_of m t)) ≡ length (concat_map (argument_words 1) rs) + length rest = ap length behind_is ∙ length-append (concat_map (argument_words 1) rs) rest in
        record {
          holds = omega arith;
          says = record {
            front = 21 ∷ l ∷ [];
            back = arguments_words R.edition.width (map (argument_value σ) rs);
            between = args;
            one = record { same_words = ap (λ z. 21 ∷ take 1 z) (sym here); same_left = omega arith };
            two = record {
              holds = omega (arith, long, length_is, arguments_long rs, count);
              says = record {
                same_words = ap (λ w. arguments_words w (map (argument_value σ) rs)) one_word ∙ ap (arguments_words 1) (sym (values_are σ (drop 1 (last_of m t)) rest rs behind_is) ∙ ap (λ k. from 0 k (argument_at σ (drop 1 (last_of m t)))) count);
                same_left = omega (arith, length_is, arguments_long rs, count);
              };
            };
            joined = g;
          };
        }

    -- w is the words of a quantifier's term and those after it
    module _ (E : RuleTerm) (d k : ℕ) (Δ rest : List ℕ) (l : length Δ ≡ k) (f : u ≡ d ∷ (Δ ++ (rule_words R.edition.width E ++ rest))) (defined : d < length R.domains) (free : length Γ < 8) (a : Allowed R i (Γ ++ (d ∷ [])) E) where
      abbrev w : List ℕ
      w = rule_words R.edition.width E ++ rest

      copy_of : (x : ℕ) → x < domain_size R d → Unfolds t T (length w) i (σ ++ (x ∷ [])) (unfolded_words R i E (σ ++ (x ∷ []))) rest
      copy_of x h = record {
        rules = R;
        domains = Γ ++ (d ∷ []);
        term = E;
        ready = ready;
        there = record {
          process_there = there;
          fits = a;
          values = within_more R Γ σ d x values h;
          few = omega (arith, length-append Γ (d ∷ []));
          spelled = last_behind t w (c ∷ d ∷ Δ) n (e ∙ ap (λ z. c ∷ z) f);
        };
        same_words = refl;
      }

      module _ (head : List ℕ) (join : Term → Term → Term) (joined_words : (A B : Term) → words R.edition.width (join A B) ≡ head ++ (words R.edition.width A ++ words R.edition.width B)) where
        -- the copies for x and the N elements after it
        nest : (N x : ℕ) (copy : ℕ → Term) → ((y : ℕ) → y ≤ N → Unfolds t T (length w) i (σ ++ ((x + y) ∷ [])) (words R.edition.width (copy y)) rest) → Copies t T (length w) i σ head x N (words R.edition.width (right_nest Done join (suc N) copy)) rest
        unfolding Copies right_nest
        nest zero x copy h = subst (λ y. Unfolds t T (length w) i (σ ++ (y ∷ [])) (words R.edition.width (copy 0)) rest) (let z : x + 0 ≡ x = omega arith in z) (h 0 (omega arith))
        nest (suc N) x copy h = record {
          front = head ++ words R.edition.width (copy 0);
          back = words R.edition.width (right_nest Done join (suc N) (λ y. copy (suc y)));
          between = rest;
          one = record {
            front = head;
            back = words R.edition.width (copy 0);
            between = w;
            one = record { same_words = refl; same_left = refl };
            two = subst (λ y. Unfolds t T (length w) i (σ ++ (y ∷ [])) (words R.edition.width (copy 0)) rest) (let z : x + 0 ≡ x = omega arith in z) (h 0 (omega arith));
            joined = refl;
          };
          two = nest N (suc x) (λ y. copy (suc y)) (λ y k. subst (λ z. Unfolds t T (length w) i (σ ++ (z ∷ [])) (words R.edition.width (copy (suc y))) rest) (let z : x + suc y ≡ suc x + y = omega arith in z) (h (suc y) (omega arith)));
          joined = joined_words (copy 0) (right_nest Done join (suc N) (λ y. copy (suc y))) ∙ sym (append_assoc head (words R.edition.width (copy 0)) (words R.edition.width (right_nest Done join (suc N) (λ y. copy (suc y)))));
        }

        all_copies : (S : ℕ) → S ≡ domain_size R d → 1 ≤ S → Copies t T (length w) i σ head 0 (S - 1) (words R.edition.width (right_nest Done join S (λ x. unfold_in R i E (σ ++ (x ∷ []))))) rest
        all_copies zero q h = absurd (let z : ⊥ = omega arith in z)
        all_copies (suc N) q h =
            subst (λ k. Copies t T (length w) i σ head 0 k (words R.edition.width (right_nest Done join (suc N) (λ x. unfold_in R i E (σ ++ (x ∷ []))))) rest) (let z : N ≡ suc N - 1 = omega arith in z)
            (nest N 0 (λ x. unfold_in R i E (σ ++ (x ∷ []))) (λ y k. subst (λ z. Unfolds t T (length w) i (σ ++ (z ∷ [])) (unfolded_words R i E (σ ++ (y ∷ []))) rest) (let z : y ≡ 0 + y = omega arith in z) (copy_of y (omega arith))))

      overs : (o : ℕ) (join : Term → Term → Term) → ((A B : Term) → words R.edition.width (join A B) ≡ (o ∷ Δ) ++ (words R.edition.width A ++ words R.edition.width B)) → (ws : List ℕ) → ws ≡ words R.edition.width (right_nest Done join (domain_size R d) (λ x. unfold_in R i E (σ ++ (x ∷ []))))
          → Overs t T m i σ o k ws rest
      overs o join j ws g =
          let here : last_of m t ≡ d ∷ (Δ ++ w) = behind ∙ f in
          let long : length (last_of m t) ≡ suc (k + length w) = ap length here ∙ ap suc (length-append Δ w ∙ ap (λ z. z + length w) l) in
          let first_is : get_or (last_of m t) 0 0 ≡ d = ap (λ z. get_or z 0 0) here in
          let size_is : domain_size (declared T) (get_or (last_of m t) 0 0) ≡ domain_size R d = ap (λ z. domain_size (declared T) z) first_is ∙ domain_same t T R ready d in
          let limits = ready.form.domain_sizes d defined in
          let left_is : length w ≡ length (last_of m t) - (1 + k) = omega arith in
          let head_is : o ∷ Δ ≡ o ∷ take k (drop 1 (last_of m t)) = ap (λ z. o ∷ z) (sym (ap (λ z. take k (drop 1 z)) here ∙ take_at Δ w k l)) in
          record {
            holds = (omega arith, omega (arith, within_counted R Γ σ values), omega (arith, limits.1));
            says = subst (λ v. Copies t T (length (last_of m t) - (1 + k)) i σ (o ∷ take k (drop 1 (last_of m t))) 0 (domain_size (declared T) (get_or (last_of m t) 0 0) - 1) v rest) (sym g)
                (subst (λ N. Copies t T N i σ (o ∷ take k (drop 1 (last_of m t))) 0 (domain_size (declared T) (get_or (last_of m t) 0 0) - 1) (words R.edition.width (right_nest Done join (domain_size R d) (λ x. unfold_in R i E (σ ++ (x ∷ []))))) rest) left_is
                (subst (λ h. Copies t T (length w) i σ h 0 (domain_size (declared T) (get_or (last_of m t) 0 0) - 1) (words R.edition.width (right_nest Done join (domain_size R d) (λ x. unfold_in R i E (σ ++ (x ∷ []))))) rest) head_is
                (subst (λ S. Copies t T (length w) i σ (o ∷ Δ) 0 (S - 1) (words R.edition.width (right_nest Done join (domain_size R d) (λ x. unfold_in R i E (σ ++ (x ∷ []))))) rest) (sym size_is)
                (all_copies (o ∷ Δ) join j (domain_size R d) refl limits.0))));
          }

    calls : (p : ℕ) (rs : List Argument) (ws rest : List ℕ) → u ≡ p ∷ (concat_map (argument_words R.edition.width) rs ++ rest) → p < i → ArgumentsFit R Γ (process R p).parameters rs → ws ≡ words R.edition.width (unfold_in R i (call p rs) σ) → Calls t T m i σ ws rest
    calls p rs ws rest f h a g =
        let args = concat_map (argument_words R.edition.width) rs ++ rest in
        let here : last_of m t ≡ p ∷ args = behind ∙ f in
        let p_is : get_or (last_of m t) 0 0 ≡ p = ap (λ z. get_or z 0 0) here in
        let left_is : length args ≡ length (last_of m t) - 1 = omega (arith, ap length here) in
        record {
          holds = (omega (arith, ap length here), omega arith);
          says = subst (λ q. Enters t T (length (last_of m t) - 1) q σ ws rest) (sym p_is) (subst (λ N. Enters t T N p σ ws rest) left_is entered);
        }
      where
        entered : Enters t T (length (concat_map (argument_words R.edition.width) rs ++ rest)) p σ ws rest
        entered =
            let args = concat_map (argument_words R.edition.width) rs ++ rest in
            let below : p < length R.processes = omega arith in
            let rest_is : last_of (length args) t ≡ args = last_behind t args (c ∷ p ∷ []) n (e ∙ ap (λ z. c ∷ z) f) in
            let count : length (row T (process_place p)) ≡ length rs = ap length (parameters_row t T R ready p below) ∙ sym (arguments_counted R Γ (process R p).parameters rs a) in
            let few_are = (ready.form.process_heads p below).0 in
            let long : length (last_of (length args) t) ≡ 2 * length rs + length rest = ap length rest_is ∙ length-append (concat_map (argument_words R.edition.width) rs) rest ∙ ap (λ k. k + length rest) (ap (λ w. length (concat_map (argument_words w) rs)) one_word ∙ arguments_long rs) in
            let stands = body_stands t T R ready p below in
            let same : from 0 (length (row T (process_place p))) (argument_at σ (last_of (length args) t)) ≡ map (argument_value σ) rs = ap (λ k. from 0 k (argument_at σ (last_of (length args) t))) count ∙ values_are σ (last_of (length args) t) rest rs (rest_is ∙ ap (λ w. concat_map (argument_words w) rs ++ rest) one_word) in
            record {
              holds = (omega (arith, arguments_counted R Γ (process R p).parameters rs a), omega arith);
              says = record {
                behind = stands.0;
                unfolds = subst (λ v. Unfolds t T (body_at T p) p v ws stands.0) (sym same) (record {
                  rules = R;
                  domains = (process R p).parameters;
                  term = (process R p).term;
                  ready = ready;
                  there = record {
                    process_there = omega arith;
                    fits = ready.form.process_terms p below;
                    values = arguments_within R Γ σ values (process R p).parameters rs a;
                    few = omega arith;
                    spelled = stands.1;
                  };
                  same_words = g ∙ ap (words R.edition.width) (call_unfolds R i p rs σ h);
                });
                same_left = omega arith;
              };
            }

-- ── a term's shape ──

module _ (t T : List ℕ) (n i : ℕ) (σ ws rest : List ℕ) where
  coded : (c : ℕ) (u : List ℕ) → last_of n t ≡ c ∷ u → Shape t T (length (last_of n t) - 1) i σ c ws rest → Shape t T (length (last_of n t) - 1) i σ (get_or (last_of n t) 0 0) ws rest
  coded c u e s = subst (λ k. Shape t T (length (last_of n t) - 1) i σ k ws rest) (sym (ap (λ z. get_or z 0 0) e)) s

  module _ (R : RuleSet) (ready : Ready t T R) (there : i ≤ length R.processes) (Γ : List ℕ) (values : Within (sizes_of R Γ) σ) (few : length Γ ≤ 8) where
    shape_of : (E : RuleTerm) → Allowed R i Γ E → last_of n t ≡ rule_words R.edition.width E ++ rest → ws ≡ unfolded_words R i E σ → Shape t T (length (last_of n t) - 1) i σ (get_or (last_of n t) 0 0) ws rest
    unfolding rule_words unfold_term words
    shape_of rule_internal a e g = coded 20 rest e (record { same_words = g; same_left = omega (arith, ap length e) })
    shape_of (rule_perform l rs) a e g = coded 21 _ e (performs t T n _ i σ R ready there Γ values few refl 21 _ e l rs ws rest refl a.0 a.1 g)
    shape_of (rule_sequence E F) a e g = coded 22 _ e (joins t T n _ i σ R ready there Γ values few refl 22 _ e 0 [] E F ws rest refl (append_assoc (rule_words R.edition.width E) (rule_words R.edition.width F) rest) a.0 a.1 g)
    shape_of (rule_choice E F) a e g = coded 23 _ e (joins t T n _ i σ R ready there Γ values few refl 23 _ e 0 [] E F ws rest refl (append_assoc (rule_words R.edition.width E) (rule_words R.edition.width F) rest) a.0 a.1 g)
    shape_of (rule_star E) a e g = coded 24 _ e (stars t T n _ i σ R ready there Γ values few refl 24 _ e E ws rest refl a g)
    shape_of (rule_parallel Δ E F) a e g =
        coded 25 _ e (joins t T n _ i σ R ready there Γ values few refl 25 _ e 4 Δ E F ws rest a.0.0
        (append_assoc Δ (rule_words R.edition.width E ++ rule_words R.edition.width F) rest ∙ ap (λ z. Δ ++ z) (append_assoc (rule_words R.edition.width E) (rule_words R.edition.width F) rest)) a.1 a.2 g)
    shape_of (rule_guard C E) a e g = coded 26 _ e (guards t T n _ i σ R ready there Γ values few refl 26 _ e C E ws rest (append_assoc (cond_words R.edition.width C) (rule_words R.edition.width E) rest) a.0 a.1 g)
    shape_of (choice_over d E) a e g = coded 27 _ e (overs t T n _ i σ R ready there Γ values few refl 27 _ e E d 0 [] rest refl refl a.0 a.1 a.2 23 Choice (λ A B. refl) ws g)
    shape_of (parallel_over d Δ E) a e g =
        coded 28 _ e (overs t T n _ i σ R ready there Γ values few refl 28 _ e E d 4 Δ rest a.2.0 (ap (λ z. d ∷ z) (append_assoc Δ (rule_words R.edition.width E) rest)) a.0 a.1 a.3 25 (Parallel Δ) (λ A B. refl) ws g)
    shape_of (call p rs) a e g = coded 29 _ e (calls t T n _ i σ R ready there Γ values few refl 29 _ e p rs ws rest refl a.0 a.1 g)

pub shape : (t T : List ℕ) (n i : ℕ) (σ ws rest : List ℕ) → Unfolds t T n i σ ws rest → Shape t T (length (last_of n t) - 1) i σ (get_or (last_of n t) 0 0) ws rest
shape t T n i σ ws rest u =
    let p = u.there in
    shape_of t T n i σ ws rest u.rules u.ready p.process_there u.domains p.values p.few u.term p.fits p.spelled u.same_words
