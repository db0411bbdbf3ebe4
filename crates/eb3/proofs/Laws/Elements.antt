-- Elements of domains: as many as there are parameters, also those that arguments denote, and in edition 1 each below 64 and at most two after
-- a label (document 01, "Blocks and the rule stream", items 2, 3 and 5).
use Rattle.std.specs.Prelude.{◌≡◌, refl, List, [], ◌∷◌, ◌++◌, map, ℕ, zero, suc, ◌≤◌, ◌<◌, length, get_or}
use Rattle.std.proofs.Common.{ap, ◌∙◌, arith}
use Rattle.std.proofs.Math.Decide.{dec_lt}
use Rattle.std.proofs.lemmas.List.{length-map}
use Rattle.std.proofs.Math.ListN.{get_or-eq_default}
use Rattle.eb3.specs.Limits
use Rattle.eb3.specs.Generic.Lists.{Within}
use Rattle.eb3.specs.Generic.AllLists.{All}
use Rattle.eb3.specs.Terms.{VisibleAction, visible}
use Rattle.eb3.specs.RuleSets.{Argument, constant_argument, variable_argument, RuleSet, domain_size, sizes_of, label}
use Rattle.eb3.specs.Unfolding.{argument_value}
use Rattle.eb3.specs.WellFormedness.{WellFormedAction, ArgumentFits, ArgumentsFit, Form}

-- ── as many as there are parameters ──

pub within_length : (ns xs : List ℕ) → Within ns xs → length xs ≡ length ns
within_length [] [] h = refl
within_length [] (x ∷ xs) h = absurd h
within_length (n ∷ ns) [] h = absurd h
within_length (n ∷ ns) (x ∷ xs) h = ap suc (within_length ns xs h.1)

pub within_counted : (R : RuleSet) (ds xs : List ℕ) → Within (sizes_of R ds) xs → length xs ≡ length ds
within_counted R ds xs h = within_length (sizes_of R ds) xs h ∙ length-map ds (domain_size R)

-- ── variables and their values ──

module _ (R : RuleSet) where
  pub within_more : (Γ σ : List ℕ) (d x : ℕ) → Within (sizes_of R Γ) σ → x < domain_size R d → Within (sizes_of R (Γ ++ (d ∷ []))) (σ ++ (x ∷ []))
  within_more [] [] d x w h = (h, tt)
  within_more [] (v ∷ σ) d x w h = absurd w
  within_more (c ∷ Γ) [] d x w h = absurd w
  within_more (c ∷ Γ) (v ∷ σ) d x w h = (w.0, within_more Γ σ d x w.1 h)

  pub within_at : (Γ σ : List ℕ) → Within (sizes_of R Γ) σ → (i : ℕ) → i < length Γ → get_or σ i 0 < domain_size R (get_or Γ i 0)
  within_at [] σ w i h = let z : ⊥ = omega arith in absurd z
  within_at (c ∷ Γ) [] w i h = absurd w
  within_at (c ∷ Γ) (v ∷ σ) w zero h = w.0
  within_at (c ∷ Γ) (v ∷ σ) w (suc i) h = within_at Γ σ w.1 i (omega arith)

  module _ (Γ σ : List ℕ) (w : Within (sizes_of R Γ) σ) where
    argument_within : (d : ℕ) (r : Argument) → ArgumentFits R Γ d r → argument_value σ r < domain_size R d
    unfolding argument_value
    argument_within d (constant_argument v) h = h
    argument_within d (variable_argument i) h = rw h.1 at (within_at Γ σ w i h.0)

    pub arguments_within : (ds : List ℕ) (rs : List Argument) → ArgumentsFit R Γ ds rs → Within (sizes_of R ds) (map (argument_value σ) rs)
    arguments_within [] [] h = tt
    arguments_within [] (r ∷ rs) h = absurd h
    arguments_within (d ∷ ds) [] h = absurd h
    arguments_within (d ∷ ds) (r ∷ rs) h = (argument_within d r h.0, arguments_within ds rs h.1)

-- ── below the limit ──

-- A domain that is not there has no element.
pub domain_limited : (R : RuleSet) → Form R → (d : ℕ) → domain_size R d ≤ Limits.domain_size
domain_limited R form d = go (dec_lt d (length R.domains))
  where
    go : Dec (d < length R.domains) → domain_size R d ≤ Limits.domain_size
    go (yes h) = (form.domain_sizes d h).1
    go (no h) = let k : length R.domains ≤ d = omega arith in omega (arith, get_or-eq_default R.domains 0 k)

module _ (R : RuleSet) (form : Form R) where
  pub small_domain : (d : ℕ) → domain_size R d ≤ 64
  small_domain d = domain_limited R form d

  pub within_small : (ds xs : List ℕ) → Within (sizes_of R ds) xs → All (λ x. x < 64) xs
  within_small [] [] h = tt
  within_small [] (x ∷ xs) h = absurd h
  within_small (d ∷ ds) [] h = absurd h
  within_small (d ∷ ds) (x ∷ xs) h = (omega (arith, h.0, small_domain d), within_small ds xs h.1)

  -- ── an action's arguments ──

  module _ (a : VisibleAction) (good : WellFormedAction R (visible a)) where
    pub arguments_counted : length a.arguments ≡ length (label R a.label)
    arguments_counted = within_counted R (label R a.label) a.arguments good.1

    pub arguments_two : length a.arguments ≤ 2
    arguments_two = omega (arith, arguments_counted, (form.label_forms a.label good.0).0)
