-- A rule set's attribute functions are its functions over the sizes of their domains.
use Rattle.std.specs.Prelude.{◌≡◌, refl, List, [], ◌∷◌, map, ℕ, zero, suc, ◌<◌, length, get_or}
use Rattle.std.proofs.Common.{ap, arith}
use Rattle.std.proofs.lemmas.List.{length-map}
use Rattle.eb3.specs.Attributes.{AttributeFunction, no_function, function, domain, number_of_functions}
use Rattle.eb3.specs.RuleSets.{RuleSet, sizes_of, function_rule, attribute_function, attributes}

-- An entry that is there, of a list's image.
pub get_d_map : {A B : Type 0} (f : A → B) (l : List A) (n : ℕ) (a : A) (b : B) → n < length l → get_or (map f l) n b ≡ f (get_or l n a)
get_d_map f [] n a b h = let z : ⊥ = omega arith in absurd z
get_d_map f (x ∷ l) zero a b h = refl
get_d_map f (x ∷ l) (suc n) a b h = get_d_map f l n a b (omega arith)

module _ (R : RuleSet) where
  pub functions_counted : number_of_functions (attributes R) ≡ length R.functions
  functions_counted = length-map R.functions (attribute_function R)

  pub function_is : (f : ℕ) → f < length R.functions → function (attributes R) f ≡ attribute_function R (function_rule R f)
  unfolding function
  function_is f h = get_d_map (attribute_function R) R.functions f _ no_function h

  pub domain_is : (f : ℕ) → f < length R.functions → domain (attributes R) f ≡ sizes_of R (function_rule R f).parameters
  domain_is f h = ap (λ (F : AttributeFunction). F.sizes) (function_is f h)
