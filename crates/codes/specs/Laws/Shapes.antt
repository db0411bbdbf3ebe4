-- Edition 1's shape: constants of one word, functions of one parameter; what follows a code is what the table says (document 01, "Codes stand before
-- their operands").
use Rattle.std.specs.Prelude.{◌≡◌, refl, Bool, true, false, List, ℕ, ◌+◌, ◌%◌, ◌^◌, eqb, get_or}
use Rattle.std.proofs.Common.{ap, ◌∙◌, arith, ne_eqb}
use Rattle.std.proofs.Math.Nat.{zero-div}
use Rattle.eb3.specs.Reading.{pick}
use Rattle.codes.specs.Table.{words_after, operands_after}
use Rattle.codes.specs.Shapes.{two_parameters, arity_of, more_words, argument_count, more_operands, operand_count}

pub one_parameter : (f : ℕ) → arity_of 0 f ≡ 1
one_parameter f = ap (λ n. 1 + n % 2) (zero-div (2 ^ (f % 16)))

pub one_parameter_each : ◌≡◌ {A = ℕ → ℕ} (arity_of 0) (λ f. 1)
one_parameter_each = λ j f. one_parameter f j

no_more : (b : Bool) → ◌≡◌ {A = ℕ} (pick b 0 0) 0
no_more true = refl
no_more false = refl

pub plain_words : (c : ℕ) → more_words 0 c ≡ words_after c
plain_words c = omega (arith, no_more (eqb c 1))

-- Of every code but an action's.
pub plain_operands : (c : ℕ) (t : List ℕ) → (c ≡ 21 → ⊥) → operand_count 0 c t ≡ operands_after c
plain_operands c t n =
    let z : two_parameters 0 (get_or t 0 0) ≡ 0 = ap (λ n. n % 2) (zero-div (2 ^ (get_or t 0 0 % 16))) in
    let m : more_operands 0 c t ≡ 0 =
    (λ j. pick (eqb c 6) (z j) (pick (eqb c 7) (z j) (pick (ne_eqb c 21 n j) (argument_count 0 t) 0)))
    ∙ ap (λ k. pick (eqb c 6) 0 k) (no_more (eqb c 7)) ∙ no_more (eqb c 6) in
    omega (arith, m)
