-- The first move with an action is the first with the action's number.
-- Document 01, "Moves, in order"; "Operations": Present.
use Rattle.std.specs.Prelude.{◌≡◌, refl, Bool, cond, List, [], ◌∷◌, map, ℕ, zero, suc}
use Rattle.std.proofs.Math.Option.{some}
use Rattle.std.proofs.Math.ListN.{get_elem?}
use Rattle.eb3.specs.Expressions.{Cond}
use Rattle.eb3.specs.Scopes.{Scope}
use Rattle.eb3.specs.Terms.{Term, Action}
use Rattle.eb3.specs.Moves.{Move, moves, later, first_with}
use Rattle.actions.specs.Codes.{action_code, Small}
use Rattle.actions.specs.Laws.Codes.{same_code}
use Rattle.listing.specs.Listing.{Fits, code_of, codes}
use Rattle.paths.proofs.SmallLaws.{move_action_small}
use Rattle.derivation.specs.Laws.Fits.{small_actions}
use Rattle.steps.specs.Counting.{first_number}

-- of any list of moves with small actions
first_same : (ρ : Action) → Small ρ → (xs : List Move) → ((k : ℕ) (x : Move) → get_elem? xs k ≡ some x → Small x.action) → first_with ρ xs ≡ first_number (action_code ρ) (map code_of xs)
unfolding first_with first_number
first_same ρ small [] f = refl
first_same ρ small (x ∷ xs) f =
    λ i. cond (same_code x.action ρ (f zero x refl) small i) (some zero) (later (first_same ρ small xs (λ k y e. f (suc k) y e) i))

pub first_by_code : (g : Cond → Bool) (P : Scope) (E : Term) → Fits P E → (ρ : Action) → Small ρ → first_with ρ (moves g E) ≡ first_number (action_code ρ) (codes g E)
unfolding codes
first_by_code g P E fits ρ small = first_same ρ small (moves g E) (λ k x e. move_action_small g E k x e (small_actions P E fits))
