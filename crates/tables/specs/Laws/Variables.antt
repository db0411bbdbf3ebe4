-- One variable more than those in scope, at most eight (document 01, "Blocks and the rule stream", item 5).
use Rattle.std.specs.Prelude.{ℕ, ◌+◌, ◌≤◌, ◌<◌, ◌≡◌, List, [], ◌∷◌, ◌++◌, length, take}
use Rattle.std.proofs.Common.{arith, sym, ap, ◌∙◌, length-append}

pub with_length : (vars r : List ℕ) (d : ℕ) → take (length vars + 1) r ≡ vars ++ (d ∷ []) → length vars + 1 ≡ length (take (length vars + 1) r)
with_length vars r d e = sym (ap length e ∙ length-append vars (d ∷ []))

pub with_few : (vars r : List ℕ) (d : ℕ) → take (length vars + 1) r ≡ vars ++ (d ∷ []) → length vars < 8 → length (take (length vars + 1) r) ≤ 8
with_few vars r d e h = omega (arith, with_length vars r d e)
