-- A walk's next place after a code that is no action, whichever number of words the code has: the loops give it in three cases, and one law is for all of them
-- (document 01, "Codes stand before their operands").
use mathlib.Core.Path.{◌≡◌, refl, subst}
use mathlib.Core.List.{List}
use mathlib.Core.Bool.{false}
use Prim.Native.Nat.{ℕ, ◌+◌, ◌-◌, ◌<◌}
use lib.ListN.{get_or, drop}
use Rattle.codes.specs.Table.{operands_after, moving_code}
use Rattle.codes.specs.Shapes.{more_words, more_operands}
use Rattle.codes.specs.Laws.Skipping.{Skipping, skip_next, Idling, idle_next, still_code}

-- w is the code, k the number of words after it, o and e its operands by the table and besides.
module _ (shape : ℕ) (s : List ℕ) (at due w : ℕ) (some : 0 < due) (k o e next : ℕ) (is_code : w ≡ get_or s at 0) (is_k : k ≡ more_words shape w) (is_o : o ≡ operands_after w)
    (is_e : (w ≡ 21 → ⊥) → e ≡ more_operands shape w (drop (at + 1) s)) (is_next : at + 1 + k ≡ next) where
  pub skip_on : (n : ℕ) → Skipping shape s n at due → (w ≡ 21 → ⊥) → Skipping shape s n next (due - 1 + (o + e))
  skip_on n inv other =
      subst (λ v. Skipping shape s n v (due - 1 + (o + e))) is_next
      (skip_next shape s at due w n some inv k (o + e) (drop (at + 1) s) is_code is_k (λ j. is_o j + is_e other j) refl)

  pub idle_on : Idling shape s at due → moving_code w ≡ false → Idling shape s next (due - 1 + (o + e))
  idle_on inv still =
      subst (λ v. Idling shape s v (due - 1 + (o + e))) is_next
      (idle_next shape s at due w some inv k (o + e) (drop (at + 1) s) is_code still is_k (λ j. is_o j + is_e (still_code w still) j) refl)
