-- The scopes of a function's expressions, where each function has one parameter, are those that the code gives.
-- Document 01, "Blocks and the rule stream", items 2 to 5; refusals 4 and 5.
use Rattle.std.specs.Prelude.{List, ℕ, ◌+◌, ◌<◌, ◌≡◌, get_or, replicate}
use Rattle.std.proofs.Common.{arith, sym}
use Rattle.std.proofs.Math.Decide.{dec_lt}
use Rattle.std.proofs.lemmas.List.{length-replicate, get_or-replicate}
use Rattle.std.proofs.Math.ListN.{get_or-eq_default}
use Rattle.eb3.specs.Scopes.{Scope}
use Rattle.eb3.specs.RuleReading.{at_start_scope, at_label_scope}
use Rattle.expression_check.specs.Scoping.{scope}
use Rattle.tables.specs.Tables.{edition_in}

pub one_each : (n f : ℕ) → ◌≡◌ {A = ℕ} (get_or (replicate n 1) f 1) 1
one_each n f = go (dec_lt f n)
  where
    go : Dec (f < n) → ◌≡◌ {A = ℕ} (get_or (replicate n 1) f 1) 1
    go (yes h) = get_or-replicate n f 1 1 h
    go (no h) = get_or-eq_default (replicate n 1) 1 (omega (arith, length-replicate {A = ℕ} n 1))

abbrev pub at_start : ℕ → Scope
at_start i = scope (record { variables = 1; now = i; before = 0 })

abbrev pub at_label : ℕ → ℕ → ℕ → Scope
at_label n i x = scope (record { variables = 1 + x; now = i; before = n })

pub start_scope : (T : List ℕ) (n i : ℕ) → at_start i ≡ at_start_scope (edition_in T) (replicate n 1) i
start_scope T n i = λ j. record { edition = edition_in T; arity = λ f. sym (one_each n f) j; now = i; before = 0; variables = sym (one_each n i) j }

pub label_scope : (T : List ℕ) (n i x : ℕ) → at_label n i x ≡ at_label_scope (edition_in T) (replicate n 1) i x
label_scope T n i x = λ j. record { edition = edition_in T; arity = λ f. sym (one_each n f) j; now = i; before = sym (length-replicate {A = ℕ} n 1) j; variables = sym (one_each n i) j + x }
