-- A case for each way that the checks of actions and calls return. The premises have the form of the facts known there, so that `search` finds them.
use Prim.Native.Nat.{ℕ, ◌+◌, ◌*◌, ◌≤◌, ◌<◌}
use native.Mathlib.Omega.{arith}
use mathlib.Core.Path.{◌≡◌, sym, ap, ◌∙◌}
use mathlib.Core.List.{List}
use lib.ListN.{length, get_or}
use borrow.Author.Tests.{lt-ltb, le-ltb}
use Rattle.eb3.proofs.Laws.Sizes.{arguments_double}
use Rattle.eb3.specs.RuleSets.{Argument, RuleTerm, rule_perform, call, label, process}
use Rattle.eb3.specs.Measures.{sat, Measure, nothing, leaf, measure_term}
use Rattle.eb3.specs.Reading.{Read, giving, number_of, by_number}
use Rattle.eb3.specs.RuleReading.{arguments_of, rule_action_of, call_of}
use Rattle.words.specs.Checking.{checked, last_of, Checked}
use Rattle.words.specs.Readings.{Taken}
use Rattle.words.specs.Laws.Reading.{checked_refused, checked_taken, giving_refused_as, giving_taken, by_number_refused, by_number_taken, number_below, same_refused}
use Rattle.measures.specs.declared.Weight.{Weight}
use Rattle.measures.specs.Weighing.{cap, measure}
use Rattle.tables.specs.Layout.{label_place, process_place, label_count, process_count, size_at, reach_at, breadth_at}
use Rattle.tables.specs.Tables.{row, declared, callee}
use Rattle.tables.specs.Laws.Tables.{labels_length, label_at, processes_length, process_at, arguments_end, arguments_count}
use Rattle.rule_terms.specs.Weighed.{weighed, found}
use Rattle.rule_terms.specs.Laws.Weighed.{weighed_in, refused_in}
use Rattle.std.specs.Prelude.{Ok, Err}
use Rattle.refusals.specs.declared.Refusal.{Refusal}

-- ── the measures of a process ──

-- n is the number of processes as the code has it
pub row_in : (T : List ℕ) (p n s r b : ℕ) → n ≡ process_count T → p < n → s ≡ size_at T p → r ≡ reach_at T p → b ≡ breadth_at T p
    → ◌≡◌ {A = Measure} (record { size = s; reach = r; breadth = b }) (callee T p)
unfolding callee
row_in T p n s r b i h e f g = rw (e, f, g, lt-ltb p (process_count T) (omega arith))

pub row_out : (T : List ℕ) (p n : ℕ) (w : Weight) → n ≡ process_count T → n ≤ p → measure w ≡ nothing (sat cap) → measure w ≡ callee T p
unfolding callee
row_out T p n w i h e = e ∙ rw (le-ltb p (process_count T) (omega arith))

-- ── a number, and the arguments that it asks for ──

-- k makes the term; the code takes the domains ds for those that the number asks for
module _ (T Γ t : List ℕ) (k : ℕ → List Argument → RuleTerm) (limit : ℕ) (rows : ℕ → List ℕ) where
  abbrev asked : Read RuleTerm
  asked = by_number 5 limit (λ n u. giving (k n) (arguments_of (declared T) Γ (rows n) u)) t

  asked_none : (p : Checked) (j : Refusal) → p ≡ checked (number_of 5 limit t) → p ≡ Err j → Err j ≡ weighed (declared T) (callee T) asked
  asked_none p j e h = refused_in (declared T) (callee T) asked j (by_number_refused 5 limit _ t j (sym h ∙ e))

  module _ (p q : Checked) (n : ℕ) (r ds : List ℕ) (e : p ≡ checked (number_of 5 limit t)) (h : p ≡ Ok n) (l : r ≡ last_of n t) (i : ds ≡ rows (get_or t 0 0)) (f : q ≡ checked (arguments_of (declared T) Γ ds r)) where
    there : asked ≡ giving (k (get_or t 0 0)) (arguments_of (declared T) Γ ds r)
    there = by_number_taken 5 limit _ t n (sym h ∙ e) ∙ ap (λ x. giving (k (get_or t 0 0)) (arguments_of (declared T) Γ (rows (get_or t 0 0)) x)) (sym l) ∙ ap (λ x. giving (k (get_or t 0 0)) (arguments_of (declared T) Γ x r)) (sym i)

    asked_out : (j : Refusal) → q ≡ Err j → Err j ≡ weighed (declared T) (callee T) asked
    asked_out j g = refused_in (declared T) (callee T) asked j (same_refused _ _ j there (giving_refused_as (k (get_or t 0 0)) _ j (checked_refused _ j (sym g ∙ f))))

    asked_in : (m : ℕ) (w : Weight) → q ≡ Ok m → ((rs : List Argument) → length rs ≡ length ds → measure w ≡ measure_term (sat cap) (declared T) (callee T) (k (get_or t 0 0) rs)) → found m w ≡ weighed (declared T) (callee T) asked
    asked_in m w g o =
        let a : Taken r m (arguments_of (declared T) Γ ds r) = checked_taken r m (arguments_of (declared T) Γ ds r) (arguments_end (declared T) Γ ds r) (sym g ∙ f) in
        weighed_in (declared T) (callee T) m w asked (k (get_or t 0 0) a.value) a.rest (there ∙ giving_taken (k (get_or t 0 0)) _ a.value a.rest a.read) a.left
        (o a.value (arguments_count (declared T) Γ ds r a.value a.rest a.read))

-- b is the limit, as the code has it
module _ (T Γ t : List ℕ) (b : ℕ) (p : Checked) (e : p ≡ checked (number_of 5 b t)) where
  labels_limit : b ≡ label_count T → b ≡ length (declared T).labels
  labels_limit x = x ∙ sym (labels_length T)

  processes_limit : b ≡ process_count T → b ≡ length (declared T).processes
  processes_limit x = x ∙ sym (processes_length T)

  pub action_none : (j : Refusal) → b ≡ label_count T → p ≡ Err j → Err j ≡ weighed (declared T) (callee T) (rule_action_of (declared T) Γ t)
  unfolding rule_action_of
  action_none j x h = asked_none T Γ t rule_perform (length (declared T).labels) (label (declared T)) p j (rw (← labels_limit x) e) h

  pub call_none : (j : Refusal) → b ≡ process_count T → p ≡ Err j → Err j ≡ weighed (declared T) (callee T) (call_of (declared T) Γ t)
  unfolding call_of
  call_none j x h = asked_none T Γ t call (length (declared T).processes) (λ l. (process (declared T) l).parameters) p j (rw (← processes_limit x) e) h

  -- d is the number, ds the domains that it asks for
  module _ (n d : ℕ) (h : p ≡ Ok n) (z : d ≡ get_or t 0 0) where
    label_row : b ≡ label_count T → row T (label_place d) ≡ label (declared T) (get_or t 0 0)
    label_row x = sym (label_at T (get_or t 0 0) (omega (arith, number_below 5 b n t (sym h ∙ e), x)) ∙ ap (λ l. row T (label_place l)) (sym z))

    process_parameters : b ≡ process_count T → row T (process_place d) ≡ (process (declared T) (get_or t 0 0)).parameters
    process_parameters x = sym (process_at T (get_or t 0 0) (omega (arith, number_below 5 b n t (sym h ∙ e), x)) ∙ ap (λ l. row T (process_place l)) (sym z))

    module _ (r ds : List ℕ) (q : Checked) (l : r ≡ last_of n t) (f : q ≡ checked (arguments_of (declared T) Γ ds r)) where
      pub action_out : (j : Refusal) → b ≡ label_count T → ds ≡ row T (label_place d) → q ≡ Err j → Err j ≡ weighed (declared T) (callee T) (rule_action_of (declared T) Γ t)
      unfolding rule_action_of
      action_out j x i g = asked_out T Γ t rule_perform (length (declared T).labels) (label (declared T)) p q n r ds (rw (← labels_limit x) e) h l (i ∙ label_row x) f j g

      pub action_in : (m c : ℕ) (w : Weight) → b ≡ label_count T → ds ≡ row T (label_place d) → q ≡ Ok m → c ≡ length ds → measure w ≡ leaf (sat cap) (2 + 2 * c) → found m w ≡ weighed (declared T) (callee T) (rule_action_of (declared T) Γ t)
      unfolding rule_action_of measure_term declared
      action_in m c w x i g o u =
          asked_in T Γ t rule_perform (length (declared T).labels) (label (declared T)) p q n r ds (rw (← labels_limit x) e) h l (i ∙ label_row x) f m w g
          (λ rs v. u ∙ ap (λ s. leaf (sat cap) (2 + s)) (ap (λ s. 2 * s) (o ∙ sym v) ∙ sym (arguments_double (length rs))))

      pub call_out : (j : Refusal) → b ≡ process_count T → ds ≡ row T (process_place d) → q ≡ Err j → Err j ≡ weighed (declared T) (callee T) (call_of (declared T) Γ t)
      unfolding call_of
      call_out j x i g = asked_out T Γ t call (length (declared T).processes) (λ c. (process (declared T) c).parameters) p q n r ds (rw (← processes_limit x) e) h l (i ∙ process_parameters x) f j g

      pub call_in : (m : ℕ) (w : Weight) → b ≡ process_count T → ds ≡ row T (process_place d) → q ≡ Ok m → measure w ≡ callee T d → found m w ≡ weighed (declared T) (callee T) (call_of (declared T) Γ t)
      unfolding call_of measure_term
      call_in m w x i g u =
          asked_in T Γ t call (length (declared T).processes) (λ c. (process (declared T) c).parameters) p q n r ds (rw (← processes_limit x) e) h l (i ∙ process_parameters x) f m w g
          (λ rs v. u ∙ ap (callee T) z)

pub ruleset leaves = (row_in, row_out, action_none, action_out, action_in, call_none, call_out, call_in)
