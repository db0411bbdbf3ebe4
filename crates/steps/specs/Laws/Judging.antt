-- A running term of a rule set at the cells that a store holds: its words are a term that the parts of a step take, and its moves by the store are the
-- memory semantics' moves (document 01, "Moves, in order"; "Memory and the history machine").
use Rattle.std.specs.Prelude.{◌≡◌, refl, Bool, ◌&&◌, cond, List, [], ◌∷◌, ◌++◌, map, ℕ}
use Rattle.std.proofs.Common.{sym, ◌∙◌, append-nil, arith}
use Rattle.eb3.specs.Values.{Value}
use Rattle.eb3.specs.Expressions.{Cond}
use Rattle.eb3.specs.Terms.{Term, Done, Internal, Perform, Sequence, Choice, Star, Parallel, Guard, internal, visible, done?}
use Rattle.eb3.specs.Scopes.{Scope, CondInScope, guard_scope}
use Rattle.eb3.specs.Moves.{move, sequenced, parallel_moves, moves}
use Rattle.eb3.specs.Semantics.{Sem_M}
use Rattle.eb3.specs.RuleSets.{RuleSet, attributes}
use Rattle.eb3.specs.Spelling.{words}
use Rattle.eb3.specs.WellFormedness.{WellFormedTerm, Running, Form}
use Rattle.declarations.specs.Declaring.{Declares}
use Rattle.actions.specs.Laws.Actions.{action_small}
use Rattle.listing.specs.Listing.{Fits, holding}
use Rattle.cells.specs.Laws.Reads.{guard_judged}
use Rattle.cells.specs.Laws.Readying.{plain_guard}
use Rattle.steps.specs.Counting.{Whole}
use Rattle.steps.specs.Storing.{Stored}

-- Two tests that agree on the conditions of a scope give a term with guards in that scope the same moves.
pub moves_agree : (g h : Cond → Bool) (P : Scope) → ((C : Cond) → CondInScope C P → g C ≡ h C) → (E : Term) → Fits P E → moves g E ≡ moves h E
unfolding moves
moves_agree g h P a Done f = refl
moves_agree g h P a Internal f = refl
moves_agree g h P a (Perform b) f = refl
moves_agree g h P a (Sequence E F) f = λ i. cond (done? E) (moves_agree g h P a F f.1 i) (map (sequenced F) (moves_agree g h P a E f.0 i))
moves_agree g h P a (Choice E F) f = λ i. moves_agree g h P a E f.0 i ++ moves_agree g h P a F f.1 i
moves_agree g h P a (Star E) f = λ i. move internal Done ∷ map (sequenced (Star E)) (moves_agree g h P a E f i)
moves_agree g h P a (Parallel Δ E F) f = λ i. cond (done? E && done? F) (move internal Done ∷ []) (parallel_moves Δ E F (moves_agree g h P a E f.1 i) (moves_agree g h P a F f.2 i))
moves_agree g h P a (Guard C E) f = λ i. cond (a C f.0 i) (moves_agree g h P a E f.1 i) []

module _ (R : RuleSet) (form : Form R) where
  pub fits : (E : Term) → WellFormedTerm R E → Fits (guard_scope (attributes R) 0) E
  fits Done h = tt
  fits Internal h = tt
  fits (Perform a) h = action_small R form (visible a) h
  fits (Sequence E F) h = (fits E h.0, fits F h.1)
  fits (Choice E F) h = (fits E h.0, fits F h.1)
  fits (Star E) h = fits E h
  fits (Parallel Δ E F) h = (h.0.0, fits E h.1, fits F h.2)
  fits (Guard C E) h = (h.0, fits E h.1)

  module _ (T : List ℕ) (says : Declares T R) where
    pub whole : (E : Term) → Running R E → (s : List ℕ) → s ≡ words R.edition.width E → Whole s (guard_scope (attributes R) 0) E
    whole E r s e = record {
      there = record { plain = plain_guard R form T says 0; fits = fits E r.form; spelled = e ∙ sym (append-nil (words R.edition.width E)); closed = λ z. let w : ⊥ = omega arith in w };
      narrow = r.breadth_limit;
    }

    -- The guards of the term hold at the store as they hold at the cells.
    pub moves_judged : (E : Term) → WellFormedTerm R E → (cells : List Value) (M : List ℕ) → Stored R cells M → moves (holding M) E ≡ moves ((Sem_M (attributes R)).satisfies cells) E
    moves_judged E h cells M s = moves_agree (holding M) ((Sem_M (attributes R)).satisfies cells) (guard_scope (attributes R) 0)
        (λ C p. guard_judged (attributes R) M s.laid cells s.counted s.at_most s.holds C (plain_guard R form T says 0) p) E (fits E h)
