-- Demand 2: the listed moves are exactly the derivations, one to one, in order, with action, successor and new state (`demand_2`),
-- at the cell memory (`demand_2_memory`) and at the trace (`demand_2_trace`).
use Rattle.std.specs.Prelude.{◌≡◌, refl, Bool, List, ℕ}
use Rattle.std.proofs.Math.Path.{ap, sym}
use Rattle.std.proofs.Common.{◌∙◌, subst}
use Rattle.std.proofs.Math.Option.{some}
use Rattle.std.proofs.Math.ListN.{get_elem?}
use Rattle.eb3.specs.Expressions.{Cond}
use Rattle.eb3.specs.Values.{Value}
use Rattle.eb3.specs.Terms.{Term, Action, internal, visible}
use Rattle.eb3.specs.Moves.{Move, moves}
use Rattle.eb3.specs.Generic.Positions.{Enumeration, OrderIsomorphism, at, index}
use Rattle.eb3.specs.Generic.PositionsLaws.{enumeration, position_at}
use Rattle.eb3.specs.Generic.PositionsAppend.{transfer}
use Rattle.eb3.specs.Generic.PositionsFilter.{mapped}
use Rattle.eb3.specs.Derivations.{DataState, Step, Derivation, state_after, Earlier, move_of}
use Rattle.eb3.proofs.Laws.Derivations.{state_is, derivations_are_moves}
use Rattle.eb3.specs.Attributes.{Attributes, Trace}
use Rattle.eb3.specs.TransitionSystems.{Transition}
use Rattle.eb3.specs.Semantics.{Sem_T, Sem_M, Situation, situation, transition, system, concluded}

module _ (S : DataState) (s : Situation S) where
  pub derivations_are_transitions : OrderIsomorphism (Derivation S s.state s.term) Earlier concluded ((system S).transitions s)
  derivations_are_transitions = transfer (mapped (transition S s.state) (derivations_are_moves S s.state s.term)) (λ d. d) (λ d. d) (λ d. refl) (λ d. refl)
      (λ d. λ i. record { action = d.action; target = situation d.successor (sym (state_is d.step) i) }) (λ d e q. q) (λ d e q. q)

  -- Demand 2.
  unfoldable pub demand_2 : Enumeration (Derivation S s.state s.term) Earlier concluded ((system S).transitions s)
  demand_2 = enumeration derivations_are_transitions

  -- Each listed transition has a derivation.
  pub transition_derived : (k : ℕ) (x : Transition (Situation S)) → get_elem? ((system S).transitions s) k ≡ some x
      → (d : Derivation S s.state s.term) × (concluded d ≡ x) × ((demand_2.numbers.fun d).0 ≡ k)
  unfolding demand_2 enumeration
  transition_derived k x e =
      let o = derivations_are_transitions in
      let p = position_at ((system S).transitions s) k x e in
      let d = o.inverse p.0 in
      (d, sym (o.entry d) ∙ (ap (at ((system S).transitions s)) (o.right_inverse p.0) ∙ p.1), ap (index ((system S).transitions s)) (o.right_inverse p.0) ∙ p.2)

-- A derivation's number is its place in the list of moves. (The one-to-one correspondence in order is unique, so it matters not that its value is
-- taken from the law that gives it.)
abbrev pub number_of : (S : DataState) (s : Situation S) → Derivation S s.state s.term → ℕ
number_of S s d = ((demand_2 S s).numbers.fun d).0

-- Demand 2 at the cell memory and at the trace.
pub demand_2_memory : (A : Attributes) (M : List Value) (E : Term) → Enumeration (Derivation (Sem_M A) M E) Earlier concluded ((system (Sem_M A)).transitions (situation E M))
demand_2_memory A M E = demand_2 (Sem_M A) (situation E M)

pub demand_2_trace : (A : Attributes) (H : Trace) (E : Term) → Enumeration (Derivation (Sem_T A) H E) Earlier concluded ((system (Sem_T A)).transitions (situation E H))
demand_2_trace A H E = demand_2 (Sem_T A) (situation E H)

-- Of the plain list of moves: each entry has a derivation, in every state,
pub move_derived : (S : DataState) (M : S.State) (E : Term) (k : ℕ) (x : Move) → get_elem? (moves (S.satisfies M) E) k ≡ some x
    → Step S M E x.action x.successor (state_after S M x.action)
move_derived S M E k x e =
    let o = derivations_are_moves S M E in
    let p = position_at (moves (S.satisfies M) E) k x e in
    let d = o.inverse p.0 in
    let q : move_of d ≡ x = sym (o.entry d) ∙ (ap (at (moves (S.satisfies M) E)) (o.right_inverse p.0) ∙ p.1) in
    subst (λ (y : Move). Step S M E y.action y.successor (state_after S M y.action)) q
    (subst (λ s. Step S M E d.action d.successor s) (state_is d.step) d.step)

-- and under any outcome of the guards.
abbrev pub no_state : (Cond → Bool) → DataState
no_state g = record { State = Unit; State_set = λ x y p q i j. tt; update = λ s a. s; satisfies = λ s. g }

pub move_stepped : (g : Cond → Bool) (E : Term) (k : ℕ) (x : Move) → get_elem? (moves g E) k ≡ some x → Step (no_state g) tt E x.action x.successor tt
unfolding state_after
move_stepped g E k x e = go x.action (move_derived (no_state g) tt E k x e)
  where
    go : (ρ : Action) → Step (no_state g) tt E ρ x.successor (state_after (no_state g) tt ρ) → Step (no_state g) tt E ρ x.successor tt
    go internal d = d
    go (visible a) d = d
