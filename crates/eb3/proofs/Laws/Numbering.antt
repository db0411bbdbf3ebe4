-- A derivation's number does not rest on which proof of demand 2 is given, and the list of moves is the only one that enumerates the derivations
-- (document 01, "Moves, in order").
use Rattle.std.specs.Prelude.{◌≡◌, List, ◌∷◌, ℕ}
use Rattle.eb3.specs.Generic.Positions.{Enumeration}
use Rattle.eb3.specs.Generic.PositionsUnique.{same_number, list_unique}
use Rattle.eb3.specs.Terms.{Term}
use Rattle.eb3.specs.Derivations.{DataState, Derivation, Earlier}
use Rattle.eb3.specs.TransitionSystems.{Transition, count, taken}
use Rattle.eb3.specs.Machines.{Machine, Chain, takes}
use Rattle.eb3.specs.Semantics.{Sem_M, Situation, situation, system, concluded}
use Rattle.eb3.proofs.Laws.Semantics.{demand_2, number_of}
use Rattle.eb3.specs.RuleSets.{RuleSet, attributes}
use Rattle.eb3.specs.Demands.{cells_now, Demand2}

module _ (rules term memory : List ℕ) (R : RuleSet) (E : Term) (p : Demand2 rules term memory R E) (d : Derivation (Sem_M (attributes R)) (cells_now rules term memory R E) E) where
  -- Move's number for a derivation, under any two proofs,
  pub demand_2_number : (q : Demand2 rules term memory R E) → (p.derivations.numbers.fun d).0 ≡ (q.derivations.numbers.fun d).0
  demand_2_number q = same_number p.derivations q.derivations d

  -- and it is the number that the machines' chains use.
  pub demand_2_number_of : (p.derivations.numbers.fun d).0 ≡ number_of (Sem_M (attributes R)) (situation E (cells_now rules term memory R E)) d
  demand_2_number_of = same_number p.derivations (demand_2 (Sem_M (attributes R)) (situation E (cells_now rules term memory R E))) d

-- Any enumeration of the derivations from a situation gives a chain's numbers and lists the transitions.
module _ (S : DataState) (s : Situation S) (l : List (Transition (Situation S))) (e : Enumeration (Derivation S s.state s.term) Earlier concluded l) where
  pub number_of_unique : (d : Derivation S s.state s.term) → (e.numbers.fun d).0 ≡ number_of S s d
  number_of_unique d = same_number e (demand_2 S s) d

  pub listing_unique : l ≡ (system S).transitions s
  listing_unique = list_unique l ((system S).transitions s) e (demand_2 S s)

-- A chain may take these numbers: a step by derivation d takes d's.
pub takes_numbered : (S : DataState) {c c' : Machine S} {ks : List ℕ} (d : Derivation S c.state.state c.state.term)
    → Chain S (count (system S) c (taken d.action) (situation d.successor d.state)) ks c' → Chain S c (number_of S c.state d ∷ ks) c'
takes_numbered S {c = c} d h = takes (demand_2 S c.state) d h
