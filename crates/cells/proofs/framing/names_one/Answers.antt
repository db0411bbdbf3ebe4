-- The patterns test each word of an expression that asks but the last, which must not be x0 (`asks_told`).
use mathlib.Core.Logic.{inl, inr, ⊎_elim}
use native.Mathlib.Omega.{arith}
use Rattle.cells.specs.Laws.Fronts.{asks_told, false_no, unequal_tested}
use Rattle.cells.proofs.framing.names_one.Goals as goal

pub returns-in-5 : goal.returns-in-5
returns-in-5 c = asks_told _ _ (λ e. (omega arith, omega arith, omega arith, omega arith, omega arith, inl (omega arith, (unequal_tested _ _).0 e))) (λ w. ⊎_elim (λ l. (unequal_tested _ _).1 l.1) (λ r. absurd (let z : ⊥ = omega (arith, r.0) in z)) w.5)

pub returns-in-5-2 : goal.returns-in-5-2
returns-in-5-2 c = asks_told _ _ (λ e. (omega arith, omega arith, omega arith, omega arith, omega arith, inr (omega arith, omega arith, omega arith, (unequal_tested _ _).0 e))) (λ w. ⊎_elim (λ l. absurd (let z : ⊥ = omega (arith, l.0) in z)) (λ r. (unequal_tested _ _).1 r.3) w.5)

pub returns-in_default : goal.returns-in_default
returns-in_default c = asks_told _ _ (λ e. false_no e) (λ w. absurd (let z : ⊥ = ⊎_elim (λ l. omega (arith, w.0, w.1, w.2, w.3, w.4, l.0)) (λ r. omega (arith, w.0, w.1, w.2, w.3, w.4, r.0, r.1, r.2)) w.5 in z))

pub returns-in_default-2 : goal.returns-in_default-2
returns-in_default-2 c = asks_told _ _ (λ e. false_no e) (λ w. absurd (let z : ⊥ = ⊎_elim (λ l. omega (arith, w.0, w.1, w.2, w.3, w.4, l.0)) (λ r. omega (arith, w.0, w.1, w.2, w.3, w.4, r.0, r.1, r.2)) w.5 in z))

pub returns-in_default-3 : goal.returns-in_default-3
returns-in_default-3 c = asks_told _ _ (λ e. false_no e) (λ w. absurd (let z : ⊥ = ⊎_elim (λ l. omega (arith, w.0, w.1, w.2, w.3, w.4, l.0)) (λ r. omega (arith, w.0, w.1, w.2, w.3, w.4, r.0, r.1, r.2)) w.5 in z))

pub returns-in_default-4 : goal.returns-in_default-4
returns-in_default-4 c = asks_told _ _ (λ e. false_no e) (λ w. absurd (let z : ⊥ = ⊎_elim (λ l. omega (arith, w.0, w.1, w.2, w.3, w.4, l.0)) (λ r. omega (arith, w.0, w.1, w.2, w.3, w.4, r.0, r.1, r.2)) w.5 in z))

pub returns-in_default-5 : goal.returns-in_default-5
returns-in_default-5 c = asks_told _ _ (λ e. false_no e) (λ w. absurd (let z : ⊥ = ⊎_elim (λ l. omega (arith, w.0, w.1, w.2, w.3, w.4, l.0)) (λ r. omega (arith, w.0, w.1, w.2, w.3, w.4, r.0, r.1, r.2)) w.5 in z))

pub returns-in_default-6 : goal.returns-in_default-6
returns-in_default-6 c = asks_told _ _ (λ e. false_no e) (λ w. absurd (let z : ⊥ = ⊎_elim (λ l. omega (arith, w.0, w.1, w.2, w.3, w.4, l.0)) (λ r. omega (arith, w.0, w.1, w.2, w.3, w.4, r.0, r.1, r.2)) w.5 in z))

pub returns-in_default-7 : goal.returns-in_default-7
returns-in_default-7 c = asks_told _ _ (λ e. false_no e) (λ w. absurd (let z : ⊥ = ⊎_elim (λ l. omega (arith, w.0, w.1, w.2, w.3, w.4, l.0)) (λ r. omega (arith, w.0, w.1, w.2, w.3, w.4, r.0, r.1, r.2)) w.5 in z))

pub returns-in_default-8 : goal.returns-in_default-8
returns-in_default-8 c = asks_told _ _ (λ e. false_no e) (λ w. absurd (let z : ⊥ = ⊎_elim (λ l. omega (arith, w.0, w.1, w.2, w.3, w.4, l.0)) (λ r. omega (arith, w.0, w.1, w.2, w.3, w.4, r.0, r.1, r.2)) w.5 in z))
