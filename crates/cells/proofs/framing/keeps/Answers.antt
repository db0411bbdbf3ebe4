-- The pattern tests each word of before f(x0) but the function's number, which the last test compares (`keeps_told`).
use native.Mathlib.Omega.{arith}
use Rattle.cells.specs.Laws.Fronts.{keeps_told, false_no, equal_tested}
use Rattle.cells.proofs.framing.keeps.Goals as goal

pub returns-in-7 : goal.returns-in-7
returns-in-7 c = keeps_told _ _ _ (λ e. (omega arith, omega arith, (equal_tested _ _).0 e, omega arith, omega arith)) (λ w. (equal_tested _ _).1 w.2)

pub returns-in_default : goal.returns-in_default
returns-in_default c = keeps_told _ _ _ (λ e. false_no e) (λ w. absurd (let z : ⊥ = omega (arith, w.0, w.1, w.3, w.4) in z))

pub returns-in_default-2 : goal.returns-in_default-2
returns-in_default-2 c = keeps_told _ _ _ (λ e. false_no e) (λ w. absurd (let z : ⊥ = omega (arith, w.0, w.1, w.3, w.4) in z))

pub returns-in_default-3 : goal.returns-in_default-3
returns-in_default-3 c = keeps_told _ _ _ (λ e. false_no e) (λ w. absurd (let z : ⊥ = omega (arith, w.0, w.1, w.3, w.4) in z))

pub returns-in_default-4 : goal.returns-in_default-4
returns-in_default-4 c = keeps_told _ _ _ (λ e. false_no e) (λ w. absurd (let z : ⊥ = omega (arith, w.0, w.1, w.3, w.4) in z))
