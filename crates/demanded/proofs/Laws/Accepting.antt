-- Every successor of an accepted term is accepted again (`accepted_again`; document 01, "Unfolding, size and breadth": no move enlarges G or W, and refusal
-- 10).
use Rattle.std.specs.Prelude.{◌≡◌, refl, Bool, true, false, ◌&&◌, List, ℕ}
use Rattle.std.proofs.Common.{ap, sym, ◌∙◌}
use Rattle.std.proofs.Math.Option.{Option, none, some}
use Rattle.std.proofs.Math.ListN.{get_elem?}
use Rattle.eb3.specs.Refusal
use Rattle.eb3.specs.Terms.{Term}
use Rattle.eb3.specs.Moves.{Move}
use Rattle.eb3.specs.Semantics.{Sem_M}
use Rattle.eb3.proofs.Laws.Semantics.{move_stepped}
use Rattle.eb3.specs.Sizes.{size, reach}
use Rattle.eb3.proofs.Laws.Sizes.{reach_nonincreasing, breadth_nonincreasing}
use Rattle.eb3.specs.RuleSets.{RuleSet, attributes}
use Rattle.eb3.specs.WellFormedness.{Running, WellFormed}
use Rattle.eb3.proofs.Laws.Running.{move_running}
use Rattle.eb3.specs.Spelling.{words}
use Rattle.eb3.specs.Reading.{pick}
use Rattle.eb3.specs.TermReading.{given_term}
use Rattle.eb3.proofs.Laws.TermReading.{given_term_exact}
use Rattle.eb3.specs.Bytes.{words_in, written}
use Rattle.eb3.specs.Answers.{answered, Moved, Written, unwritten}
use Rattle.eb3.proofs.Laws.Answers.{not_both, answered_injective, pick_answered}
use Rattle.eb3.proofs.Laws.Admission.{or_refused_answered, admitted}
use Rattle.eb3.specs.Operations.{sizes_needed, term_fits, memory_fits, even, term_in, cells_given, listed, writing, moved, chosen, move}
use Rattle.eb3.specs.Answers.{or_refused}
use Rattle.eb3.proofs.Laws.Operations.{term_back}
use Rattle.eb3.specs.Demands.{cut}
use Rattle.demanded.proofs.Laws.Stepping.{cut_written}
use Rattle.demanded.specs.Stepping.{AcceptedAgainHolds}

-- An accepted term is a running term.
accepted_running : (R : RuleSet) → WellFormed R → (term : List ℕ) (E : Term) → term_in R term ≡ answered E → Running R E
accepted_running R good term E e =
    let p = pick_answered (even term) (or_refused Refusal.term (given_term R (words_in term))) Refusal.term E e in
    ((given_term_exact R good.form.proper.constants.0 (words_in term) E).0 (or_refused_answered Refusal.term (given_term R (words_in term)) E p.1)).1

module _ (R : RuleSet) (memory next_term next_memory : List ℕ) (m : Moved) where
  -- What answered was a move that is listed.
  abbrev Chosen : Option Move → Written Moved → Type 0
  Chosen o w = (x : Move) × (o ≡ some x) × (w ≡ moved R memory next_term next_memory x)

  chosen_move : (b : Bool) (o : Option Move) → (pick b (writing next_term next_memory (or_refused Refusal.not_offered o) (moved R memory next_term next_memory)) (unwritten next_term next_memory Refusal.space)).answer ≡ answered m
      → Chosen o (pick b (writing next_term next_memory (or_refused Refusal.not_offered o) (moved R memory next_term next_memory)) (unwritten next_term next_memory Refusal.space))
  chosen_move false o e = absurd (not_both Refusal.space m e)
  chosen_move true none e = absurd (not_both Refusal.not_offered m e)
  chosen_move true (some x) e = (x, refl, refl)

pub accepted_again : AcceptedAgainHolds
unfolding move
accepted_again rules term memory next_term next_memory k R E m a t e =
    let good : WellFormed R = (admitted rules R a).good in
    let is_chosen : move rules term memory k next_term next_memory ≡ chosen R E memory next_term next_memory (λ xs. get_elem? xs k) =
    ap (λ x. writing next_term next_memory x λ R. writing next_term next_memory (term_in R term) λ E. chosen R E memory next_term next_memory λ xs. get_elem? xs k) a
    ∙ ap (λ x. writing next_term next_memory x λ E. chosen R E memory next_term next_memory λ xs. get_elem? xs k) t in
    let c = chosen_move R memory next_term next_memory m (term_fits (reach R.edition.width E) next_term && (memory_fits R memory && memory_fits R next_memory)) (get_elem? (listed R E memory) k)
    (ap (λ (w : Written Moved). w.answer) (sym is_chosen) ∙ e) in
    let x : Move = c.0 in
    let runs : Running R x.successor = move_running R ((Sem_M (attributes R)).satisfies (cells_given R memory)) E k x c.1 (accepted_running R good term E t) in
    let is_moved : move rules term memory k next_term next_memory ≡ moved R memory next_term next_memory x = is_chosen ∙ c.2 in
    let m_is : m ≡ record { action = x.action; size = size R.edition.width x.successor } = answered_injective m _ (sym e ∙ ap (λ (w : Written Moved). w.answer) is_moved) in
    let step = move_stepped ((Sem_M (attributes R)).satisfies (cells_given R memory)) E k x c.1 in
    record {
      successor = x.successor;
      accepted = ap (λ (w : Written Moved). term_in R (cut m.size w.term)) is_moved
          ∙ (ap (λ (n : Moved). term_in R (cut n.size (written (words R.edition.width x.successor) next_term))) m_is
          ∙ (ap (term_in R) (cut_written rules (sizes_needed R) R a refl x.successor next_term runs) ∙ term_back R good.form x.successor runs));
      size_reported = ap (λ (n : Moved). n.size) m_is;
      reach_kept = reach_nonincreasing R.edition.width step;
      breadth_kept = breadth_nonincreasing step;
    }
