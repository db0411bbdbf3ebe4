-- "A running term uses 20 to 26 without variables, and 30 for done" (document 01, "Unfolding, size and breadth"; refusals 10 and 11), said word by word:
-- what is due in a running term, as in a stream (FirstOffendingWord), and nothing after it. Laws/GivenWords: the words that pass are exactly those
-- of the terms that eb3 calls well-formed, and of its events. The limits of 7 and 8 are not judged here.
use Rattle.std.specs.Prelude.{◌≡◌, ◌⊎◌, ◌↔◌, List, [], ◌∷◌, map, ℕ, length, get_or}
use Rattle.std.proofs.Math.Option.{Option, none}
use Rattle.eb3.specs.Terms.{Term, Action}
use Rattle.eb3.specs.Spelling.{words}
use Rattle.eb3.specs.RuleSets.{Function, Process, RuleSet}
use Rattle.eb3.specs.TermReading.{term_of_action}
use Rattle.eb3.specs.WellFormedness.{WellFormedTerm, WellFormedAction}
use Rattle.first_word.specs.FirstOffendingWord.{Declared, running_code, verdict}

-- What a rule set declares.
abbrev pub declared_by : RuleSet → Declared
declared_by R = record {
  domains = R.domains;
  labels = R.labels;
  functions = map (λ (F : Function). length F.parameters) R.functions;
  processes = map (λ (P : Process). P.parameters) R.processes;
}

-- The first word that is not due in a running term, by the number of its test; none: the words are exactly one.
abbrev pub first_stray : RuleSet → List ℕ → Option ℕ
first_stray R words = verdict 0 R.edition words (declared_by R) (running_code ∷ [])

pub record GivenWords (R : RuleSet) : Type 0 where
  -- The words of a running term of R: none is stray, none is missing, none is left.
  pub one_term : (ws : List ℕ) → ((E : Term) × (ws ≡ words R.edition.width E) × WellFormedTerm R E) ↔ (first_stray R ws ≡ none)
  -- The words of an event: a running term's, of one leaf, 20 or 21.
  pub one_leaf : (ws : List ℕ) → ((ρ : Action) × (ws ≡ words R.edition.width (term_of_action ρ)) × WellFormedAction R ρ) ↔ ((first_stray R ws ≡ none) × ((get_or ws 0 0 ≡ 20) ⊎ (get_or ws 0 0 ≡ 21)))
