-- What every operation on a given term begins with: the rule set admitted, and the term read (document 01, "Operations": each call admits and checks
-- everything itself; refusals 1 to 8, then 10).
use Rattle.std.specs.Prelude.{◌≡◌, List, ◌++◌, ℕ, ◌*◌, take, drop, Ok, Err, Result}
use Rattle.eb3.specs.Terms.{Term}
use Rattle.eb3.specs.Sizes.{reach}
use Rattle.eb3.specs.Spelling.{words}
use Rattle.eb3.specs.Bytes.{word_count}
use Rattle.eb3.specs.Blocks.{stream}
use Rattle.eb3.specs.Admission.{admission}
use Rattle.eb3.specs.RuleSets.{RuleSet}
use Rattle.eb3.specs.WellFormedness.{Form, Running}
use Rattle.eb3.specs.Answers.{Answer, refused, answered, and_then}
use Rattle.eb3.specs.Operations.{cells_needed, term_in}
use Rattle.declarations.specs.Directory.{Directory}
use Rattle.given.specs.declared.giving.Given.{Given}
use Rattle.refusals.specs.declared.Refusal.{Refusal}
use Rattle.refusals.specs.Numbers.{refusal}

-- ── the term ──

abbrev pub found_term : ℕ → ℕ → Result Given Refusal
found_term c g = Ok (record { cells = c; reach = g })

-- The cells of its rule set and the term's reach, or the refusal; a constant has `width` words.
unfoldable pub checked_as : ℕ → ℕ → Answer Term → Result Given Refusal
checked_as width c (refused k) = Err (refusal k)
checked_as width c (answered E) = found_term c (reach width E)

-- s is a running term of R.
pub record Spelled (R : RuleSet) (E : Term) (s : List ℕ) : Type 0 where
  pub words_are : s ≡ words R.edition.width E
  pub running : Running R E

-- Of a lent array of words that is ws afterwards.
pub record TermChecked (R : RuleSet) (c : ℕ) (term ws : List ℕ) (r : Result Given Refusal) : Type 0 where
  pub answer : r ≡ checked_as R.edition.width c (term_in R term)
  pub spelled : (E : Term) → term_in R term ≡ answered E → Spelled R E (take (word_count term) ws)

-- ── rule set and term ──

abbrev pub given_in : List ℕ → List ℕ → Answer (RuleSet × Term)
given_in rules term = and_then (admission rules) λ R. and_then (term_in R term) λ E. answered (R, E)

unfoldable pub given_as : Answer (RuleSet × Term) → Result Given Refusal
given_as (refused k) = Err (refusal k)
given_as (answered p) = found_term (cells_needed p.0) (reach p.0.edition.width p.1)

-- What is known of both: the stream, the tables and the directory, and the term's words.
pub record Described (R : RuleSet) (E : Term) (t T D s : List ℕ) : Type 0 where
  pub form : Form R
  pub directory : Directory t T D R
  pub term : Spelled R E s

pub record GivenDone (rules term words₀ : List ℕ) (n : ℕ) (r : Result Given Refusal) (words' T D ws : List ℕ) : Type 0 where
  pub answer : r ≡ given_as (given_in rules term)
  pub decoded : words' ≡ stream rules ++ drop (254 * n) words₀
  pub described : (R : RuleSet) (E : Term) → given_in rules term ≡ answered (R, E) → Described R E (drop 2 (stream rules)) T D (take (word_count term) ws)
