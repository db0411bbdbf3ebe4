-- The unfolding of a process term, written into a lent buffer (document 01, "Unfolding, size and breadth": calls are replaced by bodies; 27 and 28
-- become choices or parallels of the copies, nested to the right; each variable becomes a constant).
use Rattle.std.specs.Prelude.{◌≡◌, List, ◌++◌, ℕ, ◌+◌, ◌*◌, ◌≤◌, ◌<◌, length, Option, MatchOption}
use Rattle.eb3.specs.Generic.Lists.{Within}
use Rattle.eb3.specs.RuleSets.{RuleTerm, RuleSet, sizes_of}
use Rattle.eb3.specs.RuleSpelling.{rule_words}
use Rattle.eb3.specs.Spelling.{words}
use Rattle.eb3.specs.Unfolding.{unfold_in, unfold_main}
use Rattle.eb3.specs.WellFormedness.{Form, Allowed}
use Rattle.eb3.specs.Bytes.{written}
use Rattle.words.specs.Checking.{last_of}
use Rattle.declarations.specs.Declaring.{Declares}
use Rattle.declarations.specs.Directory.{ProcessRows}
use Rattle.unfold.specs.declared.scope.Scope.{Scope}
use Rattle.unfold.specs.declared.writer.Writer.{Writer}
use Rattle.unfold.specs.Written.{written_from}

-- The stream t and the tables T say of a rule set what its terms are unfolded by.
pub record Ready (t T : List ℕ) (R : RuleSet) : Type 0 where
  pub form : Form R
  pub declares : Declares T R
  pub processes : ProcessRows R.edition.width t T 0 R.processes

-- Where n words of t are left is a term of process i; its variables have the domains Γ and the values σ.
pub record RuleTermAt (t : List ℕ) (n : ℕ) (R : RuleSet) (i : ℕ) (Γ σ : List ℕ) (E : RuleTerm) (rest : List ℕ) : Type 0 where
  pub process_there : i ≤ length R.processes
  pub fits : Allowed R i Γ E
  pub values : Within (sizes_of R Γ) σ
  pub few : length Γ ≤ 8
  pub spelled : last_of n t ≡ rule_words R.edition.width E ++ rest

abbrev pub unfolded_words : RuleSet → ℕ → RuleTerm → List ℕ → List ℕ
unfolded_words R i E σ = words R.edition.width (unfold_in R i E σ)

-- What D says of the words, the tables, how many words are left, the process and the values of its variables.
abbrev pub Here : {A : Type 1} → (List ℕ → List ℕ → ℕ → ℕ → List ℕ → A) → Scope → ℕ → A
Here D s n = D s.words.now s.context.tables.now n s.process s.context.variables.now

-- The writer x became y by putting these words, and as many words are left as `rest` has.
pub record UnfoldedRight (ws rest : List ℕ) (x y : Writer) (left : ℕ) : Type 0 where
  pub ends : y.at ≡ x.at + length ws
  pub left_is : left ≡ length rest
  pub written_there : y.bytes.now ≡ written_from x.at ws x.bytes.now

-- The answer is how many words are left, where there is a term and room for its unfolding; it is none where there is no room.
pub record Unfolding (t T : List ℕ) (n i : ℕ) (σ : List ℕ) (x y : Writer) (r : Option ℕ) : Type 0 where
  pub same_buffer : y.bytes.ghost_name ≡ x.bytes.ghost_name
  pub same_length : length y.bytes.now ≡ length x.bytes.now
  pub unfolded : (R : RuleSet) (Γ : List ℕ) (E : RuleTerm) (rest : List ℕ) → Ready t T R → RuleTermAt t n R i Γ σ E rest
      → MatchOption r (length x.bytes.now < 2 * (x.at + length (unfolded_words R i E σ))) (UnfoldedRight (unfolded_words R i E σ) rest x y)

-- The same at the front of a buffer: the answer is how many words are written.
pub record UnfoldedInto (t T : List ℕ) (n i : ℕ) (σ x y : List ℕ) (r : Option ℕ) : Type 0 where
  pub same_length : length y ≡ length x
  pub unfolded : (R : RuleSet) (Γ : List ℕ) (E : RuleTerm) (rest : List ℕ) → Ready t T R → RuleTermAt t n R i Γ σ E rest
      → MatchOption r (length x < 2 * length (unfolded_words R i E σ)) (λ k. (k ≡ length (unfolded_words R i E σ)) × (y ≡ written (unfolded_words R i E σ) x))

-- Main's words, at the front of the buffer x, which is y then, where there is room for them; n is how many they are.
abbrev pub main_words : RuleSet → List ℕ
main_words R = words R.edition.width (unfold_main R)

abbrev pub MainUnfolded : (t T x y : List ℕ) (n : ℕ) → Type 0
MainUnfolded t T x y n = (R : RuleSet) → Ready t T R → length (main_words R) ≤ 65535 → 2 * length (main_words R) ≤ length x
    → (n ≡ length (main_words R)) × (y ≡ written (main_words R) x)
