-- What each part of the unfolding says is to be put, by the code that it is for (document 01, "Unfolding, size and breadth"). All are of the words
-- that are left where the part begins: after the code.
use Rattle.std.specs.Prelude.{◌≡◌, List, [], ◌∷◌, ◌++◌, ℕ, zero, suc, ◌+◌, ◌-◌, ◌*◌, ◌≤◌, ◌<◌, eqb, length, take, drop, get_or}
use Rattle.eb3.specs.Reading.{pick}
use Rattle.eb3.specs.RuleSets.{RuleTerm, RuleSet, domain_size}
use Rattle.eb3.specs.Spelling.{arguments_words}
use Rattle.words.specs.Checking.{last_of}
use Rattle.tables.specs.Layout.{label_place, process_place, body_at}
use Rattle.tables.specs.Tables.{from, row, declared}
use Rattle.unfold.specs.Unfolded.{Ready, RuleTermAt, unfolded_words}
use Rattle.unfold.specs.Puts.{Exactly, Then}
use Rattle.unfold.specs.Instantiation.{Instantiates}

-- A term of process i, some rule set's; its variables have the values σ.
pub record Unfolds (t T : List ℕ) (n i : ℕ) (σ ws rest : List ℕ) : Type 0 where
  pub rules : RuleSet
  pub domains : List ℕ
  pub term : RuleTerm
  pub ready : Ready t T rules
  pub there : RuleTermAt t n rules i domains σ term rest
  pub same_words : ws ≡ unfolded_words rules i term σ

-- Words, of which more is known.
pub record Where (A : Type 0) (S : List ℕ → List ℕ → Type 0) (ws rest : List ℕ) : Type 0 where
  pub holds : A
  pub says : S ws rest

-- The value of argument j of those at the front of s.
unfoldable pub argument_at : List ℕ → List ℕ → ℕ → ℕ
argument_at σ s j = pick (eqb (get_or s (2 * j) 0) 2) (get_or σ (get_or s (2 * j + 1) 0) 0) (get_or s (2 * j + 1) 0)

-- A constant for each of the first k arguments of those at the front of s.
abbrev pub Constants : List ℕ → List ℕ → ℕ → List ℕ → List ℕ → Type 0
Constants σ s k = Where (2 * k ≤ length s) (Exactly (arguments_words 1 (from 0 k (argument_at σ s))) (length s - 2 * k))

module _ (t T : List ℕ) (n : ℕ) where
  -- An action: its label, and as many arguments as the label has parameters.
  abbrev pub Performs : List ℕ → List ℕ → List ℕ → Type 0
  Performs σ =
      Where (1 ≤ length (last_of n t))
      (Then (Exactly (21 ∷ take 1 (last_of n t)) (length (last_of n t) - 1)) (λ m. Constants σ (drop 1 (last_of n t)) (length (row T (label_place (get_or (last_of n t) 0 0))))))

  -- A guard's condition, and its term.
  abbrev pub Conditions : List ℕ → List ℕ → List ℕ → Type 0
  Conditions σ = Then (Exactly (26 ∷ []) n) (Instantiates t σ 1)

  module _ (i : ℕ) (σ : List ℕ) where
    abbrev pub Guards : List ℕ → List ℕ → Type 0
    Guards = Then (Conditions σ) (λ m. Unfolds t T m i σ)

    abbrev pub Stars : List ℕ → List ℕ → Type 0
    Stars = Then (Exactly (24 ∷ []) n) (λ m. Unfolds t T m i σ)

    abbrev pub TwoTerms : List ℕ → List ℕ → Type 0
    TwoTerms = Then (Unfolds t T n i σ) (λ m. Unfolds t T m i σ)

    -- The copy for element x, and one with a head before it.
    abbrev pub Copy : ℕ → List ℕ → List ℕ → Type 0
    Copy x = Unfolds t T n i (σ ++ (x ∷ []))

    abbrev pub Headed : List ℕ → ℕ → List ℕ → List ℕ → Type 0
    Headed h x = Then (Exactly h n) (λ m. Unfolds t T m i (σ ++ (x ∷ [])))

    -- The copies for x and the k elements after it.
    unfoldable pub Copies : List ℕ → ℕ → ℕ → List ℕ → List ℕ → Type 0
    Copies h x zero = Copy x
    Copies h x (suc k) = Then (Headed h x) (λ m. Copies h (suc x) k)

-- Two terms after a head: a code, and k words of a mask.
abbrev pub Joins : List ℕ → List ℕ → ℕ → ℕ → List ℕ → ℕ → ℕ → List ℕ → List ℕ → Type 0
Joins t T n i σ c k = Where (k ≤ length (last_of n t)) (Then (Exactly (c ∷ take k (last_of n t)) (length (last_of n t) - k)) (λ m. TwoTerms t T m i σ))

-- Copies over a domain; the head of each but the last is a code and k words of a mask.
abbrev pub Overs : List ℕ → List ℕ → ℕ → ℕ → List ℕ → ℕ → ℕ → List ℕ → List ℕ → Type 0
Overs t T n i σ c k =
    Where ((1 + k ≤ length (last_of n t)) × (length σ < 8) × (domain_size (declared T) (get_or (last_of n t) 0 0) ≤ 64))
    (Copies t T (length (last_of n t) - (1 + k)) i σ (c ∷ take k (drop 1 (last_of n t))) 0 (domain_size (declared T) (get_or (last_of n t) 0 0) - 1))

-- A process's body, where the tables say that it is; after k arguments as many words are left as the whole leaves.
pub record Body (t T : List ℕ) (n p : ℕ) (σ : List ℕ) (k : ℕ) (ws rest : List ℕ) : Type 0 where
  pub behind : List ℕ
  pub unfolds : Unfolds t T (body_at T p) p (from 0 k (argument_at σ (last_of n t))) ws behind
  pub same_left : length (last_of n t) - 2 * k ≡ length rest

abbrev pub Enters : List ℕ → List ℕ → ℕ → ℕ → List ℕ → List ℕ → List ℕ → Type 0
Enters t T n p σ = Where ((length (row T (process_place p)) ≤ 8) × (2 * length (row T (process_place p)) ≤ length (last_of n t))) (Body t T n p σ (length (row T (process_place p))))

-- A call names a lower process.
abbrev pub Calls : List ℕ → List ℕ → ℕ → ℕ → List ℕ → List ℕ → List ℕ → Type 0
Calls t T n i σ = Where ((1 ≤ length (last_of n t)) × (get_or (last_of n t) 0 0 < i)) (Enters t T (length (last_of n t) - 1) (get_or (last_of n t) 0 0) σ)
