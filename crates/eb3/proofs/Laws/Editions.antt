-- What proofs use of an edition that is defined (document 01, "Values and conditions", "Blocks and the rule stream", items 1 and 4, refusal 3): that it
-- is `Proper` (`edition_proper`), and what all that are defined have in common so far: an edition that differed would take that law away.
use Rattle.std.specs.Prelude.{◌≡◌, refl, Bool, true, false, ℕ, T, eqb}
use Rattle.std.proofs.Common.{sym, subst, arith, eqb→eq}
use Rattle.std.proofs.Math.Option.{Option, none, some}
use Rattle.eb3.specs.Editions.{Edition, edition_1, edition_of, Defined, Proper}
use Rattle.eb3.specs.Reading.{pick}

proper_1 : Proper edition_1
proper_1 = record { numbered = (omega arith, omega arith); largest = (omega arith, omega arith); constants = (omega arith, omega arith); parameters = (omega arith, omega arith); one_each = λ e. refl }

-- What is said of every entry holds of the one that is found.
abbrev Holds : (Edition → Type 0) → Option Edition → Type 0
Holds P none = Unit
Holds P (some L) = P L

found : (P : Edition → Type 0) (o : Option Edition) (L : Edition) → Holds P o → o ≡ some L → P L
found P o L h e = subst (Holds P) e h

abbrev Entry : ℕ → Edition → Type 0
Entry w L = (L.number ≡ w) × Proper L × (L ≡ edition_1)

entries : (w : ℕ) → Holds (Entry w) (edition_of w)
unfolding edition_of
entries w = go (eqb w 1) (eqb→eq w 1)
  where
    go : (a : Bool) → (T a → w ≡ 1) → Holds (Entry w) (pick a (some edition_1) none)
    go true f = (sym (f tt), proper_1, refl)
    go false f = tt

-- The number of the edition that a word says is that word.
pub edition_numbered : (w : ℕ) (L : Edition) → edition_of w ≡ some L → L.number ≡ w
edition_numbered w L e = (found (Entry w) (edition_of w) L (entries w) e).0

pub edition_proper : (L : Edition) → Defined L → Proper L
edition_proper L d = (found (Entry L.number) (edition_of L.number) L (entries L.number) d).1

pub edition_1_defined : Defined edition_1
unfolding edition_of
edition_1_defined = refl

-- ── what all editions have in common so far ──

pub only_edition_1 : (L : Edition) → Defined L → L ≡ edition_1
only_edition_1 L d = (found (Entry L.number) (edition_of L.number) L (entries L.number) d).2
