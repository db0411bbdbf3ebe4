-- Laws of what the parts say: of words of which more is known, and of a term's contract in the form of the others'.
-- Document 01, "Unfolding, size and breadth".
use Rattle.std.specs.Prelude.{refl, List, ℕ, ◌+◌, ◌*◌, ◌≤◌, ◌<◌, length, Option, None, MatchOption}
use Rattle.std.proofs.Common.{sym, subst}
use Rattle.unfold.specs.declared.writer.Writer.{Writer}
use Rattle.unfold.specs.Unfolded.{Unfolding, UnfoldedRight}
use Rattle.unfold.specs.Puts.{Puts}
use Rattle.unfold.specs.Laws.Puts.{puts_none, puts_as, place_room}
use Rattle.unfold.specs.Saying.{Unfolds, Where}

pub where_none : (A : Type 0) (S : List ℕ → List ℕ → Type 0) (x : Writer) → (A → ⊥) → Puts (Where A S) x x None
where_none A S x h = puts_none (Where A S) x x (λ ws rest s. absurd (h s.holds)) refl refl

pub where_in : (A : Type 0) (S : List ℕ → List ℕ → Type 0) (x y : Writer) (r : Option ℕ) → Puts S x y r → Puts (Where A S) x y r
where_in A S x y r p = puts_as (Where A S) S x y r (λ ws rest s. s.says) p

-- ── a term's contract ──

module _ (t T : List ℕ) (n i : ℕ) (σ : List ℕ) (x y : Writer) (r : Option ℕ) where
  pub term_puts : Unfolding t T n i σ x y r → Puts (Unfolds t T n i σ) x y r
  term_puts u = record {
    same_buffer = u.same_buffer;
    same_length = u.same_length;
    put = λ ws rest s. subst (λ c. MatchOption r (length x.bytes.now < 2 * (x.at + length c)) (UnfoldedRight c rest x y)) (sym s.same_words) (u.unfolded s.rules s.domains s.term rest s.ready s.there);
  }

  pub puts_term : Puts (Unfolds t T n i σ) x y r → Unfolding t T n i σ x y r
  puts_term p = record {
    same_buffer = p.same_buffer;
    same_length = p.same_length;
    unfolded = λ R Γ E rest ready there. p.put _ rest (record { rules = R; domains = Γ; term = E; ready = ready; there = there; same_words = refl });
  }

  pub term_room : Unfolding t T n i σ x y r → 2 * y.at ≤ length y.bytes.now
  term_room u = place_room (Unfolds t T n i σ) x y r (term_puts u)
