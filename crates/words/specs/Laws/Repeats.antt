-- Laws of how often one word is repeated at the beginning of others (`leading`): no more often than there are words, up to another word, and as std counts.
-- Document 01, "Blocks and the rule stream", item 5: stars, whose codes are before their term's.
use Rattle.std.specs.Prelude.{◌≡◌, refl, Bool, true, false, List, [], ◌∷◌, ℕ, suc, ◌+◌, ◌≤◌, eqb, length, drop, get_or, cond}
use Rattle.std.specs.List.{prefix_len}
use Rattle.std.proofs.Common.{arith, sym, ◌∙◌}
use Rattle.std.proofs.lemmas.Bool.{eq-eqb}
use Rattle.std.proofs.Math.Bool.{true≢false}
use Rattle.eb3.specs.Reading.{pick}
use Rattle.words.specs.Repeats.{leading}

short_by : (b : Bool) (k n : ℕ) → k ≤ n → pick b (suc k) 0 ≤ suc n
short_by true k n h = omega arith
short_by false k n h = omega arith

pub leading_short : (w : ℕ) (s : List ℕ) → leading w s ≤ length s
unfolding leading
leading_short w [] = omega arith
leading_short w (x ∷ t) = short_by (eqb x w) (leading w t) (length t) (leading_short w t)

stops_by : (w x : ℕ) (t : List ℕ) (b : Bool) → eqb x w ≡ b → (get_or (drop (leading w t) t) 0 0 ≡ w → ⊥) → get_or (drop (pick b (suc (leading w t)) 0) (x ∷ t)) 0 0 ≡ w → ⊥
stops_by w x t true q h e = h e
stops_by w x t false q h e = true≢false (sym (eq-eqb x w e) ∙ q)

-- The word after them is another, as is 0, which is read where there is none.
pub leading_stops : (w : ℕ) (s : List ℕ) → (w ≡ 0 → ⊥) → get_or (drop (leading w s) s) 0 0 ≡ w → ⊥
unfolding leading
leading_stops w [] h e = h (sym e)
leading_stops w (x ∷ t) h e = stops_by w x t (eqb x w) refl (leading_stops w t h) e

same_by : (b : Bool) (k n : ℕ) → k ≡ n → cond b (1 + k) 0 ≡ pick b (suc n) 0
same_by true k n e = omega arith
same_by false k n e = refl

-- As std counts them.
pub prefix_leading : (w : ℕ) (s : List ℕ) → prefix_len (λ x. eqb x w) s ≡ leading w s
unfolding leading
prefix_leading w [] = refl
prefix_leading w (x ∷ t) = same_by (eqb x w) (prefix_len (λ y. eqb y w) t) (leading w t) (prefix_leading w t)
