-- Laws of expressions in a row, for any reader: an operand of the same sort is one more expression of the row, and what was read is forgotten.
-- Document 01, "Values and conditions"; refusals 4 and 5.
use Rattle.std.specs.Prelude.{ℕ, suc, ◌≡◌, refl, List, []}
use Rattle.std.proofs.Common.{sym, ap, ◌∙◌}
use Rattle.eb3.specs.Reading.{Read, refused, taken, Reader, giving, then, both, repeat}
use Rattle.words.specs.Checking.{checked}
use Rattle.words.specs.Laws.Checking.{checked_giving, then_checked}
use Rattle.words.specs.Laws.Rows.{repeat_next}

-- Only the words that are left, or the refusal.
unfoldable pub forget : {A : Type 0} → Read A → Read (Unit {0})
forget (refused k) = refused k
forget (taken a t) = taken tt t

pub forget_giving : {A B : Type 0} (k : A → B) (r : Read A) → forget (giving k r) ≡ forget r
unfolding forget giving
forget_giving k (refused j) = refl
forget_giving k (taken a t) = refl

-- What follows a reading goes by what is left.
pub then_forget : {A B : Type 0} (r : Read A) (g : Reader B) → checked (then r (λ a. g)) ≡ checked (then (forget r) (λ a. g))
unfolding then forget
then_forget (refused k) g = refl
then_forget (taken a t) g = refl

pub both_then : {A B : Type 0} (r : Read A) (g : Reader B) → checked {A = A × B} (then r (λ a u. giving (λ b. (a, b)) (g u))) ≡ checked (then r (λ a. g))
both_then r g = then_checked r (λ a u. giving (λ b. (a, b)) (g u)) (λ a. g) (λ a u. checked_giving (λ b. (a, b)) (g u))

then_giving : {A B C : Type 0} (k : A → B) (r : Read A) (h : Reader C) → checked (then (giving k r) (λ b. h)) ≡ checked (then r (λ a. h))
unfolding then giving
then_giving k (refused j) h = refl
then_giving k (taken a t) h = refl

pub then_then : {A B C : Type 0} (r : Read A) (g : Reader B) (h : Reader C) → checked (then {A = A × B} (then r (λ a u. giving (λ b. (a, b)) (g u))) (λ p. h)) ≡ checked (then r (λ a u. then (g u) (λ b. h)))
unfolding then giving
then_then (refused k) g h = refl
then_then (taken a t) g h = then_giving (λ b. (a, b)) (g t) h

-- A row that starts with f, of which it is known what it reads as.
pub row_step : {A B : Type 0} (f : Reader A) (q : Read B) (rest : ℕ) (s : List ℕ) → forget (f s) ≡ forget q → checked (repeat (suc rest) f s) ≡ checked (then q (λ b. repeat rest f))
unfolding both
row_step f q rest s e = repeat_next rest f s ∙ both_then (f s) (repeat rest f) ∙ then_forget (f s) (repeat rest f) ∙ ap (λ r. checked (then r (λ a. repeat rest f))) e ∙ sym (then_forget q (repeat rest f))

-- f and then more of them
pub row_more : {A : Type 0} (f : Reader A) (rest : ℕ) (t : List ℕ) → checked (then (f t) (λ a. repeat rest f)) ≡ checked (repeat (suc rest) f t)
unfolding both
row_more f rest t = sym (repeat_next rest f t ∙ both_then (f t) (repeat rest f))

-- g, f and then more of f
pub row_join : {A B : Type 0} (g : Reader B) (f : Reader A) (rest : ℕ) (t : List ℕ) → checked (then (both g f t) (λ p. repeat rest f)) ≡ checked (then (g t) (λ b. repeat (suc rest) f))
unfolding both
row_join g f rest t = then_then (g t) f (repeat rest f) ∙ then_checked (g t) (λ b u. then (f u) (λ a. repeat rest f)) (λ b. repeat (suc rest) f) (λ b. row_more f rest)

-- ── one and two in a row ──

pub then_left : {A B C : Type 0} (r : Read A) (f : A → Reader B) (g : A → Reader C) → ((a : A) (t : List ℕ) → forget (f a t) ≡ forget (g a t)) → forget (then r f) ≡ forget (then r g)
unfolding then forget
then_left (refused k) f g h = refl
then_left (taken a t) f g h = h a t

pub then_ended : {A B : Type 0} (r : Read A) (b : A → B) → forget (then r (λ a. taken (b a))) ≡ forget r
unfolding then forget
then_ended (refused k) b = refl
then_ended (taken a t) b = refl

pub one_left : {A : Type 0} (f : Reader A) (t : List ℕ) → forget (repeat 1 f t) ≡ forget (f t)
unfolding repeat both giving
one_left f t = forget_giving _ (then (f t) (λ a. taken (a, []))) ∙ then_ended (f t) (λ a. (a, []))

pub two_left : {A : Type 0} (f : Reader A) (t : List ℕ) → forget (repeat 2 f t) ≡ forget (both f f t)
unfolding repeat both
two_left f t =
    forget_giving _ (both f (repeat 1 f) t)
    ∙ then_left (f t) (λ a u. giving (λ b. (a, b)) (repeat 1 f u)) (λ a u. giving (λ b. (a, b)) (f u)) (λ a u. forget_giving _ (repeat 1 f u) ∙ one_left f u ∙ sym (forget_giving _ (f u)))

-- what is first may be read by another reader
pub led : {A B C : Type 0} (g : Reader B) (i : Reader C) (f : Reader A) (t : List ℕ) → forget (g t) ≡ forget (i t) → checked (then (g t) (λ b. f)) ≡ checked (both i f t)
unfolding both
led g i f t e = then_forget (g t) f ∙ ap (λ r. checked (then r (λ b. f))) e ∙ sym (then_forget (i t) f) ∙ sym (both_then (i t) f)

pub checked_forget : {A : Type 0} (r : Read A) → checked (forget r) ≡ checked r
unfolding checked forget
checked_forget (refused k) = refl
checked_forget (taken a t) = refl

pub one_checked : {A : Type 0} (f : Reader A) (t : List ℕ) → checked (repeat 1 f t) ≡ checked (f t)
one_checked f t = sym (checked_forget (repeat 1 f t)) ∙ ap checked (one_left f t) ∙ checked_forget (f t)
