-- Laws of the refusals' numbers: number and refusal are each other's inverse from 1 to 13, and what is refused by the number of a refusal is refused by that
-- number itself.
-- Document 01, the table under "Operations"; document 02, K1.
use Rattle.std.specs.Prelude.{◌≡◌, refl, Bool, true, false, ◌||◌, List, [], ◌∷◌, ℕ, T, eqb}
use Rattle.std.proofs.Common.{sym, ap, ◌∙◌, subst, eqb→eq}
use Rattle.eb3.specs.Refusal as named
use Rattle.eb3.specs.Answers.{Answer, refused}
use Rattle.eb3.specs.Generic.Lists.{one_of}
use Rattle.refusals.specs.Numbers.{number, refusal, RefusedBy}
use Rattle.refusals.specs.declared.Refusal.{Refusal}
use Rattle.refusals.specs.declared.Refusal.TheVariants.{Length, Block, Edition, Form, Reference, Kind, Size, Breadth, Space, Term, Stranger, NotOffered, Reader}

pub refusal_number : (r : Refusal) → refusal (number r) ≡ r
unfolding refusal
refusal_number Length = refl
refusal_number Block = refl
refusal_number Edition = refl
refusal_number Form = refl
refusal_number Reference = refl
refusal_number Kind = refl
refusal_number Size = refl
refusal_number Breadth = refl
refusal_number Space = refl
refusal_number Term = refl
refusal_number Stranger = refl
refusal_number NotOffered = refl
refusal_number Reader = refl

abbrev AllNumbers : List ℕ → Type 0
AllNumbers [] = Unit {0}
AllNumbers (n ∷ ns) = (number (refusal n) ≡ n) × AllNumbers ns

among : (ns : List ℕ) → AllNumbers ns → (k : ℕ) → T (one_of ns k) → number (refusal k) ≡ k
unfolding one_of
among [] a k t = absurd t
among (n ∷ ns) a k t = go (eqb k n) (λ u. subst (λ x. number (refusal x) ≡ x) (sym (eqb→eq k n u)) a.0) (among ns a.1 k) t
  where
    go : (b : Bool) → (T b → number (refusal k) ≡ k) → (T (one_of ns k) → number (refusal k) ≡ k) → T (b || one_of ns k) → number (refusal k) ≡ k
    go true g h u = g tt
    go false g h u = h u

-- Every operation refuses by some of these.
pub number_refusal : (k : ℕ) → T (one_of named.of_any k) → number (refusal k) ≡ k
unfolding refusal
number_refusal = among named.of_any (refl, (refl, (refl, (refl, (refl, (refl, (refl, (refl, (refl, (refl, (refl, (refl, (refl, tt)))))))))))))

-- An operation's answer is refused by the number itself, as all numbers that operations refuse by are refusals'.
pub refused_by : {A : Type 0} (k : Refusal) (a : Answer A) → ((j : ℕ) → a ≡ refused j → T (one_of named.of_any j)) → RefusedBy k a → a ≡ refused (number k)
refused_by k a within h = h.is ∙ ap refused (sym (ap number h.named ∙ number_refusal h.code (within h.code h.is)))
