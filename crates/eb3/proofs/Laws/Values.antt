-- Arithmetic and comparison in document 01's words (`arithmetic`); results stay at most the largest number; cells as words are faithful.
use Rattle.std.specs.Prelude.{◌≡◌, refl, Bool, true, false, cond, ◌↔◌, ℕ, ◌+◌, ◌-◌, ◌≤◌, ◌<◌, T, eqb, leb}
use Rattle.std.proofs.Math.Path.{ap}
use Rattle.std.proofs.Common.{sym, ◌∙◌, subst, arith, eqb→eq, ltb→lt, lt→ltb, le→leb}
use Rattle.std.proofs.Math.Dec.{eqb_refl, leb→le}
use Rattle.eb3.specs.Generic.Booleans.{cond_true, cond_false}
use Rattle.eb3.specs.Values.{Value, undefined, number, bounded, add, subtract, equal, less, AtMost, encode, decode}

-- Add is undefined if an operand is undefined or the sum exceeds the largest number; subtract if an operand is undefined or the result is below 0.
-- Undefined equals undefined and no number. Less is false if an operand is undefined.
pub record Arithmetic (top : ℕ) : Type 0 where
  pub add_number : (m n : ℕ) → m + n ≤ top → add top (number m) (number n) ≡ number (m + n)
  pub add_exceeding : (m n : ℕ) → top < m + n → add top (number m) (number n) ≡ undefined
  pub add_undefined : (v : Value) → (add top undefined v ≡ undefined) × (add top v undefined ≡ undefined)
  pub subtract_number : (m n : ℕ) → n ≤ m → subtract (number m) (number n) ≡ number (m - n)
  pub subtract_below : (m n : ℕ) → m < n → subtract (number m) (number n) ≡ undefined
  pub subtract_undefined : (v : Value) → (subtract undefined v ≡ undefined) × (subtract v undefined ≡ undefined)
  pub equal_numbers : (m n : ℕ) → T (equal (number m) (number n)) ↔ (m ≡ n)
  pub equal_undefined : T (equal undefined undefined)
  pub equal_no_number : (n : ℕ) → (T (equal undefined (number n)) → ⊥) × (T (equal (number n) undefined) → ⊥)
  pub less_numbers : (m n : ℕ) → T (less (number m) (number n)) ↔ (m < n)
  pub less_undefined : (v : Value) → (T (less undefined v) → ⊥) × (T (less v undefined) → ⊥)

add_with_undefined : (top : ℕ) (v : Value) → (add top undefined v ≡ undefined) × (add top v undefined ≡ undefined)
unfolding add
add_with_undefined top undefined = (refl, refl)
add_with_undefined top (number n) = (refl, refl)

subtract_with_undefined : (v : Value) → (subtract undefined v ≡ undefined) × (subtract v undefined ≡ undefined)
unfolding subtract
subtract_with_undefined undefined = (refl, refl)
subtract_with_undefined (number n) = (refl, refl)

less_with_undefined : (v : Value) → (T (less undefined v) → ⊥) × (T (less v undefined) → ⊥)
unfolding less
less_with_undefined undefined = (λ t. t, λ t. t)
less_with_undefined (number n) = (λ t. t, λ t. t)

pub arithmetic : (top : ℕ) → Arithmetic top
unfolding add bounded subtract equal less
arithmetic top = record {
  add_number = λ m n h. cond_true _ _ (leb (m + n) top) (le→leb (m + n) top h);
  add_exceeding = λ m n h. cond_false _ _ (leb (m + n) top) (λ t. let l = leb→le (m + n) top t in omega arith);
  add_undefined = add_with_undefined top;
  subtract_number = λ m n h. cond_true _ _ (leb n m) (le→leb n m h);
  subtract_below = λ m n h. cond_false _ _ (leb n m) (λ t. let l = leb→le n m t in omega arith);
  subtract_undefined = subtract_with_undefined;
  equal_numbers = λ m n. (eqb→eq m n, λ e. subst (λ k. T (eqb m k)) e (eqb_refl m));
  equal_undefined = tt;
  equal_no_number = λ n. (λ t. t, λ t. t);
  less_numbers = λ m n. (ltb→lt m n, lt→ltb m n);
  less_undefined = less_with_undefined;
}

pub bounded_at_most : (top n : ℕ) → AtMost top (bounded top n)
unfolding bounded
bounded_at_most top n = go (leb n top) (leb→le n top)
  where
    go : (b : Bool) → (T b → n ≤ top) → AtMost top (cond b (number n) undefined)
    go true h = h tt
    go false h = tt

pub add_at_most : (top : ℕ) (a b : Value) → AtMost top (add top a b)
unfolding add
add_at_most top undefined b = tt
add_at_most top (number m) undefined = tt
add_at_most top (number m) (number n) = bounded_at_most top (m + n)

pub subtract_at_most : (top : ℕ) (a b : Value) → AtMost top a → AtMost top (subtract a b)
unfolding subtract
subtract_at_most top undefined b h = tt
subtract_at_most top (number m) undefined h = tt
subtract_at_most top (number m) (number n) h = go (leb n m)
  where
    go : (b : Bool) → AtMost top (cond b (number (m - n)) undefined)
    go true = omega arith
    go false = tt

pub cond_at_most : (top : ℕ) (c : Bool) (a b : Value) → AtMost top a → AtMost top b → AtMost top (cond c a b)
cond_at_most top true a b h k = h
cond_at_most top false a b h k = k

-- Words of cells.
module _ (top mark : ℕ) (above : top < mark) where
  pub decode_encode : (v : Value) → AtMost top v → decode top (encode mark v) ≡ v
  unfolding decode encode bounded
  decode_encode undefined h = cond_false _ _ (leb mark top) (λ t. let l = leb→le mark top t in omega arith)
  decode_encode (number n) h = cond_true _ _ (leb n top) (le→leb n top h)

  -- So two different values at most `top` are stored as different words.
  pub encode_injective : (v w : Value) → AtMost top v → AtMost top w → encode mark v ≡ encode mark w → v ≡ w
  encode_injective v w h k e = sym (decode_encode v h) ∙ (ap (decode top) e ∙ decode_encode w k)

  pub encode_decode_number : (w : ℕ) → w ≤ top → encode mark (decode top w) ≡ w
  unfolding decode encode bounded
  encode_decode_number w h = ap (encode mark) (cond_true (number w) undefined (leb w top) (le→leb w top h))

  pub encode_decode_mark : encode mark (decode top mark) ≡ mark
  unfolding encode
  encode_decode_mark = ap (λ v. encode mark v) (decode_encode undefined tt)
