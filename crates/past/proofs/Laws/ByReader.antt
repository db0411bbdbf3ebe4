-- Lists of numbers with their readers, one after the other (request K1 of document 02, for the table in request K10): what was counted at each reader's
-- numbers is what the first list counts and what the second adds (`counted_append`).
use Rattle.std.specs.Prelude.{◌≡◌, refl, Bool, true, false, cond, List, [], ◌∷◌, ◌++◌, ℕ, zero, suc, ◌+◌, ◌%◌, eqb, length, get_or}
use Rattle.std.proofs.Common.{ap, sym, ◌∙◌, arith}
use Rattle.eb3.specs.TransitionSystems.{Outcome, tally, visible?, internal?, refused?}
use Rattle.eb3.specs.Readers.{at_reader, counts_of}

-- ── what was counted at a reader's numbers ──

at_append : (r : ℕ) (rs rs' : List ℕ) (os os' : List Outcome) → length rs ≡ length os → at_reader r (rs ++ rs') (os ++ os') ≡ at_reader r rs os ++ at_reader r rs' os'
unfolding at_reader
at_append r [] rs' [] os' l = refl
at_append r [] rs' (o ∷ os) os' l = let z : ⊥ = omega (arith, l) in absurd z
at_append r (x ∷ rs) rs' [] os' l = let z : ⊥ = omega (arith, l) in absurd z
at_append r (x ∷ rs) rs' (o ∷ os) os' l = let k : length rs ≡ length os = omega (arith, l) in go (eqb x r) (at_append r rs rs' os os' k)
  where
    go : (b : Bool) {all : List Outcome} → all ≡ at_reader r rs os ++ at_reader r rs' os' → cond b (o ∷ all) all ≡ cond b (o ∷ at_reader r rs os) (at_reader r rs os) ++ at_reader r rs' os'
    go true e = ap (λ os. o ∷ os) e
    go false e = e

tally_append : (p : Outcome → Bool) (os os' : List Outcome) → tally p (os ++ os') ≡ tally p os + tally p os'
unfolding tally
tally_append p [] os' = omega arith
tally_append p (o ∷ os) os' = go (p o) (tally_append p os os')
  where
    go : (b : Bool) {n : ℕ} → n ≡ tally p os + tally p os' → cond b (suc n) n ≡ cond b (suc (tally p os)) (tally p os) + tally p os'
    go true e = omega (arith, e)
    go false e = e

counts_append : (os os' : List Outcome) (j : ℕ) → get_or (counts_of (os ++ os')) j 0 ≡ get_or (counts_of os) j 0 + get_or (counts_of os') j 0
counts_append os os' zero = tally_append visible? os os'
counts_append os os' (suc zero) = tally_append internal? os os'
counts_append os os' (suc (suc zero)) = tally_append refused? os os'
counts_append os os' (suc (suc (suc j))) = refl

-- Number j of reader r's record: what a list adds to it.
abbrev pub counted : ℕ → ℕ → List ℕ → List Outcome → ℕ
counted r j rs os = get_or (counts_of (at_reader r rs os)) j 0

pub counted_append : (r j : ℕ) (rs rs' : List ℕ) (os os' : List Outcome) → length rs ≡ length os → counted r j (rs ++ rs') (os ++ os') ≡ counted r j rs os + counted r j rs' os'
counted_append r j rs rs' os os' l = ap (λ (xs : List Outcome). get_or (counts_of xs) j 0) (at_append r rs rs' os os' l) ∙ counts_append (at_reader r rs os) (at_reader r rs' os') j

remainders : (a b : ℕ) → (a % 4294967296 + b % 4294967296) % 4294967296 ≡ (a + b) % 4294967296
remainders a b = omega arith

-- Two records, at first t and t': to one a first list adds m and to the other m', a further one n to both.
pub added_alike : {v v' w w' : ℕ} (t t' m m' n : ℕ) → v ≡ (t + (m + n)) % 4294967296 → v' ≡ (t' + (m' + n)) % 4294967296 → w ≡ (t + m) % 4294967296 → w' ≡ (t' + m') % 4294967296
    → (v + w') % 4294967296 ≡ (v' + w) % 4294967296
added_alike t t' m m' n e e' f f' =
    let same : t + (m + n) + (t' + m') ≡ t' + (m' + n) + (t + m) = omega arith in
    (λ i. (e i + f' i) % 4294967296) ∙ (remainders (t + (m + n)) (t' + m') ∙ (ap (λ x. x % 4294967296) same
    ∙ sym ((λ i. (e' i + f i) % 4294967296) ∙ remainders (t' + (m' + n)) (t + m))))
