-- Sums whose remainders are left for the end, byte by byte and in two parts (document 01, "Blocks and the rule stream").
use mathlib.Core.Path.{◌≡◌, refl, ap, sym, ◌∙◌}
use mathlib.Core.List.{List, [], ◌∷◌, ◌++◌}
use Prim.Native.Nat.{ℕ, ◌+◌, ◌*◌, ◌%◌, ◌≤◌, ◌<◌}
use native.Mathlib.Numerals.{add-one}
use native.Mathlib.Omega.{arith}
use lib.ListN.{length, take, drop, get_or, length-drop, drop_of_length-le}
use lib.Seq.{drop-cons, take_all, get_or-drop, get_or-take}
use Rattle.eb3.specs.Blocks.{Sums, sums}
use Rattle.eb3.specs.Blocks.{plain_sums}
use Rattle.eb3.proofs.Laws.Blocks.{reduced, sums_deferred}
use Rattle.blocks.specs.declared.Pair.{Pair}
use Rattle.blocks.specs.Opening.{Eight}

abbrev pub none_yet : Sums
none_yet = record { a = 0; b = 0 }

-- A loop over the bytes, with `x` for what it is to find.
module _ (x : Sums) (s : List ℕ) (a b i : ℕ) where
  pub plain_next : (w : ℕ) → i < length s → w ≡ get_or s i 0 → x ≡ plain_sums (record { a = a; b = b }) (drop i s)
      → x ≡ plain_sums (record { a = a + w; b = b + (a + w) }) (drop (i + 1) s)
  unfolding plain_sums
  plain_next w h e k = rw (e, add-one) (rw (drop-cons s i 0) at k)

  pub plain_end : length s ≤ i → x ≡ plain_sums (record { a = a; b = b }) (drop i s) → record { a = a; b = b } ≡ x
  unfolding plain_sums
  plain_end h k = sym (rw (drop_of_length-le s h) at k)

-- The same, to a next index written in any way.
plain_to : (x : Sums) (s : List ℕ) (a b i j : ℕ) → i + 1 ≡ j → i < length s → x ≡ plain_sums (record { a = a; b = b }) (drop i s)
    → x ≡ plain_sums (record { a = a + get_or s i 0; b = b + (a + get_or s i 0) }) (drop j s)
plain_to x s a b i j e h k = rw (sym e) (plain_next x s a b i (get_or s i 0) h refl k)

same_sums : {x : Sums} (s : List ℕ) (a b c d : ℕ) → a ≡ c → b ≡ d → x ≡ plain_sums (record { a = a; b = b }) s → x ≡ plain_sums (record { a = c; b = d }) s
same_sums s a b c d e f k = rw (sym e, sym f) k

-- Eight bytes at once.
plain_eight : (x : Sums) (s : List ℕ) (a b i y z : ℕ) → i + 7 < length s
    → y ≡ get_or s i 0 + get_or s (i + 1) 0 + get_or s (i + 2) 0 + get_or s (i + 3) 0 + get_or s (i + 4) 0 + get_or s (i + 5) 0 + get_or s (i + 6) 0 + get_or s (i + 7) 0
    → z ≡ 8 * get_or s i 0 + 7 * get_or s (i + 1) 0 + 6 * get_or s (i + 2) 0 + 5 * get_or s (i + 3) 0 + 4 * get_or s (i + 4) 0 + 3 * get_or s (i + 5) 0 + 2 * get_or s (i + 6) 0 + get_or s (i + 7) 0
    → x ≡ plain_sums (record { a = a; b = b }) (drop i s) → x ≡ plain_sums (record { a = a + y; b = b + 8 * a + z }) (drop (i + 8) s)
plain_eight x s a b i y z h e f k =
    let k1 = plain_to x s a b i (i + 1) refl (omega arith) k in
    let k2 = plain_to x s _ _ (i + 1) (i + 2) (omega arith) (omega arith) k1 in
    let k3 = plain_to x s _ _ (i + 2) (i + 3) (omega arith) (omega arith) k2 in
    let k4 = plain_to x s _ _ (i + 3) (i + 4) (omega arith) (omega arith) k3 in
    let k5 = plain_to x s _ _ (i + 4) (i + 5) (omega arith) (omega arith) k4 in
    let k6 = plain_to x s _ _ (i + 5) (i + 6) (omega arith) (omega arith) k5 in
    let k7 = plain_to x s _ _ (i + 6) (i + 7) (omega arith) (omega arith) k6 in
    let k8 = plain_to x s _ _ (i + 7) (i + 8) (omega arith) h k7 in
    same_sums (drop (i + 8) s) _ _ (a + y) (b + 8 * a + z) (omega arith) (omega arith) k8

-- The same, where the eight are a chunk of their own.
pub plain_chunk : {x : Sums} (s c : List ℕ) (p : Pair) (a b i : ℕ) → 8 * i + 7 < length s → c ≡ take 8 (drop (8 * i) s) → Eight c p
    → x ≡ plain_sums (record { a = a; b = b }) (drop (8 * i) s) → x ≡ plain_sums (record { a = a + p.a; b = b + (8 * a + p.b) }) (drop (8 * (i + 1)) s)
plain_chunk {x} s c p a b i h e t k =
    let f : 8 * i + 8 ≡ 8 * (i + 1) = omega arith in
    let byte : (j : ℕ) → j < 8 → get_or c j 0 ≡ get_or s (8 * i + j) 0 = λ j l. rw e (get_or-take 8 (drop (8 * i) s) j 0 l ∙ get_or-drop (8 * i) s j 0) in
    let z : 8 * i + 0 ≡ 8 * i = omega arith in
    let b0 = rw z at (byte 0 (omega arith)) in
    let b1 = byte 1 (omega arith) in
    let b2 = byte 2 (omega arith) in
    let b3 = byte 3 (omega arith) in
    let b4 = byte 4 (omega arith) in
    let b5 = byte 5 (omega arith) in
    let b6 = byte 6 (omega arith) in
    let b7 = byte 7 (omega arith) in
    rw (← f) (same_sums (drop (8 * i + 8) s) _ _ (a + p.a) (b + (8 * a + p.b)) refl (omega arith) (plain_eight x s a b (8 * i) p.a p.b h (omega arith) (omega arith) k))

plain_append : (s : Sums) (xs ys : List ℕ) → plain_sums s (xs ++ ys) ≡ plain_sums (plain_sums s xs) ys
unfolding plain_sums
plain_append s [] ys = refl
plain_append s (x ∷ xs) ys = plain_append (record { a = s.a + x; b = s.b + (s.a + x) }) xs ys

head_small : (s : List ℕ) → get_or s 0 0 < 256 → get_or s 1 0 < 256 → ((plain_sums none_yet (take 2 s)).a ≤ 510) × ((plain_sums none_yet (take 2 s)).b ≤ 1020)
unfolding plain_sums
head_small [] h k = (omega arith, omega arith)
head_small (x ∷ []) h k = (omega arith, omega arith)
head_small (x ∷ y ∷ s) h k = (omega arith, omega arith)

sums_in_parts : (s : List ℕ) → sums s ≡ reduced (plain_sums (plain_sums none_yet (take 2 s)) (drop 4 s))
sums_in_parts s = sums_deferred none_yet (take 2 s ++ drop 4 s) ∙ ap reduced (plain_append none_yet (take 2 s) (drop 4 s))

-- A block's sums, found in two parts: `p` over its first two bytes and `q` over its content.
module _ (s : List ℕ) {p : Sums} (e : p ≡ plain_sums none_yet (take 2 s)) where
  -- The first two bytes leave room for the others.
  pub head_room : get_or s 0 0 < 256 → get_or s 1 0 < 256 → (p.a ≤ 510) × (p.b ≤ 1020)
  head_room h k = rw e (head_small s h k)

  pub sums_found : {q : Sums} {a b : ℕ} → length s ≡ 512 → q ≡ plain_sums p (take 508 (drop 4 s)) → a ≡ q.a % 255 → b ≡ q.b % 255 → record { a = a; b = b } ≡ sums s
  sums_found l f g h =
      let m : length (drop 4 s) ≤ 508 = simp length-drop (omega arith) in
      (λ i. record { a = g i; b = h i }) ∙ (ap reduced (rw (take_all 508 (drop 4 s) m, e) at f) ∙ sym (sums_in_parts s))
