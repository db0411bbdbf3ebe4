-- Plain laws of lists: the first and the last words of a list, and what comes before and after a part.
use mathlib.Core.Path.{◌≡◌, refl, sym, ap, ◌∙◌}
use mathlib.Core.List.{List, [], ◌++◌, append_assoc}
use Prim.Native.Nat.{ℕ, ◌+◌, ◌-◌, ◌≤◌}
use native.Mathlib.Omega.{arith}
use lib.ListN.{length, take, drop, length-append, length-drop, take-append-drop}
use lib.Seq.{take_at, drop_at, drop-drop, drop-length}
use Rattle.words.specs.Checking.{last_of}
use Rattle.words.specs.Ends.{Tail}
use Rattle.words.specs.Laws.Checking.{tail_on, tail_at, last_length, last_tail, behind_part}

-- ── the last words ──

pub last_none : (s : List ℕ) → last_of 0 s ≡ []
unfolding last_of
last_none s =
    let k : length s - 0 ≡ length s = omega arith in
    ap (λ j. drop j s) k ∙ drop-length s

-- The last words of an end of s are those of s.
pub last_within : (s u : List ℕ) (n : ℕ) → Tail u s → n ≤ length u → last_of n u ≡ last_of n s
last_within s u n h k = sym (ap (λ j. last_of j s) (sym (last_length n u k)) ∙ tail_at (last_of n u) s (tail_on (last_of n u) u s h (last_tail n u)))

-- The last n words are those up to the last e, and these.
pub last_split : (t : List ℕ) (n e : ℕ) → e ≤ n → n ≤ length t → last_of n t ≡ take ((length t - e) - (length t - n)) (drop (length t - n) t) ++ last_of e t
unfolding last_of
last_split t n e h k =
    let a = length t - n in
    let b : (length t - n) + ((length t - e) - (length t - n)) ≡ length t - e = omega arith in
    sym (take-append-drop ((length t - e) - a) (drop a t))
    ∙ ap (λ l. take ((length t - e) - a) (drop a t) ++ l) (drop-drop ((length t - e) - a) a t ∙ ap (λ j. drop j t) b)

pub between_length : (t : List ℕ) (n e : ℕ) → e ≤ n → n ≤ length t → length (take ((length t - e) - (length t - n)) (drop (length t - n) t)) ≡ n - e
between_length t n e h k =
    let i : length (last_of n t) ≡ n = last_length n t k in
    let j : length (last_of e t) ≡ e = last_length e t (omega arith) in
    omega (arith, i, j, ap length (last_split t n e h k), length-append (take ((length t - e) - (length t - n)) (drop (length t - n) t)) (last_of e t))

-- ── parts ──

pub same_before : (a b c : List ℕ) → a ++ c ≡ b ++ c → a ≡ b
same_before a b c e =
    let l : length b ≡ length a = omega (arith, ap length e, length-append a c, length-append b c) in
    sym (take_at a c (length a) refl) ∙ (ap (take (length a)) e ∙ take_at b c (length a) l)

-- What comes after a part is the last n words, where n is its length, also if others come before the part.
pub behind_dropped : (s : List ℕ) (m : ℕ) (a b : List ℕ) (n : ℕ) → drop m s ≡ a ++ b → n ≡ length b → last_of n s ≡ b
behind_dropped s m a b n e h =
    behind_part (take m s ++ a) b s n (sym (take-append-drop m s) ∙ (ap (λ l. take m s ++ l) e ∙ sym (append_assoc (take m s) a b))) h

-- What comes before the last n words.
pub before_part : (a b t : List ℕ) (n : ℕ) → t ≡ a ++ b → n ≡ length b → take (length t - n) t ≡ a
before_part a b t n e h =
    let k : length a ≡ length t - n = omega (arith, ap length e, length-append a b) in
    ap (take (length t - n)) e ∙ take_at a b (length t - n) k

-- The words after m words and then a part.
pub drop_past : (s : List ℕ) (m n : ℕ) (a b : List ℕ) → drop m s ≡ a ++ b → n ≡ length a → drop (m + n) s ≡ b
drop_past s m n a b e h = sym (drop-drop n m s) ∙ (ap (drop n) e ∙ drop_at a b n (sym h))

-- The words up to there.
pub take_past : (s : List ℕ) (m n : ℕ) (a b : List ℕ) → m ≤ length s → drop m s ≡ a ++ b → n ≡ length a → take (m + n) s ≡ take m s ++ a
take_past s m n a b l e h =
    let k : length (take m s ++ a) ≡ m + n = omega (arith, length-append (take m s) a, ap length e, length-append a b, length-drop m s, ap length (take-append-drop m s), length-append (take m s) (drop m s)) in
    ap (take (m + n)) (sym (take-append-drop m s) ∙ (ap (λ z. take m s ++ z) e ∙ sym (append_assoc (take m s) a b))) ∙ take_at (take m s ++ a) b (m + n) k
