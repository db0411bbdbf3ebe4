-- Laws of writing: one word more at a time, and one list after another into the rest of a buffer, which is lent.
-- Document 01, "Operations": what is written, and what is kept.
use Rattle.std.specs.Prelude.{◌≡◌, refl, Bool, true, false, ℕ, suc, ◌+◌, ◌*◌, ◌/◌, ◌%◌, ◌≤◌, ◌<◌, take, get_or}
use Rattle.std.proofs.Math.Path.{sym, ap}
use Rattle.std.proofs.Common.{◌∙◌, add-one, length-drop, take_at, drop_at, drop-drop, take_all, length-take-le, take-suc, le-leb}
use mathlib.Core.List.{List, [], ◌∷◌, ◌++◌, append_assoc}
use native.Mathlib.Omega.{arith}
use Rattle.std.proofs.Math.ListN.{length, drop, set, length-append}
use Rattle.std.proofs.lemmas.Bool.{lt-leb}
use Rattle.eb3.specs.Bytes.{bytes_of, written}
use Rattle.eb3.proofs.Laws.Bytes.{bytes_length, bytes_append, written_length}
use Rattle.writing.specs.Wrote.{Wrote}

-- ── one word more ──

set_at : (b r : List ℕ) (a v : ℕ) → set (b ++ (a ∷ r)) (length b) v ≡ b ++ (v ∷ r)
set_at [] r a v = refl
set_at (x ∷ b) r a v = ap (λ l. x ∷ l) (set_at b r a v)

two_set : (b r : List ℕ) (a a' v u : ℕ) → set (set (b ++ (a ∷ a' ∷ r)) (length b) v) (suc (length b)) u ≡ b ++ (v ∷ u ∷ r)
two_set [] r a a' v u = refl
two_set (x ∷ b) r a a' v u = ap (λ l. x ∷ l) (two_set b r a a' v u)

two_front : (x : List ℕ) → 2 ≤ length x → (a : ℕ) × (b : ℕ) × (r : List ℕ) × (x ≡ a ∷ b ∷ r)
two_front [] h = absurd (let z : ⊥ = omega arith in z)
two_front (a ∷ []) h = absurd (let z : ⊥ = omega arith in z)
two_front (a ∷ b ∷ r) h = (a, b, r, refl)

take_suc : (s : List ℕ) (i : ℕ) → i < length s → take (suc i) s ≡ take i s ++ (get_or s i 0 ∷ [])
take_suc s i h = take-suc s i 0 h

module _ (ws x : List ℕ) (room : 2 * length ws + 2 ≤ length x) where
  tail : (a : ℕ) × (b : ℕ) × (r : List ℕ) × (drop (2 * length ws) x ≡ a ∷ b ∷ r)
  tail = two_front (drop (2 * length ws) x) (omega (arith, length-drop (2 * length ws) x))

  pub written_next : (w : ℕ) → set (set (written ws x) (2 * length ws) (w % 256)) (2 * length ws + 1) (w / 256 % 256) ≡ written (ws ++ (w ∷ [])) x
  unfolding written bytes_of
  written_next w =
      let b = bytes_of ws in
      let l : 2 * length ws ≡ length b = sym (bytes_length ws) in
      let k : 2 * length (ws ++ (w ∷ [])) ≡ 2 + 2 * length ws = omega (arith, length-append ws (w ∷ [])) in
      let d : drop (2 * length (ws ++ (w ∷ []))) x ≡ tail.2 = ap (λ n. drop n x) k ∙ (sym (drop-drop 2 (2 * length ws) x ∙ ap (λ n. drop n x) (let q : 2 * length ws + 2 ≡ 2 + 2 * length ws = omega arith in q)) ∙ ap (drop 2) tail.3) in
      ap (λ z. set (set (b ++ z) (2 * length ws) (w % 256)) (2 * length ws + 1) (w / 256 % 256)) tail.3
      ∙ ap (λ n. set (set (b ++ (tail.0 ∷ tail.1 ∷ tail.2)) n (w % 256)) (n + 1) (w / 256 % 256)) l
      ∙ ap (λ n. set (set (b ++ (tail.0 ∷ tail.1 ∷ tail.2)) (length b) (w % 256)) n (w / 256 % 256)) (add-one (length b))
      ∙ two_set b tail.2 tail.0 tail.1 (w % 256) (w / 256 % 256)
      ∙ sym (ap (λ z. z ++ drop (2 * length (ws ++ (w ∷ []))) x) (bytes_append ws (w ∷ [])) ∙ append_assoc b (w % 256 ∷ w / 256 % 256 ∷ []) (drop (2 * length (ws ++ (w ∷ []))) x) ∙ ap (λ z. b ++ (w % 256 ∷ w / 256 % 256 ∷ z)) d)

-- ── what the code answers ──

no_room : (o x : List ℕ) → length x < 2 * length o → Wrote o x x false
no_room o x h = record { fits = sym (lt-leb (2 * length o) (length x) h); same_length = refl; right = λ e. absurd (let z : ◌≡◌ {A = ℕ} 0 1 = cc in let w : ⊥ = omega arith in w); kept = λ e. refl }

pub room_lacked : (o x : List ℕ) (ok : Bool) → length x < 2 * length o → ok ≡ false → Wrote o x x ok
room_lacked o x ok h e = rw e (no_room o x h)

pub wrote_all : (o x y : List ℕ) → 2 * length o ≤ length x → y ≡ written o x → Wrote o x y true
wrote_all o x y h e = record {
  fits = sym (le-leb (2 * length o) (length x) h);
  same_length = ap length e ∙ written_length o x (omega arith);
  right = λ k. e;
  kept = λ k. absurd (let z : ◌≡◌ {A = ℕ} 0 1 = cc in let w : ⊥ = omega arith in w);
}

pub wrote_word : (w : ℕ) (x : List ℕ) → 2 ≤ length x → Wrote (w ∷ []) x (set (set x 0 (w % 256)) 1 (w / 256 % 256)) true
unfolding written bytes_of
wrote_word w x h = wrote_all (w ∷ []) x (set (set x 0 (w % 256)) 1 (w / 256 % 256)) h (written_next [] x h w)

-- the loop: when no word is written, when i words are, and when all are
pub words_none : (x : List ℕ) → x ≡ written [] x
unfolding written bytes_of
words_none x = refl

pub words_end : (s x y : List ℕ) (i : ℕ) → i ≤ length s → length s ≤ i → 2 * length s ≤ length x → y ≡ written (take i s) x → Wrote s x y true
words_end s x y i h k room e = wrote_all s x y room (e ∙ ap (λ z. written z x) (take_all i s k))

pub words_next : (s x y : List ℕ) (i : ℕ) → i < length s → 2 * length s ≤ length x → y ≡ written (take i s) x
    → set (set y (2 * i) (get_or s i 0 % 256)) (2 * i + 1) (get_or s i 0 / 256 % 256) ≡ written (take (i + 1) s) x
words_next s x y i h room e =
    let l : length (take i s) ≡ i = length-take-le i s (omega arith) in
    let k : take (i + 1) s ≡ take i s ++ (get_or s i 0 ∷ []) = ap (λ n. take n s) (add-one i) ∙ take_suc s i h in
    ap (λ z. set (set z (2 * i) (get_or s i 0 % 256)) (2 * i + 1) (get_or s i 0 / 256 % 256)) e
    ∙ ap (λ n. set (set (written (take i s) x) (2 * n) (get_or s i 0 % 256)) (2 * n + 1) (get_or s i 0 / 256 % 256)) (sym l)
    ∙ written_next (take i s) x (omega (arith, l)) (get_or s i 0)
    ∙ ap (λ z. written z x) (sym k)

-- ── one list after another, into the rest of a buffer, which is lent ──

-- the rest of the buffer was returned with p written into it
pub written_then : (o p x : List ℕ) → 2 * length o ≤ length x → take (2 * length o) (written o x) ++ written p (drop (2 * length o) (written o x)) ≡ written (o ++ p) x
unfolding written
written_then o p x h =
    let b = bytes_of o in
    let l : length b ≡ 2 * length o = bytes_length o in
    let n : 2 * length (o ++ p) ≡ 2 * length o + 2 * length p = omega (arith, length-append o p) in
    ap (λ z. z ++ (bytes_of p ++ drop (2 * length p) (drop (2 * length o) (b ++ drop (2 * length o) x)))) (take_at b (drop (2 * length o) x) (2 * length o) l)
    ∙ ap (λ z. b ++ (bytes_of p ++ drop (2 * length p) z)) (drop_at b (drop (2 * length o) x) (2 * length o) l)
    ∙ ap (λ z. b ++ (bytes_of p ++ z)) (drop-drop (2 * length p) (2 * length o) x)
    ∙ sym (append_assoc b (bytes_of p) (drop (2 * length o + 2 * length p) x))
    ∙ ap (λ z. z ++ drop (2 * length o + 2 * length p) x) (sym (bytes_append o p))
    ∙ ap (λ k. bytes_of (o ++ p) ++ drop k x) (sym n)
