-- Laws of putting words into a writer's buffer: words put one after the other, what says less, parts in a row, and a row of parts by a loop.
-- Document 01, "Unfolding, size and breadth".
use Rattle.std.specs.Prelude.{◌≡◌, refl, List, [], ◌∷◌, ◌++◌, ℕ, ◌+◌, ◌*◌, ◌≤◌, ◌<◌, length, take, drop, ◌/◌, ◌%◌, set, Option, Some, None, MatchOption, ⊤}
use Rattle.std.proofs.Common.{sym, ap, ◌∙◌, subst, append_assoc, append-nil, add-zero, arith, length-append, length-drop, take-append-drop, take_at, drop_at, drop-drop, length-take-le}
use Rattle.std.proofs.lemmas.List.{take-set-le, drop-set-add}
use Rattle.eb3.specs.Bytes.{bytes_of, written}
use Rattle.eb3.proofs.Laws.Bytes.{bytes_length, bytes_append, written_length}
use Rattle.writing.specs.Laws.Wrote.{wrote_word}
use Rattle.unfold.specs.declared.writer.Writer.{Writer}
use Rattle.unfold.specs.Written.{written_from}
use Rattle.unfold.specs.Unfolded.{UnfoldedRight}
use Rattle.unfold.specs.Puts.{Puts, Heads, Exactly, Then, Putting}

-- ── words written from one word of the buffer ──

pub from_none : (at : ℕ) (x : List ℕ) → x ≡ written_from at [] x
unfolding written_from written bytes_of
from_none at x = sym (take-append-drop (2 * at) x)

pub from_start : (ws x : List ℕ) → written_from 0 ws x ≡ written ws x
unfolding written_from
from_start ws x = refl

pub from_length : (at : ℕ) (ws x : List ℕ) → 2 * (at + length ws) ≤ length x → length (written_from at ws x) ≡ length x
unfolding written_from
from_length at ws x h =
    omega (arith, length-append (take (2 * at) x) (written ws (drop (2 * at) x)), length-take-le (2 * at) x (omega arith), written_length ws (drop (2 * at) x) (omega (arith, length-drop (2 * at) x)), length-drop (2 * at) x)

-- One word, byte by byte.
pub from_word : (at w : ℕ) (x : List ℕ) → 2 * at + 2 ≤ length x → set (set x (2 * at) (w % 256)) (2 * at + 1) (w / 256 % 256) ≡ written_from at (w ∷ []) x
unfolding written_from
from_word at w x h =
    let k = 2 * at in
    let v = w % 256 in
    let u = w / 256 % 256 in
    let first : drop k (set x k v) ≡ set (drop k x) 0 v = ap (λ n. drop k (set x n v)) (sym (add-zero k)) ∙ drop-set-add k x 0 v in
    sym (take-append-drop k (set (set x k v) (k + 1) u))
    ∙ ap (λ l. l ++ drop k (set (set x k v) (k + 1) u)) (take-set-le k (set x k v) (k + 1) u (omega arith) ∙ take-set-le k x k v (omega arith))
    ∙ ap (λ l. take k x ++ l) (drop-set-add k (set x k v) 1 u ∙ ap (λ l. set l 1 u) first ∙ (wrote_word w (drop k x) (omega (arith, length-drop k x))).right refl)

-- Words, and more words after them.
pub from_then : (at : ℕ) (u v x : List ℕ) → 2 * at ≤ length x → written_from (at + length u) v (written_from at u x) ≡ written_from at (u ++ v) x
unfolding written_from written
from_then at u v x h =
    let k = 2 * (at + length u) in
    let a = take (2 * at) x in
    let b = drop (2 * at) x in
    let d = drop (2 * length u) b in
    let l : length (a ++ bytes_of u) ≡ k = omega (arith, length-append a (bytes_of u), bytes_length u, length-take-le (2 * at) x h) in
    let n : 2 * length u + 2 * length v ≡ 2 * length (u ++ v) = omega (arith, length-append u v) in
    ap (λ z. take k z ++ (bytes_of v ++ drop (2 * length v) (drop k z))) (sym (append_assoc a (bytes_of u) d))
    ∙ ap (λ z. z ++ (bytes_of v ++ drop (2 * length v) (drop k ((a ++ bytes_of u) ++ d)))) (take_at (a ++ bytes_of u) d k l)
    ∙ ap (λ z. (a ++ bytes_of u) ++ (bytes_of v ++ drop (2 * length v) z)) (drop_at (a ++ bytes_of u) d k l)
    ∙ ap (λ z. (a ++ bytes_of u) ++ (bytes_of v ++ z)) (drop-drop (2 * length v) (2 * length u) b ∙ ap (λ j. drop j b) n)
    ∙ append_assoc a (bytes_of u) (bytes_of v ++ drop (2 * length (u ++ v)) b)
    ∙ ap (λ z. a ++ z) (sym (append_assoc (bytes_of u) (bytes_of v) (drop (2 * length (u ++ v)) b)) ∙ ap (λ z. z ++ drop (2 * length (u ++ v)) b) (sym (bytes_append u v)))

-- The same where it is known what is in the buffer, and where its next word is.
pub from_next : (at w : ℕ) (u v x y z : List ℕ) → 2 * w ≤ length x → w ≡ at + length u → y ≡ written_from at u x → z ≡ written_from w v y → z ≡ written_from at (u ++ v) x
from_next at w u v x y z h e f g = g ∙ (λ i. written_from (e i) v (f i)) ∙ from_then at u v x (omega arith)

-- ── what is put ──

-- Less is said of an answer.
pub match_as : {A : Type 0} (r : Option A) (N N' : Type 0) (S S' : A → Type 0) → (N → N') → ((a : A) → S a → S' a) → MatchOption r N S → MatchOption r N' S'
match_as None N N' S S' f g m = f m
match_as (Some a) N N' S S' f g m = g a m

-- Where nothing can be said, and where the words are said in another way.
pub puts_none : (S : List ℕ → List ℕ → Type 0) (x y : Writer) → ((ws rest : List ℕ) → S ws rest → length x.bytes.now < 2 * (x.at + length ws)) → y.bytes.ghost_name ≡ x.bytes.ghost_name → length y.bytes.now ≡ length x.bytes.now → Puts S x y None
puts_none S x y h b l = record { same_buffer = b; same_length = l; put = h }

-- The answer of a part that found no room is handed on.
pub puts_lost : (S : List ℕ → List ℕ → Type 0) (x y : Writer) (r : Option ℕ) → r ≡ None → Puts S x y None → Puts S x y r
puts_lost S x y r e p = subst (λ a. Puts S x y a) (sym e) p

pub puts_as : (S S' : List ℕ → List ℕ → Type 0) (x y : Writer) (r : Option ℕ) → ((ws rest : List ℕ) → S ws rest → S' ws rest) → Puts S' x y r → Puts S x y r
puts_as S S' x y r f p = record { same_buffer = p.same_buffer; same_length = p.same_length; put = λ ws rest s. p.put ws rest (f ws rest s) }

-- A head, whose words are known, and the words that are left after it.
pub head_none : (ms : List ℕ) (n : ℕ) (x y : Writer) → Heads ms x y None → Puts (Exactly ms n) x y None
head_none ms n x y p = record { same_buffer = p.same_buffer; same_length = p.same_length; put = λ ws rest s. omega (arith, p.put, ap length s.same_words) }

pub head_some : (ms : List ℕ) (n : ℕ) (x y : Writer) (u : ⊤) → Heads ms x y (Some u) → Puts (Exactly ms n) x y (Some n)
head_some ms n x y u p = record {
  same_buffer = p.same_buffer;
  same_length = p.same_length;
  put = λ ws rest s. record { ends = omega (arith, p.put.ends, ap length s.same_words); left_is = s.same_left; written_there = p.put.written_there ∙ ap (λ c. written_from x.at c x.bytes.now) (sym s.same_words) };
}

-- ── parts in a row ──

-- Words are put up to the writer y, and the next part is put from there on.
module _ (S G : List ℕ → List ℕ → Type 0) (x y : Writer) (p : Putting S G x y) (P : List ℕ → List ℕ → Type 0) (z : Writer) where
  grown : (u v : List ℕ) → y.at ≡ x.at + length u → y.bytes.now ≡ written_from x.at u x.bytes.now → z.bytes.now ≡ written_from y.at v y.bytes.now → z.bytes.now ≡ written_from x.at (u ++ v) x.bytes.now
  grown u v = from_next x.at y.at u v x.bytes.now y.bytes.now z.bytes.now (omega (arith, y.room, p.same_length))

  pub putting_fail : (G' : ℕ → List ℕ → List ℕ → Type 0) → ((ws rest : List ℕ) → G ws rest → Then P G' ws rest) → Puts P y z None → Puts S x z None
  putting_fail G' step q =
      puts_none S x z
      (λ ws rest s.
      let h = p.so_far ws rest s in
      let k = step h.come rest h.says in
      omega (arith, q.put k.front k.between k.one, p.same_length, ap length h.joined, ap length k.joined, h.size, length-append h.put h.come, length-append k.front k.back))
      (q.same_buffer ∙ p.same_buffer) (q.same_length ∙ p.same_length)

  pub putting_next : (G' : ℕ → List ℕ → List ℕ → Type 0) (left : ℕ) → ((ws rest : List ℕ) → G ws rest → Then P G' ws rest) → Puts P y z (Some left) → Putting S (G' left) x z
  putting_next G' left step q = record {
    same_buffer = q.same_buffer ∙ p.same_buffer;
    same_length = q.same_length ∙ p.same_length;
    so_far = λ ws rest s. let h = p.so_far ws rest s in let k = step h.come rest h.says in let d = q.put k.front k.between k.one in
        record {
          put = h.put ++ k.front;
          come = k.back;
          joined = h.joined ∙ ap (λ c. h.put ++ c) k.joined ∙ sym (append_assoc h.put k.front k.back);
          size = omega (arith, h.size, d.ends, length-append h.put k.front);
          written_there = grown h.put k.front h.size h.written_there d.written_there;
          says = subst (λ n. G' n k.back rest) (sym d.left_is) k.two;
        };
  }

  -- the last part
  pub putting_last : (r : Option ℕ) → ((ws rest : List ℕ) → G ws rest → P ws rest) → Puts P y z r → Puts S x z r
  putting_last r last q = record {
    same_buffer = q.same_buffer ∙ p.same_buffer;
    same_length = q.same_length ∙ p.same_length;
    put = λ ws rest s. let h = p.so_far ws rest s in
        match_as r (length y.bytes.now < 2 * (y.at + length h.come)) (length x.bytes.now < 2 * (x.at + length ws)) (UnfoldedRight h.come rest y z) (UnfoldedRight ws rest x z)
        (λ l. omega (arith, l, p.same_length, ap length h.joined, h.size, length-append h.put h.come))
        (λ left d. record {
          ends = omega (arith, h.size, d.ends, ap length h.joined, length-append h.put h.come);
          left_is = d.left_is;
          written_there = grown h.put h.come h.size h.written_there d.written_there ∙ ap (λ c. written_from x.at c x.bytes.now) (sym h.joined);
        }) (q.put h.come rest (last h.come rest h.says));
  }

-- All is put.
pub putting_all : (S G : List ℕ → List ℕ → Type 0) (x y : Writer) (left : ℕ) → Putting S G x y → ((ws rest : List ℕ) → G ws rest → (ws ≡ []) × (left ≡ length rest)) → Puts S x y (Some left)
putting_all S G x y left p done = record {
  same_buffer = p.same_buffer;
  same_length = p.same_length;
  put = λ ws rest s. let h = p.so_far ws rest s in let k = done h.come rest h.says in let i : ws ≡ h.put = h.joined ∙ ap (λ c. h.put ++ c) k.0 ∙ append-nil h.put in
      record { ends = omega (arith, h.size, ap length i); left_is = k.1; written_there = h.written_there ∙ ap (λ c. written_from x.at c x.bytes.now) (sym i) };
}

-- What is to come is said in another way, or cannot be said.
pub putting_start : (S G : List ℕ → List ℕ → Type 0) (x : Writer) → ((ws rest : List ℕ) → S ws rest → G ws rest) → Putting S G x x
putting_start S G x f = record {
  same_buffer = refl;
  same_length = refl;
  so_far = λ ws rest s. record { put = []; come = ws; joined = refl; size = sym (add-zero x.at); written_there = from_none x.at x.bytes.now; says = f ws rest s };
}

pub putting_stuck : (S G : List ℕ → List ℕ → Type 0) (x y : Writer) → Putting S G x y → ((ws rest : List ℕ) → G ws rest → ⊥) → Puts S x y None
putting_stuck S G x y p unsaid = puts_none S x y (λ ws rest s. let h = p.so_far ws rest s in absurd (unsaid h.come rest h.says)) p.same_buffer p.same_length

-- ── one part, and another after it ──

module _ (P : List ℕ → List ℕ → Type 0) (G : ℕ → List ℕ → List ℕ → Type 0) (x y : Writer) where
  pub then_fail : Puts P x y None → Puts (Then P G) x y None
  then_fail p = puts_none (Then P G) x y (λ ws rest s. omega (arith, p.put s.front s.between s.one, ap length s.joined, length-append s.front s.back)) p.same_buffer p.same_length

  then_putting : (left : ℕ) → Puts P x y (Some left) → Putting (Then P G) (G left) x y
  then_putting left p = record {
    same_buffer = p.same_buffer;
    same_length = p.same_length;
    so_far = λ ws rest s. let d = p.put s.front s.between s.one in
        record { put = s.front; come = s.back; joined = s.joined; size = d.ends; written_there = d.written_there; says = subst (λ n. G n s.back rest) (sym d.left_is) s.two };
  }

  pub then_last : (left : ℕ) (z : Writer) (r : Option ℕ) → Puts P x y (Some left) → Puts (G left) y z r → Puts (Then P G) x z r
  then_last left z r p q = putting_last (Then P G) (G left) x y (then_putting left p) (G left) z r (λ ws rest s. s) q

-- The first part is a head: what is left after it is known.
module _ (ms : List ℕ) (n : ℕ) (G : ℕ → List ℕ → List ℕ → Type 0) (x y : Writer) where
  pub head_fail : Heads ms x y None → Puts (Then (Exactly ms n) G) x y None
  head_fail p = then_fail (Exactly ms n) G x y (head_none ms n x y p)

  pub head_last : (u : ⊤) (z : Writer) (r : Option ℕ) → Heads ms x y (Some u) → Puts (G n) y z r → Puts (Then (Exactly ms n) G) x z r
  head_last u z r p q = then_last (Exactly ms n) G x y n z r (head_some ms n x y u p) q

  -- As the first part is put, whatever its answer is.
  pub exactly_last : (a : ℕ) (z : Writer) (r : Option ℕ) → Puts (Exactly ms n) x y (Some a) → Puts (G n) y z r → Puts (Then (Exactly ms n) G) x z r
  exactly_last a z r p q =
      puts_as (Then (Exactly ms n) G) (Then (Exactly ms n) (λ m. G n)) x z r
      (λ ws rest s. record { front = s.front; back = s.back; between = s.between; one = s.one; two = subst (λ m. G m s.back rest) (sym s.one.same_left) s.two; joined = s.joined })
      (then_last (Exactly ms n) (λ m. G n) x y a z r p q)

-- ── places and room ──

-- The place after the words written.
pub place_few : (x : Writer) → x.at ≤ 65535
place_few x = omega (arith, x.room, x.short)

pub place_room : (S : List ℕ → List ℕ → Type 0) (x y : Writer) (r : Option ℕ) → Puts S x y r → 2 * y.at ≤ length y.bytes.now
place_room S x y r p = y.room

-- Words that are known, where there is room for them.
pub puts_exactly : (ms : List ℕ) (n : ℕ) (x y : Writer) → 2 * (x.at + length ms) ≤ length x.bytes.now → y.bytes.ghost_name ≡ x.bytes.ghost_name → y.at ≡ x.at + length ms
    → y.bytes.now ≡ written_from x.at ms x.bytes.now → Puts (Exactly ms n) x y (Some n)
puts_exactly ms n x y room b e f = record {
  same_buffer = b;
  same_length = ap length f ∙ from_length x.at ms x.bytes.now room;
  put = λ ws rest s. record { ends = omega (arith, e, ap length s.same_words); left_is = s.same_left; written_there = f ∙ ap (λ c. written_from x.at c x.bytes.now) (sym s.same_words) };
}
