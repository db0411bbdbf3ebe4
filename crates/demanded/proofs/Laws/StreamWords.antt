-- The words of a buffer, and of a file's stream, lie where document 01 says (StreamWords).
use Rattle.std.specs.Prelude.{◌≡◌, refl, List, [], ◌∷◌, ◌++◌, ℕ, zero, suc, ◌+◌, ◌-◌, ◌*◌, ◌/◌, ◌%◌, ◌≤◌, ◌<◌, length, get_or, take, drop}
use Rattle.std.proofs.Common.{ap, sym, ◌∙◌, arith, length-append, length-drop, get_or-append-add, get_or-take, get_or-drop, length-take-le}
use Rattle.std.proofs.Math.Decide.{dec_lt}
use Rattle.std.proofs.Math.ListN.{get_or-append}
use Rattle.eb3.specs.Bytes.{words_in}
use Rattle.eb3.proofs.Laws.Bytes.{words_counted}
use Rattle.eb3.specs.Blocks.{contents, stream}
use Rattle.demanded.specs.StreamWords.{word_at, BufferWords, StreamWords}

-- ── a buffer ──

buffer_word : (s : List ℕ) (k : ℕ) → k < length s / 2 → get_or (words_in s) k 0 ≡ word_at s (2 * k)
unfolding words_in
buffer_word [] k h = let z : ⊥ = omega arith in absurd z
buffer_word (a ∷ []) k h = let z : ⊥ = omega arith in absurd z
buffer_word (a ∷ b ∷ s) zero h = refl
buffer_word (a ∷ b ∷ s) (suc k) h =
    let low : 2 * suc k ≡ suc (suc (2 * k)) = omega arith in
    let high : 2 * suc k + 1 ≡ suc (suc (2 * k + 1)) = omega arith in
    buffer_word s k (omega arith) ∙ sym (λ i. get_or (a ∷ b ∷ s) (low i) 0 + 256 * get_or (a ∷ b ∷ s) (high i) 0)

pub buffer_words : (s : List ℕ) → BufferWords s
buffer_words s = record { word_count = words_counted s; word = buffer_word s }

-- ── a file ──

block_length : (s : List ℕ) → 512 ≤ length s → length (drop 4 (take 512 s)) ≡ 508
block_length s h = length-drop 4 (take 512 s) ∙ ap (λ n. n - 4) (length-take-le 512 s h)

contents_length : (n : ℕ) (s : List ℕ) → 512 * n ≤ length s → length (contents n s) ≡ 508 * n
unfolding contents
contents_length zero s h = refl
contents_length (suc n) s h =
    let r : 512 * n ≤ length (drop 512 s) = omega (arith, length-drop 512 s) in
    length-append (drop 4 (take 512 s)) (contents n (drop 512 s)) ∙ omega (arith, block_length s (omega arith), contents_length n (drop 512 s) r)

-- Byte j of the joined contents.
content_byte : (n : ℕ) (s : List ℕ) → 512 * n ≤ length s → (j : ℕ) → j < 508 * n → get_or (contents n s) j 0 ≡ get_or s (512 * (j / 508) + 4 + j % 508) 0
unfolding contents
content_byte zero s h j l = let z : ⊥ = omega arith in absurd z
content_byte (suc n) s h j l = go (content_byte n (drop 512 s) (omega (arith, length-drop 512 s))) (dec_lt j 508)
  where
    front : List ℕ
    front = drop 4 (take 512 s)

    front_length : length front ≡ 508
    front_length = block_length s (omega arith)

    rest : List ℕ
    rest = contents n (drop 512 s)

    go : ((m : ℕ) → m < 508 * n → get_or rest m 0 ≡ get_or (drop 512 s) (512 * (m / 508) + 4 + m % 508) 0) → Dec (j < 508) → get_or (front ++ rest) j 0 ≡ get_or s (512 * (j / 508) + 4 + j % 508) 0
    go later (yes b) =
        let e : 4 + j ≡ 512 * (j / 508) + 4 + j % 508 = omega arith in
        get_or-append front rest 0 j (omega (arith, front_length)) ∙ (get_or-drop 4 (take 512 s) j 0 ∙ (get_or-take 512 s (4 + j) 0 (omega arith) ∙ ap (λ i. get_or s i 0) e))
    go later (no b) =
        let m : ℕ = j - 508 in
        let e : j ≡ length front + m = omega (arith, front_length) in
        let f : 512 + (512 * (m / 508) + 4 + m % 508) ≡ 512 * (j / 508) + 4 + j % 508 = omega arith in
        ap (λ i. get_or (front ++ rest) i 0) e ∙ (get_or-append-add front rest m 0 ∙ (later m (omega arith)
        ∙ (get_or-drop 512 s (512 * (m / 508) + 4 + m % 508) 0 ∙ ap (λ i. get_or s i 0) f)))

-- Byte 508 × q + t of the contents is byte t of block q's.
byte_place : (q t : ℕ) → t < 508 → 512 * ((508 * q + t) / 508) + 4 + (508 * q + t) % 508 ≡ 512 * q + 4 + t
byte_place q t h = omega arith

module _ (rules : List ℕ) where
  abbrev n : ℕ
  n = length rules / 512

  stream_length : length (contents n rules) ≡ 508 * n
  stream_length = contents_length n rules (omega arith)

  byte : (j q t : ℕ) → j ≡ 508 * q + t → t < 508 → j < 508 * n → get_or (contents n rules) j 0 ≡ get_or rules (512 * q + 4 + t) 0
  byte j q t e h l =
      ap (λ i. get_or (contents n rules) i 0) e ∙ (content_byte n rules (omega arith) (508 * q + t) (omega arith) ∙ ap (λ i. get_or rules i 0) (byte_place q t h))

  stream_word : (k : ℕ) → k < 254 * n → get_or (stream rules) k 0 ≡ word_at rules (512 * (k / 254) + 4 + 2 * (k % 254))
  stream_word k h =
      let q : ℕ = k / 254 in
      let t : ℕ = 2 * (k % 254) in
      let low : 2 * k ≡ 508 * q + t = omega arith in
      let high : 2 * k + 1 ≡ 508 * q + (t + 1) = omega arith in
      let end : 512 * q + 4 + (t + 1) ≡ 512 * q + 4 + t + 1 = omega arith in
      buffer_word (contents n rules) k (omega (arith, stream_length))
      ∙ (λ i. byte (2 * k) q t low (omega arith) (omega arith) i
      + 256 * (byte (2 * k + 1) q (t + 1) high (omega arith) (omega arith) ∙ ap (λ j. get_or rules j 0) end) i)

  pub stream_words : StreamWords rules
  stream_words = record { word_count = words_counted (contents n rules) ∙ omega (arith, stream_length); word = stream_word }
