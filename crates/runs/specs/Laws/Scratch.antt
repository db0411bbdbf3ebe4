-- Laws of lent bytes of which only words change (`WordsOnly`): it is so if nothing is written, if words are written, and if one such change follows another
-- (document 01, "Operations": an odd last byte is ignored and kept).
use Rattle.std.specs.Prelude.{◌≡◌, List, ◌++◌, ℕ, ◌+◌, ◌-◌, ◌*◌, ◌≤◌, length, drop}
use Rattle.std.proofs.Common.{sym, ap, ◌∙◌, arith, drop-drop}
use Rattle.std.proofs.Math.Seq.{drop-append-add}
use Rattle.eb3.specs.Bytes.{bytes_of, word_count, written}
use Rattle.eb3.proofs.Laws.Bytes.{bytes_length, written_length}
use Rattle.runs.specs.Scratch.{word_bytes, WordsOnly}

pub words_kept : (B B' : List ℕ) → B' ≡ B → WordsOnly B B'
words_kept B B' e = record { same_length = ap length e; odd_kept = ap (drop (word_bytes B)) e }

pub words_then : (B B' B'' : List ℕ) → WordsOnly B B' → WordsOnly B' B'' → WordsOnly B B''
words_then B B' B'' p q =
    let e : word_bytes B ≡ word_bytes B' = omega (arith, p.same_length) in
    record {
      same_length = q.same_length ∙ p.same_length;
      odd_kept = ap (λ n. drop n B'') e ∙ q.odd_kept ∙ ap (λ n. drop n B') (sym e) ∙ p.odd_kept;
    }

-- Writing words does not change the bytes after the last whole word.
behind_written : (o B : List ℕ) → length o ≤ word_count B → drop (word_bytes B) (written o B) ≡ drop (word_bytes B) B
unfolding written
behind_written o B h =
    let k : ℕ = word_bytes B - 2 * length o in
    let e : word_bytes B ≡ length (bytes_of o) + (word_bytes B - 2 * length o) = omega (arith, bytes_length o) in
    let f : 2 * length o + (word_bytes B - 2 * length o) ≡ word_bytes B = omega arith in
    ap (λ n. drop n (bytes_of o ++ drop (2 * length o) B)) e ∙ drop-append-add (bytes_of o) (drop (2 * length o) B) k ∙ drop-drop k (2 * length o) B ∙ ap (λ n. drop n B) f

pub words_written : (o B B' : List ℕ) → length o ≤ word_count B → B' ≡ written o B → WordsOnly B B'
words_written o B B' h e = record {
  same_length = ap length e ∙ written_length o B h;
  odd_kept = ap (drop (word_bytes B)) e ∙ behind_written o B h;
}
