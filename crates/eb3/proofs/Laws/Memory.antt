-- Cells written into a memory are read back as the same values (document 01: undefined is stored as 65,535, above every number).
use Rattle.std.specs.Prelude.{◌≡◌, ℕ, ◌<◌, length, take}
use Rattle.std.proofs.Math.Path.{refl, ap}
use Rattle.std.proofs.Common.{◌∙◌, take_at}
use mathlib.Core.List.{List, [], ◌∷◌, map}
use native.Mathlib.Omega.{arith}
use Rattle.std.proofs.lemmas.List.{length-map}
use Rattle.eb3.specs.Values.{Value, undefined, number, encode, decode}
use Rattle.eb3.proofs.Laws.Values.{decode_encode}
use Rattle.eb3.specs.Values.{ValuesAtMost}
use Rattle.eb3.specs.Bytes.{written}
use Rattle.eb3.proofs.Laws.Bytes.{written_words}
use Rattle.eb3.proofs.Laws.Spelling.{Small}
use Rattle.eb3.specs.Memory.{undefined_cell, memory_words, cells_in}

pub memory_length : (cells : List Value) → length (memory_words cells) ≡ length cells
unfolding memory_words
memory_length cells = length-map cells (encode undefined_cell)

-- Of values up to a largest number that is below undefined's word.
module _ (top : ℕ) (above : top < undefined_cell) where
  pub memory_small : (cells : List Value) → ValuesAtMost top cells → Small (memory_words cells)
  unfolding memory_words encode
  memory_small [] h = tt
  memory_small (undefined ∷ vs) h = (omega arith, memory_small vs h.1)
  memory_small (number n ∷ vs) h = (omega (arith, h.0), memory_small vs h.1)

  pub decoded : (cells : List Value) → ValuesAtMost top cells → map (decode top) (memory_words cells) ≡ cells
  unfolding memory_words
  decoded [] h = refl
  decoded (v ∷ vs) h = λ i. decode_encode top undefined_cell above v h.0 i ∷ decoded vs h.1 i

  pub cells_back : (n : ℕ) (cells : List Value) (s : List ℕ) → length cells ≡ n → ValuesAtMost top cells → cells_in top n (written (memory_words cells) s) ≡ cells
  unfolding cells_in
  cells_back n cells s e h =
      ap (λ ws. map (decode top) (take n ws)) (written_words (memory_words cells) s (memory_small cells h))
      ∙ (ap (map (decode top)) (take_at (memory_words cells) _ n (memory_length cells ∙ e)) ∙ decoded cells h)
