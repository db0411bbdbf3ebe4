-- `open` by its ways of returning (document 01, "Blocks and the rule stream"; refusals 1 to 3).
use mathlib.Core.Path.{◌≡◌, refl, ap, sym, ◌∙◌}
use mathlib.Core.Bool.{Bool, true, false, ◌&&◌}
use mathlib.Core.List.{List, [], ◌∷◌}
use mathlib.Core.Option.{none, some}
use Prim.Native.Nat.{ℕ, ◌+◌, ◌*◌, ◌%◌, ◌≤◌, ◌<◌}
use native.Mathlib.Omega.{arith}
use lib.Dec.{eqb, leb, eqb→eq, leb→le}
use lib.ListN.{length, take, drop, get_or, length-append, length-take, length-drop, get_or-append}
use lib.Seq.{get_or-drop, get_or-take}
use borrow.Author.Tests.{eq-eqb, le-leb}
use Rattle.eb3.specs.Generic.Booleans.{T_fst, T_snd}
use Rattle.eb3.specs.Editions.{Edition, edition_1, edition_of}
use Rattle.eb3.specs.Reading.{pick}
use Rattle.eb3.specs.Answers.{Answer, answered, refused, or_refused, and_then}
use Rattle.eb3.specs.Bytes.{words_in}
use Rattle.eb3.specs.Blocks.{contents, block_count, whole_blocks, blocks_right, edition_in, open_blocks}
use Rattle.eb3.proofs.Laws.Reading.{pick_false}
use Rattle.blocks.specs.Opening.{edition_test, opening}
use Rattle.std.specs.Prelude.{Ok, Err}
use Rattle.refusals.specs.declared.Refusal.TheVariants.{Length, Block, Edition as WrongEdition}
use Rattle.refusals.specs.Numbers.{refusal}
use Rattle.blocks.proofs.Joining.{one_content}

first_words : (s : List ℕ) → 4 ≤ length s → (get_or (words_in s) 0 0 ≡ get_or s 0 0 + 256 * get_or s 1 0) × (get_or (words_in s) 1 0 ≡ get_or s 2 0 + 256 * get_or s 3 0)
unfolding words_in
first_words [] h = let z : ⊥ = omega arith in absurd z
first_words (a ∷ []) h = let z : ⊥ = omega arith in absurd z
first_words (a ∷ b ∷ []) h = let z : ⊥ = omega arith in absurd z
first_words (a ∷ b ∷ c ∷ []) h = let z : ⊥ = omega arith in absurd z
first_words (a ∷ b ∷ c ∷ d ∷ s) h = (refl, refl)

module _ (s : List ℕ) where
  -- A content's byte k is byte 4 + k of the file's first block.
  content_byte : (k : ℕ) → k < 4 → 512 ≤ length s → get_or (contents (block_count s) s) k 0 ≡ get_or s (4 + k) 0
  content_byte k h l =
      let m : 1 ≤ block_count s = omega arith in
      let f : k < length (drop 4 (take 512 s)) = simp (length-drop, length-take) (omega arith) in let g : 4 + k < 512 = omega arith in
      ap (λ t. get_or t k 0) (one_content (block_count s) s m)
      ∙ (get_or-append (drop 4 (take 512 s)) _ 0 k f ∙ (get_or-drop 4 (take 512 s) k 0 ∙ get_or-take 512 s (4 + k) 0 g))

  content_long : 512 ≤ length s → 4 ≤ length (contents (block_count s) s)
  content_long l =
      let m : 1 ≤ block_count s = omega arith in
      rw (one_content (block_count s) s m) (simp (length-append, length-drop, length-take) (omega arith))

  -- One edition is defined.
  abbrev edition_by : Bool → Answer Edition
  edition_by e = pick e (answered edition_1) (refused 3)

  edition_same : 512 ≤ length s → edition_in s ≡ edition_by (edition_test s (block_count s))
  unfolding edition_in edition_of
  edition_same l =
      let e = first_words (contents (block_count s) s) (content_long l) in
      let w : get_or (words_in (contents (block_count s) s)) 0 0 ≡ get_or s 4 0 + 256 * get_or s 5 0 = rw (content_byte 0 (omega arith) l, content_byte 1 (omega arith) l) at e.0 in
      let v : get_or (words_in (contents (block_count s) s)) 1 0 ≡ get_or s 6 0 + 256 * get_or s 7 0 = rw (content_byte 2 (omega arith) l, content_byte 3 (omega arith) l) at e.1 in
      (λ i. pick (eqb (v i) (block_count s)) (or_refused 3 (pick (eqb (w i) 1) (some edition_1) none)) (refused 3)) ∙ go (eqb (get_or s 4 0 + 256 * get_or s 5 0) 1) (eqb (get_or s 6 0 + 256 * get_or s 7 0) (block_count s))
    where
      go : (x y : Bool) → pick y (or_refused 3 (pick x (some edition_1) none)) (refused 3) ≡ edition_by (x && y)
      go true true = refl
      go true false = refl
      go false true = refl
      go false false = refl

  -- The file's length is tested by parts.
  pub open_length : (length s % 512 ≡ 0 → 1 ≤ block_count s → block_count s ≤ 64 → ⊥) → Err Length ≡ opening s (open_blocks s)
  unfolding open_blocks opening refusal
  open_length h =
      ap (opening s) (sym (pick_false _ _ (whole_blocks s) λ t.
      let u = T_snd (eqb (length s % 512) 0) _ t in
      h (eqb→eq (length s % 512) 0 (T_fst (eqb (length s % 512) 0) _ t)) (leb→le 1 (block_count s) (T_fst (leb 1 (block_count s)) _ u)) (leb→le (block_count s) 64 (T_snd (leb 1 (block_count s)) _ u))))

  -- A file of whole blocks, with the answers `b` of its blocks' test and `e` of its edition's.
  module _ (even : length s % 512 ≡ 0) (any : 1 ≤ block_count s) (few : block_count s ≤ 64) {b : Bool} (p : b ≡ blocks_right 0 (block_count s) s) where
    whole : whole_blocks s ≡ true
    whole = rw (eq-eqb _ _ even, le-leb _ _ any, le-leb _ _ few)

    pub open_wrong : b ≡ false → Err Block ≡ opening s (open_blocks s)
    unfolding open_blocks opening refusal
    open_wrong h = rw (whole, ← p, h)

    module _ (h : b ≡ true) {e : Bool} (q : e ≡ edition_test s (block_count s)) where
      tested : edition_in s ≡ edition_by e
      tested = edition_same (omega arith) ∙ sym (ap edition_by q)

      pub open_other : e ≡ false → Err WrongEdition ≡ opening s (open_blocks s)
      unfolding open_blocks opening and_then refusal
      open_other k = rw (whole, ← p, h, tested, k)

      pub open_fine : e ≡ true → Ok (block_count s) ≡ opening s (open_blocks s)
      unfolding open_blocks opening and_then refusal
      open_fine k = rw (whole, ← p, h, tested, k)
