-- Words copied into an array, and words of it replaced by others (document 01, "Moves, in order": the term of the next state).
use mathlib.Core.Path.{◌≡◌, refl, sym, ap, ◌∙◌}
use mathlib.Core.List.{List, ◌++◌, append_assoc}
use Prim.Native.Nat.{ℕ, ◌+◌, ◌-◌, ◌≤◌, ◌<◌}
use native.Mathlib.Numerals.{add-one}
use native.Mathlib.Omega.{arith}
use Rattle.std.specs.Prelude.{None, Some}
use lib.ListN.{length, take, drop, set, get_or, length-append, length-drop}
use lib.Seq.{paste, paste-suc, slice, length-slice, length-take-le, take_all, take_at, drop_at, take-add, take-append-add}
use Rattle.sharing.specs.Beginning.{put_at}
use Rattle.sharing.specs.Splicing.{Spliced}
use Rattle.sharing.proofs.BeginningPuts.{put_length}

-- ── copying ──

pub copy_more : (T T₀ s : List ℕ) (at i w : ℕ) → i < length s → at + length s ≤ length T₀ → w ≡ get_or s i 0 → T ≡ paste T₀ at s i → set T (at + i) w ≡ paste T₀ at s (i + 1)
copy_more T T₀ s at i w h a f e = rw (e, f) (rw (add-one i) (paste-suc T₀ at s i 0 (omega arith) (omega arith)))

pub copy_last : (T T₀ s : List ℕ) (at i : ℕ) → length s ≤ i → i ≤ length s → T ≡ paste T₀ at s i → T ≡ put_at at s T₀
copy_last T T₀ s at i h a e =
    let k : i ≡ length s = omega arith in
    e ∙ ap (λ n. take at T₀ ++ take n s ++ drop (at + n) T₀) k ∙ append_assoc (take at T₀) (take (length s) s) (drop (at + length s) T₀)
    ∙ ap (λ w. take at T₀ ++ (w ++ drop (at + length s) T₀)) (take_all (length s) s (omega arith))

-- ── replacing ──

-- The words from e to n, cut at the beginning first instead of at the end.
pub slice_cut : (e n : ℕ) (d : List ℕ) → e ≤ n → n ≤ length d → take (n - e) (drop e d) ≡ slice e n d
slice_cut e n d h k =
    let m : n ≡ e + (n - e) = omega arith in
    sym (ap (λ j. drop e (take j d)) m ∙ ap (drop e) (take-add e (n - e) d) ∙ drop_at (take e d) (take (n - e) (drop e d)) e (length-take-le e d (omega arith)))

-- The first words of d once the words w are put in at `at`: those before `at`, then w, and then m of those after.
pub put_front : (at m : ℕ) (w d : List ℕ) → at + length w ≤ length d → take (at + (length w + m)) (put_at at w d) ≡ take at d ++ (w ++ take m (drop (at + length w) d))
put_front at m w d h =
    ap (λ j. take (j + (length w + m)) (put_at at w d)) (sym (length-take-le at d (omega arith)))
    ∙ take-append-add (take at d) (w ++ drop (at + length w) d) (length w + m)
    ∙ ap (λ v. take at d ++ v) (take-append-add w (drop (at + length w) d) m)

pub put_whole : (at : ℕ) (w d : List ℕ) → at + length w ≤ length d → take (at + length w) (put_at at w d) ≡ take at d ++ w
put_whole at w d h =
    sym (ap (take (at + length w)) (append_assoc (take at d) w (drop (at + length w) d)))
    ∙ take_at (take at d ++ w) (drop (at + length w) d) (at + length w) (omega (arith, length-append (take at d) w, length-take-le at d (omega arith)))

-- The scratch array keeps its length when the words of d from e to n are put into it.
pub back_length : (d mid mid' : List ℕ) (n e k : ℕ) → mid' ≡ put_at k (take (n - e) (drop e d)) mid → e ≤ n → n ≤ length d → k + (n - e) ≤ length mid → length mid' ≡ length mid
back_length d mid mid' n e k g h j l = ap length g ∙ put_length k (take (n - e) (drop e d)) mid (omega (arith, length-take-le (n - e) (drop e d) (omega (arith, length-drop e d))))

module _ (d mid : List ℕ) (n i e k : ℕ) where
  -- A test failed, so that not all the conditions of `made` hold.
  pub splice_none : ((i ≤ e → e ≤ n → n ≤ length d → i + (k + (n - e)) ≤ length d → k + (n - e) ≤ length mid → ⊥)) → Spliced d mid n i e k d mid None
  splice_none never = record { same_length = refl; mid_same_length = refl; bounded = tt; made = λ a b c f g. absurd (never a b c f g) }

  module _ (ie : i ≤ e) (en : e ≤ n) (nd : n ≤ length d) (room : i + (k + (n - e)) ≤ length d) (fit : k + (n - e) ≤ length mid) where
    -- As many words are put in as were there, so the words after them stay in place.
    pub splice_same : (w d' : List ℕ) → w ≡ take k mid → e ≡ i + k → d' ≡ put_at i w d → Spliced d mid n i e k d' mid (Some n)
    splice_same w d' f g h =
        let l : length w ≡ k = ap length f ∙ length-take-le k mid (omega arith) in
        let q : n ≡ i + (length w + (n - e)) = omega (arith, l) in
        let p : i + length w ≡ e = omega (arith, l) in
        record {
          same_length = ap length h ∙ put_length i w d (omega (arith, l));
          mid_same_length = refl;
          bounded = nd;
          made = λ _ _ _ _ _. (
            omega (arith, l),
            ap (take n) h ∙ ap (λ j. take j (put_at i w d)) q ∙ put_front i (n - e) w d (omega (arith, l))
                ∙ ap (λ j. take i d ++ (w ++ take (n - e) (drop j d))) p
                ∙ ap (λ v. take i d ++ (v ++ take (n - e) (drop e d))) f
                ∙ ap (λ v. take i d ++ (take k mid ++ v)) (slice_cut e n d en nd),
          );
        }

    -- The words of d from e to n are put after the new words in the scratch array, and both are copied back into d.
    pub splice_moved : (b mid' w d' : List ℕ) → b ≡ slice e n d → mid' ≡ put_at k b mid → w ≡ take (k + (n - e)) mid' → d' ≡ put_at i w d → Spliced d mid n i e k d' mid' (Some (i + (k + (n - e))))
    splice_moved b mid' w d' f g h j =
        let l : length b ≡ n - e = ap length f ∙ length-slice e n d nd in
        let p : k + (n - e) ≡ k + length b = omega (arith, l) in
        let v : w ≡ take k mid ++ b = h ∙ ap (take (k + (n - e))) g ∙ ap (λ m. take m (put_at k b mid)) p ∙ put_whole k b mid (omega (arith, l)) in
        let o : length w ≡ k + (n - e) = omega (arith, ap length v, length-append (take k mid) b, length-take-le k mid (omega arith), l) in
        record {
          same_length = ap length j ∙ put_length i w d (omega (arith, o));
          mid_same_length = ap length g ∙ put_length k b mid (omega (arith, l));
          bounded = room;
          made = λ _ _ _ _ _. (
            refl,
            ap (take (i + (k + (n - e)))) j ∙ ap (λ m. take (i + m) (put_at i w d)) (sym o) ∙ put_whole i w d (omega (arith, o))
                ∙ ap (λ x. take i d ++ x) (v ∙ ap (λ x. take k mid ++ x) f),
          );
        }
