-- The functions' parameter counts, written or, as in edition 1, one each (document 01, "Blocks and the rule stream", item 4): what is read is what is
-- spelled, and the other way round.
use Rattle.std.specs.Prelude.{◌≡◌, refl, Bool, ℕ, zero, suc, ◌≤◌, ◌<◌, length, get_or}
use Rattle.std.proofs.Math.Path.{ap, sym}
use Rattle.std.proofs.Common.{◌∙◌, arith}
use Rattle.std.proofs.Math.Bool.{true, false}
use mathlib.Core.List.{List, [], ◌∷◌, ◌++◌, map}
use Rattle.std.proofs.Math.ListN.{replicate}
use Rattle.std.proofs.lemmas.List.{length-map, length-replicate}
use Rattle.eb3.specs.Generic.Lists.{concat_map}
use Rattle.eb3.specs.Generic.AllLists.{All}
use Rattle.eb3.specs.Editions.{Edition}
use Rattle.eb3.specs.RuleSets.{Function, no_rule}
use Rattle.eb3.proofs.Laws.RuleSets.{get_d_map}
use Rattle.eb3.specs.RuleSpelling.{one_word, parameter_count, counts_words}
use Rattle.eb3.specs.Reading.{Read, refused, taken, Reader, pick, count_of, repeat}
use Rattle.eb3.specs.RuleReading.{read_parameter_counts, count_for}
use Rattle.eb3.proofs.Laws.Reading.{Sound, Sounds, count_sound, repeat_sound, count_takes, exactly_takes}

abbrev CountFits : Edition → ℕ → Type 0
CountFits L c = (1 ≤ c) × (c ≤ L.function_parameters)

abbrev pub CountsRead : Edition → ℕ → List ℕ → Type 0
CountsRead L n cs = (length cs ≡ n) × All (CountFits L) cs

one_words : (ws : List ℕ) → concat_map one_word ws ≡ ws
one_words [] = refl
one_words (w ∷ ws) = ap (λ x. w ∷ x) (one_words ws)

module _ (L : Edition) where
  one_fit : 1 ≤ L.function_parameters → (n : ℕ) → All (CountFits L) (replicate n 1)
  one_fit h zero = tt
  one_fit h (suc n) = ((omega arith, h), one_fit h n)

  all_one : L.function_parameters ≡ 1 → (cs : List ℕ) → All (CountFits L) cs → cs ≡ replicate (length cs) 1
  all_one e [] h = refl
  all_one e (c ∷ cs) h = let o : c ≡ 1 = omega (arith, h.0) in λ i. o i ∷ all_one e cs h.1 i

  abbrev count : Reader ℕ
  count = count_of 1 L.function_parameters

  as_words : (n : ℕ) (t : List ℕ) (r : Read (List ℕ)) → Sound (concat_map one_word) (CountsRead L n) t r → Sound (λ cs. cs) (CountsRead L n) t r
  as_words n t (refused k) h = tt
  as_words n t (taken cs u) h = (h.0 ∙ ap (λ x. x ++ u) (one_words cs), h.1)

  pub counts_sound : 1 ≤ L.function_parameters → (n : ℕ) → Sounds (counts_words L) (CountsRead L n) (read_parameter_counts L n)
  unfolding read_parameter_counts
  counts_sound one n t = go L.counts_written
    where
      go : (b : Bool) → Sound (λ cs. pick b cs []) (CountsRead L n) t (pick b (repeat n count t) (taken (replicate n 1) t))
      go true = as_words n t (repeat n count t) (repeat_sound one_word (CountFits L) count (count_sound 1 L.function_parameters) n t)
      go false = (refl, (length-replicate n 1, one_fit one n))

  pub counts_take : (L.counts_written ≡ false → L.function_parameters ≡ 1) → (n : ℕ) (cs rest : List ℕ) → CountsRead L n cs
      → read_parameter_counts L n (counts_words L cs ++ rest) ≡ taken cs rest
  unfolding read_parameter_counts
  counts_take one_each n cs rest h = go L.counts_written one_each
    where
      go : (b : Bool) → (b ≡ false → L.function_parameters ≡ 1) → pick b (repeat n count (pick b cs [] ++ rest)) (taken (replicate n 1) (pick b cs [] ++ rest)) ≡ taken cs rest
      go true o = ap (λ s. repeat n count (s ++ rest)) (sym (one_words cs)) ∙ exactly_takes one_word (CountFits L) count (count_takes 1 L.function_parameters) n cs rest h
      go false o = ap (λ s. taken s rest) (ap (λ m. replicate m 1) (sym h.0) ∙ sym (all_one (o refl) cs h.1))

-- Lists with the same entries.
same_entries : (xs ys : List ℕ) (d : ℕ) → length xs ≡ length ys → ((i : ℕ) → i < length xs → get_or xs i d ≡ get_or ys i d) → xs ≡ ys
same_entries [] [] d e h = refl
same_entries [] (y ∷ ys) d e h = let z : ⊥ = omega arith in absurd z
same_entries (x ∷ xs) [] d e h = let z : ⊥ = omega arith in absurd z
same_entries (x ∷ xs) (y ∷ ys) d e h = λ i. h zero (omega arith) i ∷ same_entries xs ys d (omega arith) (λ j l. h (suc j) (omega arith)) i

-- Functions that have as many parameters as counts say are counted so.
pub counts_are : (cs : List ℕ) (Fs : List Function) → length cs ≡ length Fs → ((i : ℕ) → i < length Fs → parameter_count (get_or Fs i no_rule) ≡ count_for cs i) → cs ≡ map parameter_count Fs
counts_are cs Fs e h = same_entries cs (map parameter_count Fs) 1 (e ∙ sym (length-map Fs parameter_count))
    (λ i l. let k : i < length Fs = omega arith in sym (get_d_map parameter_count Fs i no_rule 1 k ∙ h i k))
