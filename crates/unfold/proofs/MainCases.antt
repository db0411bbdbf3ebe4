-- A case for each way that main's unfolding returns. The premises have the form of the facts known there.
-- Document 01, "Unfolding, size and breadth".
use mathlib.Core.Path.{◌≡◌, refl, sym, ap, ◌∙◌, subst}
use mathlib.Core.List.{List, [], ◌++◌, append_assoc}
use Prim.Native.Nat.{ℕ, ◌-◌, ◌*◌, ◌≤◌, ◌<◌, min}
use native.Mathlib.Omega.{arith}
use lib.ListN.{length, take, drop, length-append, length-drop}
use lib.Seq.{drop-append-le, length-take-le}
use Rattle.std.proofs.lemmas.List.{take-append-drop}
use Rattle.std.specs.Prelude.{Option, Some, None, MatchOption, unwrap_or}
use Rattle.eb3.specs.Bytes.{bytes_of, written}
use Rattle.eb3.specs.Generic.Lists.{Within}
use Rattle.eb3.specs.RuleSets.{RuleSet, sizes_of, process, main_process}
use Rattle.eb3.specs.Spelling.{words}
use Rattle.eb3.specs.Unfolding.{unfold_main}
use Rattle.tables.specs.Layout.{process_count, body_at}
use Rattle.unfold.specs.declared.writer.Writer.{Writer}
use Rattle.unfold.specs.Written.{written_from}
use Rattle.unfold.specs.Unfolded.{MainUnfolded, Ready, RuleTermAt, unfolded_words, Unfolding, UnfoldedInto}
use Rattle.unfold.specs.Laws.Puts.{from_start}
use Rattle.unfold.proofs.RuleFacts.{processes_there, body_stands}

-- Words written into the first m bytes of a buffer.
front_written : (ws x : List ℕ) (m : ℕ) → 2 * length ws ≤ m → m ≤ length x → written ws (take m x) ++ drop m x ≡ written ws x
unfolding written
front_written ws x m h l =
    append_assoc (bytes_of ws) (drop (2 * length ws) (take m x)) (drop m x)
    ∙ ap (λ z. bytes_of ws ++ z) (sym (drop-append-le (2 * length ws) (take m x) (drop m x) (omega (arith, length-take-le m x l))) ∙ ap (λ z. drop (2 * length ws) z) (take-append-drop m x))

-- From the writer a at the first word of x to the writer b, whose buffer is y.
pub into_put : (t T : List ℕ) (n i : ℕ) (σ : List ℕ) (a b : Writer) (y : List ℕ) (left : ℕ) → a.at ≡ 0 → y ≡ b.bytes.now → Unfolding t T n i σ a b (Some left) → UnfoldedInto t T n i σ a.bytes.now y (Some b.at)
into_put t T n i σ a b y left z e u = record {
  same_length = ap length e ∙ u.same_length;
  unfolded = λ R Γ E rest ready there. let d = u.unfolded R Γ E rest ready there in
      (omega (arith, d.ends), e ∙ d.written_there ∙ ap (λ k. written_from k (unfolded_words R i E σ) a.bytes.now) z ∙ from_start (unfolded_words R i E σ) a.bytes.now);
}

-- k is the number of processes
module _ (t T x : List ℕ) where
  abbrev Main : List ℕ → ℕ → Type 0
  Main y w = (length y ≡ length x) × MainUnfolded t T x y w

  module _ (k : ℕ) (is_k : k ≡ process_count T) where
    counted : (R : RuleSet) → Ready t T R → k ≡ length R.processes
    counted R ready = is_k ∙ processes_there t T R ready

    pub main_none : k ≡ 0 → Main x 0
    main_none z = (refl, λ R ready few room. absurd (let f : ⊥ = omega (arith, counted R ready, ready.form.process_count.0) in f))

    pub main_many : 32 < k → Main x 0
    main_many h = (refl, λ R ready few room. absurd (let f : ⊥ = omega (arith, counted R ready, ready.form.process_count.1) in f))

    -- m is how long the front of the buffer is that is lent on, and z the front after
    module _ (f start m : ℕ) (is_f : f ≡ body_at T (k - 1)) (is_start : start ≡ f) (is_m : m ≡ min (length x) 131070) (z : List ℕ) where
      long : length z ≡ length (take m x) → length (z ++ drop m x) ≡ length x
      long h = omega (arith, length-append z (drop m x), h, length-take-le m x (omega arith), length-drop m x)

      pub main_put : (r : Option ℕ) (w : ℕ) → UnfoldedInto t T start (k - 1) [] (take m x) z r → w ≡ unwrap_or r 0 → Main (z ++ drop m x) w
      unfolding unfold_main
      main_put r w u is_w = (
        long u.same_length,
        λ R ready few room.
            let p = main_process R in
            let ws = words R.edition.width (unfold_main R) in
            let some = ready.form.process_count.0 in
            let below : p < length R.processes = omega arith in
            let p_is : k - 1 ≡ p = omega (arith, counted R ready) in
            let stands = body_stands t T R ready p below in
            let start_is : start ≡ body_at T p = is_start ∙ is_f ∙ ap (λ j. body_at T j) p_is in
            let v : UnfoldedInto t T (body_at T p) p [] (take m x) z r = subst (λ j. UnfoldedInto t T j p [] (take m x) z r) start_is (subst (λ j. UnfoldedInto t T start j [] (take m x) z r) p_is u) in
            let there : RuleTermAt t (body_at T p) R p (process R p).parameters [] (process R p).term stands.0 = record {
              process_there = omega arith;
              fits = ready.form.process_terms p below;
              values = subst (λ ds. Within (sizes_of R ds) []) (sym ready.form.main_parameters) tt;
              few = omega (arith, (ready.form.process_heads p below).0);
              spelled = stands.1;
            } in
            let d = by_answer ws r w is_w (omega (arith, length-take-le m x (omega arith))) (v.unfolded R (process R p).parameters (process R p).term stands.0 ready there) in
            (d.0, ap (λ y. y ++ drop m x) d.1 ∙ front_written ws x m (omega arith) (omega arith)),
      )
        where
          by_answer : (ws : List ℕ) (r : Option ℕ) (w : ℕ) → w ≡ unwrap_or r 0 → 2 * length ws ≤ length (take m x) → MatchOption r (length (take m x) < 2 * length ws) (λ k. (k ≡ length ws) × (z ≡ written ws (take m x)))
              → (w ≡ length ws) × (z ≡ written ws (take m x))
          by_answer ws None w e room h = absurd (let l : ⊥ = omega arith in l)
          by_answer ws (Some q) w e room h = (e ∙ h.0, h.1)
