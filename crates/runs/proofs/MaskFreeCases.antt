-- The run of main from the words of its unfolding, which has no masks: at the start the term is one part of it, and at the end it is spelled out (document 01,
-- "Operations": Run writes the last term; "Memory and the history machine").
use mathlib.Core.Path.{◌≡◌, refl, sym, ap, ◌∙◌, subst}
use mathlib.Core.Bool.{cond}
use mathlib.Core.List.{List, [], ◌∷◌, append-nil}
use Prim.Native.Nat.{ℕ, ◌+◌, ◌%◌, ◌≤◌}
use native.Mathlib.Omega.{arith}
use lib.Dec.{eqb}
use lib.ListN.{length, take, drop, get_or}
use lib.Seq.{take_at}
use Rattle.eb3.specs.Scopes.{Scope, guard_scope}
use Rattle.eb3.specs.Terms.{Term, Done, Internal, Perform, Sequence, Choice, Star, Parallel, Guard, done?}
use Rattle.eb3.specs.RuleSets.{RuleSet, attributes}
use Rattle.eb3.proofs.Laws.Sizes.{size_pos}
use Rattle.eb3.specs.Unfolding.{unfold_main}
use Rattle.eb3.specs.Spelling.{words}
use Rattle.eb3.specs.Readers.{numbers_in, readers_in}
use Rattle.eb3.specs.Semantics.{Sem_M, system}
use Rattle.eb3.specs.TransitionSystems.{outcomes}
use Rattle.eb3.specs.Machines.{memory_run}
use Rattle.eb3.specs.WellFormedness.{Running, Form}
use Rattle.words.specs.Laws.Checking.{last_all}
use Rattle.declarations.specs.Declaring.{Declares}
use Rattle.steps.specs.Laws.Judging.{whole}
use Rattle.sharing.specs.Shared.{Shared, Ended as Done_there, Part, term_of, shared_words, Unmasked, PartAt, Stands}
use Rattle.sharing.specs.Beginning.{put_at}
use Rattle.sharing.specs.Splicing.{SpelledTo, spelled_to, Expanded}
use Rattle.sharing.specs.Expanding.{numbers}
use Rattle.sharing.specs.declared.expansion.Extent.{Extent}
use Rattle.std.specs.Prelude.{Option, None, Some}
use Rattle.std.proofs.lemmas.Option.{none-some, same_Some}
use Rattle.runs.specs.Laws.Scratch.{words_kept}
use Rattle.runs.specs.Running.{Spelled, Ended, CountedBy}
use Rattle.runs.specs.Scratch.{WordsOnly}
use Rattle.runs.specs.Sharing.{SharedOver}
use Rattle.runs.specs.Held.{Runs}
use Rattle.runs.specs.declared.held.Held.TheVariants.{Over}
use Rattle.runs.specs.declared.admitted.Course.{Course}
use Rattle.derivation.specs.declared.scratch.Scratch.{Scratch}
use Rattle.std.specs.Borrow.{Bor}
use Rattle.runs.specs.MainProcess.{Finished}
use Rattle.runs.specs.Starts.{RunsMaskFree, CourseMaskFree}
use Rattle.runs.specs.declared.main_process.Totals.{Totals}
use Rattle.runs.specs.declared.Tally.{Tally}
use Rattle.runs.proofs.MainCases.{start, main_there, main_size, spelled_length, run_fits, main_ended}

-- ── one part ──

-- The word of the part that is the whole unfolding; done is spelled out.
abbrev whole_word : List ℕ → ℕ
whole_word u = cond (eqb (get_or u 0 0) 30) 30 (32 + length u)

module _ (u : List ℕ) (P : Scope) where
  abbrev Alone : Term → Type 0
  Alone E = (S : Shared) × Stands u P S × (term_of S ≡ E) × (shared_words S ≡ whole_word u ∷ [])

  -- By the first word.
  by_word : (x : ℕ) → get_or u 0 0 ≡ x → whole_word u ≡ cond (eqb x 30) 30 (32 + length u)
  by_word x e = ap (λ y. cond (eqb y 30) 30 (32 + length u)) e

  alone : (E : Term) → u ≡ words P.edition.width E → PartAt u P (length u) E → Alone E
  unfolding words term_of shared_words done?
  alone Done e p = (Done_there, tt, refl, ap (λ x. x ∷ []) (sym (by_word 30 (ap (λ v. get_or v 0 0) e))))
  alone Internal e p = (Part (length u) Internal, (refl, p), refl, ap (λ x. x ∷ []) (sym (by_word 20 (ap (λ v. get_or v 0 0) e))))
  alone (Perform a) e p = (Part (length u) (Perform a), (refl, p), refl, ap (λ x. x ∷ []) (sym (by_word 21 (ap (λ v. get_or v 0 0) e))))
  alone (Sequence E F) e p = (Part (length u) (Sequence E F), (refl, p), refl, ap (λ x. x ∷ []) (sym (by_word 22 (ap (λ v. get_or v 0 0) e))))
  alone (Choice E F) e p = (Part (length u) (Choice E F), (refl, p), refl, ap (λ x. x ∷ []) (sym (by_word 23 (ap (λ v. get_or v 0 0) e))))
  alone (Star E) e p = (Part (length u) (Star E), (refl, p), refl, ap (λ x. x ∷ []) (sym (by_word 24 (ap (λ v. get_or v 0 0) e))))
  alone (Parallel Δ E F) e p = (Part (length u) (Parallel Δ E F), (refl, p), refl, ap (λ x. x ∷ []) (sym (by_word 25 (ap (λ v. get_or v 0 0) e))))
  alone (Guard C E) e p = (Part (length u) (Guard C E), (refl, p), refl, ap (λ x. x ∷ []) (sym (by_word 26 (ap (λ v. get_or v 0 0) e))))

-- Any running term without masks is held in one word over its own words.
held_alone : (R : RuleSet) → Form R → (T : List ℕ) → Declares T R → (E : Term) → Running R E → Unmasked E → (u d : List ℕ) → u ≡ words R.edition.width E → (word : ℕ) → word ≡ whole_word u → take 1 d ≡ word ∷ [] → SharedOver u R E 1 d
held_alone R form T says E running unmasked u d e word is_word first =
    let P = guard_scope (attributes R) 0 in
    let all = last_all (length u) u (omega arith) in
    let q = alone u P E e (record { rest = []; within = omega arith; there = (whole R form T says E running _ (all ∙ e)).there; unmasked = unmasked }) in
    record {
      shared = q.0;
      stands = q.1;
      is_term = q.2;
      size_is = sym (ap length q.3);
      words_are = first ∙ ap (λ x. x ∷ []) is_word ∙ sym q.3;
    }

-- ── spelled out ──

-- The place after the words written; 0 where there was no room.
abbrev end_of : Option Extent → ℕ
end_of None = 0
end_of (Some x) = x.end

end_is : (x : Option Extent) (left n : ℕ) → numbers x ≡ Some (spelled_to left n) → end_of x ≡ n
end_is None left n e = absurd (none-some _ e)
end_is (Some x) left n e = ap (λ (y : SpelledTo). y.end) (same_Some (spelled_to x.left x.end) (spelled_to left n) e)

expanded_so : (u : List ℕ) (R : RuleSet) (E : Term) (n : ℕ) (d f mid mid' : List ℕ) (x : Option Extent) → SharedOver u R E n d → f ≡ take n d → Expanded f u 0 mid mid' (numbers x) → length (words R.edition.width E) ≤ length mid
    → Spelled R E (end_of x) mid'
expanded_so u R E n d f mid mid' x h ef expanded room =
    let S = h.shared in
    let o : List ℕ = words R.edition.width E in
    let eo : words R.edition.width (term_of S) ≡ o = ap (words R.edition.width) h.is_term in
    let z = expanded.right (guard_scope (attributes R) 0) S [] (ef ∙ h.words_are ∙ sym (append-nil (shared_words S))) h.stands (omega (arith, ap length eo)) in
    let size_is : end_of x ≡ length o = omega (arith, end_is x _ _ z.answered, ap length eo) in
    record {
      size_is = size_is;
      spelled = ap (take (end_of x)) (z.written ∙ ap (λ v. put_at 0 v mid) eo) ∙ take_at o (drop (0 + length o) mid) (end_of x) (sym size_is);
    }

-- ── the returns ──

module _ {list t D : List ℕ} {w functions c reach : ℕ} {u d M : List ℕ} {paths acts middle : ℕ} {term memory by term' memory' by' : List ℕ} where
  -- Never without room for a word.
  pub mask_free_none : {r : Totals} → length d ≡ 0 → RunsMaskFree list t D w functions c reach u d M paths acts middle term memory by r term' memory' by'
  mask_free_none h R T at room eu unmasked spare =
      absurd (let z : ⊥ = omega (arith, room.words_room, at.reach_is, main_size R at.well, spelled_length R at.well (unfold_main R) (main_there R at.well), size_pos R.edition.width (unfold_main R)) in z)

module _ (course : Course) (u : Bor (List ℕ)) (a : Scratch) {d M term memory by term' memory' by' : List ℕ} where
  pub mask_free_run : (x : Option Extent) {d₁ d₂ M₂ out out' f mid₁ mid₂ : List ℕ} {word size low : ℕ} {tally : Tally} → word ≡ whole_word u.now → take 1 d₁ ≡ word ∷ [] → length d₁ ≡ length d
      → Runs course (Over u) 1 d₁ M out a by d₂ M₂ out' by' tally → f ≡ take tally.size d₂ → Expanded f u.now 0 mid₁ mid₂ (numbers x) → size ≡ end_of x → length mid₁ ≡ length a.mid.now
      → Finished mid₂ size course.reach M₂ course.rules.functions.cells term memory term' memory' → low ≡ size % 4294967296
      → CourseMaskFree course u.now d M (length a.path.now) (length a.acts.now) (length a.mid.now) term memory by (record { size = low; visible = tally.visible; internal = tally.internal; refused = tally.refused }) term' memory' by'
  unfolding memory_run
  mask_free_run x {d₁} {d₂} {M₂} {out} {out'} {f} {mid₁} {mid₂} {word} {size} {low} {tally} is_word first same runs ef expanded is_size same_middle done el R T at room eu unmasked spare =
      let list = course.list.now in
      let well = at.well in
      let er = at.reach_is in
      let ec = at.ruled.cells_are in
      let e : Ended (SharedOver u.now) R (memory_run (attributes R) (unfold_main R) (numbers_in list)) d₂ M₂ tally × CountedBy by (readers_in list) (outcomes (system (Sem_M (attributes R))) (start R well) (numbers_in list)) by' × WordsOnly out out' =
      runs course.reach (record { words_room = omega (arith, room.words_room); middle_room = room.middle_room; path_room = room.path_room; numbers_room = room.numbers_room }) R T at.ruled (start R well)
      (record { running = main_there R well; held = held_alone R well.form T at.ruled.directory.declares (unfold_main R) (main_there R well) unmasked u.now d₁ eu word is_word first; stored = at.stored })
      (omega (arith, er)) in
      let last_term : Term = (memory_run (attributes R) (unfold_main R) (numbers_in list)).state.term in
      let spelled : Spelled R last_term size mid₂ =
      subst (λ n. Spelled R last_term n mid₂) (sym is_size) (expanded_so u.now R last_term tally.size d₂ f mid₁ mid₂ x e.0.after.held ef expanded (omega (arith, run_fits R well (numbers_in list) e.0.after.running, er, room.middle_room))) in
      main_ended R well list e.0 spelled ec er (omega (arith, room.middle_room, expanded.same_length)) (omega (arith, ec, e.0.after.stored.room)) at.term_room at.memory_room done el
      (words_kept spare spare refl) e.1
