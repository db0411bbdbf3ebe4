-- A case for each way that a move of a term in its own words returns (document 01, "Moves, in order"; "Operations": Run).
use mathlib.Core.Path.{◌≡◌, refl, sym, ap, ◌∙◌, subst}
use mathlib.Core.List.{List}
use mathlib.Core.Option.{Option as Maybe, none, some}
use Rattle.std.specs.Prelude.{Option, None, Some}
use Rattle.std.proofs.lemmas.Option.{none-some, same_Some}
use Prim.Native.Nat.{ℕ, ◌≤◌}
use native.Mathlib.Omega.{arith}
use lib.ListN.{length, take, get_elem?}
use Rattle.eb3.specs.Scopes.{Scope}
use Rattle.eb3.specs.Terms.{Term}
use Rattle.eb3.specs.Moves.{Move, moves}
use Rattle.eb3.specs.RuleSets.{RuleSet, attributes}
use Rattle.eb3.specs.Sizes.{size, reach}
use Rattle.eb3.proofs.Laws.Sizes.{size_below_reach}
use Rattle.eb3.specs.Spelling.{words}
use Rattle.eb3.proofs.Laws.Operations.{spelling_small}
use Rattle.eb3.specs.Bytes.{written}
use Rattle.eb3.specs.Semantics.{Sem_M, Situation}
use Rattle.actions.specs.Codes.{action_code}
use Rattle.listing.specs.Listing.{holding}
use Rattle.cells.specs.Preparing.{Loaded}
use Rattle.cells.specs.Laws.Memory.{written_loaded}
use Rattle.steps.specs.Counting.{Whole}
use Rattle.steps.specs.Taking.{taken_as, built_over, SuccessorFits, Took}
use Rattle.steps.specs.Storing.{Ruled}
use Rattle.steps.specs.Laws.Judging.{whole}
use Rattle.steps.specs.declared.moving.Taken.{Taken}
use Rattle.runs.specs.Scratch.{WordsOnly}
use Rattle.runs.specs.Laws.Scratch.{words_kept, words_written}
use Rattle.derivation.specs.declared.scratch.Scratch.{Scratch}
use Rattle.runs.specs.Running.{Spelled, Situated, Roomy}
use Rattle.runs.specs.Held.{MovedTo, TakesMove}
use Rattle.runs.specs.declared.held.Held.TheVariants.{InFull}
use Rattle.runs.proofs.Replies.{next_running, next_length}

-- ── a move sought in the term's words ──

-- Only an offered move is made,
some_made : (w : ℕ) (o : Maybe Move) (m : Taken) → Some m ≡ taken_as w o → (x : Move) × (o ≡ some x) × (m.action ≡ action_code x.action) × (m.size ≡ length (words w x.successor))
unfolding taken_as
some_made w none m e = absurd (none-some m (sym e))
some_made w (some x) m e = let q = same_Some m _ e in (x, refl, ap (λ (y : Taken). y.action) q, ap (λ (y : Taken). y.size) q)

-- and only where there is none, none.
none_made : (w : ℕ) (o : Maybe Move) → None ≡ taken_as w o → o ≡ none
unfolding taken_as
none_made w none e = refl
none_made w (some x) e = absurd (none-some _ e)

-- What taking a move says, of the words f and a lent array for its path.
abbrev pub TakenFrom : (f M : List ℕ) (k : ℕ) (path out out' : List ℕ) (r : Option Taken) → Type 0
TakenFrom f M k path out out' r = (P : Scope) (E : Term) → Whole f P E → size P.edition.width E ≤ length path → SuccessorFits P.edition.width (get_elem? (moves (holding M) E) k) out
    → Took P.edition.width (get_elem? (moves (holding M) E) k) out out' r

module _ (t D : List ℕ) (w functions c n k : ℕ) (ws M out path : List ℕ) (bound : ℕ) (room : Roomy bound ws out path) (R : RuleSet) (T : List ℕ) (ruled : Ruled R t T D w functions c)
    (s : Situation (Sem_M (attributes R))) (at : Situated Spelled R s n ws M) (reaches : reach R.edition.width s.term ≤ bound) where
  abbrev offered : Maybe Move
  offered = get_elem? (moves (holding M) s.term) k

  next_fits : (x : Move) → offered ≡ some x → length (words R.edition.width x.successor) ≤ bound
  next_fits x e = omega (arith, next_length t D w functions c n k ws M R T ruled s at x e)

  fits_in : (o : Maybe Move) → offered ≡ o → SuccessorFits R.edition.width o out
  fits_in none e = tt
  fits_in (some x) e = omega (arith, next_fits x e, room.bytes_room)

  took : (f out' : List ℕ) (r : Option Taken) → f ≡ take n ws → TakenFrom f M k path out out' r → Took R.edition.width offered out out' r
  took f out' r front sought = sought _ s.term (whole R ruled.form T ruled.directory.declares s.term at.running f (front ∙ at.held.spelled))
      (omega (arith, size_below_reach R.edition.width s.term, room.path_room)) (fits_in offered refl)

  -- The successor's words are loaded.
  next_spelled : (x : Move) → offered ≡ some x → (out' ws' : List ℕ) → out' ≡ written (words R.edition.width x.successor) out → (size' : ℕ) → size' ≡ length (words R.edition.width x.successor) → Loaded out' ws ws' 0 size'
      → Spelled R x.successor size' ws'
  next_spelled x e out' ws' buffer size' l loaded = record {
    size_is = l;
    spelled = written_loaded (words R.edition.width x.successor) out ws ws' size' l
        (spelling_small R ruled.form x.successor (next_running t D w functions c n k ws M R T ruled s at x e).form)
        (omega (arith, next_fits x e, room.words_room)) (subst (λ B. Loaded B ws ws' 0 size') buffer loaded);
  }

  full_none : (out' : List ℕ) → Took R.edition.width offered out out' None → MovedTo Spelled R s.term n ws offered None × WordsOnly out out'
  unfolding built_over
  full_none out' h =
      let e : offered ≡ none = none_made R.edition.width offered h.answer in
      (subst (λ o. MovedTo Spelled R s.term n ws o None) (sym e) (refl, at.held), words_kept out out' (h.buffer ∙ ap (λ o. built_over R.edition.width o out) e))

  full_some : (out' ws' : List ℕ) (m : Taken) → Took R.edition.width offered out out' (Some m) → Loaded out' ws ws' 0 m.size → MovedTo Spelled R s.term n ws' offered (Some m) × WordsOnly out out'
  unfolding built_over
  full_some out' ws' m h loaded =
      let p = some_made R.edition.width offered m h.answer in
      let x : Move = p.0 in
      let buffer : out' ≡ written (words R.edition.width x.successor) out = h.buffer ∙ ap (λ o. built_over R.edition.width o out) p.1 in (
        subst (λ o. MovedTo Spelled R s.term n ws' o (Some m)) (sym p.1) (m, refl, p.2, next_spelled x p.1 out' ws' buffer m.size p.3 loaded),
        words_written (words R.edition.width x.successor) out out' (omega (arith, next_fits x p.1, room.bytes_room)) buffer,
      )

-- ── the two returns ──

module _ (k : ℕ) (a : Scratch) {n : ℕ} {ws M out out' f : List ℕ} (front : f ≡ take n ws) where
  pub moved_full_none : {d : Option Taken} → TakenFrom f M k a.path.now out out' None → d ≡ None → TakesMove InFull n k ws M out a ws out' d
  moved_full_none {d} sought e bound room t D w functions c R T ruled s at reaches =
      subst (λ d. MovedTo Spelled R s.term n ws (get_elem? (moves (holding M) s.term) k) d × WordsOnly out out') (sym e)
      (full_none t D w functions c n k ws M out a.path.now bound room R T ruled s at reaches out'
      (took t D w functions c n k ws M out a.path.now bound room R T ruled s at reaches f out' _ front sought))

  pub moved_full : {ws' : List ℕ} {m : Taken} → TakenFrom f M k a.path.now out out' (Some m) → Loaded out' ws ws' 0 m.size → TakesMove InFull n k ws M out a ws' out' (Some m)
  moved_full {ws'} {m} sought loaded bound room t D w functions c R T ruled s at reaches =
      full_some t D w functions c n k ws M out a.path.now bound room R T ruled s at reaches out' ws' m
      (took t D w functions c n k ws M out a.path.now bound room R T ruled s at reaches f out' _ front sought) loaded
