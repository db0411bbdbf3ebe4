-- The loop over the numbers: after i of them, the term, the cells and the counts are those of the machine run by the first i (document 01, "Memory and
-- the history machine", the three counts; "Operations": Run: numbers not offered are counted and passed over; document 02, K1: counted at their readers).
use mathlib.Core.Path.{◌≡◌, refl, sym, ap, ◌∙◌, subst}
use mathlib.Core.List.{List, [], ◌∷◌, ◌++◌}
use Prim.Native.Nat.{ℕ, suc, ◌+◌, ◌*◌, ◌/◌, ◌%◌, ◌≤◌, ◌<◌}
use native.Mathlib.Omega.{arith}
use lib.ListN.{length, take, get_or}
use lib.Seq.{take-suc, take_all, length-take-le}
use Rattle.std.specs.Prelude.{Option, None, Some}
use Rattle.eb3.specs.RuleSets.{RuleSet, attributes}
use Rattle.eb3.proofs.Laws.Sizes.{run_reach}
use Rattle.eb3.specs.Bytes.{words_in}
use Rattle.eb3.proofs.Laws.Bytes.{words_counted}
use Rattle.eb3.specs.Readers.{numbers_in, readers_in}
use Rattle.eb3.proofs.Laws.Readers.{numbers_length, readers_length, numbers_at, readers_at}
use Rattle.eb3.specs.Semantics.{Sem_M, Situation, system}
use Rattle.eb3.specs.Machines.{Machine}
use Rattle.eb3.specs.TransitionSystems.{TransitionSystem, Configuration, Outcome, took_visible, took_internal, refused, initial, count, reply, step, run, outcomes}
use Rattle.eb3.proofs.Laws.TransitionSystems.{outcomes_length, outcomes_append}
use Rattle.readers.specs.Table.{place_of, one_more, outcome_place, counted_by}
use Rattle.readers.specs.declared.Outcome.{Outcome as Counted}
use Rattle.readers.proofs.Laws.Counting.{counted_next}
use Rattle.runs.specs.Scratch.{WordsOnly}
use Rattle.runs.specs.Laws.Scratch.{words_kept, words_then}
use Rattle.derivation.specs.Arrays.{SameArrays}
use Rattle.derivation.specs.declared.scratch.Scratch.{Scratch}
use Rattle.runs.specs.Running.{Holding, Situated, done_as, outcome_of, Once, Steps, counted, Ended, RunsBy}
use Rattle.runs.specs.Held.{holding_of, RoomFor, StepsOnce, Runs}
use Rattle.runs.specs.declared.admitted.Course.{Course}
use Rattle.runs.specs.declared.held.Held.{Held}
use Rattle.runs.specs.declared.held.Held.TheVariants.{InFull, Over}
use Rattle.runs.specs.declared.Done.{Done}
use Rattle.runs.specs.declared.Done.TheVariants.{Visible, Internal}
use Rattle.runs.specs.declared.Tally.{Tally}

-- ── one number more ──

run_more : (L : TransitionSystem) (h : Configuration L) (ks : List ℕ) (k : ℕ) → run L h (ks ++ (k ∷ [])) ≡ step L (run L h ks) k
unfolding run
run_more L h [] k = refl
run_more L h (j ∷ ks) k = run_more L (step L h j) ks k

one_outcome : (L : TransitionSystem) (s : L.State) (k : ℕ) → outcomes L s (k ∷ []) ≡ (reply L s k).0 ∷ []
unfolding outcomes
one_outcome L s k = refl

placed : (o : Outcome) (n : ℕ) → place_of (outcome_of (done_as o n)) ≡ outcome_place o
unfolding done_as
placed took_visible n = refl
placed took_internal n = refl
placed refused n = refl

-- Every number counts once.
abbrev pub total : Tally → ℕ
total r = r.visible + r.internal + r.refused

pub counted_once : (r : Tally) (d : Option Done) → total (counted r d) ≡ total r + 1
counted_once r (Some (Visible n)) = omega arith
counted_once r (Some (Internal n)) = omega arith
counted_once r None = omega arith

-- ── number i of a list, and its reader ──

module _ (list : List ℕ) (i : ℕ) (less : i < length list / 4) where
  here : 2 * i + 1 < length (words_in list)
  here = omega (arith, words_counted list, less)

  numbers_here : i < length (numbers_in list)
  numbers_here = omega (arith, numbers_length (words_in list), here)

  readers_here : i < length (readers_in list)
  readers_here = omega (arith, readers_length (words_in list), here)

  next : i + 1 ≡ suc i
  next = omega arith

  numbers_next : (k : ℕ) → k ≡ get_or (words_in list) (2 * i) 0 → take (i + 1) (numbers_in list) ≡ take i (numbers_in list) ++ (k ∷ [])
  numbers_next k e = ap (λ j. take j (numbers_in list)) next ∙ take-suc (numbers_in list) i 0 numbers_here ∙ ap (λ x. take i (numbers_in list) ++ (x ∷ [])) (numbers_at (words_in list) i here ∙ sym e)

  readers_next : (x : ℕ) → x ≡ get_or (words_in list) (2 * i + 1) 0 → take (i + 1) (readers_in list) ≡ take i (readers_in list) ++ (x ∷ [])
  readers_next x e = ap (λ j. take j (readers_in list)) next ∙ take-suc (readers_in list) i 0 readers_here ∙ ap (λ y. take i (readers_in list) ++ (y ∷ [])) (readers_at (words_in list) i here ∙ sym e)

  -- As many readers as outcomes.
  as_many : (L : TransitionSystem) (s : L.State) → length (take i (readers_in list)) ≡ length (outcomes L s (take i (numbers_in list)))
  as_many L s =
      length-take-le i (readers_in list) (omega (arith, readers_here)) ∙ sym (outcomes_length L s (take i (numbers_in list)) ∙ length-take-le i (numbers_in list) (omega (arith, numbers_here)))

-- However the term is held.
module _ (H : Holding) where
  module _ (R : RuleSet) where
    abbrev L : TransitionSystem
    L = system (Sem_M (attributes R))

    -- The counts of the machine go on as those of the tally, and its term's size is the one returned.
    counted_so : (h : Machine (Sem_M (attributes R))) (ws M ws' M' : List ℕ) (r : Tally) (o : Outcome) (z : Situation (Sem_M (attributes R))) (size : ℕ) → Ended H R h ws M r
        → (o ≡ refused → size ≡ r.size) → Situated H R z size ws' M' → Ended H R (count L h o z) ws' M' (counted r (done_as o size))
    unfolding done_as
    counted_so h ws M ws' M' r took_visible z size e same at = record {
      visible_is = omega (arith, e.visible_is);
      internal_is = e.internal_is;
      refused_is = e.refused_is;
      after = at;
    }
    counted_so h ws M ws' M' r took_internal z size e same at = record {
      visible_is = e.visible_is;
      internal_is = omega (arith, e.internal_is);
      refused_is = e.refused_is;
      after = at;
    }
    counted_so h ws M ws' M' r refused z size e same at = record {
      visible_is = e.visible_is;
      internal_is = e.internal_is;
      refused_is = omega (arith, e.refused_is);
      after = subst (λ n. Situated H R z n ws' M') (same refl) at;
    }

    ended_next : (h : Machine (Sem_M (attributes R))) (k : ℕ) (ws M ws' M' : List ℕ) (r : Tally) (d : Option Done) → Ended H R h ws M r → Once H R h.state r.size k ws' M' d
        → Ended H R (step L h k) ws' M' (counted r d)
    unfolding step
    ended_next h k ws M ws' M' r d e o =
        subst (λ q. Ended H R (step L h k) ws' M' (counted r q)) (sym o.answer)
        (counted_so h ws M ws' M' r (reply L h.state k).0 (reply L h.state k).1 o.size e o.kept o.after)

  -- ── the loop: after i numbers of the list, each with its reader ──

  module _ (bound : ℕ) (list : List ℕ) {t D : List ℕ} {w functions c n : ℕ} {ws M by : List ℕ} where
    pub by_start : {Z : Type 0} → Z → RunsBy H bound Z (take 0 (numbers_in list)) (take 0 (readers_in list)) t D w functions c n ws M by ws M by (record { size = n; visible = 0; internal = 0; refused = 0 })
    unfolding run outcomes counted_by
    by_start z R T ruled s at room = (record { visible_is = refl; internal_is = refl; refused_is = refl; after = at }, record { counted_so = refl }, z)

    pub by_next : (i : ℕ) {Z Z₁ Z₂ : Type 0} {k x q : ℕ} {ws₁ M₁ by₁ ws₂ M₂ by₂ : List ℕ} {r r' : Tally} {d : Option Done} {a : Counted} → i < length list / 4 → (Z → Z₁ → Z₂)
        → RunsBy H bound Z (take i (numbers_in list)) (take i (readers_in list)) t D w functions c n ws M by ws₁ M₁ by₁ r → k ≡ get_or (words_in list) (2 * i) 0 → Steps H bound Z₁ t D w functions c r.size k ws₁ M₁ ws₂ M₂ d
        → r' ≡ counted r d → x ≡ get_or (words_in list) (2 * i + 1) 0 → q ≡ (x + 31) % 32 → a ≡ outcome_of d → by₂ ≡ one_more by₁ q (place_of a)
        → RunsBy H bound Z₂ (take (i + 1) (numbers_in list)) (take (i + 1) (readers_in list)) t D w functions c n ws M by ws₂ M₂ by₂ r'
    by_next i {k = k} {x} {q} {ws₁} {M₁} {by₁} {ws₂} {M₂} {by₂} {r} {r'} {d} {a} less both go number once counting reader place_is done_is one R T ruled s at room =
        let L = system (Sem_M (attributes R)) in
        let ks = numbers_in list in
        let rs = readers_in list in
        let h = run L (initial L s) (take i ks) in
        let e = go R T ruled s at room in
        let reached = run_reach R.edition.width (Sem_M (attributes R)) (initial L s) (take i ks) in
        let o = once R T ruled h.state e.0.after (omega (arith, reached)) in
        let did : Outcome = (reply L h.state k).0 in
        let more : run L (initial L s) (take (i + 1) ks) ≡ step L h k = ap (run L (initial L s)) (numbers_next list i less k number) ∙ run_more L (initial L s) (take i ks) k in
        let outcomes_more : outcomes L s (take (i + 1) ks) ≡ outcomes L s (take i ks) ++ (did ∷ []) =
        ap (outcomes L s) (numbers_next list i less k number) ∙ outcomes_append L (initial L s) (take i ks) (k ∷ []) ∙ ap (λ os. outcomes L s (take i ks) ++ os) (one_outcome L h.state k) in
        let place : place_of a ≡ outcome_place did = ap place_of done_is ∙ ap (λ x. place_of (outcome_of x)) o.0.answer ∙ placed did o.0.size in
        let counted_is : by₂ ≡ counted_by by (take (i + 1) rs) (outcomes L s (take (i + 1) ks)) =
        one ∙ (λ j. one_more (e.1.counted_so j) (place_is j) (place j)) ∙ sym (counted_next by (take i rs) (outcomes L s (take i ks)) x did (as_many list i less L s))
        ∙ (λ j. counted_by by (sym (readers_next list i less x reader) j) (sym outcomes_more j)) in (
          subst (λ (m : Machine (Sem_M (attributes R))). Ended H R m ws₂ M₂ r') (sym more) (subst (Ended H R (step L h k) ws₂ M₂) (sym counting) (ended_next R h k ws₁ M₁ ws₂ M₂ r d e.0 o.0)),
          record { counted_so = counted_is },
          both e.2 o.1,
        )

    pub by_end : (i : ℕ) {Z : Type 0} {ws' M' by' : List ℕ} {r : Tally} → length list / 4 ≤ i → RunsBy H bound Z (take i (numbers_in list)) (take i (readers_in list)) t D w functions c n ws M by ws' M' by' r
        → RunsBy H bound Z (numbers_in list) (readers_in list) t D w functions c n ws M by ws' M' by' r
    by_end i {Z} {ws'} {M'} {by'} {r} h go =
        let all : take i (numbers_in list) ≡ numbers_in list = take_all i (numbers_in list) (omega (arith, numbers_length (words_in list), words_counted list, h)) in
        let all' : take i (readers_in list) ≡ readers_in list = take_all i (readers_in list) (omega (arith, readers_length (words_in list), words_counted list, h)) in
        subst (λ vs. RunsBy H bound Z (numbers_in list) vs t D w functions c n ws M by ws' M' by' r) all'
        (subst (λ us. RunsBy H bound Z us (take i (readers_in list)) t D w functions c n ws M by ws' M' by' r) all go)

-- ── held in one of the two ways ──

abbrev pub RunningTo : (course : Course) (h : Held) (n : ℕ) (ws M out : List ℕ) (a : Scratch) (by : List ℕ) (i : ℕ) (ws' M' out' by' : List ℕ) (r : Tally) → Type 0
RunningTo course h n ws M out a by i ws' M' out' by' r =
    let F = course.rules.functions in
    let list = course.list.now in
    (bound : ℕ) → RoomFor h bound ws out a
    → RunsBy (holding_of h) bound (WordsOnly out out') (take i (numbers_in list)) (take i (readers_in list)) F.words.now F.directory.now F.width F.count F.cells n ws M by ws' M' by' r

-- Arrays as long have as much room.
room_stays : (h : Held) (bound : ℕ) (ws out ws' out' : List ℕ) (a a' : Scratch) → length ws' ≡ length ws → length out' ≡ length out → SameArrays a a' → RoomFor h bound ws out a → RoomFor h bound ws' out' a'
room_stays InFull bound ws out ws' out' a a' same same_out arrays room =
    record { words_room = omega (arith, room.words_room); bytes_room = omega (arith, room.bytes_room); path_room = omega (arith, room.path_room, arrays.path_length) }
room_stays (Over u) bound ws out ws' out' a a' same same_out arrays room = record {
  words_room = omega (arith, room.words_room);
  middle_room = omega (arith, room.middle_room, arrays.mid_length);
  path_room = omega (arith, room.path_room, arrays.path_length);
  numbers_room = omega (arith, room.numbers_room, arrays.acts_length);
}

module _ (course : Course) (h : Held) (a : Scratch) {n : ℕ} {ws M out by : List ℕ} where
  run_start_of_zeros : RunningTo course h n ws M out a by 0 ws M out by (record { size = n; visible = 0; internal = 0; refused = 0 })
  run_start_of_zeros bound room = by_start (holding_of h) bound course.list.now (words_kept out out refl)

  -- A tally that begins with the default, whose fields are 0.
  pub run_start : (z : Tally) → (z.size ≡ 0) × ((z.visible ≡ 0) × ((z.internal ≡ 0) × (z.refused ≡ 0))) → RunningTo course h n ws M out a by 0 ws M out by (record { size = n; visible = z.visible; internal = z.internal; refused = z.refused })
  run_start z e = subst (λ (r : Tally). RunningTo course h n ws M out a by 0 ws M out by r) (λ i. record { size = n; visible = (sym (e.1.0)) i; internal = (sym (e.1.1.0)) i; refused = (sym (e.1.1.1)) i }) run_start_of_zeros

  pub run_next : (i : ℕ) {k x q : ℕ} {ws₁ M₁ out₁ : List ℕ} {a₁ : Scratch} {by₁ ws₂ M₂ out₂ by₂ : List ℕ} {r r' : Tally} {d : Option Done} {o : Counted} → i < length course.list.now / 4 → length ws₁ ≡ length ws → length out₁ ≡ length out → SameArrays a a₁
      → RunningTo course h n ws M out a by i ws₁ M₁ out₁ by₁ r → k ≡ get_or (words_in course.list.now) (2 * i) 0 → StepsOnce course.rules.functions h r.size k ws₁ M₁ out₁ a₁ ws₂ M₂ out₂ d
      → r' ≡ counted r d → x ≡ get_or (words_in course.list.now) (2 * i + 1) 0 → q ≡ (x + 31) % 32 → o ≡ outcome_of d → by₂ ≡ one_more by₁ q (place_of o)
      → RunningTo course h n ws M out a by (i + 1) ws₂ M₂ out₂ by₂ r'
  run_next i {out₁ = out₁} {out₂ = out₂} less same same_out arrays go number once counting reader place_is done_is one bound room =
      by_next (holding_of h) bound course.list.now i less (words_then out out₁ out₂) (go bound room) number (once bound (room_stays h bound _ _ _ _ a _ same same_out arrays room)) counting reader place_is done_is one

  pub run_end : (i : ℕ) {ws' M' out' by' : List ℕ} {r : Tally} → length course.list.now / 4 ≤ i → RunningTo course h n ws M out a by i ws' M' out' by' r
      → Runs course h n ws M out a by ws' M' out' by' r
  run_end i e go bound room = by_end (holding_of h) bound course.list.now i e (go bound room)
