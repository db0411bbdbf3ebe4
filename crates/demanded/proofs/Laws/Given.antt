-- What is given and the room there is, decided (document 01, "Operations", refusals 9 to 11); and how the operations read and write, in the terms of Demanded.
use Rattle.std.specs.Prelude.{◌≡◌, refl, Bool, true, false, ◌&&◌, List, [], ◌∷◌, ◌++◌, map, ◌⊎◌, ℕ, ◌*◌, ◌/◌, ◌%◌, ◌≤◌, T, eqb, leb, length, drop}
use Rattle.std.proofs.Common.{ap, sym, ◌∙◌, inl, inr, eqb→eq, leb→le, le→leb}
use Rattle.std.proofs.Math.Option.{Option, none, some, none-ne-some}
use Rattle.eb3.specs.Generic.Lists.{concat_map}
use Rattle.eb3.specs.Generic.Booleans.{T_and, T_fst, T_snd}
use Rattle.eb3.specs.Values.{Value, undefined, number, encode}
use Rattle.eb3.specs.Terms.{Term, Action}
use Rattle.eb3.specs.Sizes.{reach}
use Rattle.eb3.specs.RuleSets.{RuleSet}
use Rattle.eb3.specs.WellFormedness.{Form}
use Rattle.eb3.specs.TermReading.{given_term, given_event}
use Rattle.eb3.proofs.Laws.TermReading.{given_term_exact, given_event_exact}
use Rattle.eb3.specs.Reading.{pick}
use Rattle.eb3.proofs.Laws.Reading.{pick_true}
use Rattle.eb3.specs.Bytes.{words_in, bytes_of, written}
use Rattle.eb3.specs.Memory.{memory_words}
use Rattle.eb3.specs.Answers.{refused, answered}
use Rattle.eb3.specs.Operations.{even, term_in, event_in, term_fits, memory_fits, main_reach}
use Rattle.eb3.specs.Answers.{or_refused}
use Rattle.eb3.proofs.Laws.Files.{eq→eqb}
use Rattle.demanded.specs.Admitting.{G}
use Rattle.demanded.specs.Demanded.{overwritten, word_of, C, GivenTerm, GivenEvent, Room, MoveRoom, RunRoom}

-- ── buffers ──

bytes_are : (ws : List ℕ) → bytes_of ws ≡ concat_map (λ w. w % 256 ∷ w / 256 % 256 ∷ []) ws
unfolding bytes_of
bytes_are [] = refl
bytes_are (w ∷ ws) = ap (λ s. w % 256 ∷ w / 256 % 256 ∷ s) (bytes_are ws)

pub written_is : (ws s : List ℕ) → written ws s ≡ overwritten ws s
unfolding written
written_is ws s = ap (λ b. b ++ drop (2 * length ws) s) (bytes_are ws)

pub memory_is : (M : List Value) → memory_words M ≡ map word_of M
unfolding memory_words encode
memory_is [] = refl
memory_is (undefined ∷ M) = ap (λ s. 65535 ∷ s) (memory_is M)
memory_is (number n ∷ M) = ap (λ s. n ∷ s) (memory_is M)

pub cells_written : (M : List Value) (s : List ℕ) → written (memory_words M) s ≡ overwritten (map word_of M) s
cells_written M s = ap (λ ws. written ws s) (memory_is M) ∙ written_is (map word_of M) s

-- ── room ──

pub not_true : (b : Bool) → (T b → ⊥) → b ≡ false
not_true true h = absurd (h tt)
not_true false h = refl

pub decided : (P : Type 0) (b : Bool) → (T b → P) → (P → T b) → P ⊎ (P → ⊥)
decided P true f g = inl (f tt)
decided P false f g = inr g

pub room? : (n : ℕ) (s : List ℕ) → Room n s ⊎ (Room n s → ⊥)
room? n s = decided (Room n s) (leb n (length s / 2)) (leb→le n (length s / 2)) (le→leb n (length s / 2))

module _ (R : RuleSet) where
  abbrev start_fits : List ℕ → List ℕ → Bool
  start_fits term memory = term_fits (main_reach R) term && memory_fits R memory

  pub start_in_room : (term memory : List ℕ) → T (start_fits term memory) → Room (G R) term × Room (C R) memory
  start_in_room term memory t =
      (leb→le (G R) (length term / 2) (T_fst (term_fits (main_reach R) term) (memory_fits R memory) t), leb→le (C R) (length memory / 2) (T_snd (term_fits (main_reach R) term) (memory_fits R memory) t))

  pub start_room : (term memory : List ℕ) → Room (G R) term → Room (C R) memory → T (start_fits term memory)
  start_room term memory r s = T_and (term_fits (main_reach R) term) (memory_fits R memory) (le→leb (G R) (length term / 2) r) (le→leb (C R) (length memory / 2) s)

  module _ (E : Term) (memory next_term next_memory : List ℕ) where
    abbrev move_fits : Bool
    move_fits = term_fits (reach R.edition.width E) next_term && (memory_fits R memory && memory_fits R next_memory)

    pub move_in_room : T move_fits → MoveRoom R E memory next_term next_memory
    move_in_room t =
        let u = T_snd (term_fits (reach R.edition.width E) next_term) (memory_fits R memory && memory_fits R next_memory) t in
        record {
          term_room = leb→le (reach R.edition.width E) (length next_term / 2) (T_fst (term_fits (reach R.edition.width E) next_term) (memory_fits R memory && memory_fits R next_memory) t);
          given_room = leb→le (C R) (length memory / 2) (T_fst (memory_fits R memory) (memory_fits R next_memory) u);
          memory_room = leb→le (C R) (length next_memory / 2) (T_snd (memory_fits R memory) (memory_fits R next_memory) u);
        }

    pub move_room : MoveRoom R E memory next_term next_memory → T move_fits
    move_room r =
        T_and (term_fits (reach R.edition.width E) next_term) (memory_fits R memory && memory_fits R next_memory) (le→leb (reach R.edition.width E) (length next_term / 2) r.term_room)
        (T_and (memory_fits R memory) (memory_fits R next_memory) (le→leb (C R) (length memory / 2) r.given_room) (le→leb (C R) (length next_memory / 2) r.memory_room))

    pub move_room? : MoveRoom R E memory next_term next_memory ⊎ (MoveRoom R E memory next_term next_memory → ⊥)
    move_room? = decided (MoveRoom R E memory next_term next_memory) move_fits move_in_room move_room

  module _ (term memory spare_term spare_memory : List ℕ) where
    abbrev run_fits : Bool
    run_fits = start_fits term memory && start_fits spare_term spare_memory

    pub run_in_room : T run_fits → RunRoom R term memory spare_term spare_memory
    run_in_room t =
        let a = start_in_room term memory (T_fst (start_fits term memory) (start_fits spare_term spare_memory) t) in
        let b = start_in_room spare_term spare_memory (T_snd (start_fits term memory) (start_fits spare_term spare_memory) t) in
        record { term_room = a.0; memory_room = a.1; spare_term_room = b.0; spare_memory_room = b.1 }

    pub run_room : RunRoom R term memory spare_term spare_memory → T run_fits
    run_room r = T_and (start_fits term memory) (start_fits spare_term spare_memory) (start_room term memory r.term_room r.memory_room) (start_room spare_term spare_memory r.spare_term_room r.spare_memory_room)

    pub run_room? : RunRoom R term memory spare_term spare_memory ⊎ (RunRoom R term memory spare_term spare_memory → ⊥)
    run_room? = decided (RunRoom R term memory spare_term spare_memory) run_fits run_in_room run_room

-- ── terms and events ──

module _ (R : RuleSet) (good : Form R) where
  wide : 1 ≤ R.edition.width
  wide = good.proper.constants.0

  pub term? : (term : List ℕ) → ((E : Term) × GivenTerm R term E) ⊎ ((E : Term) → GivenTerm R term E → ⊥)
  term? term = go (eqb (length term % 2) 0) (given_term R (words_in term)) (eqb→eq (length term % 2) 0) (eq→eqb (length term % 2) 0) refl
    where
      go : (b : Bool) (o : Option Term) → (T b → length term % 2 ≡ 0) → (length term % 2 ≡ 0 → T b) → given_term R (words_in term) ≡ o
          → ((E : Term) × GivenTerm R term E) ⊎ ((E : Term) → GivenTerm R term E → ⊥)
      go false o f g e = inr (λ E x. g x.even)
      go true none f g e = inr (λ E x. none-ne-some E (sym e ∙ (given_term_exact R wide (words_in term) E).1 (x.spelled, record { form = x.form; reach_limit = x.reach_limit; breadth_limit = x.breadth_limit })))
      go true (some E) f g e = let x = (given_term_exact R wide (words_in term) E).0 e in inl (E, record { even = f tt; spelled = x.0; form = x.1.form; reach_limit = x.1.reach_limit; breadth_limit = x.1.breadth_limit })

  pub event? : (event : List ℕ) → ((ρ : Action) × GivenEvent R event ρ) ⊎ ((ρ : Action) → GivenEvent R event ρ → ⊥)
  event? event = go (eqb (length event % 2) 0) (given_event R (words_in event)) (eqb→eq (length event % 2) 0) (eq→eqb (length event % 2) 0) refl
    where
      go : (b : Bool) (o : Option Action) → (T b → length event % 2 ≡ 0) → (length event % 2 ≡ 0 → T b) → given_event R (words_in event) ≡ o
          → ((ρ : Action) × GivenEvent R event ρ) ⊎ ((ρ : Action) → GivenEvent R event ρ → ⊥)
      go false o f g e = inr (λ ρ x. g x.even)
      go true none f g e = inr (λ ρ x. none-ne-some ρ (sym e ∙ (given_event_exact R wide (words_in event) ρ).1 (x.spelled, x.well_formed)))
      go true (some ρ) f g e = let x = (given_event_exact R wide (words_in event) ρ).0 e in inl (ρ, record { even = f tt; spelled = x.0; well_formed = x.1 })

  pub term_given : (term : List ℕ) (E : Term) → GivenTerm R term E → term_in R term ≡ answered E
  term_given term E x = pick_true _ _ (even term) (eq→eqb (length term % 2) 0 x.even) ∙ ap (or_refused 10) ((given_term_exact R wide (words_in term) E).1 (x.spelled, record { form = x.form; reach_limit = x.reach_limit; breadth_limit = x.breadth_limit }))

  pub event_given : (event : List ℕ) (ρ : Action) → GivenEvent R event ρ → event_in R event ≡ answered ρ
  event_given event ρ x = pick_true _ _ (even event) (eq→eqb (length event % 2) 0 x.even) ∙ ap (or_refused 11) ((given_event_exact R wide (words_in event) ρ).1 (x.spelled, x.well_formed))

  pub no_term_given : (term : List ℕ) → ((E : Term) → GivenTerm R term E → ⊥) → term_in R term ≡ refused 10
  no_term_given term n = go (even term) (given_term R (words_in term)) (eqb→eq (length term % 2) 0) refl
    where
      go : (b : Bool) (o : Option Term) → (T b → length term % 2 ≡ 0) → given_term R (words_in term) ≡ o → pick b (or_refused 10 o) (refused 10) ≡ refused 10
      go false o f e = refl
      go true none f e = refl
      go true (some E) f e = let x = (given_term_exact R wide (words_in term) E).0 e in absurd (n E (record { even = f tt; spelled = x.0; form = x.1.form; reach_limit = x.1.reach_limit; breadth_limit = x.1.breadth_limit }))

  pub no_event_given : (event : List ℕ) → ((ρ : Action) → GivenEvent R event ρ → ⊥) → event_in R event ≡ refused 11
  no_event_given event n = go (even event) (given_event R (words_in event)) (eqb→eq (length event % 2) 0) refl
    where
      go : (b : Bool) (o : Option Action) → (T b → length event % 2 ≡ 0) → given_event R (words_in event) ≡ o → pick b (or_refused 11 o) (refused 11) ≡ refused 11
      go false o f e = refl
      go true none f e = refl
      go true (some ρ) f e = let x = (given_event_exact R wide (words_in event) ρ).0 e in absurd (n ρ (record { even = f tt; spelled = x.0; well_formed = x.1 }))
