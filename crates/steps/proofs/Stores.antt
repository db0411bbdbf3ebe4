-- A store of a rule set's cells, as loading, filling and renewing leave it (document 01, "Memory and the history machine").
use mathlib.Core.Path.{◌≡◌, sym, ap, subst, ◌∙◌}
use mathlib.Core.List.{List}
use mathlib.Core.Option.{Option, none, some}
use Prim.Native.Nat.{ℕ, suc, ◌+◌, ◌*◌, ◌≤◌, ◌<◌}
use native.Mathlib.Omega.{arith}
use lib.ListN.{length, get_or}
use Rattle.eb3.specs.Values.{Value}
use Rattle.eb3.specs.Expressions.{Reading, no_reading}
use Rattle.eb3.specs.Terms.{VisibleAction, internal, visible}
use Rattle.eb3.specs.Attributes.{Attributes, number_of_functions}
use Rattle.eb3.specs.Cells.{total_cells, cell_at, initial_cells, renew}
use Rattle.eb3.specs.Derivations.{state_after}
use Rattle.eb3.specs.Memory.{cell_room, cells_in}
use Rattle.eb3.specs.Values.{ValuesAtMost}
use Rattle.eb3.specs.RuleSets.{RuleSet, attributes}
use Rattle.eb3.proofs.Laws.RuleSets.{functions_counted}
use Rattle.eb3.specs.WellFormedness.{WellFormedAction}
use Rattle.tables.specs.Laws.Editions.{top_in_tables}
use Rattle.declarations.specs.Directory.{row_width, at_start_in, at_label_in}
use Rattle.expressions.specs.Stores.{stored, now_place, before_place, old_cells_place, row_place}
use Rattle.actions.specs.Codes.{action_code, Small}
use Rattle.actions.specs.Laws.Codes.{visible_positive}
use Rattle.actions.specs.Laws.Actions.{action_small}
use Rattle.cells.specs.Layout.{Laid, Holds}
use Rattle.cells.specs.Filling.{Filling, Filled}
use Rattle.cells.specs.Preparing.{Prepared, Loaded}
use Rattle.cells.specs.Laws.Memory.{words_small, given_at_most, given_counted, loaded_holds}
use Rattle.cells.specs.Laws.Reads.{laid_kept}
use Rattle.cells.specs.Laws.Readying.{rows_laid}
use Rattle.cells.specs.Laws.ReadyingFills.{start_filling, renew_filling}
use Rattle.steps.specs.Storing.{Stored, Ruled, StoreLoaded, StoreStarted, StoreRenewed}
use Rattle.steps.specs.Laws.Storing.{rows_few, initial_counted, renewed_counted, initial_at_most, renewed_at_most}
use Rattle.steps.specs.Keeping.{Kept, Given}

-- What fill says of its cells.
abbrev pub Fills : List ℕ → List ℕ → List ℕ → List ℕ → ℕ → ℕ → ℕ → Type 0
Fills t D M M' w j n = (A : Attributes) (o : Option VisibleAction) (b : Reading) → Filling A o b t D M w j n → Filled A o b M M'

module _ (R : RuleSet) (t T D : List ℕ) (w n c : ℕ) (ruled : Ruled R t T D w n c) where
  few_functions : number_of_functions (attributes R) ≤ 16
  few_functions = omega (arith, functions_counted R, ruled.form.function_count)

  prepared_for : (M M₁ : List ℕ) → Prepared D M M₁ w n c → Prepared D M M₁ (row_width (length R.labels)) (length R.functions) (total_cells (attributes R))
  prepared_for M M₁ p =
      subst (λ x. Prepared D M M₁ (row_width (length R.labels)) (length R.functions) x) ruled.cells_are
      (subst (λ x. Prepared D M M₁ (row_width (length R.labels)) x c) ruled.functions_are (subst (λ x. Prepared D M M₁ x n c) ruled.width_is p))

  filling_for : (o : Option VisibleAction) (b : Reading) (M : List ℕ) (j : ℕ) → Filling (attributes R) o b t D M (row_width (length R.labels)) j (length R.functions) → Filling (attributes R) o b t D M w j n
  filling_for o b M j f =
      subst (λ x. Filling (attributes R) o b t D M w j x) (sym ruled.functions_are) (subst (λ x. Filling (attributes R) o b t D M x j (length R.functions)) (sym ruled.width_is) f)

-- ── loaded from a memory ──

pub store_loaded : (D B M M₁ M₂ : List ℕ) (w n c : ℕ) → ((i : ℕ) → get_or B i 0 < 256) → length M₁ ≡ length M → (now_place ≤ length M → Prepared D M M₁ w n c) → Loaded B M₁ M₂ now_place c
    → StoreLoaded D B M M₂ w n c
store_loaded D B M M₁ M₂ w n c bytes l₁ prepared loaded R t T ruled enough room =
    let A = attributes R in
    let e = ruled.cells_are in
    let p = prepared_for R t T D w n c ruled M M₁ (prepared (omega arith)) in
    let many : total_cells A ≤ cell_room B = omega (arith, e) in
    let put : Loaded B M₁ M₂ now_place (total_cells A) = subst (Loaded B M₁ M₂ now_place) e loaded in
    let back : cells_in 65534 (total_cells A) B ≡ cells_in R.edition.top (total_cells A) B = ap (λ top. cells_in top (total_cells A) B) (sym (top_in_tables T R ruled.directory.declares.same_edition)) in
    record {
      laid = laid_kept A M₁ M₂ (few_functions R t T D w n c ruled) (λ i h l. loaded.kept_below i l) (rows_laid R ruled.form t T D ruled.directory M M₁ p);
      holds = subst (Holds M₂ now_place) back (loaded_holds B M₁ M₂ now_place (total_cells A) (words_small B bytes) many (omega (arith, e, l₁)) put);
      counted = ap length (sym back) ∙ given_counted (total_cells A) B many;
      at_most = subst (ValuesAtMost 65534) back (given_at_most (total_cells A) B);
      old_place = loaded.kept_below old_cells_place (omega arith) ∙ p.old_cells;
      room = omega (arith, e, l₁, loaded.same_length);
    }

-- ── made at the start ──

pub store_started : (t D M M₁ M₂ : List ℕ) (w n c : ℕ) → length M₁ ≡ length M → length M₂ ≡ length M₁ → (now_place ≤ length M → Prepared D M M₁ w n c) → Fills t D M₁ M₂ w at_start_in n → StoreStarted t D M M₂ w n c
unfolding initial_cells
store_started t D M M₁ M₂ w n c l₁ l₂ prepared fills R T ruled room =
    let A = attributes R in
    let e = ruled.cells_are in
    let p = prepared_for R t T D w n c ruled M M₁ (prepared (omega arith)) in
    let f = start_filling R ruled.form t T D ruled.directory M M₁ p (omega (arith, e, l₁)) in
    let g : Filled A none no_reading M₁ M₂ = fills A none no_reading (filling_for R t T D w n c ruled none no_reading M₁ 2 f) in
    record {
      laid = laid_kept A M₁ M₂ (few_functions R t T D w n c ruled) (λ i h l. g.kept_below i (omega arith) l) f.laid;
      holds = g.cells;
      counted = initial_counted R ruled.form;
      at_most = initial_at_most R ruled.form T ruled.directory.declares;
      old_place = g.kept_below old_cells_place (omega arith) (omega arith) ∙ p.old_cells;
      room = omega (arith, e, l₁, l₂);
    }

-- ── renewed by an action ──

-- An internal action, whose number is 0, changes nothing.
pub store_same : (t D M : List ℕ) (w n c code : ℕ) → code ≡ 0 → StoreRenewed t D M M w n c code
unfolding state_after
store_same t D M w n c code z R T ruled internal good e cells s = s
store_same t D M w n c code z R T ruled (visible a) good e cells s = absurd (visible_positive a (sym e ∙ z))

-- A store has room for its cells and for old ones.
pub store_room : (t D M M' : List ℕ) (w n c code : ℕ) → length M < now_place + 2 * c → StoreRenewed t D M M' w n c code
store_room t D M M' w n c code h R T ruled ρ good e cells s = absurd (let z : ⊥ = omega (arith, s.room, ruled.cells_are) in z)

-- What is read off an action's number as its label.
abbrev pub LabelRead : ℕ → ℕ → Type 0
LabelRead code l = (a : VisibleAction) → Small (visible a) → code ≡ action_code (visible a) → l ≡ a.label

-- A label is below 64.
pub store_label : (t D M M' : List ℕ) (w n c code x l : ℕ) → (code ≡ 0 → ⊥) → LabelRead code x → l ≡ x → 63 < l → StoreRenewed t D M M' w n c code
unfolding action_code
store_label t D M M' w n c code x l nz r el h R T ruled internal good e cells s = absurd (nz e)
store_label t D M M' w n c code x l nz r el h R T ruled (visible a) good e cells s =
    let small : Small (visible a) = action_small R ruled.form (visible a) good in
    absurd (let z : ⊥ = omega (arith, r a small e, small.0) in z)

-- The old cells are copied after the new ones, and the arguments are given: before reads the old cells.
module _ (R : RuleSet) (M M₁ M₂ : List ℕ) (code : ℕ) (cells : List Value) (s : Stored R cells M) (kept : Kept M M₁ (total_cells (attributes R))) (given : Given M₁ M₂ code) where
  place_kept : before_place M₂ ≡ now_place + total_cells (attributes R)
  place_kept = given.kept_above old_cells_place (omega arith) ∙ kept.kept_below old_cells_place (omega arith) ∙ s.old_place

  rows_kept : (i : ℕ) → row_place 0 ≤ i → i < now_place → stored M₂ i ≡ stored M i
  rows_kept i h l = given.kept_above i (omega arith) ∙ kept.kept_below i (omega arith)

  old_kept : Holds M₂ (before_place M₂) cells
  old_kept k h =
      ap (λ p. stored M₂ (p + k)) place_kept ∙ given.kept_above (now_place + total_cells (attributes R) + k) (omega arith) ∙ kept.copied k (omega (arith, s.counted)) ∙ s.holds k h

-- Renewed by a visible action.
module _ (R : RuleSet) (t T D : List ℕ) (w n c : ℕ) (ruled : Ruled R t T D w n c) (a : VisibleAction) (good : WellFormedAction R (visible a)) (cells : List Value) where
  store_refilled : (M M₁ M₂ M₃ : List ℕ) (code : ℕ) → code ≡ action_code (visible a) → length M₁ ≡ length M → length M₂ ≡ length M₁ → length M₃ ≡ length M₂
      → Kept M M₁ (total_cells (attributes R)) → Given M₁ M₂ code → Fills t D M₂ M₃ w (at_label_in a.label) n → Stored R cells M → Stored R (renew (attributes R) cells a) M₃
  unfolding renew
  store_refilled M M₁ M₂ M₃ code e l₁ l₂ l₃ kept given fills s =
      let A = attributes R in
      let form = ruled.form in
      let place : before_place M₂ ≡ now_place + total_cells A = place_kept R M M₁ M₂ code cells s kept given in
      let laid : Laid A M₂ = laid_kept A M M₂ (few_functions R t T D w n c ruled) (rows_kept R M M₁ M₂ code cells s kept given) s.laid in
      let there : (i : ℕ) → i < length a.arguments → stored M₂ (suc i) ≡ get_or a.arguments i 0 = λ i h. ap (stored M₂) (let q : suc i ≡ 1 + i = omega arith in q) ∙ given.arguments_there a (action_small R form (visible a) good) e i h in
      let f = renew_filling R form t T D ruled.directory a good M₂ laid cells s.counted s.at_most (old_kept R M M₁ M₂ code cells s kept given)
      (rows_few R form T ruled.directory.declares M₂ laid) (omega (arith, s.room, l₁, l₂)) (omega (arith, place)) there in
      let g : Filled A (some a) (cell_at A cells) M₂ M₃ = fills A (some a) (cell_at A cells) (filling_for R t T D w n c ruled (some a) (cell_at A cells) M₂ (at_label_in a.label) f) in
      record {
        laid = laid_kept A M₂ M₃ (few_functions R t T D w n c ruled) (λ i h l. g.kept_below i (omega arith) l) laid;
        holds = g.cells;
        counted = renewed_counted R form cells a;
        at_most = renewed_at_most R form T ruled.directory.declares cells a good s.at_most;
        old_place = g.kept_below old_cells_place (omega arith) (omega arith) ∙ place;
        room = omega (arith, s.room, l₁, l₂, l₃);
      }

pub store_renewed : (t D M M₁ M₂ M₃ : List ℕ) (w n c code x l : ℕ) → (code ≡ 0 → ⊥) → LabelRead code x → l ≡ x → length M₁ ≡ length M → length M₂ ≡ length M₁ → length M₃ ≡ length M₂
    → Kept M M₁ c → Given M₁ M₂ code → Fills t D M₂ M₃ w (at_label_in l) n → StoreRenewed t D M M₃ w n c code
unfolding action_code state_after
store_renewed t D M M₁ M₂ M₃ w n c code x l nz r el l₁ l₂ l₃ kept given fills R T ruled internal good e cells s = absurd (nz e)
store_renewed t D M M₁ M₂ M₃ w n c code x l nz r el l₁ l₂ l₃ kept given fills R T ruled (visible a) good e cells s =
    store_refilled R t T D w n c ruled a good cells M M₁ M₂ M₃ code e l₁ l₂ l₃ (subst (Kept M M₁) ruled.cells_are kept) given
    (subst (λ y. Fills t D M₂ M₃ w (at_label_in y) n) (el ∙ r a (action_small R ruled.form (visible a) good) e) fills) s
