-- What is known of each section once it is read: bounds, one parameter a function, its cells.
-- Document 01, "Blocks and the rule stream", items 2 to 5; refusals 4 and 5.
use Rattle.std.specs.Prelude.{◌≡◌, refl, List, [], ◌∷◌, map, ℕ, zero, suc, ◌+◌, ◌≤◌, ◌<◌, length, get_or, replicate}
use Rattle.std.proofs.Common.{ap, ◌∙◌, subst, arith, length-append}
use Rattle.eb3.specs.Refusal
use Rattle.eb3.specs.Generic.AllLists.{All, all_map}
use Rattle.eb3.specs.Generic.Lists.{concat_map}
use Rattle.eb3.specs.Attributes.{AttributeFunction, function}
use Rattle.eb3.specs.Cells.{cell_count, offset, total_cells}
use Rattle.eb3.specs.Editions.{Edition}
use Rattle.eb3.specs.RuleSets.{Function, RuleSet, attribute_function, attributes}
use Rattle.eb3.specs.RuleSpelling.{one_word, counted_words}
use Rattle.eb3.specs.Reading.{Read, refused, taken, Reader, giving, then, both, count_of, repeat, counted, number_of, for_each, series}
use Rattle.eb3.specs.Expressions.{Data}
use Rattle.eb3.specs.ExpressionReading.{read_data}
use Rattle.eb3.specs.RuleReading.{read_domains, count_for, at_start_scope, at_label_scope, function_from, read_function}
use Rattle.eb3.proofs.Laws.Reading.{Sound, number_sound, count_sound, repeat_sound, counted_sound}
use Rattle.declarations.specs.Entering.{cells_of, all_cells}
use Rattle.declarations.specs.Laws.Scopes.{one_each}

-- Labels: as many as were asked for, of at most two parameters each.
pub labels_read : (n D : ℕ) (t u : List ℕ) (ls : List (List ℕ)) → repeat n (counted 0 2 (number_of Refusal.reference D)) t ≡ taken ls u → (length ls ≡ n) × All (λ l. length l ≤ 2) ls
labels_read n D t u ls e =
    let s = repeat_sound (counted_words one_word) (λ xs. ((0 ≤ length xs) × (length xs ≤ 2)) × All (λ d. d < D) xs) (counted 0 2 (number_of Refusal.reference D))
    (counted_sound one_word (λ d. d < D) (number_of Refusal.reference D) (number_sound Refusal.reference D) 0 2) n t in
    let p = subst (Sound (concat_map (counted_words one_word)) (λ xs. (length xs ≡ n) × All (λ xs. ((0 ≤ length xs) × (length xs ≤ 2)) × All (λ d. d < D) xs) xs) t) e s in
    (p.1.0, all_map (λ xs. ((0 ≤ length xs) × (length xs ≤ 2)) × All (λ d. d < D) xs) (λ l. length l ≤ 2) (λ l h. h.0.1) ls p.1.1)

-- Domains: at most 16, after their count.
pub domains_read : (t ds u : List ℕ) → read_domains t ≡ taken ds u → (length ds ≤ 16) × (get_or t 0 0 ≡ length ds) × (get_or t 0 0 + 1 ≤ length t)
domains_read t ds u e =
    let s = counted_sound one_word (λ n. (1 ≤ n) × (n ≤ 64)) (count_of 1 64) (count_sound 1 64) 1 16 t in
    let p = subst (Sound (counted_words one_word) (λ xs. ((1 ≤ length xs) × (length xs ≤ 16)) × All (λ n. (1 ≤ n) × (n ≤ 64)) xs) t) e s in
    let c : get_or t 0 0 ≡ length ds = ap (λ l. get_or l 0 0) p.0 in
    (p.1.0.1, c, omega (arith, c, ap length p.0, length-append (concat_map one_word ds) u, words_length ds))
  where
    words_length : (ds : List ℕ) → length (concat_map one_word ds) ≡ length ds
    words_length [] = refl
    words_length (d ∷ ds) = ap suc (words_length ds)

-- ── functions: as many as were asked for, of one parameter each ──

-- What a reading gives has a property.
abbrev Gives : {A : Type 0} → (A → Type 0) → Read A → Type 0
Gives P (refused k) = Unit
Gives P (taken a u) = P a

then_gives : {A B : Type 0} (P : A → Type 0) (Q : B → Type 0) (r : Read A) (g : A → Reader B) → Gives P r → ((a : A) (u : List ℕ) → P a → Gives Q (g a u)) → Gives Q (then r g)
unfolding then
then_gives P Q (refused k) g p q = tt
then_gives P Q (taken a u) g p q = q a u p

giving_gives : {A B : Type 0} (P : A → Type 0) (Q : B → Type 0) (f : A → B) (r : Read A) → ((a : A) → P a → Q (f a)) → Gives P r → Gives Q (giving f r)
unfolding giving
giving_gives P Q f (refused k) h p = tt
giving_gives P Q f (taken a u) h p = h a p

any_gives : {A : Type 0} (r : Read A) → Gives (λ a. Unit) r
any_gives (refused k) = tt
any_gives (taken a u) = tt

both_gives : {A B : Type 0} (P : A → Type 0) (Q : B → Type 0) (f : Reader A) (g : Reader B) → ((t : List ℕ) → Gives P (f t)) → ((t : List ℕ) → Gives Q (g t)) → (t : List ℕ) → Gives (λ (p : A × B). P p.0 × Q p.1) (both f g t)
unfolding both
both_gives {A} {B} P Q f g p q t = then_gives P (λ (p : A × B). P p.0 × Q p.1) (f t) _ (p t) (λ a u h. giving_gives Q (λ (p : A × B). P p.0 × Q p.1) (λ b. (a, b)) (g u) (λ b k. (h, k)) (q u))

repeat_gives : {A : Type 0} (n : ℕ) (f : Reader A) (t : List ℕ) → Gives (λ xs. length xs ≡ n) (repeat n f t)
unfolding repeat
repeat_gives zero f t = refl
repeat_gives {A} (suc n) f t = giving_gives (λ (p : A × List A). Unit × (length p.1 ≡ n)) (λ xs. length xs ≡ suc n) (λ p. p.0 ∷ p.1) (both f (repeat n f) t) (λ p h. ap suc h.1)
    (both_gives (λ a. Unit) (λ xs. length xs ≡ n) f (repeat n f) (λ u. any_gives (f u)) (repeat_gives n f) t)

abbrev One : Function → Type 0
One F = length F.parameters ≡ 1

abbrev expressions_of : Edition → List (List ℕ) → ℕ → ℕ → Reader (Data × List Data)
expressions_of L labels n i = both (read_data (at_start_scope L (replicate n 1) i)) (for_each labels (λ ds. read_data (at_label_scope L (replicate n 1) i (length ds))))

function_gives : (L : Edition) (D : ℕ) (labels : List (List ℕ)) (n i : ℕ) (t : List ℕ) → Gives One (read_function L D labels (replicate n 1) i t)
unfolding read_function
function_gives L D labels n i t = giving_gives (λ p. (length p.0 ≡ 1) × Unit) One function_from (both (repeat (count_for (replicate n 1) i) (number_of Refusal.reference D)) (expressions_of L labels n i) t) (λ p h. h.0)
    (both_gives (λ ds. length ds ≡ 1) (λ x. Unit) (repeat (count_for (replicate n 1) i) (number_of Refusal.reference D)) (expressions_of L labels n i)
    (λ u. subst (λ k. Gives (λ ds. length ds ≡ k) (repeat (count_for (replicate n 1) i) (number_of Refusal.reference D) u)) (one_each n i) (repeat_gives (count_for (replicate n 1) i) (number_of Refusal.reference D) u))
    (λ u. any_gives (expressions_of L labels n i u)) t)

abbrev AllOne : ℕ → List Function → Type 0
AllOne k Fs = (length Fs ≡ k) × All One Fs

series_gives : (L : Edition) (D : ℕ) (labels : List (List ℕ)) (n k i : ℕ) (t : List ℕ) → Gives (AllOne k) (series k i (read_function L D labels (replicate n 1)) t)
unfolding series
series_gives L D labels n zero i t = (refl, tt)
series_gives L D labels n (suc k) i t = giving_gives (λ (p : Function × List Function). One p.0 × AllOne k p.1) (AllOne (suc k)) (λ p. p.0 ∷ p.1) _ (λ p h. (ap suc h.1.0, (h.0, h.1.1)))
    (both_gives One (AllOne k) (read_function L D labels (replicate n 1) i) (series k (i + 1) (read_function L D labels (replicate n 1))) (function_gives L D labels n i) (series_gives L D labels n k (i + 1)) t)

one_parameters : (Fs : List Function) → All One Fs → (f : ℕ) → get_or (map (λ (F : Function). length F.parameters) Fs) f 1 ≡ 1
one_parameters [] h f = refl
one_parameters (F ∷ Fs) h zero = h.0
one_parameters (F ∷ Fs) h (suc f) = one_parameters Fs h.1 f

pub functions_read : (L : Edition) (D : ℕ) (labels : List (List ℕ)) (n : ℕ) (t u : List ℕ) (Fs : List Function) → series n 0 (read_function L D labels (replicate n 1)) t ≡ taken Fs u
    → (length Fs ≡ n) × ((f : ℕ) → get_or (map (λ (F : Function). length F.parameters) Fs) f 1 ≡ 1)
functions_read L D labels n t u Fs e =
    let p = subst (Gives (AllOne n)) e (series_gives L D labels n n 0 t) in
    (p.0, one_parameters Fs p.1)

-- The cells of a rule set are those of its functions, one after the other.
offset_next : (L : Edition) (F : AttributeFunction) (Fs : List AttributeFunction) (f : ℕ) → offset (record { edition = L; functions = F ∷ Fs }) (suc f) ≡ cell_count F.sizes + offset (record { edition = L; functions = Fs }) f
unfolding offset function
offset_next L F Fs zero = omega arith
offset_next L F Fs (suc f) = omega (arith, offset_next L F Fs f)

cells_along : (L : Edition) (R : RuleSet) (Fs : List Function) → offset (record { edition = L; functions = map (attribute_function R) Fs }) (length (map (attribute_function R) Fs)) ≡ all_cells R.domains Fs
unfolding all_cells cells_of offset
cells_along L R [] = refl
cells_along L R (F ∷ Fs) = offset_next L (attribute_function R F) (map (attribute_function R) Fs) (length (map (attribute_function R) Fs)) ∙ ap (λ n. cell_count (attribute_function R F).sizes + n) (cells_along L R Fs)

pub cells_total : (R : RuleSet) → total_cells (attributes R) ≡ all_cells R.domains R.functions
cells_total R = cells_along R.edition R R.functions
