-- Laws of the directory: what a reading took is found where it stood, and what keeps the places keeps what is found by them.
-- Document 01, "Blocks and the rule stream", items 2 to 5; refusals 4 and 5.
use Rattle.std.specs.Prelude.{◌≡◌, refl, List, [], ◌∷◌, ◌++◌, ℕ, suc, ◌+◌, ◌-◌, ◌%◌, ◌<◌, length, get_or, Ok}
use Rattle.std.proofs.Common.{sym, ap, ◌∙◌, subst, arith, length-append}
use Rattle.eb3.specs.Expressions.{Data}
use Rattle.eb3.specs.Scopes.{Scope, DataInScope}
use Rattle.eb3.specs.RuleSets.{Function, Process, RuleSet}
use Rattle.eb3.specs.Generic.Lists.{concat_map}
use Rattle.eb3.specs.Refusal
use Rattle.eb3.specs.Spelling.{data_words}
use Rattle.eb3.specs.RuleSpelling.{one_word, counted_words, rule_words}
use Rattle.eb3.specs.Reading.{Read, refused, taken, Reader, giving, then, both, number_of, counted, for_each}
use Rattle.eb3.specs.ExpressionReading.{read_data}
use Rattle.eb3.specs.RuleReading.{read_rule_term, read_process}
use Rattle.eb3.proofs.Laws.Reading.{Sound, Sounds, number_sound, counted_sound}
use Rattle.eb3.proofs.Laws.RuleTermReading.{rule_term_sound}
use Rattle.eb3.proofs.Laws.ExpressionReading.{data_sound}
use Rattle.words.specs.Checking.{checked, last_of, Checked}
use Rattle.words.specs.Ends.{Tail, Fine, Ends}
use Rattle.words.specs.Laws.Checking.{tail_at, tail_on, tail_short, number_ends}
use Rattle.words.specs.Laws.Rows.{counted_ends}
use Rattle.tables.specs.Layout.{processes_place, process_place, body_in, body_at}
use Rattle.declarations.specs.Directory.{Stands, Standing, FunctionRow, ProcessRows, row_width, first_cell_in, at_start_in}

-- ── readings that took something, taken apart ──

pub giving_taken : {A B : Type 0} (f : A → B) (r : Read A) (b : B) (u : List ℕ) → giving f r ≡ taken b u → (a : A) × (r ≡ taken a u) × (b ≡ f a)
unfolding giving
giving_taken f (refused k) b u e = absurd (let z : ◌≡◌ {A = ℕ} 0 1 = cc in omega arith)
giving_taken f (taken a v) b u e =
    let l : v ≡ u = cc in
    let s : b ≡ f a = cc in
    (a, ap (taken a) l, s)

pub then_took : {A B : Type 0} (r : Read A) (g : A → Reader B) (b : B) (u : List ℕ) → then r g ≡ taken b u → (a : A) × (v : List ℕ) × (r ≡ taken a v) × (g a v ≡ taken b u)
unfolding then
then_took (refused k) g b u e = absurd (let z : ◌≡◌ {A = ℕ} 0 1 = cc in omega arith)
then_took (taken a v) g b u e = (a, v, refl, e)

pub both_taken : {A B : Type 0} (f : Reader A) (g : Reader B) (t : List ℕ) (p : A × B) (u : List ℕ) → both f g t ≡ taken p u → (v : List ℕ) × (f t ≡ taken p.0 v) × (g v ≡ taken p.1 u)
unfolding both
both_taken {A} f g t p u e =
    let h = then_took (f t) (λ a v. giving (λ b. (a, b)) (g v)) p u e in
    let k = giving_taken (λ b. (h.0, b)) (g h.1) p u h.3 in
    (h.1, h.2 ∙ ap (λ a. taken a h.1) (sym (ap (λ q. q.0) k.2)), k.1 ∙ ap (λ b. taken b u) (sym (ap (λ q. q.1) k.2)))

-- As many as there are entries.
pub for_each_count : {A B : Type 0} (bs : List B) (f : B → Reader A) (t : List ℕ) (xs : List A) (u : List ℕ) → for_each bs f t ≡ taken xs u → length xs ≡ length bs
unfolding for_each
for_each_count [] f t xs u e = (let z : xs ≡ [] = cc in ap length z)
for_each_count (b ∷ bs) f t xs u e =
    let h = giving_taken (λ p. p.0 ∷ p.1) (both (f b) (for_each bs f) t) xs u e in
    let k = both_taken (f b) (for_each bs f) t h.0 u h.1 in
    ap length h.2 ∙ ap suc (for_each_count bs f k.0 h.0.1 u k.2)

-- What is left of t, by how much is left.
pub left_is : {A : Type 0} (f : Reader A) → Ends f → (t : List ℕ) (p : Checked) (m : ℕ) (a : A) (v : List ℕ) → p ≡ checked (f t) → p ≡ Ok m → f t ≡ taken a v → v ≡ last_of m t
unfolding checked
left_is f ends t p m a v e h g =
    let k : Ok m ≡ Ok (length v) = sym h ∙ e ∙ ap checked g in
    let l : length v ≡ m = cc in
    sym (tail_at v t (subst (Fine t) g (ends t))) ∙ ap (λ n. last_of n t) l

-- ── where words are ──

-- What a sound reader took of an end of words is there.
pub stands_read : {A : Type 0} (spell : A → List ℕ) (P : A → Type 0) (f : Reader A) → Sounds spell P f → (whole t : List ℕ) (a : A) (u : List ℕ) → Tail t whole → f t ≡ taken a u → Stands whole (length t) (spell a)
stands_read spell P f s whole t a u l e =
    let h : (t ≡ spell a ++ u) × P a = subst (Sound spell P t) e (s t) in
    (u, tail_at t whole l ∙ h.0)

-- An expression, its place stored in 32 bits and kept since.
pub stands_noted : (S : Scope) (whole t D : List ℕ) (at : ℕ) (d : Data) (u : List ℕ) → Tail t whole → length whole < 4294967296 → get_or D at 0 ≡ length t % 4294967296 → read_data S t ≡ taken d u
    → Stands whole (get_or D at 0) (data_words S.edition.width d)
stands_noted S whole t D at d u l small e g =
    let k : length t % 4294967296 ≡ length t = omega (arith, tail_short t whole l) in
    subst (λ n. Stands whole n (data_words S.edition.width d)) (sym (e ∙ k)) (stands_read (data_words S.edition.width) (λ a. DataInScope a S) (read_data S) (data_sound S) whole t d u l g)

-- ── places kept ──

pub standing_kept : (w : ℕ) (t D D' : List ℕ) (at : ℕ) (ds : List Data) → ((j : ℕ) → j < at + length ds → get_or D' j 0 ≡ get_or D j 0) → Standing w t D at ds → Standing w t D' at ds
standing_kept w t D D' at [] h s = tt
standing_kept w t D D' at (d ∷ ds) h s = (
  subst (λ n. Stands t n (data_words w d)) (sym (h at (omega arith))) s.0,
  standing_kept w t D D' (suc at) ds (λ j b. h j (omega arith)) s.1,
)

-- One more after others.
pub standing_more : (w : ℕ) (t D : List ℕ) (at : ℕ) (ds : List Data) (d : Data) → Standing w t D at ds → Stands t (get_or D (at + length ds) 0) (data_words w d) → Standing w t D at (ds ++ (d ∷ []))
standing_more w t D at [] d s h =
    let e : at + 0 ≡ at = omega arith in
    (subst (λ n. Stands t (get_or D n 0) (data_words w d)) e h, tt)
standing_more w t D at (c ∷ ds) d s h =
    let e : at + suc (length ds) ≡ suc at + length ds = omega arith in
    (s.0, standing_more w t D (suc at) ds d s.1 (subst (λ n. Stands t (get_or D n 0) (data_words w d)) e h))

pub row_stays : (w : ℕ) (domains t D D' : List ℕ) (at begin : ℕ) (F : Function) → ((j : ℕ) → j < at + row_width (length F.at_label) → get_or D' j 0 ≡ get_or D j 0) → FunctionRow w domains t D at begin F → FunctionRow w domains t D' at begin F
row_stays w domains t D D' at begin F h r = record {
  cells = h at (omega arith) ∙ r.cells;
  begins = h (at + first_cell_in) (omega arith) ∙ r.begins;
  expressions = standing_kept w t D D' (at + at_start_in) (F.at_start ∷ F.at_label) (λ j b. h j (omega arith)) r.expressions;
}

-- ── processes ──

pub rows_kept : (w : ℕ) (t T T' : List ℕ) (p : ℕ) (Ps : List Process) → ((j : ℕ) → processes_place < j → j < process_place (p + length Ps) → get_or T' j 0 ≡ get_or T j 0) → ProcessRows w t T p Ps → ProcessRows w t T' p Ps
rows_kept w t T T' p [] h r = tt
rows_kept w t T T' p (P ∷ Ps) h r = (
  subst (λ n. Stands t n (rule_words w P.term)) (sym (h (process_place p + body_in) (omega arith) (omega arith))) r.0,
  rows_kept w t T T' (suc p) Ps (λ j a b. h j a (omega arith)) r.1,
)

pub rows_more : (w : ℕ) (t T : List ℕ) (p : ℕ) (Ps : List Process) (P : Process) → ProcessRows w t T p Ps → Stands t (body_at T (p + length Ps)) (rule_words w P.term) → ProcessRows w t T p (Ps ++ (P ∷ []))
rows_more w t T p [] P r h =
    let e : p + 0 ≡ p = omega arith in
    (subst (λ n. Stands t (body_at T n) (rule_words w P.term)) e h, tt)
rows_more w t T p (Q ∷ Ps) P r h =
    let e : p + suc (length Ps) ≡ suc p + length Ps = omega arith in
    (r.0, rows_more w t T (suc p) Ps P r.1 (subst (λ n. Stands t (body_at T n) (rule_words w P.term)) e h))

-- Where a process was read, its term is after its parameters.
pub term_stands : (R : RuleSet) (hi : ℕ) (whole t : List ℕ) (P : Process) (u : List ℕ) → Tail t whole → read_process R hi t ≡ taken P u
    → Stands whole (length t - (get_or t 0 0 + 1)) (rule_words R.edition.width P.term)
unfolding read_process
term_stands R hi whole t P u tl e =
    let h = then_took (counted 0 hi (number_of Refusal.reference (length R.domains)) t) (λ ds v. giving (λ E. record { parameters = ds; term = E }) (read_rule_term R ds v)) P u e in
    let k = giving_taken (λ E. record { parameters = h.0; term = E }) (read_rule_term R h.0 h.1) P u h.3 in
    let s : (t ≡ counted_words one_word h.0 ++ h.1) × _ = subst (Sound (counted_words one_word) _ t) h.2 (counted_sound one_word (λ d. d < length R.domains) (number_of Refusal.reference (length R.domains)) (number_sound Refusal.reference (length R.domains)) 0 hi t) in
    let v : Tail h.1 t = subst (Fine t) h.2 (counted_ends 0 hi (number_of Refusal.reference (length R.domains)) (number_ends Refusal.reference (length R.domains)) t) in
    let n : length h.1 ≡ length t - (get_or t 0 0 + 1) = behind_parameters t h.0 h.1 s.0 in
    let st : Stands whole (length h.1) (rule_words R.edition.width k.0) = stands_read (rule_words R.edition.width) _ (read_rule_term R h.0) (rule_term_sound R h.0) whole h.1 k.0 u (tail_on h.1 t whole tl v) k.1 in
    subst (λ (Q : Process). Stands whole (length t - (get_or t 0 0 + 1)) (rule_words R.edition.width Q.term)) (sym k.2) (subst (λ m. Stands whole m (rule_words R.edition.width k.0)) n st)
  where
    words_length : (ds : List ℕ) → length (concat_map one_word ds) ≡ length ds
    words_length [] = refl
    words_length (d ∷ ds) = ap suc (words_length ds)

    behind_parameters : (t ds v : List ℕ) → t ≡ counted_words one_word ds ++ v → length v ≡ length t - (get_or t 0 0 + 1)
    behind_parameters t ds v e =
        let c : get_or t 0 0 ≡ length ds = ap (λ l. get_or l 0 0) e in
        omega (arith, c, ap length e, length-append (concat_map one_word ds) v, words_length ds)
