-- Laws of reading one process by filled tables, and of keeping the tables within their bounds.
-- Document 01, "Blocks and the rule stream", items 2 to 5; refusals 4 and 5.
use Rattle.std.specs.Prelude.{◌≡◌, refl, List, [], ◌∷◌, ◌++◌, ℕ, ◌+◌, ◌≤◌, ◌<◌, length, get_or, set, take}
use Rattle.std.proofs.Common.{ap, sym, ◌∙◌, subst, arith, length-append, length-set, take_at, get_or-set_other}
use Rattle.eb3.specs.Refusal
use Rattle.eb3.specs.Generic.AllLists.{All}
use Rattle.eb3.specs.Generic.Lists.{concat_map}
use Rattle.eb3.specs.RuleSets.{RuleTerm, Process, RuleSet}
use Rattle.eb3.specs.Measures.{sat, Measure, measure_term, row_of}
use Rattle.eb3.specs.RuleSpelling.{one_word, counted_words}
use Rattle.eb3.specs.Reading.{Read, refused, taken, giving, then, counted, number_of}
use Rattle.eb3.specs.RuleReading.{read_rule_term, read_process, with_process}
use Rattle.eb3.proofs.Laws.Reading.{Sound, number_sound, counted_sound}
use Rattle.eb3.proofs.Laws.Signatures.{Alike, read_alike, measure_alike}
use Rattle.tables.specs.Layout.{functions_place, processes_place, process_place, labels_place}
use Rattle.tables.specs.Tables.{declared, callee}
use Rattle.declarations.specs.Declaring.{Declares, entered_process}
use Rattle.declarations.specs.Laws.Declaring.{entered_length, entered_before, process_entered, declared_alike}
use Rattle.declarations.specs.Laws.Regions.{labels_kept}
use Rattle.declarations.specs.Bounds.{Bounded, Narrow}

module _ (T : List ℕ) (R : RuleSet) (d : Declares T R) where
  alike : Alike (declared T) R
  alike = declared_alike T R d

  -- A process is read by the tables as after R,
  pub process_alike : (hi : ℕ) (t : List ℕ) → read_process (declared T) hi t ≡ read_process R hi t
  unfolding read_process
  process_alike hi t = λ i. then (counted 0 hi (number_of Refusal.reference (length (alike.same_domains i))) t)
      (λ ds u. giving (λ E. record { parameters = ds; term = E }) (read_alike (declared T) R alike ds u i))

  -- and measured so.
  pub term_alike : (E : RuleTerm) → measure_term (sat 65536) (declared T) (callee T) E ≡ measure_term (sat 65536) R (row_of (sat 65536) R (length R.processes)) E
  term_alike E = measure_alike (sat 65536) (declared T) R alike.same_edition alike.same_domains (callee T) E ∙ (λ i. measure_term (sat 65536) R (d.same_measures i) E)

-- What is at the front of a process that was read: how many parameters, and they.
pub record Front (hi : ℕ) (t : List ℕ) (P : Process) : Type 0 where
  pub few : length P.parameters ≤ hi
  pub count : get_or t 0 0 ≡ length P.parameters
  pub front : take (get_or t 0 0 + 1) t ≡ length P.parameters ∷ P.parameters
  pub long : get_or t 0 0 + 1 ≤ length t

words_are : (ds : List ℕ) → concat_map one_word ds ≡ ds
words_are [] = refl
words_are (d ∷ ds) = ap (λ l. d ∷ l) (words_are ds)

front_by : (hi : ℕ) (t u : List ℕ) (P : Process) → t ≡ counted_words one_word P.parameters ++ u → length P.parameters ≤ hi → Front hi t P
front_by hi t u P e h =
    let f : t ≡ (length P.parameters ∷ P.parameters) ++ u = e ∙ ap (λ l. (length P.parameters ∷ l) ++ u) (words_are P.parameters) in
    let c : get_or t 0 0 ≡ length P.parameters = ap (λ l. get_or l 0 0) f in
    record {
      few = h;
      count = c;
      front = ap (λ l. take (get_or l 0 0 + 1) l) f ∙ take_at (length P.parameters ∷ P.parameters) u (length P.parameters + 1) (omega arith);
      long = omega (arith, c, ap length f, length-append P.parameters u);
    }

abbrev IsTaken : {A : Type 0} → Read A → Type 0
IsTaken (refused k) = ⊥
IsTaken (taken a v) = Unit

abbrev parameters_in : Read Process → List ℕ
parameters_in (refused k) = []
parameters_in (taken P v) = P.parameters

pub process_front : (R : RuleSet) (hi : ℕ) (t : List ℕ) (P : Process) (u : List ℕ) → read_process R hi t ≡ taken P u → Front hi t P
unfolding read_process then giving
process_front R hi t P u e = go (counted 0 hi (number_of Refusal.reference (length R.domains)) t)
    (counted_sound one_word (λ n. n < length R.domains) (number_of Refusal.reference (length R.domains)) (number_sound Refusal.reference (length R.domains)) 0 hi t) e
  where
    inner : (ds v : List ℕ) (r : Read RuleTerm) → t ≡ counted_words one_word ds ++ v → length ds ≤ hi → giving (λ E. record { parameters = ds; term = E }) r ≡ taken P u → Front hi t P
    inner ds v (refused k) s h f = absurd (subst IsTaken (sym f) tt)
    inner ds v (taken E w) s h f =
        let q : ds ≡ P.parameters = ap parameters_in f in
        front_by hi t v P (s ∙ ap (λ l. counted_words one_word l ++ v) q) (omega (arith, ap length q))

    go : (r : Read (List ℕ)) → Sound (counted_words one_word) (λ xs. ((0 ≤ length xs) × (length xs ≤ hi)) × All (λ n. n < length R.domains) xs) t r
        → then r (λ ds v. giving (λ E. record { parameters = ds; term = E }) (read_rule_term R ds v)) ≡ taken P u → Front hi t P
    go (refused k) s f = absurd (subst IsTaken (sym f) tt)
    go (taken ds v) s f = inner ds v (read_rule_term R ds v) s.0 s.1.0.1 f

-- Words from functions_place on have no part in it.
pub bounded_kept : (T U : List ℕ) → processes_place ≤ length T → length U ≡ length T → ((i : ℕ) → i < functions_place → get_or U i 0 ≡ get_or T i 0) → Bounded T → Bounded U
bounded_kept T U room same kept b = record {
  domains_few = omega (arith, kept 0 (omega arith), b.domains_few);
  labels_few = omega (arith, kept labels_place (omega arith), b.labels_few);
  label_rows = subst (All (λ l. length l ≤ 2)) (sym (labels_kept T U room same b.labels_few b.label_rows (λ i h k. kept i k))) b.label_rows;
}

pub set_bounded : (T : List ℕ) (k n : ℕ) → functions_place ≤ k → processes_place ≤ length T → Bounded T → Bounded (set T k n)
set_bounded T k n h room b = bounded_kept T (set T k n) room (length-set T k n) (λ i l. get_or-set_other T k i n 0 (omega arith)) b

pub entered_bounded : (T : List ℕ) (p : ℕ) (l : List ℕ) (m : Measure) (left : ℕ) → length l ≤ 5 → process_place (p + 1) ≤ length T → Bounded T → Bounded (entered_process T p l m.size m.reach m.breadth left)
entered_bounded T p l m left short room b = bounded_kept T (entered_process T p l m.size m.reach m.breadth left) (omega arith) (entered_length T p l m left short room)
    (λ i h. entered_before T p l m left short room i (omega arith) (omega arith)) b

all_snoc : (Ps : List Process) (P : Process) → All (λ (Q : Process). length Q.parameters ≤ 4) Ps → length P.parameters ≤ 4 → All (λ (Q : Process). length Q.parameters ≤ 4) (Ps ++ (P ∷ []))
all_snoc [] P h k = (k, tt)
all_snoc (Q ∷ Ps) P h k = (h.0, all_snoc Ps P h.1 k)

pub narrow_next : (R : RuleSet) (P : Process) → Narrow R → length P.parameters ≤ 4 → Narrow (with_process R P)
narrow_next R P h k = all_snoc R.processes P h k

pub next_declares : (T : List ℕ) (R : RuleSet) (P : Process) (m : Measure) (left : ℕ) → Declares T R → Bounded T → Narrow R → process_place (length R.processes + 1) ≤ length T → length P.parameters ≤ 4
    → m ≡ measure_term (sat 65536) R (row_of (sat 65536) R (length R.processes)) P.term
    → Declares (entered_process T (length R.processes) (length P.parameters ∷ P.parameters) m.size m.reach m.breadth left) (with_process R P)
next_declares T R P m left d b narrow room few e = process_entered T R P m left d room b.domains_few b.labels_few b.label_rows narrow few e
