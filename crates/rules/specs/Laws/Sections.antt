-- One process read and entered, then the rest: what the check of the processes answers, case by case.
-- Document 01, "Blocks and the rule stream", items 2 to 5; refusals 4 to 6.
use Rattle.std.specs.Prelude.{◌≡◌, refl, List, [], ◌∷◌, ℕ, zero, suc, ◌+◌, ◌-◌, ◌≤◌, length, get_or, take, Err}
use Rattle.std.proofs.Math.Path.{ap, sym, subst}
use Rattle.std.proofs.Common.{◌∙◌, arith, length-append}
use Rattle.eb3.specs.Editions.{Edition}
use Rattle.eb3.specs.RuleSets.{Process, RuleSet, main_process, process}
use Rattle.eb3.specs.Measures.{sat, Measure, measure_term, row_of, measure_main}
use Rattle.eb3.proofs.Laws.Signatures.{own_measure}
use Rattle.eb3.specs.Refusal
use Rattle.eb3.specs.Reading.{Read, refused, taken, then, counted, number_of}
use Rattle.eb3.specs.RuleSpelling.{rule_words}
use Rattle.eb3.specs.RuleReading.{parameter_limit, read_rule_term, read_process, with_process, read_processes}
use Rattle.measures.specs.Weighing.{cap, measure, weight}
use Rattle.measures.specs.declared.Weight.{Weight}
use Rattle.words.specs.Checking.{last_of}
use Rattle.words.specs.Ends.{Tail, Fine, Ends}
use Rattle.words.specs.Laws.Checking.{then_fine, giving_fine, tail_at, tail_short, number_ends}
use Rattle.words.specs.Laws.Rows.{counted_ends}
use Rattle.rule_terms.specs.Laws.Reading.{term_ends}
use Rattle.tables.specs.Layout.{process_place, body_in, process_count, body_at}
use Rattle.tables.specs.Tables.{declared, callee}
use Rattle.tables.specs.Laws.Tables.{edition_declared}
use Rattle.declarations.specs.Declaring.{Declares, entered_process}
use Rattle.declarations.specs.Laws.Declaring.{entered_before, entered_left}
use Rattle.declarations.specs.Directory.{Stands, ProcessRows}
use Rattle.declarations.proofs.DirectoryLaws.{rows_kept, rows_more, term_stands}
use Rattle.declarations.specs.Laws.Regions.{count_of_same}
use Rattle.declarations.specs.Bounds.{Bounded, Narrow}
use Rattle.declarations.specs.Laws.Processes.{process_alike, term_alike, Front, process_front, narrow_next, next_declares}
use Rattle.rules.specs.Filling.{Placed}
use Rattle.rules.specs.Sections.{process_weighed, main_weighed}
use Rattle.rules.specs.Laws.Answers.{IsFound, found_in, refusal_in}
use Rattle.rule_terms.specs.declared.Weighed.{Weighed}
use Rattle.rule_terms.specs.Weighed.{Answer, found}
use Rattle.words.specs.Readings.{RefusedAs}
use Rattle.words.specs.Laws.Refusing.{refused_number}
use Rattle.eb3.proofs.Laws.Refusals.{process_refuses}
use Rattle.refusals.specs.declared.Refusal.{Refusal}
use Rattle.refusals.specs.Numbers.{number}

-- What an answer says of the reading that it is of.
abbrev Reads : RuleSet → (ℕ → Measure) → Read Process → ℕ → Weight → Type 0
Reads R M r n w = (P : Process) × (u : List ℕ) × (r ≡ taken P u) × (n ≡ length u) × (measure w ≡ measure_term (sat cap) R M P.term)

pub found_reads : (R : RuleSet) (M : ℕ → Measure) (r : Read Process) (n : ℕ) (w : Weight) → found n w ≡ process_weighed R M r → Reads R M r n w
unfolding process_weighed
found_reads R M (refused k) n w e = absurd (subst IsFound e tt)
found_reads R M (taken P u) n w e = (P, u, refl, ap (found_in (λ (a : Weighed). a.left) 0) e, ap (λ x. measure (found_in (λ (a : Weighed). a.weight) w x)) e)

pub refused_reads : (R : RuleSet) (M : ℕ → Measure) (r : Read Process) (k : Refusal) → Err k ≡ process_weighed R M r → RefusedAs k r
unfolding process_weighed
refused_reads R M (refused j) k e = record { code = j; read = refl; named = ap (refusal_in k) e }
refused_reads R M (taken P u) k e = absurd (subst IsFound (sym e) tt)

-- A process is refused by the very number of the refusal.
pub process_refused : (R Q : RuleSet) (M : ℕ → Measure) (hi : ℕ) (t : List ℕ) (k : Refusal) → Err k ≡ process_weighed R M (read_process Q hi t) → read_process Q hi t ≡ refused (number k)
process_refused R Q M hi t k e = refused_number (read_process Q hi t) k (process_refuses Q hi t) (refused_reads R M (read_process Q hi t) k e)

-- What is left of words that were read is their end.
process_ends : (R : RuleSet) (hi : ℕ) → Ends (read_process R hi)
unfolding read_process
process_ends R hi t = then_fine _ (λ ds u. giving_fine _ u (read_rule_term R ds u) (term_ends R ds u)) t (counted 0 hi (number_of Refusal.reference (length R.domains)) t)
    (counted_ends 0 hi (number_of Refusal.reference (length R.domains)) (number_ends Refusal.reference (length R.domains)) t)

process_left : (R : RuleSet) (hi : ℕ) (t : List ℕ) (P : Process) (u : List ℕ) (n : ℕ) → read_process R hi t ≡ taken P u → n ≡ length u → u ≡ last_of n t
process_left R hi t P u n e l = sym (ap (λ j. last_of j t) l ∙ tail_at u t (subst (Fine t) e (process_ends R hi t)))

limit_four : (n k : ℕ) → k ≤ parameter_limit n → k ≤ 4
limit_four zero k h = omega arith
limit_four (suc n) k h = h

-- Main is the process just read.
pub main_read : (R : RuleSet) (P : Process) → measure_main (sat cap) (with_process R P) ≡ measure_term (sat cap) R (row_of (sat cap) R (length R.processes)) P.term
unfolding measure_main
main_read R P =
    let n : main_process (with_process R P) ≡ length R.processes = omega (arith, length-append R.processes (P ∷ [])) in
    (λ i. measure_term (sat cap) (with_process R P) (row_of (sat cap) (with_process R P) (n i)) (process (with_process R P) (n i)).term) ∙ own_measure (sat cap) R P

same_taken : (a b : RuleSet) (u v : List ℕ) → taken a u ≡ taken b v → a ≡ b
same_taken a b u v e = cc

module _ (T t : List ℕ) (n : ℕ) where
  abbrev first_process : Read Process
  first_process = read_process (declared T) (parameter_limit n) t

  -- A refusal,
  pub processes_refused : (k : Refusal) → Err k ≡ process_weighed (declared T) (callee T) first_process
      → (R : RuleSet) → Declares T R → Err k ≡ main_weighed (read_processes (suc n) R t)
  unfolding read_processes then main_weighed
  processes_refused k e R d =
      let q = refused_reads (declared T) (callee T) first_process k e in
      ap Err q.named ∙ sym (ap (λ r. main_weighed (then r λ P. read_processes n (with_process R P))) (sym (process_alike T R d (parameter_limit n) t) ∙ q.read))

  module _ (m : ℕ) (w : Weight) (e : found m w ≡ process_weighed (declared T) (callee T) first_process) where
    abbrev got : Reads (declared T) (callee T) first_process m w
    got = found_reads (declared T) (callee T) first_process m w e

    -- What is at the front of the words, for entering it.
    pub process_row_front : (get_or t 0 0 ≤ parameter_limit n) × (get_or t 0 0 + 1 ≤ length t) × (m ≤ length t)
    process_row_front =
        let f = process_front (declared T) (parameter_limit n) t got.0 got.1 got.2 in
        let k = tail_short got.1 t (subst (Fine t) got.2 (process_ends (declared T) (parameter_limit n) t)) in
        (omega (arith, f.few, f.count), f.long, omega (arith, got.3, k))

    module _ (R : RuleSet) (d : Declares T R) where
      read_behind : read_process R (parameter_limit n) t ≡ taken got.0 got.1
      read_behind = sym (process_alike T R d (parameter_limit n) t) ∙ got.2

      weighs : measure w ≡ measure_term (sat cap) R (row_of (sat cap) R (length R.processes)) got.0.term
      weighs = got.4 ∙ term_alike T R d got.0.term

      rest_reads : read_processes (suc n) R t ≡ read_processes n (with_process R got.0) got.1
      unfolding read_processes then
      rest_reads = ap (λ r. then r λ P. read_processes n (with_process R P)) read_behind

      -- Entered, it is declared with the others, and its term is after its parameters.
      module _ (p : ℕ) (T' : List ℕ) (b : Bounded T) (narrow : Narrow R) (count : process_count T ≡ p) (room : process_place (p + 1) ≤ length T)
          (entered : T' ≡ entered_process T p (take (get_or t 0 0 + 1) t) w.size w.reach w.breadth (length t - (get_or t 0 0 + 1))) where
        abbrev head : List ℕ
        head = length got.0.parameters ∷ got.0.parameters

        f : Front (parameter_limit n) t got.0
        f = process_front (declared T) (parameter_limit n) t got.0 got.1 got.2

        four : length got.0.parameters ≤ 4
        four = limit_four n (length got.0.parameters) f.few

        c : length R.processes ≡ p
        c = sym (count_of_same T R.processes d.same_processes) ∙ count

        enough : process_place (length R.processes + 1) ≤ length T
        enough = omega (arith, c)

        there : T' ≡ entered_process T (length R.processes) head w.size w.reach w.breadth (length t - (get_or t 0 0 + 1))
        there = entered ∙ (λ i. entered_process T (sym c i) (f.front i) w.size w.reach w.breadth (length t - (get_or t 0 0 + 1)))

        grown : Declares T' (with_process R got.0)
        grown = subst (λ S. Declares S (with_process R got.0)) (sym there) (next_declares T R got.0 (measure w) (length t - (get_or t 0 0 + 1)) d b narrow enough four weighs)

        grown_narrow : Narrow (with_process R got.0)
        grown_narrow = narrow_next R got.0 narrow four

        grown_placed : (whole : List ℕ) → Tail t whole → ProcessRows R.edition.width whole T 0 R.processes → Placed whole T' (with_process R got.0)
        grown_placed whole tl rows =
            let short : length head ≤ 5 = omega (arith, four) in
            let kept : ProcessRows R.edition.width whole T' 0 R.processes = rows_kept R.edition.width whole T T' 0 R.processes
            (λ j o q. ap (λ S. get_or S j 0) there ∙ entered_before T (length R.processes) head (measure w) (length t - (get_or t 0 0 + 1)) short enough j (omega arith) (omega arith)) rows in
            let place : body_at T' (0 + length R.processes) ≡ length t - (get_or t 0 0 + 1) =
            let z : process_place (0 + length R.processes) + body_in ≡ process_place (length R.processes) + body_in = omega arith in
            (λ i. get_or (there i) (z i) 0) ∙ entered_left T (length R.processes) head (measure w) (length t - (get_or t 0 0 + 1)) short enough in
            record {
              declares = grown;
              rows = rows_more R.edition.width whole T' 0 R.processes got.0 kept
                  (subst (λ m. Stands whole m (rule_words R.edition.width got.0.term)) (sym place)
                  (subst (λ (L : Edition). Stands whole (length t - (get_or t 0 0 + 1)) (rule_words L.width got.0.term)) (edition_declared T ∙ sym d.same_edition) (term_stands (declared T) (parameter_limit n) whole t got.0 got.1 tl got.2)));
            }

        -- the last: it is main;
        pub last_answers : n ≡ 0 → found m w ≡ main_weighed (read_processes (suc n) R t)
        unfolding read_processes main_weighed
        last_answers z =
            let q : found m w ≡ main_weighed (taken (with_process R got.0) got.1) = λ i. found (got.3 i) (weight ((weighs ∙ sym (main_read R got.0)) i)) in
            q ∙ (ap (λ k. main_weighed (read_processes k (with_process R got.0) got.1)) (sym z) ∙ sym (ap main_weighed rest_reads))

        pub last_placed : n ≡ 0 → (whole : List ℕ) (Q : RuleSet) (u : List ℕ) → Tail t whole → ProcessRows R.edition.width whole T 0 R.processes → read_processes (suc n) R t ≡ taken Q u → Placed whole T' Q
        unfolding read_processes
        last_placed z whole Q u tl rows e =
            let q : taken (with_process R got.0) got.1 ≡ taken Q u = ap (λ k. read_processes k (with_process R got.0) got.1) (sym z) ∙ sym rest_reads ∙ e in
            subst (Placed whole T') (same_taken (with_process R got.0) Q got.1 u q) (grown_placed whole tl rows)

        -- or one of several: the others after it, by the tables with it entered.
        module _ (r : List ℕ) (rest : r ≡ last_of m t) where
          left : r ≡ got.1
          left = rest ∙ sym (process_left (declared T) (parameter_limit n) t got.0 got.1 m got.2 got.3)

          pub next_answers : (q : Answer) → ((Q : RuleSet) → Declares T' Q → Narrow Q → q ≡ main_weighed (read_processes n Q r)) → q ≡ main_weighed (read_processes (suc n) R t)
          next_answers q next = next (with_process R got.0) grown grown_narrow ∙ ap (λ u. main_weighed (read_processes n (with_process R got.0) u)) left ∙ sym (ap main_weighed rest_reads)

          pub next_placed : (T'' whole : List ℕ) (Q : RuleSet) (u : List ℕ) → Tail t whole → ProcessRows R.edition.width whole T 0 R.processes → read_processes (suc n) R t ≡ taken Q u
              → ((P Q : RuleSet) → Placed whole T' P → Narrow P → read_processes n P r ≡ taken Q u → Placed whole T'' Q) → Placed whole T'' Q
          next_placed T'' whole Q u tl rows e next = next (with_process R got.0) Q (grown_placed whole tl rows) grown_narrow (ap (read_processes n (with_process R got.0)) left ∙ sym rest_reads ∙ e)
