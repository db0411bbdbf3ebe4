-- What an answer of the check says of the reading: what was read, the words after it and its measures (`got`), or that nothing was (`none_read`);
-- and where only the words left are asked, `left_taken` and `left_none`.
-- Document 01, "Unfolding, size and breadth"; refusal 10.
use Rattle.std.specs.Prelude.{Some, None, ℕ, ◌+◌, ◌-◌, ◌≤◌, ◌≡◌, List, ◌++◌, length}
use Rattle.std.proofs.Common.{arith, ap, ◌∙◌, subst, length-append}
use Rattle.std.proofs.Math.Path.{refl}
use Rattle.eb3.specs.Terms.{Term}
use Rattle.eb3.specs.Sizes.{size, reach, breadth}
use Rattle.eb3.specs.Spelling.{words}
use Rattle.eb3.specs.WellFormedness.{WellFormedTerm}
use Rattle.eb3.specs.Measures.{sat, Measure, measure_running}
use Rattle.eb3.specs.Reading.{Read, refused, taken}
use Rattle.eb3.specs.TermReading.{read_term}
use Rattle.eb3.proofs.Laws.Reading.{Sound}
use Rattle.eb3.proofs.Laws.TermReading.{term_sound}
use Rattle.eb3.proofs.Laws.Spelling.{words_length}
use Rattle.eb3.proofs.Laws.Saturation.{measure_running_sat}
use Rattle.words.specs.Checking.{last_of}
use Rattle.words.specs.Ends.{Fine}
use Rattle.words.specs.Laws.Checking.{tail_short, tail_at}
use Rattle.words.specs.Readings.{Taken, RefusedAs}
use Rattle.measures.specs.Weighing.{cap}
use Rattle.tables.specs.Tables.{declared}
use Rattle.term_check.specs.Given.{Weighed, weighed_running}
use Rattle.term_check.specs.Answers.{left_after}
use Rattle.term_check.specs.Laws.Reading.{term_ends}
use Rattle.refusals.specs.declared.Refusal.{Refusal}
use Rattle.refusals.specs.Numbers.{refusal}

-- ── a term's measures ──

module _ (E : Term) where
  pub reach_cut : (measure_running (sat cap) 1 E).reach ≡ sat cap (reach 1 E)
  reach_cut = ap (λ (m : Measure). m.reach) (measure_running_sat cap 1 E)

  pub breadth_cut : (measure_running (sat cap) 1 E).breadth ≡ sat cap (breadth E)
  breadth_cut = ap (λ (m : Measure). m.breadth) (measure_running_sat cap 1 E)

  size_cut : (measure_running (sat cap) 1 E).size ≡ sat cap (size 1 E)
  size_cut = ap (λ (m : Measure). m.size) (measure_running_sat cap 1 E)

  pub reach_small : (measure_running (sat cap) 1 E).reach ≤ 65536
  reach_small = omega (arith, reach_cut)

  pub breadth_small : (measure_running (sat cap) 1 E).breadth ≤ 65536
  breadth_small = omega (arith, breadth_cut)

-- A running term's size is the words that it took.
pub taken_size : (T t : List ℕ) (E : Term) (u : List ℕ) → read_term (declared T) t ≡ taken E u → length t ≡ size 1 E + length u
unfolding declared
taken_size T t E u e =
    let h : (t ≡ words 1 E ++ u) × WellFormedTerm (declared T) E = subst (λ r. Sound (words 1) (WellFormedTerm (declared T)) t r) e (term_sound (declared T) t) in
    omega (arith, ap length h.0, length-append (words 1 E) u, words_length (declared T) E h.1)

-- ── words left ──

pub left_none : {A : Type 0} (r : Read A) → None ≡ left_after r → (k : Refusal) × RefusedAs k r
unfolding left_after
left_none (refused k) e = (refusal k, record { code = k; read = refl; named = refl })
left_none (taken a u) e = absurd (let z : ◌≡◌ {A = ℕ} 0 1 = cc in omega arith)

pub left_taken : {A : Type 0} (t : List ℕ) (n : ℕ) (r : Read A) → Fine t r → Some n ≡ left_after r → Taken t n r
unfolding left_after
left_taken t n (refused k) f e = absurd (let z : ◌≡◌ {A = ℕ} 0 1 = cc in omega arith)
left_taken t n (taken a u) f e =
    let k : n ≡ length u = cc in
    record { value = a; rest = u; read = refl; left = k; words = ap (λ j. last_of j t) k ∙ tail_at u t f; short = omega (arith, k, tail_short u t f) }

-- ── what was read ──

pub refused_none : (r : Read Term) (k : Refusal) → RefusedAs k r → None ≡ weighed_running r
unfolding weighed_running
refused_none r k h = rw h.read

pub none_read : (r : Read Term) → None ≡ weighed_running r → (k : Refusal) × RefusedAs k r
unfolding weighed_running
none_read (refused k) e = (refusal k, record { code = k; read = refl; named = refl })
none_read (taken E u) e = absurd (let z : ◌≡◌ {A = ℕ} 0 1 = cc in omega arith)

-- The measures that an answer says of a term of n words.
abbrev pub measure_said : ℕ → Weighed → Measure
measure_said n p = record { size = n; reach = p.reach; breadth = p.breadth }

pub record Got (T t : List ℕ) (p : Weighed) : Type 0 where
  pub value : Term
  pub rest : List ℕ
  pub read : read_term (declared T) t ≡ taken value rest
  pub left : p.left ≡ length rest
  pub words : last_of p.left t ≡ rest
  pub short : p.left ≤ length t
  pub measured : measure_said (length t - p.left) p ≡ measure_running (sat cap) 1 value

pub got : (T t : List ℕ) (p : Weighed) → length t ≤ 8192 → Some p ≡ weighed_running (read_term (declared T) t) → Got T t p
unfolding weighed_running
got T t p fits e = go (read_term (declared T) t) refl e
  where
    go : (r : Read Term) → read_term (declared T) t ≡ r → Some p ≡ weighed_running r → Got T t p
    go (refused k) q f = absurd (let z : ◌≡◌ {A = ℕ} 0 1 = cc in omega arith)
    go (taken E u) q f =
        let i : p.left ≡ length u = cc in
        let g : p.reach ≡ (measure_running (sat cap) 1 E).reach = cc in
        let b : p.breadth ≡ (measure_running (sat cap) 1 E).breadth = cc in
        let s : length t - p.left ≡ (measure_running (sat cap) 1 E).size = omega (arith, i, taken_size T t E u q, size_cut E) in
        record {
          value = E;
          rest = u;
          read = q;
          left = i;
          words = ap (λ n. last_of n t) i ∙ tail_at u t (subst (Fine t) q (term_ends (declared T) t));
          short = omega (arith, i, taken_size T t E u q);
          measured = λ j. record { size = s j; reach = g j; breadth = b j };
        }
