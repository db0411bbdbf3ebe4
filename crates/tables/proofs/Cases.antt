-- A case for each way that these functions return; the premises have the form of the facts known there, so that `search` finds them.
use Prim.Native.Nat.{ℕ, suc, ◌+◌, ◌-◌, ◌≤◌, ◌<◌}
use native.Mathlib.Omega.{arith}
use mathlib.Core.Path.{◌≡◌, refl, sym, ap, ◌∙◌}
use mathlib.Core.List.{List, [], ◌∷◌}
use lib.ListN.{length, take, drop, get_or, drop_of_length-le}
use lib.Seq.{take-nil}
use lib.Dec.{eqb, ltb}
use Rattle.std.specs.Prelude.{Bool, true, false}
use Rattle.std.proofs.Math.Decide.{dec_le}
use borrow.Author.Tests.{lt-ltb, le-ltb, le-leb, lt-leb, eq-eqb, ne_eqb}
use Rattle.words.specs.Checking.{checked, Checked}
use Rattle.words.specs.Laws.Checking.{nil_form, part, by_number_out}
use Rattle.words.specs.Laws.Reading.{number_below}
use Rattle.eb3.specs.RuleSets.{domain_size, variable_argument}
use Rattle.eb3.specs.Reading.{taken, refused, pick, then, number_of, by_number, number_in}
use Rattle.eb3.specs.RuleReading.{argument_of}
use Rattle.tables.specs.Layout.{sizes_place, domain_count}
use Rattle.tables.specs.Tables.{row, declared, constant_of_domain, variable_of_domain}
use Rattle.tables.specs.Laws.Tables.{domain_at, domain_beyond, argument_is}
use Rattle.std.specs.Prelude.{Ok, Err}
use Rattle.refusals.specs.declared.Refusal.{Refusal}
use Rattle.refusals.specs.declared.Refusal.TheVariants.{Form, Kind}
use Rattle.refusals.specs.Numbers.{refusal}

-- ── the tables ──

pub row_front : (T : List ℕ) (at n : ℕ) (u : List ℕ) → n ≡ get_or T at 0 → u ≡ take n (take (length T - (at + 1)) (drop (at + 1) T)) → u ≡ row T at
unfolding row
row_front T at n u e h = h ∙ ap (take n) (part (at + 1) T) ∙ ap (λ k. take k (drop (at + 1) T)) e

pub row_none : (T : List ℕ) (at : ℕ) → length T ≤ at → [] ≡ row T at
unfolding row
row_none T at h =
    let o : length T ≤ at + 1 = omega arith in
    sym (ap (take (get_or T at 0)) (drop_of_length-le T {i = at + 1} o) ∙ take-nil (get_or T at 0))

pub size_there : (T : List ℕ) (d a e : ℕ) → a ≡ domain_count T → d < a → e ≡ get_or T (sizes_place d) 0 → e ≡ domain_size (declared T) d
size_there T d a e i h k = k ∙ sym (domain_at T d (omega (arith, i)))

pub size_beyond : (T : List ℕ) (d a : ℕ) → a ≡ domain_count T → a ≤ d → ◌≡◌ {A = ℕ} 0 (domain_size (declared T) d)
size_beyond T d a i h = sym (domain_beyond T d (omega (arith, i)))

pub ruleset tables = (row_front, row_none)

-- ── arguments ──

-- T has the tables, d is the domain, m its size
module _ (T : List ℕ) (d : ℕ) where
  constant_in : (m : ℕ) (t : List ℕ) → (length t ≡ 0 → ⊥) → get_or t 0 0 ≤ 65534 → m ≡ domain_size (declared T) d → get_or t 0 0 < m → Ok (length t - 1) ≡ checked (constant_of_domain (declared T) d t)
  unfolding constant_of_domain declared number_in then checked
  constant_in m [] h l i j = absurd (h refl)
  constant_in m (w ∷ t) h l i j = simp (le-leb w 65534 l, lt-ltb w (domain_size (declared T) d) (rw (← i) j)) (ap Ok (omega arith))

  constant_out : (m : ℕ) (t : List ℕ) → (length t ≡ 0 → ⊥) → get_or t 0 0 ≤ 65534 → m ≡ domain_size (declared T) d → m ≤ get_or t 0 0 → Err Kind ≡ checked (constant_of_domain (declared T) d t)
  unfolding constant_of_domain declared number_in then checked refusal
  constant_out m [] h l i j = absurd (h refl)
  constant_out m (w ∷ t) h l i j = simp (le-leb w 65534 l, le-ltb w (domain_size (declared T) d) (rw (← i) j))

module _ (Γ : List ℕ) (d : ℕ) where
  variable_in : (t : List ℕ) → (length t ≡ 0 → ⊥) → get_or t 0 0 < length Γ → get_or Γ (get_or t 0 0) 0 ≡ d → Ok (length t - 1) ≡ checked (variable_of_domain Γ d t)
  unfolding variable_of_domain by_number number_of then checked
  variable_in [] h l g = absurd (h refl)
  variable_in (w ∷ t) h l g = simp (lt-ltb w (length Γ) l, eq-eqb (get_or Γ w 0) d g) (ap Ok (omega arith))

  variable_other : (t : List ℕ) → (length t ≡ 0 → ⊥) → get_or t 0 0 < length Γ → (get_or Γ (get_or t 0 0) 0 ≡ d → ⊥) → Err Kind ≡ checked (variable_of_domain Γ d t)
  unfolding variable_of_domain by_number number_of then checked refusal
  variable_other [] h l g = absurd (h refl)
  variable_other (w ∷ t) h l g = simp (lt-ltb w (length Γ) l, ne_eqb (get_or Γ w 0) d g)

-- p is what the check of the number answers, x the number
module _ (k limit : ℕ) (t : List ℕ) (p : Checked) (e : p ≡ checked (number_of k limit t)) where
  number_left : (n : ℕ) → p ≡ Ok n → (0 < length t) × (n ≡ length t - 1)
  unfolding number_of checked
  number_left n f = go t (sym f ∙ e)
    where
      go : (s : List ℕ) → Ok n ≡ checked (number_of k limit s) → (0 < length s) × (n ≡ length s - 1)
      go [] g = absurd (let z : ◌≡◌ {A = ℕ} 0 1 = cc in omega arith)
      go (w ∷ s) g = by (ltb w limit) g
        where
          by : (b : Bool) → Ok n ≡ checked (pick b (taken w s) (refused k)) → (0 < suc (length s)) × (n ≡ suc (length s) - 1)
          by true h = let m : n ≡ length s = cc in (omega arith, omega arith)
          by false h = absurd (let z : ◌≡◌ {A = ℕ} 0 1 = cc in omega arith)

module _ (T : List ℕ) (d : ℕ) (t : List ℕ) (p : Checked) (e : p ≡ checked (number_of 4 65535 t)) where
  pub constant_bad : (k : Refusal) → p ≡ Err k → Err k ≡ checked (constant_of_domain (declared T) d t)
  unfolding constant_of_domain declared number_in number_of then checked refusal
  constant_bad k f = go t (sym f ∙ e)
    where
      go : (s : List ℕ) → Err k ≡ checked (number_of 4 65535 s) → Err k ≡ checked (constant_of_domain (declared T) d s)
      go [] g = g
      go (w ∷ s) g = by (dec_le w 65534)
        where
          by : Dec (w ≤ 65534) → Err k ≡ checked (constant_of_domain (declared T) d (w ∷ s))
          by (yes l) = absurd (let z : ◌≡◌ {A = ℕ} 0 1 = (let h = rw (lt-ltb w 65535 (omega arith)) at g in cc) in omega arith)
          by (no l) = (rw (le-ltb w 65535 (omega arith)) at g) ∙ simp (lt-leb w 65534 (omega arith))

  module _ (n m x : ℕ) (f : p ≡ Ok n) (g : x ≡ get_or t 0 0) (i : m ≡ domain_size (declared T) d) where
    small : get_or t 0 0 ≤ 65534
    small = let h : get_or t 0 0 < 65535 = number_below 4 65535 n t (sym f ∙ e) in omega arith

    some : length t ≡ 0 → ⊥
    some z = let h = number_left 4 65535 t p e n f in omega (arith, h.0)

    pub constant_is : x < m → Ok n ≡ checked (constant_of_domain (declared T) d t)
    constant_is l = ap Ok (number_left 4 65535 t p e n f).1 ∙ constant_in T d m t some small i (rw (← g) l)

    pub constant_is_not : m ≤ x → Err Kind ≡ checked (constant_of_domain (declared T) d t)
    constant_is_not l = constant_out T d m t some small i (rw (← g) l)

module _ (Γ : List ℕ) (d : ℕ) (t : List ℕ) (p : Checked) (e : p ≡ checked (number_of 5 (length Γ) t)) where
  pub variable_bad : (k : Refusal) → p ≡ Err k → Err k ≡ checked (variable_of_domain Γ d t)
  unfolding variable_of_domain
  variable_bad k f = by_number_out 5 (length Γ) (λ i u. pick (eqb (get_or Γ i 0) d) (taken (variable_argument i) u) (refused 6)) t p k e f

  module _ (n x : ℕ) (f : p ≡ Ok n) (g : x ≡ get_or t 0 0) where
    below : get_or t 0 0 < length Γ
    below = number_below 5 (length Γ) n t (sym f ∙ e)

    pub variable_below : x < length Γ
    variable_below = rw g below

    known : length t ≡ 0 → ⊥
    known z = let h = number_left 5 (length Γ) t p e n f in omega (arith, h.0)

    pub variable_is : get_or Γ x 0 ≡ d → Ok n ≡ checked (variable_of_domain Γ d t)
    variable_is l = ap Ok (number_left 5 (length Γ) t p e n f).1 ∙ variable_in Γ d t known below (rw (← g) l)

    pub variable_is_not : (get_or Γ x 0 ≡ d → ⊥) → Err Kind ≡ checked (variable_of_domain Γ d t)
    variable_is_not l = variable_other Γ d t known below (λ h. l (rw g h))

pub argument_none : (T Γ : List ℕ) (d : ℕ) (t : List ℕ) → length t ≡ 0 → Err Form ≡ checked (argument_of (declared T) Γ d t)
unfolding argument_of checked refusal
argument_none T Γ d t h = rw (nil_form t h)

-- s is the words, t those after the first
module _ (T Γ : List ℕ) (d : ℕ) where
  by_code : (s t : List ℕ) (p : Checked) → (length s ≡ 0 → ⊥) → t ≡ drop 1 s
      → p ≡ checked (pick (eqb (get_or s 0 0) 1) (constant_of_domain (declared T) d t) (pick (eqb (get_or s 0 0) 2) (variable_of_domain Γ d t) (refused 4)))
      → p ≡ checked (argument_of (declared T) Γ d s)
  by_code [] t p h e f = absurd (h refl)
  by_code (c ∷ s) t p h e f = rw (argument_is, ← e) f

  pub argument_constant : (s t : List ℕ) (p : Checked) → (length s ≡ 0 → ⊥) → t ≡ drop 1 s → get_or s 0 0 ≡ 1 → p ≡ checked (constant_of_domain (declared T) d t) → p ≡ checked (argument_of (declared T) Γ d s)
  argument_constant s t p h e c f = by_code s t p h e (rw c f)

  pub argument_variable : (s t : List ℕ) (p : Checked) → (length s ≡ 0 → ⊥) → t ≡ drop 1 s → get_or s 0 0 ≡ 2 → p ≡ checked (variable_of_domain Γ d t) → p ≡ checked (argument_of (declared T) Γ d s)
  argument_variable s t p h e c f = by_code s t p h e (rw c f)

  pub argument_wrong : (s : List ℕ) → (length s ≡ 0 → ⊥) → ((Unit {0} × (get_or s 0 0 ≡ 1 → ⊥)) × (get_or s 0 0 ≡ 2 → ⊥)) → Err Form ≡ checked (argument_of (declared T) Γ d s)
  unfolding checked refusal
  argument_wrong s h o = by_code s (drop 1 s) (Err Form) h refl (simp (ne_eqb (get_or s 0 0) 1 o.0.1, ne_eqb (get_or s 0 0) 2 o.1))

pub ruleset an_argument = (constant_bad, constant_is, constant_is_not, variable_bad, variable_below, variable_is, variable_is_not, argument_none, argument_constant, argument_variable, argument_wrong)
