-- Laws of reading expressions: one of two codes, what is left is an end of the words, and each reader is its own step, since a depth of more
-- codes than words changes nothing.
-- Document 01, "Values and conditions"; refusals 4 and 5.
use Prim.Native.Nat.{ℕ, zero, suc, ◌≤◌}
use Rattle.std.proofs.Common.{arith, inl, inr, le_refl, le_trans, le_of_suc-le-suc, not-suc-le-zero, ◌∙◌}
use Rattle.std.proofs.Math.Decide.{ℕ_discrete}
use Rattle.std.specs.Prelude.{◌⊎◌, leb, ◌≡◌, refl, length, drop, get_or}
use Rattle.std.proofs.Math.Path.{ap}
use mathlib.Core.List.{List, [], ◌∷◌}
use Rattle.eb3.specs.Refusal
use Rattle.eb3.specs.Expressions.{Data, Cons, Constant, Variable, If, Not}
use Rattle.eb3.specs.Scopes.{Scope}
use Rattle.eb3.specs.Reading.{refused, taken, Reader, pick, giving, both, number_of, number_in}
use Rattle.eb3.specs.ExpressionReading.{DataKind, CondKind, Readers, data_kind, cond_kind, constant_of, args_of, data_by, cond_by, data_step, cond_step, readers, read_data, read_cond}
use Rattle.words.specs.Ends.{Ends, Same}
use Rattle.words.specs.Laws.Checking.{tail_here, giving_fine, then_fine, pick_fine, both_ends, step_fine, number_ends, both_same, by_number_ends, by_number_same}
use Rattle.words.specs.Laws.Rows.{number_in_ends}

-- ── codes ──

-- One of two codes.
pub two_ways : (w a : ℕ) → a ≤ w → w ≤ suc a → (w ≡ a) ⊎ (w ≡ suc a)
two_ways w a l u = go (ℕ_discrete w a)
  where
    go : Dec (w ≡ a) → (w ≡ a) ⊎ (w ≡ suc a)
    go (yes e) = inl e
    go (no n) = inr (omega arith)

-- ── ends ──

pub constant_ends : (n top : ℕ) → Ends (constant_of n top)
unfolding constant_of
constant_ends n top t = then_fine (λ v u. pick (leb v top) (taken v u) (refused Refusal.form)) (λ v u. pick_fine u (leb v top) (taken v u) (refused Refusal.form) (tail_here u) tt) t (number_in n t) (number_in_ends n t)

pub args_ends : (d : Reader Data) → Ends d → (n : ℕ) → Ends (args_of d n)
unfolding args_of
args_ends d h zero t = tail_here t
args_ends d h (suc n) t = giving_fine (λ p. Cons p.0 p.1) t (both d (args_of d n) t) (both_ends d (args_of d n) h (args_ends d h n) t)

-- Of readers whose operands are read to an end.
module _ (P : Scope) (e : Readers) (d : Ends e.datum) (c : Ends e.condition) where
  two_ends : Ends (both e.datum e.datum)
  two_ends = both_ends e.datum e.datum d d

  data_by_ends : (k : DataKind) → Ends (data_by P e k)
  data_by_ends DataKind.undefined t = tail_here t
  data_by_ends DataKind.constant t = giving_fine Constant t (constant_of P.edition.width P.edition.top t) (constant_ends P.edition.width P.edition.top t)
  data_by_ends DataKind.variable t = giving_fine Variable t (number_of 5 P.variables t) (number_ends 5 P.variables t)
  data_by_ends (DataKind.pair k) t = giving_fine (λ p. k p.0 p.1) t (both e.datum e.datum t) (two_ends t)
  data_by_ends DataKind.select t = giving_fine (λ p. If p.0 p.1.0 p.1.1) t (both e.condition (both e.datum e.datum) t) (both_ends e.condition (both e.datum e.datum) c two_ends t)
  data_by_ends (DataKind.attribute k limit) t = by_number_ends 5 limit (λ f u. giving (k f) (args_of e.datum (P.arity f) u)) (λ f u. giving_fine (k f) u (args_of e.datum (P.arity f) u) (args_ends e.datum d (P.arity f) u)) t
  data_by_ends DataKind.wrong t = tt

  cond_by_ends : (k : CondKind) → Ends (cond_by e k)
  cond_by_ends (CondKind.compare k) t = giving_fine (λ p. k p.0 p.1) t (both e.datum e.datum t) (two_ends t)
  cond_by_ends (CondKind.join k) t = giving_fine (λ p. k p.0 p.1) t (both e.condition e.condition t) (both_ends e.condition e.condition c c t)
  cond_by_ends CondKind.negate t = giving_fine Not t (e.condition t) (c t)
  cond_by_ends CondKind.always t = tail_here t
  cond_by_ends CondKind.wrong t = tt

  data_step_ends : Ends (data_step P e)
  data_step_ends [] = tt
  data_step_ends (w ∷ t) = step_fine w t (data_by P e (data_kind P w) t) (data_by_ends (data_kind P w) t)

  cond_step_ends : Ends (cond_step e)
  cond_step_ends [] = tt
  cond_step_ends (w ∷ t) = step_fine w t (cond_by e (cond_kind w) t) (cond_by_ends (cond_kind w) t)

pub readers_end : (P : Scope) (n : ℕ) → Ends (readers P n).datum × Ends (readers P n).condition
unfolding readers
readers_end P zero = (λ s. tt, λ s. tt)
readers_end P (suc n) =
    let h = readers_end P n in
    (data_step_ends P (readers P n) h.0 h.1, cond_step_ends P (readers P n) h.0 h.1)

pub data_ends : (P : Scope) → Ends (read_data P)
unfolding read_data
data_ends P s = (readers_end P (length s)).0 s

pub cond_ends : (P : Scope) → Ends (read_cond P)
unfolding read_cond
cond_ends P s = (readers_end P (length s)).1 s

-- ── agreement ──

abbrev pub Agree : List ℕ → Readers → Readers → Type 0
Agree s e f = Same s e.datum f.datum × Same s e.condition f.condition

pub args_same : (s : List ℕ) (d g : Reader Data) → Ends d → Same s d g → (n : ℕ) → Same s (args_of d n) (args_of g n)
unfolding args_of
args_same s d g h i zero r le = refl
args_same s d g h i (suc n) r le = ap (giving _) (both_same s d g (args_of d n) (args_of g n) h i (args_same s d g h i n) r le)

module _ (P : Scope) (e f : Readers) (d : Ends e.datum) (c : Ends e.condition) (t : List ℕ) (h : Agree t e f) where
  two_same : Same t (both e.datum e.datum) (both f.datum f.datum)
  two_same = both_same t e.datum f.datum e.datum f.datum d h.0 h.0

  pub data_by_same : (k : DataKind) → data_by P e k t ≡ data_by P f k t
  data_by_same DataKind.undefined = refl
  data_by_same DataKind.constant = refl
  data_by_same DataKind.variable = refl
  data_by_same (DataKind.pair k) = ap (giving _) (two_same t (le_refl (length t)))
  data_by_same DataKind.select = ap (giving _) (both_same t e.condition f.condition _ _ c h.1 two_same t (le_refl (length t)))
  data_by_same (DataKind.attribute k limit) =
      by_number_same t 5 limit (λ x u. giving (k x) (args_of e.datum (P.arity x) u)) (λ x u. giving (k x) (args_of f.datum (P.arity x) u))
      (λ x r le. ap (giving (k x)) (args_same t e.datum f.datum d h.0 (P.arity x) r le)) t (le_refl (length t))
  data_by_same DataKind.wrong = refl

  pub cond_by_same : (k : CondKind) → cond_by e k t ≡ cond_by f k t
  cond_by_same (CondKind.compare k) = ap (giving _) (two_same t (le_refl (length t)))
  cond_by_same (CondKind.join k) = ap (giving _) (both_same t e.condition f.condition _ _ c h.1 h.1 t (le_refl (length t)))
  cond_by_same CondKind.negate = ap (giving Not) (h.1 t (le_refl (length t)))
  cond_by_same CondKind.always = refl
  cond_by_same CondKind.wrong = refl

-- The readers themselves, at any depth that is enough.
abbrev pub whole : Scope → Readers
whole P = record { datum = read_data P; condition = read_cond P }

module _ (P : Scope) where
  abbrev to : ℕ → Readers
  to n = readers P n

  enough : (n m : ℕ) (s : List ℕ) → length s ≤ n → length s ≤ m → ((to n).datum s ≡ (to m).datum s) × ((to n).condition s ≡ (to m).condition s)
  unfolding readers
  enough zero zero [] p q = (refl, refl)
  enough zero (suc m) [] p q = (refl, refl)
  enough (suc n) zero [] p q = (refl, refl)
  enough (suc n) (suc m) [] p q = (refl, refl)
  enough zero m (w ∷ t) p q = absurd (not-suc-le-zero p)
  enough (suc n) zero (w ∷ t) p q = absurd (not-suc-le-zero q)
  enough (suc n) (suc m) (w ∷ t) p q =
      let i = readers_end P n in
      let h : Agree t (to n) (to m) = (
        λ r le. (enough n m r (le_trans le (le_of_suc-le-suc p)) (le_trans le (le_of_suc-le-suc q))).0,
        λ r le. (enough n m r (le_trans le (le_of_suc-le-suc p)) (le_trans le (le_of_suc-le-suc q))).1,
      ) in (
        data_by_same P (to n) (to m) i.0 i.1 t h (data_kind P w),
        cond_by_same P (to n) (to m) i.0 i.1 t h (cond_kind w),
      )

  to_whole : (t : List ℕ) → Agree t (to (length t)) (whole P)
  unfolding read_data read_cond
  to_whole t = (λ r le. (enough (length t) (length r) r le (le_refl (length r))).0, λ r le. (enough (length t) (length r) r le (le_refl (length r))).1)

  -- What the first code says of the whole.
  pub data_case : (s : List ℕ) (k : DataKind) → (length s ≡ 0 → ⊥) → data_kind P (get_or s 0 0) ≡ k → read_data P s ≡ data_by P (whole P) k (drop 1 s)
  unfolding read_data readers
  data_case [] k h e = absurd (h refl)
  data_case (w ∷ t) k h e =
      let i = readers_end P (length t) in
      data_by_same P (to (length t)) (whole P) i.0 i.1 t (to_whole t) (data_kind P w) ∙ ap (λ j. data_by P (whole P) j t) e

  pub cond_case : (s : List ℕ) (k : CondKind) → (length s ≡ 0 → ⊥) → cond_kind (get_or s 0 0) ≡ k → read_cond P s ≡ cond_by (whole P) k (drop 1 s)
  unfolding read_cond readers
  cond_case [] k h e = absurd (h refl)
  cond_case (w ∷ t) k h e =
      let i = readers_end P (length t) in
      cond_by_same P (to (length t)) (whole P) i.0 i.1 t (to_whole t) (cond_kind w) ∙ ap (λ j. cond_by (whole P) j t) e
