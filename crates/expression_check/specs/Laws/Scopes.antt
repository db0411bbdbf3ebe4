-- What a scope says that readers ask: the width and largest number of its edition, how many variables there are, which functions now and before may
-- name, and the parameter counts of these only. So where the specification's scope takes its counts from a rule set, and each is one, it may be
-- exchanged for the code's (`data_scope`, `cond_scope`).
-- Document 01, "Values and conditions"; refusals 4 and 5.
use Prim.Native.Nat.{ℕ, zero, suc, ◌<◌}
use Rattle.std.specs.Prelude.{eqb, ltb, Bool, true, false, ◌≡◌, refl, length}
use Rattle.std.proofs.Common.{ltb-true, ◌∙◌}
use Rattle.std.proofs.Math.Path.{ap}
use mathlib.Core.List.{List, [], ◌∷◌}
use Rattle.eb3.specs.Editions.{Edition}
use Rattle.eb3.specs.Scopes.{Scope}
use Rattle.eb3.specs.Expressions.{Constant}
use Rattle.eb3.specs.Reading.{refused, taken, Reader, pick, giving, then, number_of, by_number}
use Rattle.eb3.specs.ExpressionReading.{DataKind, Readers, data_kind, cond_kind, constant_of, args_of, data_by, readers, read_data, read_cond}
use Rattle.expression_check.specs.Laws.Reading.{Agree, readers_end, data_by_same, cond_by_same}

-- What follows a number matters only of numbers below the limit.
by_number_below : {B : Type 0} (k limit : ℕ) (f g : ℕ → Reader B) (t : List ℕ) → ((a : ℕ) (u : List ℕ) → a < limit → f a u ≡ g a u) → by_number k limit f t ≡ by_number k limit g t
unfolding by_number number_of then
by_number_below k limit f g [] h = refl
by_number_below k limit f g (w ∷ t) h = go (ltb w limit) refl
  where
    go : (b : Bool) → ltb w limit ≡ b → then (pick b (taken w t) (refused k)) f ≡ then (pick b (taken w t) (refused k)) g
    go true e = h w t (ltb-true w limit e)
    go false e = refl

-- Two counts agree on the functions that a kind may name.
abbrev Counted : (ℕ → ℕ) → (ℕ → ℕ) → DataKind → Type 0
Counted a b DataKind.undefined = Unit {0}
Counted a b DataKind.constant = Unit {0}
Counted a b DataKind.variable = Unit {0}
Counted a b DataKind.select = Unit {0}
Counted a b DataKind.wrong = Unit {0}
Counted a b (DataKind.pair k) = Unit {0}
Counted a b (DataKind.attribute k limit) = (f : ℕ) → f < limit → a f ≡ b f

either : (a b : ℕ → ℕ) (t : Bool) (x y : DataKind) → Counted a b x → Counted a b y → Counted a b (pick t x y)
either a b true x y p q = p
either a b false x y p q = q

abbrev with_counts : Scope → Edition → (ℕ → ℕ) → Scope
with_counts P L b = record { edition = L; arity = b; now = P.now; before = P.before; variables = P.variables }

module _ (P : Scope) (L : Edition) (b : ℕ → ℕ) (width : P.edition.width ≡ L.width) (top : P.edition.top ≡ L.top)
    (in_now : (f : ℕ) → f < P.now → P.arity f ≡ b f) (in_before : (f : ℕ) → f < P.before → P.arity f ≡ b f) where
  kind_counted : (w : ℕ) → Counted P.arity b (data_kind P w)
  kind_counted w =
      let or = either P.arity b in
      or (eqb w 0) _ _ tt (or (eqb w 1) _ _ tt (or (eqb w 2) _ _ tt (or (eqb w 3) _ _ tt (or (eqb w 4) _ _ tt (or (eqb w 5) _ _ tt
      (or (eqb w 6) _ _ in_now (or (eqb w 7) _ _ (or (ltb 0 P.before) _ _ in_before tt) tt)))))))

  data_by_counts : (e : Readers) (t : List ℕ) (k : DataKind) → Counted P.arity b k → data_by P e k t ≡ data_by (with_counts P L b) e k t
  data_by_counts e t DataKind.undefined m = refl
  data_by_counts e t DataKind.constant m = λ i. giving Constant (constant_of (width i) (top i) t)
  data_by_counts e t DataKind.variable m = refl
  data_by_counts e t (DataKind.pair k) m = refl
  data_by_counts e t DataKind.select m = refl
  data_by_counts e t (DataKind.attribute k limit) m =
      by_number_below 5 limit (λ x u. giving (k x) (args_of e.datum (P.arity x) u)) (λ x u. giving (k x) (args_of e.datum (b x) u)) t
      (λ x u l. ap (λ n. giving (k x) (args_of e.datum n u)) (m x l))
  data_by_counts e t DataKind.wrong m = refl

  abbrev from : ℕ → Readers
  from n = readers P n

  abbrev to : ℕ → Readers
  to n = readers (with_counts P L b) n

  readers_counts : (n : ℕ) (s : List ℕ) → ((from n).datum s ≡ (to n).datum s) × ((from n).condition s ≡ (to n).condition s)
  unfolding readers
  readers_counts zero s = (refl, refl)
  readers_counts (suc n) [] = (refl, refl)
  readers_counts (suc n) (w ∷ t) =
      let i = readers_end P n in
      let h : Agree t (from n) (to n) = (λ r le. (readers_counts n r).0, λ r le. (readers_counts n r).1) in (
        data_by_counts (from n) t (data_kind P w) (kind_counted w) ∙ data_by_same (with_counts P L b) (from n) (to n) i.0 i.1 t h (data_kind P w),
        cond_by_same (with_counts P L b) (from n) (to n) i.0 i.1 t h (cond_kind w),
      )

module _ (P Q : Scope) (width : P.edition.width ≡ Q.edition.width) (top : P.edition.top ≡ Q.edition.top) (now : P.now ≡ Q.now) (before : P.before ≡ Q.before)
    (variables : P.variables ≡ Q.variables) (in_now : (f : ℕ) → f < P.now → P.arity f ≡ Q.arity f) (in_before : (f : ℕ) → f < P.before → P.arity f ≡ Q.arity f) where
  one_scope : with_counts P Q.edition Q.arity ≡ Q
  one_scope = rw (now, before, variables)

  pub data_scope : (s : List ℕ) → read_data P s ≡ read_data Q s
  unfolding read_data
  data_scope s = (readers_counts P Q.edition Q.arity width top in_now in_before (length s) s).0 ∙ ap (λ S. read_data S s) one_scope

  pub cond_scope : (s : List ℕ) → read_cond P s ≡ read_cond Q s
  unfolding read_cond
  cond_scope s = (readers_counts P Q.edition Q.arity width top in_now in_before (length s) s).1 ∙ ap (λ S. read_cond S s) one_scope
