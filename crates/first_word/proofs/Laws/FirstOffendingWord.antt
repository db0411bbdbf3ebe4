-- The readers of expressions (document 01, "Values and conditions") follow the verdict word by word: whatever is due after them, and however many
-- zeros are allowed at the end.
use Rattle.std.specs.Prelude.{◌≡◌, Bool, T, eqb, ltb, leb, length}
use Rattle.std.proofs.Math.Path.{refl, ap, sym}
use Rattle.std.proofs.Common.{◌∙◌, subst, arith}
use Rattle.std.proofs.Math.Bool.{true, false}
use mathlib.Core.List.{List, [], ◌∷◌, ◌++◌}
use Rattle.std.proofs.Math.Option.{Option, none, some}
use Prim.Native.Nat.{ℕ, zero, suc, ◌+◌, ◌*◌, ◌≤◌}
use Rattle.std.proofs.Math.ListN.{replicate}
use Rattle.eb3.specs.Refusal
use Rattle.eb3.specs.Editions.{Edition}
use Rattle.eb3.specs.Scopes.{Scope}
use Rattle.eb3.specs.Expressions.{Data, Undefined, Constant, Variable, Add, Subtract, If, Now, Before, Args, Nil, Cons, Cond, Equal, Less, And, Or, Not, True}
use Rattle.eb3.specs.Reading.{Read, refused, taken, Reader, pick, giving, then, both, number_of, by_number, number_in}
use Rattle.eb3.specs.ExpressionReading.{DataKind, CondKind, Readers, data_kind, cond_kind, constant_of, args_of, data_by, cond_by, data_step, cond_step, readers, read_data, read_cond}
use Rattle.first_word.specs.FirstOffendingWord.{Declared, Due, data_code, condition_code, constant, variable_number, function_number, data_operands, condition_operands, is_code, operands, by_form, with_last, judge, padding, verdict}

-- The verdict is that some word offends.
abbrev pub Offends : Option ℕ → Type 0
Offends none = ⊥
Offends (some k) = Unit

-- The verdict g on the words after what was read; where reading was refused, that refusal is the verdict.
unfoldable pub followed : {A : Type 0} → Read A → (A → List ℕ → Option ℕ) → Option ℕ
followed (refused k) g = some k
followed (taken a u) g = g a u

pub followed_giving : {A B : Type 0} (f : A → B) (r : Read A) (g : B → List ℕ → Option ℕ) → followed (giving f r) g ≡ followed r (λ a u. g (f a) u)
unfolding followed giving
followed_giving f (refused k) g = refl
followed_giving f (taken a u) g = refl

pub followed_then : {A B : Type 0} (r : Read A) (h : A → Reader B) (g : B → List ℕ → Option ℕ) → followed (then r h) g ≡ followed r (λ a u. followed (h a u) g)
unfolding followed then
followed_then (refused k) h g = refl
followed_then (taken a u) h g = refl

pub followed_pick : {A : Type 0} (b : Bool) (x y : Read A) (g : A → List ℕ → Option ℕ) → followed (pick b x y) g ≡ pick b (followed x g) (followed y g)
followed_pick true x y g = refl
followed_pick false x y g = refl

-- Two chains of tests, step by step.
pub alike : {X Y : Type 0} (Q : X → Y → Type 0) (b : Bool) (x y : X) (x' y' : Y) → Q x x' → Q y y' → Q (pick b x y) (pick b x' y')
alike Q true x y x' y' p q = p
alike Q false x y x' y' p q = q

pub under : (b : Bool) (x y z : Option ℕ) → (T b → x ≡ y) → pick b x z ≡ pick b y z
under true x y z h = h tt
under false x y z h = refl

-- With nothing due, zeros.
pub nothing_due : (allowed_zeros : ℕ) (L : Edition) (D : Declared) (s : List ℕ) → verdict allowed_zeros L s D [] ≡ padding allowed_zeros s
unfolding verdict padding
nothing_due allowed_zeros L D [] = refl
nothing_due allowed_zeros L D (w ∷ t) = refl

module _ (L : Edition) (D : Declared) where
  -- On at most n words, the reader f says what the verdict says where what f reads is due first (F puts it before all else that is due).
  abbrev pub Follows : {A : Type 0} → ℕ → Reader A → (List Due → List Due) → Type 0
  Follows {A} n f F = (allowed_zeros : ℕ) (gs : List Due) (g : A → List ℕ → Option ℕ) (s : List ℕ) → length s ≤ n → ((a : A) (u : List ℕ) → length u ≤ n → verdict allowed_zeros L u D gs ≡ g a u) → verdict allowed_zeros L s D (F gs) ≡ followed (f s) g

  module _ {A B : Type 0} (n : ℕ) where
    pub giving_follows : (k : A → B) (f : Reader A) (F : List Due → List Due) → Follows n f F → Follows n (λ t. giving k (f t)) F
    giving_follows k f F p allowed_zeros gs g s l h = p allowed_zeros gs (λ a u. g (k a) u) s l (λ a u m. h (k a) u m) ∙ sym (followed_giving k (f s) g)

    pub both_follows : (f : Reader A) (f' : Reader B) (F G : List Due → List Due) → Follows n f F → Follows n f' G → Follows n (both f f') (λ gs. F (G gs))
    unfolding both
    both_follows f f' F G p q allowed_zeros gs g s l h =
        p allowed_zeros (G gs) (λ a u. followed (giving (λ b. (a, b)) (f' u)) g) s l
        (λ a u m. q allowed_zeros gs (λ b v. g (a, b) v) u m (λ b v m'. h (a, b) v m') ∙ sym (followed_giving (λ b. (a, b)) (f' u) g))
        ∙ sym (followed_then (f s) (λ a u. giving (λ b. (a, b)) (f' u)) g)

  -- A number below a limit, tested by 5, and what is due after it.
  pub by_number_follows : {B : Type 0} (n limit : ℕ) (d : Due) (F : ℕ → List Due → List Due) (k : ℕ → Reader B)
      → ((allowed_zeros w : ℕ) (t : List ℕ) (gs : List Due) → verdict allowed_zeros L (w ∷ t) D (d ∷ gs) ≡ pick (ltb w limit) (verdict allowed_zeros L t D (F w gs)) (some Refusal.reference))
      → ((w : ℕ) → T (ltb w limit) → Follows n (k w) (F w)) → Follows n (by_number Refusal.reference limit k) (λ gs. d ∷ gs)
  unfolding by_number number_of followed verdict then
  by_number_follows n limit d F k e p allowed_zeros gs g [] l h = refl
  by_number_follows n limit d F k e p allowed_zeros gs g (w ∷ t) l h =
      e allowed_zeros w t gs ∙ (under (ltb w limit) _ _ _ (λ b. p w b allowed_zeros gs g t (omega arith) h) ∙ go (ltb w limit))
    where
      go : (b : Bool) → pick b (followed (k w t) g) (some Refusal.reference) ≡ followed (then (pick b (taken w t) (refused Refusal.reference)) k) g
      go true = refl
      go false = refl

  pub number_follows : (n limit : ℕ) (d : Due)
      → ((allowed_zeros w : ℕ) (t : List ℕ) (gs : List Due) → verdict allowed_zeros L (w ∷ t) D (d ∷ gs) ≡ pick (ltb w limit) (verdict allowed_zeros L t D gs) (some Refusal.reference))
      → Follows n (number_of Refusal.reference limit) (λ gs. d ∷ gs)
  unfolding number_of followed verdict
  number_follows n limit d e allowed_zeros gs g [] l h = refl
  number_follows n limit d e allowed_zeros gs g (w ∷ t) l h =
      e allowed_zeros w t gs ∙ (under (ltb w limit) _ _ _ (λ b. h w t (omega arith)) ∙ sym (followed_pick (ltb w limit) (taken w t) (refused Refusal.reference) g))

  -- The verdict after a code: where it is no code, a refusal; else the verdict on t with its operands due first.
  unfoldable pub coded : (allowed_zeros : ℕ) → Option (List Due) → List ℕ → List Due → Option ℕ
  coded allowed_zeros none t gs = some Refusal.form
  coded allowed_zeros (some ds) t gs = verdict allowed_zeros L t D (ds ++ gs)

  pub code_judged : (allowed_zeros : ℕ) (o : Option (List Due)) (t : List ℕ) (gs : List Due) → judge (by_form (is_code o)) (verdict allowed_zeros L t D (operands o ++ gs)) ≡ coded allowed_zeros o t gs
  unfolding judge coded
  code_judged allowed_zeros none t gs = refl
  code_judged allowed_zeros (some ds) t gs = refl

-- Where no word is left, what is due is missing.
pub no_words : {A : Type 0} (L : Edition) (D : Declared) (d : Due) → Follows L D {A = A} 0 (λ s. refused Refusal.form) (λ gs. d ∷ gs)
unfolding verdict followed
no_words L D d allowed_zeros gs g [] l h = refl
no_words L D d allowed_zeros gs g (w ∷ t) l h = let z : ⊥ = omega arith in absurd z

-- ── constants of several words ──

with_last_after : (vs : List ℕ) (w v : ℕ) → with_last (vs ++ (w ∷ [])) v ≡ with_last vs (w + 65536 * v)
unfolding with_last
with_last_after [] w v = refl
with_last_after (x ∷ vs) w v = ap (λ m. x + 65536 * m) (with_last_after vs w v)

-- Where a number is judged as a whole: its word w may be joined to the words vs before it or to the number read after it, with the same result.
shifted : {A : Type 0} (k : ℕ → Reader A) (g : A → List ℕ → Option ℕ) (vs : List ℕ) (w : ℕ) (r : Read ℕ)
    → followed (then r λ v. k (with_last (vs ++ (w ∷ [])) v)) g ≡ followed (then (giving (λ m. w + 65536 * m) r) λ v. k (with_last vs v)) g
unfolding followed then giving
shifted k g vs w (refused j) = refl
shifted k g vs w (taken v u) = ap (λ m. followed (k m u) g) (with_last_after vs w v)

-- `due` is a number's word by what is still due and what is before, `last v` the judgement at its last word, `k v` the reader's.
module _ {A : Type 0} (L : Edition) (D : Declared) (due : ℕ → List ℕ → Due) (last : ℕ → Option ℕ → Option ℕ) (k : ℕ → Reader A)
    (none_left : (allowed_zeros : ℕ) (vs : List ℕ) (w : ℕ) (t : List ℕ) (gs : List Due) → verdict allowed_zeros L (w ∷ t) D (due zero vs ∷ gs) ≡ some Refusal.form)
    (one_left : (allowed_zeros : ℕ) (vs : List ℕ) (w : ℕ) (t : List ℕ) (gs : List Due) → verdict allowed_zeros L (w ∷ t) D (due (suc zero) vs ∷ gs) ≡ last (with_last vs w) (verdict allowed_zeros L t D gs))
    (more_left : (allowed_zeros m : ℕ) (vs : List ℕ) (w : ℕ) (t : List ℕ) (gs : List Due) → verdict allowed_zeros L (w ∷ t) D (due (suc (suc m)) vs ∷ gs) ≡ pick (ltb w 65536) (verdict allowed_zeros L t D (due (suc m) (vs ++ (w ∷ [])) ∷ gs)) (some Refusal.form))
    (judged : (v : ℕ) (u : List ℕ) (g : A → List ℕ → Option ℕ) (x : Option ℕ) → ((a : A) → x ≡ g a u) → last v x ≡ followed (k v u) g) where
  number_words_follow : (m n : ℕ) (vs : List ℕ) → Follows L D n (λ s. then (number_in m s) λ v. k (with_last vs v)) (λ gs. due m vs ∷ gs)
  unfolding verdict followed then number_in number_of
  number_words_follow zero n vs allowed_zeros gs g [] l h = refl
  number_words_follow zero n vs allowed_zeros gs g (w ∷ t) l h = none_left allowed_zeros vs w t gs
  number_words_follow (suc zero) n vs allowed_zeros gs g [] l h = refl
  number_words_follow (suc zero) n vs allowed_zeros gs g (w ∷ t) l h = one_left allowed_zeros vs w t gs ∙ judged (with_last vs w) t g (verdict allowed_zeros L t D gs) (λ a. h a t (omega arith))
  number_words_follow (suc (suc m)) n vs allowed_zeros gs g [] l h = refl
  number_words_follow (suc (suc m)) n vs allowed_zeros gs g (w ∷ t) l h =
      more_left allowed_zeros m vs w t gs ∙ (ap (λ x. pick (ltb w 65536) x (some Refusal.form)) (number_words_follow (suc m) n (vs ++ (w ∷ [])) allowed_zeros gs g t (omega arith) h) ∙ go (ltb w 65536))
    where
      go : (b : Bool) → pick b (followed (then (number_in (suc m) t) λ v. k (with_last (vs ++ (w ∷ [])) v)) g) (some Refusal.form)
          ≡ followed (then (then (pick b (taken w t) (refused Refusal.form)) λ w u. giving (λ m. w + 65536 * m) (number_in (suc m) u)) λ v. k (with_last vs v)) g
      go true = shifted k g vs w (number_in (suc m) t)
      go false = refl

  pub number_follows_in : (m n : ℕ) → Follows L D n (λ s. then (number_in m s) k) (λ gs. due m [] ∷ gs)
  unfolding with_last
  number_follows_in m n = number_words_follow m n []

-- ── data expressions and conditions ──

module _ (L : Edition) (D : Declared) (P : Scope) (same : P.edition ≡ L) where
  constant_at : (n : ℕ) → Follows L D n (constant_of L.width P.edition.top) (λ gs. constant P.edition.top L.width [] ∷ gs)
  unfolding constant_of verdict judge followed
  constant_at n = number_follows_in L D (constant P.edition.top) (λ v x. pick (leb v P.edition.top) x (some Refusal.form)) (λ v u. pick (leb v P.edition.top) (taken v u) (refused Refusal.form))
      (λ allowed_zeros vs w t gs. refl) (λ allowed_zeros vs w t gs. refl) (λ allowed_zeros m vs w t gs. refl)
      (λ v u g x h. ap (λ y. pick (leb v P.edition.top) y (some Refusal.form)) (h v) ∙ sym (followed_pick (leb v P.edition.top) (taken v u) (refused Refusal.form) g)) L.width n

  constant_follows : (n : ℕ) → Follows L D n (constant_of P.edition.width P.edition.top) (λ gs. constant P.edition.top L.width [] ∷ gs)
  constant_follows n = subst (λ (M : Edition). Follows L D n (constant_of M.width P.edition.top) (λ gs. constant P.edition.top L.width [] ∷ gs)) (sym same) (constant_at n)

  module _ (n : ℕ) (e : Readers) (d : Follows L D n e.datum (λ gs. data_code P ∷ gs)) (c : Follows L D n e.condition (λ gs. condition_code P ∷ gs)) where
    args_follow : (k : ℕ) → Follows L D n (args_of e.datum k) (λ gs. replicate k (data_code P) ++ gs)
    unfolding args_of followed
    args_follow zero = λ allowed_zeros gs g s l h. h Nil s l
    args_follow (suc k) = giving_follows L D n (λ p. Cons p.0 p.1) (both e.datum (args_of e.datum k)) (λ gs. replicate (suc k) (data_code P) ++ gs)
        (both_follows L D n e.datum (args_of e.datum k) (λ gs. data_code P ∷ gs) (λ gs. replicate k (data_code P) ++ gs) d (args_follow k))

    two_data : {C : Type 0} (k : Data → Data → C) → Follows L D n (λ t. giving (λ p. k p.0 p.1) (both e.datum e.datum t)) (λ gs. data_code P ∷ data_code P ∷ gs)
    two_data k = giving_follows L D n (λ p. k p.0 p.1) (both e.datum e.datum) (λ gs. data_code P ∷ data_code P ∷ gs)
        (both_follows L D n e.datum e.datum (λ gs. data_code P ∷ gs) (λ gs. data_code P ∷ gs) d d)

    two_conditions : (k : Cond → Cond → Cond) → Follows L D n (λ t. giving (λ p. k p.0 p.1) (both e.condition e.condition t)) (λ gs. condition_code P ∷ condition_code P ∷ gs)
    two_conditions k = giving_follows L D n (λ p. k p.0 p.1) (both e.condition e.condition) (λ gs. condition_code P ∷ condition_code P ∷ gs)
        (both_follows L D n e.condition e.condition (λ gs. condition_code P ∷ gs) (λ gs. condition_code P ∷ gs) c c)

    select_follows : Follows L D n (data_by P e DataKind.select) (λ gs. condition_code P ∷ data_code P ∷ data_code P ∷ gs)
    select_follows = giving_follows L D n (λ p. If p.0 p.1.0 p.1.1) (both e.condition (both e.datum e.datum)) (λ gs. condition_code P ∷ data_code P ∷ data_code P ∷ gs)
        (both_follows L D n e.condition (both e.datum e.datum) (λ gs. condition_code P ∷ gs) (λ gs. data_code P ∷ data_code P ∷ gs) c
        (both_follows L D n e.datum e.datum (λ gs. data_code P ∷ gs) (λ gs. data_code P ∷ gs) d d))

    attribute_follows : (k : ℕ → Args → Data) (limit : ℕ) → Follows L D n (data_by P e (DataKind.attribute k limit)) (λ gs. function_number limit P ∷ gs)
    unfolding verdict judge
    attribute_follows k limit = by_number_follows L D n limit (function_number limit P) (λ f gs. replicate (P.arity f) (data_code P) ++ gs) (λ f u. giving (k f) (args_of e.datum (P.arity f) u))
        (λ allowed_zeros w t gs. refl) (λ f b. giving_follows L D n (k f) (args_of e.datum (P.arity f)) (λ gs. replicate (P.arity f) (data_code P) ++ gs) (args_follow (P.arity f)))

    module _ (allowed_zeros : ℕ) (gs : List Due) (t : List ℕ) (l : length t ≤ n) where
      data_at : (g : Data → List ℕ → Option ℕ) → ((a : Data) (u : List ℕ) → length u ≤ n → verdict allowed_zeros L u D gs ≡ g a u) → (w : ℕ) → coded L D allowed_zeros (data_operands L P w) t gs ≡ followed (data_by P e (data_kind P w) t) g
      unfolding coded followed verdict judge
      data_at g h w =
          alike Q (eqb w 0) _ _ _ _ (h Undefined t l)
          (alike Q (eqb w 1) _ _ _ _ (giving_follows L D n Constant (constant_of P.edition.width P.edition.top) (λ gs. constant P.edition.top L.width [] ∷ gs) (constant_follows n) allowed_zeros gs g t l h)
          (alike Q (eqb w 2) _ _ _ _ (giving_follows L D n Variable (number_of Refusal.reference P.variables) (λ gs. variable_number P ∷ gs) (number_follows L D n P.variables (variable_number P) (λ allowed_zeros w t gs. refl)) allowed_zeros gs g t l h)
          (alike Q (eqb w 3) _ _ _ _ (two_data Add allowed_zeros gs g t l h)
          (alike Q (eqb w 4) _ _ _ _ (two_data Subtract allowed_zeros gs g t l h)
          (alike Q (eqb w 5) _ _ _ _ (select_follows allowed_zeros gs g t l h)
          (alike Q (eqb w 6) _ _ _ _ (attribute_follows Now P.now allowed_zeros gs g t l h)
          (alike Q (eqb w 7) _ _ _ _ (alike Q (ltb 0 P.before) _ _ _ _ (attribute_follows Before P.before allowed_zeros gs g t l h) refl)
          refl)))))))
        where
          Q : Option (List Due) → DataKind → Type 0
          Q o k = coded L D allowed_zeros o t gs ≡ followed (data_by P e k t) g

      condition_at : (g : Cond → List ℕ → Option ℕ) → ((a : Cond) (u : List ℕ) → length u ≤ n → verdict allowed_zeros L u D gs ≡ g a u) → (w : ℕ) → coded L D allowed_zeros (condition_operands P w) t gs ≡ followed (cond_by e (cond_kind w) t) g
      unfolding coded followed
      condition_at g h w =
          alike Q (eqb w 8) _ _ _ _ (two_data Equal allowed_zeros gs g t l h)
          (alike Q (eqb w 9) _ _ _ _ (two_data Less allowed_zeros gs g t l h)
          (alike Q (eqb w 10) _ _ _ _ (two_conditions And allowed_zeros gs g t l h)
          (alike Q (eqb w 11) _ _ _ _ (two_conditions Or allowed_zeros gs g t l h)
          (alike Q (eqb w 12) _ _ _ _ (giving_follows L D n Not e.condition (λ gs. condition_code P ∷ gs) c allowed_zeros gs g t l h)
          (alike Q (eqb w 13) _ _ _ _ (h True t l)
          refl)))))
        where
          Q : Option (List Due) → CondKind → Type 0
          Q o k = coded L D allowed_zeros o t gs ≡ followed (cond_by e k t) g

    data_step_follows : Follows L D (suc n) (data_step P e) (λ gs. data_code P ∷ gs)
    unfolding verdict followed
    data_step_follows allowed_zeros gs g [] l h = refl
    data_step_follows allowed_zeros gs g (w ∷ t) l h = code_judged L D allowed_zeros (data_operands L P w) t gs ∙ data_at allowed_zeros gs t (omega arith) g (λ a u m. h a u (omega arith)) w

    condition_step_follows : Follows L D (suc n) (cond_step e) (λ gs. condition_code P ∷ gs)
    unfolding verdict followed
    condition_step_follows allowed_zeros gs g [] l h = refl
    condition_step_follows allowed_zeros gs g (w ∷ t) l h = code_judged L D allowed_zeros (condition_operands P w) t gs ∙ condition_at allowed_zeros gs t (omega arith) g (λ a u m. h a u (omega arith)) w

  -- So a depth of as many codes as there are words is enough, also for a refusal.
  readers_follow : (n : ℕ) → Follows L D n (readers P n).datum (λ gs. data_code P ∷ gs) × Follows L D n (readers P n).condition (λ gs. condition_code P ∷ gs)
  unfolding readers
  readers_follow zero = (no_words L D (data_code P), no_words L D (condition_code P))
  readers_follow (suc n) = let h = readers_follow n in (data_step_follows n (readers P n) h.0 h.1, condition_step_follows n (readers P n) h.0 h.1)

  -- On any words.
  pub data_follows : (n : ℕ) → Follows L D n (read_data P) (λ gs. data_code P ∷ gs)
  unfolding read_data
  data_follows n allowed_zeros gs g s l h = (readers_follow (length s)).0 allowed_zeros gs g s (omega arith) (λ a u m. h a u (omega arith))

  pub condition_follows : (n : ℕ) → Follows L D n (read_cond P) (λ gs. condition_code P ∷ gs)
  unfolding read_cond
  condition_follows n allowed_zeros gs g s l h = (readers_follow (length s)).1 allowed_zeros gs g s (omega arith) (λ a u m. h a u (omega arith))
