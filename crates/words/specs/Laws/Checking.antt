-- Laws of words and of the last words (`last-..`), and of reading, for any reader: what is left is an end of the words (`Ends`), readers that agree
-- (`Same`), and how the answer of a check is made of the answers of its parts: `..-out`, the first is refused; `..-in`, the first is read and the rest
-- is checked on what is left.
-- Document 01, "Operations": 4, 5 and 6 by the first offending word of the stream.
use Rattle.std.specs.Prelude.{ℕ, suc, ◌+◌, ◌-◌, ◌≤◌, ◌<◌, ◌≡◌, refl, Bool, true, false, List, [], ◌∷◌, ◌++◌, length, take, drop, get_or, set, ltb, Ok, Err}
use Rattle.std.proofs.Common.{le_refl, le_trans, arith, sym, ap, ◌∙◌, append-nil, length-drop, length-set, drop_of_length-le, take_all, drop-drop}
use Rattle.std.proofs.Math.Decide.{dec_le}
use Rattle.std.proofs.Math.Seq.{drop-length, drop-append_seam}
use Rattle.eb3.specs.Reading.{Read, refused, taken, Reader, pick, giving, then, both, number_of, by_number}
use Rattle.words.specs.Checking.{checked, last_of, Checked}
use Rattle.refusals.specs.declared.Refusal.{Refusal}
-- ── words and their parts ──
use Rattle.words.specs.Ends.{Tail, Fine, Ends, Same}

pub nil_form : (s : List ℕ) → length s ≡ 0 → s ≡ []
nil_form [] h = refl
nil_form (w ∷ t) h = absurd (omega arith)

pub cons_form : (s : List ℕ) → (length s ≡ 0 → ⊥) → s ≡ get_or s 0 0 ∷ drop 1 s
cons_form [] h = absurd (h refl)
cons_form (w ∷ t) h = refl

-- a part `&s[k..]`
pub part : (k : ℕ) (s : List ℕ) → take (length s - k) (drop k s) ≡ drop k s
part k s = take_all (length s - k) (drop k s) (simp length-drop (le_refl (length s - k)))

-- a part `&mut s[k..]` that was lent and came back as t
pub back_rest : (s t : List ℕ) (k : ℕ) → take k s ++ (t ++ drop (length s - k) (drop k s)) ≡ take k s ++ t
back_rest s t k =
    let e : drop (length s - k) (drop k s) ≡ [] = ap (λ j. drop j (drop k s)) (sym (length-drop k s)) ∙ drop-length (drop k s) in
    ap (λ u. take k s ++ (t ++ u)) e ∙ ap (λ u. take k s ++ u) (append-nil t)

pub behind_len : (s t : List ℕ) → t ≡ drop 1 s → length t ≡ length s - 1
behind_len s t e = ap length e ∙ length-drop 1 s

-- Where there is a first word, the words after it are fewer.
pub behind_fewer : (s t : List ℕ) (w : ℕ) → t ≡ drop 1 s → get_or s 0 0 ≡ w → 1 ≤ w → 1 + length t ≤ length s
behind_fewer [] t w e h k = absurd (omega arith)
behind_fewer (v ∷ s) t w e h k = omega (arith, ap length e)

-- A word written at the front.
pub set_first : (d : List ℕ) (x : ℕ) → (length d ≡ 0 → ⊥) → take 1 (set d 0 x) ≡ x ∷ []
set_first [] x h = absurd (h refl)
set_first (y ∷ d) x h = refl

-- A word written into a copy.
pub copy_len : (T T₀ : List ℕ) (k v : ℕ) → length T ≡ length T₀ → length (set T k v) ≡ length T₀
copy_len T T₀ k v h = length-set T k v ∙ h

-- ── the last words ──

pub last_length : (n : ℕ) (t : List ℕ) → n ≤ length t → length (last_of n t) ≡ n
unfolding last_of
last_length n t h = length-drop (length t - n) t ∙ omega arith

pub last_len : (n : ℕ) (s t : List ℕ) → t ≡ last_of n s → length t ≤ length s
unfolding last_of
last_len n s t e = omega (arith, ap length e, length-drop (length s - n) s)

pub last_all : (n : ℕ) (s : List ℕ) → length s ≤ n → last_of n s ≡ s
unfolding last_of
last_all n s h =
    let k : length s - n ≡ 0 = omega arith in
    ap (λ j. drop j s) k

pub last_last : (m n : ℕ) (t : List ℕ) → n ≤ length t → m ≤ n → last_of m (last_of n t) ≡ last_of m t
unfolding last_of
last_last m n t h l =
    let e : length t - n + (length (drop (length t - n) t) - m) ≡ length t - m = omega (arith, length-drop (length t - n) t) in
    drop-drop (length (drop (length t - n) t) - m) (length t - n) t ∙ ap (λ j. drop j t) e

-- ── what is left is an end of the words ──

pub tail_here : (s : List ℕ) → Tail s s
tail_here s = (0, refl)

pub tail_on : (r t s : List ℕ) → Tail t s → Tail r t → Tail r s
tail_on r t s p q = (p.0 + q.0, q.1 ∙ ap (drop q.0) p.1 ∙ drop-drop q.0 p.0 s)

pub tail_short : (t s : List ℕ) → Tail t s → length t ≤ length s
tail_short t s p = omega (arith, ap length p.1, length-drop p.0 s)

pub tail_at : (t s : List ℕ) → Tail t s → last_of (length t) s ≡ t
unfolding last_of
tail_at t s p = go (dec_le p.0 (length s))
  where
    l : length t ≡ length s - p.0
    l = ap length p.1 ∙ length-drop p.0 s

    go : Dec (p.0 ≤ length s) → drop (length s - length t) s ≡ t
    go (yes h) =
        let k : length s - length t ≡ p.0 = omega (arith, l) in
        ap (λ j. drop j s) k ∙ sym p.1
    go (no h) =
        let k : length s - length t ≡ length s = omega (arith, l) in
        ap (λ j. drop j s) k ∙ drop-length s ∙ sym (p.1 ∙ drop_of_length-le s {i = p.0} (omega arith))

-- The last words, as many as those after others.
pub last_behind : (a r : List ℕ) → last_of (length r) (a ++ r) ≡ r
last_behind a r = tail_at r (a ++ r) (length a, sym (drop-append_seam a r))

-- What comes after a part is the last n words, where it has n.
pub behind_part : (a b t : List ℕ) (n : ℕ) → t ≡ a ++ b → n ≡ length b → last_of n t ≡ b
behind_part a b t n e h = ap (λ k. last_of k t) h ∙ ap (last_of (length b)) e ∙ last_behind a b

pub last_tail : (k : ℕ) (t : List ℕ) → Tail (last_of k t) t
unfolding last_of
last_tail k t = (length t - k, refl)

pub fine_on : {B : Type 0} (s t : List ℕ) (r : Read B) → Tail t s → Fine t r → Fine s r
fine_on s t (refused k) p h = tt
fine_on s t (taken b u) p h = tail_on u t s p h

pub giving_fine : {A B : Type 0} (f : A → B) (s : List ℕ) (r : Read A) → Fine s r → Fine s (giving f r)
unfolding giving
giving_fine f s (refused k) h = tt
giving_fine f s (taken a t) h = h

pub then_fine : {A B : Type 0} (g : A → Reader B) → ((a : A) → Ends (g a)) → (s : List ℕ) (r : Read A) → Fine s r → Fine s (then r g)
unfolding then
then_fine g h s (refused k) p = tt
then_fine g h s (taken a t) p = fine_on s t (g a t) p (h a t)

pub both_ends : {A B : Type 0} (f : Reader A) (g : Reader B) → Ends f → Ends g → Ends (both f g)
unfolding both
both_ends f g p q s = then_fine (λ a t. giving (λ b. (a, b)) (g t)) (λ a t. giving_fine (λ b. (a, b)) t (g t) (q t)) s (f s) (p s)

pub step_fine : {A : Type 0} (w : ℕ) (t : List ℕ) (r : Read A) → Fine t r → Fine (w ∷ t) r
step_fine w t (refused k) h = tt
step_fine w t (taken a u) h = (suc h.0, h.1)

pub pick_fine : {A : Type 0} (s : List ℕ) (b : Bool) (x y : Read A) → Fine s x → Fine s y → Fine s (pick b x y)
pick_fine s true x y p q = p
pick_fine s false x y p q = q

pub number_ends : (k limit : ℕ) → Ends (number_of k limit)
unfolding number_of
number_ends k limit [] = tt
number_ends k limit (w ∷ t) = pick_fine (w ∷ t) (ltb w limit) (taken w t) (refused k) (1, refl) tt

-- ── readers that agree on words no longer than s ──

pub then_same : {A B : Type 0} (s : List ℕ) (f g : A → Reader B) → ((a : A) → Same s (f a) (g a)) → (r : Read A) → Fine s r → then r f ≡ then r g
unfolding then
then_same s f g h (refused k) p = refl
then_same s f g h (taken a t) p = h a t (tail_short t s p)

pub both_same : {A B : Type 0} (s : List ℕ) (f f' : Reader A) (g g' : Reader B) → Ends f → Same s f f' → Same s g g' → Same s (both f g) (both f' g')
unfolding both
both_same s f f' g g' p h i r le = then_same r (λ a t. giving (λ b. (a, b)) (g t)) (λ a t. giving (λ b. (a, b)) (g' t)) (λ a t m. ap (giving (λ b. (a, b))) (i t (le_trans m le))) (f r) (p r)
    ∙ ap (λ x. then x (λ a t. giving (λ b. (a, b)) (g' t))) (h r le)

-- ── what a check answers ──

pub checked_giving : {A B : Type 0} (f : A → B) (r : Read A) → checked (giving f r) ≡ checked r
unfolding giving checked
checked_giving f (refused k) = refl
checked_giving f (taken a t) = refl

-- the answer does not depend on what is made of what was read
pub then_checked : {A B C : Type 0} (r : Read A) (f : A → Reader B) (g : A → Reader C) → ((a : A) (t : List ℕ) → checked (f a t) ≡ checked (g a t)) → checked (then r f) ≡ checked (then r g)
unfolding then checked
then_checked (refused k) f g h = refl
then_checked (taken a t) f g h = h a t

pub then_out : {A B : Type 0} (r : Read A) (g : A → Reader B) (k : Refusal) → Err k ≡ checked r → Err k ≡ checked (then r g)
unfolding then checked
then_out (refused j) g k e = e
then_out (taken a t) g k e = cc

-- the first is refused
pub both_out : {A B : Type 0} (f : Reader A) (g : Reader B) (t : List ℕ) (p : Checked) (k : Refusal) → p ≡ checked (f t) → p ≡ Err k → Err k ≡ checked (both f g t)
unfolding both
both_out f g t p k e h = then_out (f t) _ k (sym h ∙ e)

pub then_in : {A B : Type 0} (s : List ℕ) (r : Read A) (g : A → Reader B) (n : ℕ) → Fine s r → Ok n ≡ checked r → (q : Checked) → ((a : A) → q ≡ checked (g a (last_of n s))) → q ≡ checked (then r g)
unfolding then checked
then_in s (refused j) g n p e q h = cc
then_in s (taken a t) g n p e q h =
    let m : n ≡ length t = cc in
    let l : last_of n s ≡ t = ap (λ j. last_of j s) m ∙ tail_at t s p in
    h a ∙ ap (λ r. checked (g a r)) l

-- the first is read, and the second is checked on what is left
pub both_in : {A B : Type 0} (f : Reader A) (g : Reader B) (t r : List ℕ) (p q : Checked) (n : ℕ) → Ends f → p ≡ checked (f t) → p ≡ Ok n → r ≡ last_of n t → q ≡ checked (g r) → q ≡ checked (both f g t)
unfolding both
both_in f g t r p q n i e h l j = then_in t (f t) _ n (i t) (sym h ∙ e) q (λ a. j ∙ ap (λ u. checked (g u)) l ∙ sym (checked_giving (λ b. (a, b)) (g (last_of n t))))

-- what was read, where words are left
pub got_in : {A : Type 0} (t : List ℕ) (o : ℕ) (r : Read A) → Fine t r → Ok o ≡ checked r → (a : A) × (r ≡ taken a (last_of o t))
unfolding checked
got_in t o (refused k) f e = absurd (let z : ◌≡◌ {A = ℕ} 0 1 = cc in omega arith)
got_in t o (taken a u) f e =
    let k : o ≡ length u = cc in
    (a, ap (taken a) (sym (ap (λ j. last_of j t) k ∙ tail_at u t f)))

pub got : {A : Type 0} (f : Reader A) → Ends f → (t : List ℕ) (o : ℕ) (p : Checked) → p ≡ checked (f t) → p ≡ Ok o → (a : A) × (f t ≡ taken a (last_of o t))
got f h t o p e i = got_in t o (f t) (h t) (sym i ∙ e)

-- ── a number by which the reading goes on ──

pub by_number_ends : {B : Type 0} (k limit : ℕ) (g : ℕ → Reader B) → ((a : ℕ) → Ends (g a)) → Ends (by_number k limit g)
unfolding by_number
by_number_ends k limit g h s = then_fine g h s (number_of k limit s) (number_ends k limit s)

pub by_number_same : {B : Type 0} (s : List ℕ) (k limit : ℕ) (f g : ℕ → Reader B) → ((a : ℕ) → Same s (f a) (g a)) → Same s (by_number k limit f) (by_number k limit g)
unfolding by_number
by_number_same s k limit f g h r le = then_same r f g (λ a u m. h a u (le_trans m le)) (number_of k limit r) (number_ends k limit r)

pub by_number_out : {B : Type 0} (k limit : ℕ) (g : ℕ → Reader B) (t : List ℕ) (p : Checked) (j : Refusal) → p ≡ checked (number_of k limit t) → p ≡ Err j → Err j ≡ checked (by_number k limit g t)
unfolding by_number
by_number_out k limit g t p j e h = then_out (number_of k limit t) g j (sym h ∙ e)

pub number_word : (k limit n : ℕ) (t : List ℕ) → Ok n ≡ checked (number_of k limit t) → number_of k limit t ≡ taken (get_or t 0 0) (last_of n t)
unfolding number_of checked last_of
number_word k limit n [] e = cc
number_word k limit n (w ∷ t) e = go (ltb w limit) e
  where
    go : (b : Bool) → Ok n ≡ checked (pick b (taken w t) (refused k)) → pick b (taken w t) (refused k) ≡ taken w (drop (suc (length t) - n) (w ∷ t))
    go true f =
        let m : n ≡ length t = cc in
        let o : suc (length t) - n ≡ 1 = omega arith in
        ap (λ i. taken w (drop i (w ∷ t))) (sym o)
    go false f = cc

pub by_number_in : {B : Type 0} (k limit : ℕ) (g : ℕ → Reader B) (t r : List ℕ) (p q : Checked) (n : ℕ) → p ≡ checked (number_of k limit t) → p ≡ Ok n → r ≡ last_of n t → q ≡ checked (g (get_or t 0 0) r) → q ≡ checked (by_number k limit g t)
unfolding by_number then
by_number_in k limit g t r p q n e h l j = rw (number_word k limit n t (sym h ∙ e), ← l) j

pub by_number_pos : (k limit n : ℕ) (t : List ℕ) (p : Checked) → p ≡ checked (number_of k limit t) → p ≡ Ok n → 0 < length t
unfolding number_of checked
by_number_pos k limit n [] p e h =
    let z : ◌≡◌ {A = ℕ} 0 1 = cc in
    omega arith
by_number_pos k limit n (w ∷ t) p e h = omega arith
