-- The loops that skip a row, and that say whether a term can never move: their invariants, and what each turn does to them (document 01, "Codes stand
-- before their operands", "Moves, in order").
use Rattle.std.specs.Prelude.{◌≡◌, refl, Bool, true, false, ◌&&◌, cond, List, [], ◌∷◌, ◌++◌, ℕ, zero, suc, ◌+◌, ◌*◌, ◌-◌, ◌≤◌, ◌<◌, T, eqb, length, drop, get_or}
use Rattle.std.proofs.Common.{sym, ap, ◌∙◌, subst, append_assoc, arith, length-append, length-drop, drop-drop, drop_at, get_or-drop, eqb→eq}
use Rattle.eb3.specs.Generic.AllLists.{All, all_append}
use Rattle.eb3.specs.Scopes.{Scope}
use Rattle.eb3.specs.Terms.{Term, Done, Internal, Perform, Sequence, Choice, Star, Parallel, Guard}
use Rattle.eb3.specs.Sizes.{breadth}
use Rattle.eb3.specs.Spelling.{words}
use Rattle.eb3.specs.Generic.Lists.{one_of}
use Rattle.eb3.specs.Reading.{pick}
use Rattle.codes.specs.Table.{words_after, operands_after, moving_code}
use Rattle.codes.specs.Shapes.{width_of, Shaped, more_words, argument_count, operand_count}
use Rattle.codes.specs.Rows.{Piece, of_data, of_cond, of_term, piece_words, piece_fits, IsTerm, Ordered, row_words, Closed, Closing, RowAt, idle_piece, all_idle}
use Rattle.codes.specs.Laws.Pieces.{Anything, Inner, Opens, term_opens, expression_opens_data, expression_opens_cond}

-- text is as many pieces as are due, data and conditions before terms, and then what comes after the whole; idle says whether none of them can ever move.
pub record Due (shape : ℕ) (P : Scope) (rest text : List ℕ) (due : ℕ) (idle : Bool) : Type 0 where
  pub pieces : List Piece
  pub spelt : text ≡ row_words (width_of shape) pieces ++ rest
  pub counted : length pieces ≡ due
  pub fit : All (piece_fits P) pieces
  pub ordered : Ordered pieces
  pub closed : Closing pieces rest
  pub idles : idle ≡ all_idle pieces

-- Of n pieces in a row.
abbrev pub Skipping : ℕ → List ℕ → ℕ → ℕ → ℕ → Type 0
Skipping shape s n at due = (P : Scope) (xs : List Piece) (rest : List ℕ) → RowAt shape s P xs rest → n ≡ length xs → (idle : Bool) × Due shape P rest (drop at s) due idle

-- What skipping them answers.
abbrev pub Skipped : ℕ → List ℕ → ℕ → ℕ → Type 0
Skipped shape s n r = (r ≤ length s) × ((P : Scope) (xs : List Piece) (rest : List ℕ) → RowAt shape s P xs rest → n ≡ length xs → r ≡ length rest)

pub skip_start : (shape : ℕ) (s : List ℕ) (n : ℕ) → Skipping shape s n 0 n
skip_start shape s n P xs rest h e = (all_idle xs, record { pieces = xs; spelt = h.spelled; counted = sym e; fit = h.fit; ordered = h.ordered; closed = h.closed; idles = refl })

-- One term can never move where what is still due cannot.
abbrev pub Idling : ℕ → List ℕ → ℕ → ℕ → Type 0
Idling shape s at due = (P : Scope) (E : Term) (rest : List ℕ) → RowAt shape s P (of_term E ∷ []) rest → Due shape P rest (drop at s) due (eqb (breadth E) 0)

abbrev pub Tells : ℕ → List ℕ → Bool → Type 0
Tells shape s r = (P : Scope) (E : Term) (rest : List ℕ) → RowAt shape s P (of_term E ∷ []) rest → r ≡ eqb (breadth E) 0

pub idle_start : (shape : ℕ) (s : List ℕ) → Idling shape s 0 1
idle_start shape s P E rest h = record { pieces = of_term E ∷ []; spelt = h.spelled; counted = refl; fit = h.fit; ordered = h.ordered; closed = h.closed; idles = and_true (eqb (breadth E) 0) }
  where
    and_true : (b : Bool) → b ≡ (b && true)
    and_true true = refl
    and_true false = refl

-- ── rows after one another ──

row_append : (w : ℕ) (xs ys : List Piece) → row_words w (xs ++ ys) ≡ row_words w xs ++ row_words w ys
row_append w [] ys = refl
row_append w (x ∷ xs) ys = ap (λ l. piece_words w x ++ l) (row_append w xs ys) ∙ sym (append_assoc (piece_words w x) (row_words w xs) (row_words w ys))

-- Operands before what was due already: those of data and conditions before anything, those of a term before terms.
ordered_inner : (ops xs : List Piece) → Inner ops → Ordered xs → Ordered (ops ++ xs)
ordered_inner [] xs h o = o
ordered_inner (of_data d ∷ ops) xs h o = ordered_inner ops xs h.1 o
ordered_inner (of_cond c ∷ ops) xs h o = ordered_inner ops xs h.1 o
ordered_inner (of_term E ∷ ops) xs h o = absurd h.0

terms_ordered : (xs : List Piece) → All IsTerm xs → Ordered xs
terms_ordered [] h = tt
terms_ordered (of_data d ∷ xs) h = absurd h.0
terms_ordered (of_cond c ∷ xs) h = absurd h.0
terms_ordered (of_term E ∷ xs) h = h.1

ordered_terms : (ops xs : List Piece) → Ordered ops → All IsTerm xs → Ordered (ops ++ xs)
ordered_terms [] xs o h = terms_ordered xs h
ordered_terms (of_data d ∷ ops) xs o h = ordered_terms ops xs o h
ordered_terms (of_cond c ∷ ops) xs o h = ordered_terms ops xs o h
ordered_terms (of_term E ∷ ops) xs o h = all_append IsTerm ops xs o h

closing_inner : (ops xs : List Piece) (rest : List ℕ) → Inner ops → Closing xs rest → Closing (ops ++ xs) rest
closing_inner [] xs rest h c = c
closing_inner (of_data d ∷ ops) xs rest h c = closing_inner ops xs rest h.1 c
closing_inner (of_cond d ∷ ops) xs rest h c = closing_inner ops xs rest h.1 c
closing_inner (of_term E ∷ ops) xs rest h c = absurd h.0

closing_closed : (xs : List Piece) (rest : List ℕ) → Closed rest → Closing xs rest
closing_closed [] rest c = tt
closing_closed (of_data d ∷ xs) rest c = closing_closed xs rest c
closing_closed (of_cond d ∷ xs) rest c = closing_closed xs rest c
closing_closed (of_term E ∷ xs) rest c = c

idle_append : (xs ys : List Piece) → all_idle (xs ++ ys) ≡ (all_idle xs && all_idle ys)
idle_append [] ys = refl
idle_append (x ∷ xs) ys = ap (λ b. idle_piece x && b) (idle_append xs ys) ∙ regrouped (idle_piece x) (all_idle xs) (all_idle ys)
  where
    regrouped : (a b c : Bool) → (a && (b && c)) ≡ ((a && b) && c)
    regrouped true b c = refl
    regrouped false b c = refl

-- What a code that begins no move leaves to say.
among : (m a b c d : Bool) → b ≡ (a && c) → a ≡ cond m false d → b ≡ cond m false (d && c)
among true a b c d e f = e ∙ ap (λ x. x && c) f
among false a b c d e f = e ∙ ap (λ x. x && c) f

-- A term begins with a code above every constant's.
term_begins : (w : ℕ) (E : Term) (t : List ℕ) → 20 ≤ get_or (words w E ++ t) 0 0
unfolding words
term_begins w Done t = omega arith
term_begins w Internal t = omega arith
term_begins w (Perform a) t = omega arith
term_begins w (Sequence E F) t = omega arith
term_begins w (Choice E F) t = omega arith
term_begins w (Star E) t = omega arith
term_begins w (Parallel Δ E F) t = omega arith
term_begins w (Guard C E) t = omega arith

terms_closed : (w : ℕ) (xs : List Piece) (rest : List ℕ) → All IsTerm xs → Closed rest → Closed (row_words w xs ++ rest)
terms_closed w [] rest h c = c
terms_closed w (of_data d ∷ xs) rest h c = absurd h.0
terms_closed w (of_cond d ∷ xs) rest h c = absurd h.0
terms_closed w (of_term E ∷ xs) rest h c = λ e. let f : get_or (words w E ++ (row_words w xs ++ rest)) 0 0 ≡ 1 = sym (ap (λ l. get_or l 0 0) (append_assoc (words w E) (row_words w xs) rest)) ∙ e in
    let z : ⊥ = omega (arith, f, term_begins w E (row_words w xs ++ rest)) in z

-- ── one turn ──

-- What comes first: a code with what it is followed by.
pub record Front (shape : ℕ) (P : Scope) (rest text : List ℕ) (due : ℕ) (idle : Bool) : Type 0 where
  pub code : ℕ
  pub more : List ℕ
  pub behind : List ℕ
  pub there : text ≡ code ∷ (more ++ behind)
  pub known : code ≤ 30
  pub counted : length more ≡ more_words shape code
  pub later : Bool
  pub idles : idle ≡ cond (moving_code code) false later
  pub next : Due shape P rest behind (due - 1 + operand_count shape code (more ++ behind)) later

module _ (shape : ℕ) (P : Scope) (rest : List ℕ) (due : ℕ) (idle : Bool) where
  abbrev row : List Piece → List ℕ
  row xs = row_words (width_of shape) xs

  turn : (Q : List ℕ → Type 0) (K : List Piece → Type 0) (x : Piece) (xs : List Piece) (text : List ℕ) → text ≡ (piece_words (width_of shape) x ++ row xs) ++ rest → suc (length xs) ≡ due
      → (o : Opens shape P Q K (piece_words (width_of shape) x) (idle_piece x)) → Q (row xs ++ rest) → All (piece_fits P) xs → Ordered (o.operands ++ xs) → Closing (o.operands ++ xs) rest → idle ≡ (idle_piece x && all_idle xs) → Front shape P rest text due idle
  turn Q K x xs text e n o q f d g i =
      let ops : List Piece = o.operands in
      let b : row (ops ++ xs) ++ rest ≡ row ops ++ (row xs ++ rest) = ap (λ l. l ++ rest) (row_append (width_of shape) ops xs) ∙ append_assoc (row ops) (row xs) rest in
      let t : text ≡ o.code ∷ (o.more ++ (row ops ++ (row xs ++ rest))) =
      e ∙ ap (λ l. (l ++ row xs) ++ rest) o.opens
      ∙ ap (λ l. o.code ∷ l) (append_assoc (o.more ++ row ops) (row xs) rest ∙ append_assoc o.more (row ops) (row xs ++ rest)) in
      let c : operand_count shape o.code (o.more ++ (row ops ++ (row xs ++ rest))) ≡ length ops = o.follow (row xs ++ rest) q in
      record {
        code = o.code;
        more = o.more;
        behind = row ops ++ (row xs ++ rest);
        there = t;
        known = o.known;
        counted = o.counted;
        later = all_idle ops && all_idle xs;
        idles = among (moving_code o.code) (idle_piece x) idle (all_idle xs) (all_idle ops) i o.idles;
        next = record { pieces = ops ++ xs; spelt = sym b; counted = omega (arith, length-append ops xs, c, n); fit = all_append (piece_fits P) ops xs o.fit f; ordered = d; closed = g; idles = sym (idle_append ops xs) };
      }

  front_of : Shaped shape P → (text : List ℕ) → 0 < due → (xs : List Piece) → text ≡ row xs ++ rest → length xs ≡ due → All (piece_fits P) xs → Ordered xs → Closing xs rest → idle ≡ all_idle xs → Front shape P rest text due idle
  front_of p text z [] e n f d c i = absurd (let y : ⊥ = omega arith in y)
  front_of p text z (of_data a ∷ xs) e n f d c i =
      let o = expression_opens_data shape P p a f.0 in
      turn Anything Inner (of_data a) xs text e n o tt f.1 (ordered_inner o.operands xs o.ordered d) (closing_inner o.operands xs rest o.ordered c) i
  front_of p text z (of_cond a ∷ xs) e n f d c i =
      let o = expression_opens_cond shape P p a f.0 in
      turn Anything Inner (of_cond a) xs text e n o tt f.1 (ordered_inner o.operands xs o.ordered d) (closing_inner o.operands xs rest o.ordered c) i
  front_of p text z (of_term E ∷ xs) e n f d c i =
      let o = term_opens shape P p E f.0 in
      turn Closed Ordered (of_term E) xs text e n o (terms_closed (width_of shape) xs rest d c) f.1 (ordered_terms o.operands xs o.ordered d) (closing_closed (o.operands ++ xs) rest c) i

-- What a place of s says, where such a front is due there.
module _ (shape : ℕ) (s : List ℕ) (at due w : ℕ) where
  code_at : (k : ℕ) (u : List ℕ) → drop at s ≡ k ∷ u → get_or s at 0 ≡ k
  code_at k u e =
      let i : at + 0 ≡ at = omega arith in
      sym (ap (λ j. get_or s j 0) i) ∙ sym (get_or-drop at s 0 0) ∙ ap (λ l. get_or l 0 0) e

  module _ (P : Scope) (rest : List ℕ) {b : Bool} (o : Front shape P rest (drop at s) due b) where
    no_code : (at < length s → 30 < get_or s at 0) → ⊥
    no_code l =
        let h : at < length s = omega (arith, ap length o.there, length-drop at s) in
        omega (arith, l h, code_at o.code (o.more ++ o.behind) o.there, o.known)

    module _ (i : w ≡ get_or s at 0) where
      code_is : w ≡ o.code
      code_is = i ∙ code_at o.code (o.more ++ o.behind) o.there

      idle_is : b ≡ cond (moving_code w) false o.later
      idle_is = o.idles ∙ ap (λ c. cond (moving_code c) false o.later) (sym code_is)

      step : (m k : ℕ) (t : List ℕ) → m ≡ more_words shape w → k ≡ operand_count shape w t → t ≡ drop (at + 1) s → Due shape P rest (drop (at + 1 + m) s) (due - 1 + k) o.later
      step m k t e f g =
          let q : drop (at + 1) s ≡ o.more ++ o.behind = sym (drop-drop 1 at s) ∙ ap (drop 1) o.there in
          let j : m ≡ length o.more = e ∙ ap (more_words shape) code_is ∙ sym o.counted in
          let d : drop (at + 1 + m) s ≡ o.behind =
          ap (λ j. drop (at + 1 + j) s) j
          ∙ sym (drop-drop (length o.more) (at + 1) s)
          ∙ ap (drop (length o.more)) q
          ∙ drop_at o.more o.behind (length o.more) refl in
          let c : k ≡ operand_count shape o.code (o.more ++ o.behind) = f ∙ (λ j. operand_count shape (code_is j) ((g ∙ q) j)) in
          subst (λ u. Due shape P rest u (due - 1 + k) o.later) (sym d) (subst (λ n. Due shape P rest o.behind (due - 1 + n) o.later) (sym c) o.next)

  module _ (n : ℕ) (z : 0 < due) (inv : Skipping shape s n at due) where
    skip_front : (P : Scope) (xs : List Piece) (rest : List ℕ) (h : RowAt shape s P xs rest) (e : n ≡ length xs) → Front shape P rest (drop at s) due (inv P xs rest h e).0
    skip_front P xs rest h e = let d = (inv P xs rest h e).1 in front_of shape P rest due _ h.shaped (drop at s) z d.pieces d.spelt d.counted d.fit d.ordered d.closed d.idles

    pub skip_none : (at < length s → 30 < get_or s at 0) → Skipped shape s n 0
    skip_none l = (omega arith, λ P xs rest h e. absurd (no_code P rest (skip_front P xs rest h e) l))

    pub skip_end : length s ≤ at → Skipped shape s n 0
    skip_end l = skip_none (λ k. absurd (let y : ⊥ = omega (arith, k) in y))

    pub skip_unknown : w ≡ get_or s at 0 → 30 < w → Skipped shape s n 0
    skip_unknown i l = skip_none (λ k. omega (arith, i))

    pub skip_next : (m k : ℕ) (t : List ℕ) → w ≡ get_or s at 0 → m ≡ more_words shape w → k ≡ operand_count shape w t → t ≡ drop (at + 1) s → Skipping shape s n (at + 1 + m) (due - 1 + k)
    skip_next m k t i e f g P xs rest h q = ((skip_front P xs rest h q).later, step P rest (skip_front P xs rest h q) i m k t e f g)

  module _ (z : 0 < due) (inv : Idling shape s at due) where
    idle_front : (P : Scope) (E : Term) (rest : List ℕ) → RowAt shape s P (of_term E ∷ []) rest → Front shape P rest (drop at s) due (eqb (breadth E) 0)
    idle_front P E rest h = let d = inv P E rest h in front_of shape P rest due _ h.shaped (drop at s) z d.pieces d.spelt d.counted d.fit d.ordered d.closed d.idles

    pub idle_none : (at < length s → 30 < get_or s at 0) → Tells shape s false
    idle_none l P E rest h = absurd (no_code P rest (idle_front P E rest h) l)

    pub idle_end : length s ≤ at → Tells shape s false
    idle_end l = idle_none (λ k. absurd (let y : ⊥ = omega (arith, k) in y))

    pub idle_unknown : w ≡ get_or s at 0 → 30 < w → Tells shape s false
    idle_unknown i l = idle_none (λ k. omega (arith, i))

    pub idle_stops : w ≡ get_or s at 0 → moving_code w ≡ true → Tells shape s false
    idle_stops i l P E rest h = let o = idle_front P E rest h in sym (idle_is P rest o i ∙ ap (λ m. cond m false o.later) l)

    pub idle_next : (m k : ℕ) (t : List ℕ) → w ≡ get_or s at 0 → moving_code w ≡ false → m ≡ more_words shape w → k ≡ operand_count shape w t → t ≡ drop (at + 1) s → Idling shape s (at + 1 + m) (due - 1 + k)
    idle_next m k t i l e f g P E rest h =
        let o = idle_front P E rest h in
        subst (λ b. Due shape P rest (drop (at + 1 + m) s) (due - 1 + k) b) (sym (idle_is P rest o i ∙ ap (λ m. cond m false o.later) l)) (step P rest o i m k t e f g)

-- ── an action with its arguments ──

-- No action's code is left where no move can begin.
pub still_code : (w : ℕ) → moving_code w ≡ false → w ≡ 21 → ⊥
unfolding moving_code one_of
still_code w h e = let q : true ≡ false = sym (ap moving_code e) ∙ h in absurd (subst T q tt)

-- Two arguments at most, of two words at most and their codes.
pub few_words : (k v : ℕ) → k ≤ 2 → v ≤ 2 → k * (1 + v) ≤ 6
few_words zero v h l = omega arith
few_words (suc zero) v h l = omega arith
few_words (suc (suc zero)) v h l = omega arith
few_words (suc (suc (suc k))) v h l = let y : ⊥ = omega arith in absurd y

module _ (shape : ℕ) (s : List ℕ) (n : ℕ) where
  abbrev W : ℕ
  W = width_of shape

  -- A constant is its code and its words.
  constant_past : (at due : ℕ) → 0 < due → Skipping shape s n at due → get_or s at 0 ≡ 1 → Skipping shape s n (at + 1 + W) (due - 1 + 0)
  unfolding words_after operands_after
  constant_past at due z inv e = skip_next shape s at due 1 n z inv W 0 (drop (at + 1) s) (sym e) refl refl refl

  moved : (a b c d : ℕ) → a ≡ b → c ≡ d → Skipping shape s n a c → Skipping shape s n b d
  moved a b c d e f h = subst (λ y. Skipping shape s n y d) e (subst (λ y. Skipping shape s n a y) f h)

  module _ (at due w k : ℕ) (t : List ℕ) (z : 0 < due) (inv : Skipping shape s n at due) (i : w ≡ get_or s at 0) (l : w ≡ 21) (g : t ≡ drop (at + 1) s) (c : k ≡ argument_count shape t) where
    abbrev Past : ℕ → Type 0
    Past j = Skipping shape s n (at + 2 + j * (1 + W)) (due - 1)

    -- The label is past, and the arguments are due.
    label_past : (j : ℕ) → k ≡ j → Skipping shape s n (at + 1 + 1) (due - 1 + j)
    unfolding words_after operands_after
    label_past j e =
        let q : j ≡ operand_count shape 21 t = omega (arith, e, c) in
        skip_next shape s at due 21 n z inv 1 j t (sym l ∙ i) refl q g

    word_of : (a b x : ℕ) → get_or t a 0 ≡ x → at + 1 + a ≡ b → get_or s b 0 ≡ x
    word_of a b x e f = ap (λ y. get_or s y 0) (sym f) ∙ sym (get_or-drop (at + 1) s a 0) ∙ ap (λ u. get_or u a 0) (sym g) ∙ e

    none : k ≡ 0 → Past 0
    none e = moved (at + 1 + 1) (at + 2 + 0 * (1 + W)) (due - 1 + 0) (due - 1) (omega arith) (omega arith) (label_past 0 e)

    first_past : (j : ℕ) → k ≡ j → 0 < j → get_or t 1 0 ≡ 1 → Skipping shape s n (at + 1 + 1 + 1 + W) (due - 1 + j - 1 + 0)
    first_past j e y f = constant_past (at + 1 + 1) (due - 1 + j) (omega arith) (label_past j e) (word_of 1 (at + 1 + 1) 1 f refl)

    one : k ≡ 1 → get_or t 1 0 ≡ 1 → Past 1
    one e f = moved (at + 1 + 1 + 1 + W) (at + 2 + 1 * (1 + W)) (due - 1 + 1 - 1 + 0) (due - 1) (omega arith) (omega arith) (first_past 1 e (omega arith) f)

    two : k ≡ 2 → get_or t 1 0 ≡ 1 → get_or t (2 + W) 0 ≡ 1 → Past 2
    two e f h =
        let u = constant_past (at + 1 + 1 + 1 + W) (due - 1 + 2 - 1 + 0) (omega arith) (first_past 2 e (omega arith) f) (word_of (2 + W) (at + 1 + 1 + 1 + W) 1 h (omega arith)) in
        moved (at + 1 + 1 + 1 + W + 1 + W) (at + 2 + 2 * (1 + W)) (due - 1 + 2 - 1 + 0 - 1 + 0) (due - 1) (omega arith) (omega arith) u

    pub skip_action : Past k
    skip_action = go (eqb (get_or t 1 0) 1) (eqb (get_or t (2 + W) 0) 1) refl refl
      where
        go : (a b : Bool) → eqb (get_or t 1 0) 1 ≡ a → eqb (get_or t (2 + W) 0) 1 ≡ b → Past k
        go false b e f = let q : k ≡ 0 = c ∙ ap (λ y. pick y (pick (eqb (get_or t (2 + W) 0) 1) 2 1) 0) e in subst Past (sym q) (none q)
        go true false e f = let q : k ≡ 1 = c ∙ (λ j. pick (e j) (pick (f j) 2 1) 0) in subst Past (sym q) (one q (eqb→eq (get_or t 1 0) 1 (subst T (sym e) tt)))
        go true true e f = let q : k ≡ 2 = c ∙ (λ j. pick (e j) (pick (f j) 2 1) 0) in
            subst Past (sym q) (two q (eqb→eq (get_or t 1 0) 1 (subst T (sym e) tt)) (eqb→eq (get_or t (2 + W) 0) 1 (subst T (sym f) tt)))

-- ── the end ──

nothing_due : (w : ℕ) (rest text : List ℕ) (xs : List Piece) → text ≡ row_words w xs ++ rest → length xs ≡ 0 → (text ≡ rest) × (all_idle xs ≡ true)
nothing_due w rest text [] e n = (e, refl)
nothing_due w rest text (x ∷ xs) e n = absurd (let z : ⊥ = omega arith in z)

module _ (shape : ℕ) (s : List ℕ) (n at due : ℕ) (z : due ≤ 0) (inv : Skipping shape s n at due) where
  left : (P : Scope) (xs : List Piece) (rest : List ℕ) → RowAt shape s P xs rest → n ≡ length xs → length s - at ≡ length rest
  left P xs rest h e =
      let d = (inv P xs rest h e).1 in
      omega (arith, length-drop at s, ap length (nothing_due (width_of shape) rest (drop at s) d.pieces d.spelt (omega (arith, d.counted, z))).0)

  pub skip_left : at ≤ length s → Skipped shape s n (length s - at)
  skip_left l = (omega arith, left)

  pub skip_beyond : length s < at → Skipped shape s n 0
  skip_beyond l = (omega arith, λ P xs rest h e. omega (arith, left P xs rest h e))

  -- Wherever the row ends.
  pub skip_all : Skipped shape s n (length s - at)
  skip_all = (omega arith, left)

pub idle_all : (shape : ℕ) (s : List ℕ) (at due : ℕ) → due ≤ 0 → Idling shape s at due → Tells shape s true
idle_all shape s at due z inv P E rest h =
    let d = inv P E rest h in
    sym (d.idles ∙ (nothing_due (width_of shape) rest (drop at s) d.pieces d.spelt (omega (arith, d.counted, z))).1)
