-- Laws of what an expression or a term begins with: its code, the words before its operands, and its operands, data and conditions before terms (document 01,
-- "Codes stand before their operands").
use Rattle.std.specs.Prelude.{◌≡◌, Bool, true, false, ◌&&◌, cond, ℕ, zero, suc, ◌+◌, ◌*◌, ◌≤◌, max, eqb, length, get_or}
use Rattle.std.proofs.Math.Path.{refl, sym, ap}
use Rattle.std.proofs.Common.{◌∙◌, get_or-append-add, eq-eqb, ne_eqb}
use mathlib.Core.List.{List, [], ◌∷◌, ◌++◌, append-nil, append_assoc}
use native.Mathlib.Omega.{arith}
use Rattle.eb3.specs.Generic.AllLists.{All}
use Rattle.eb3.specs.Expressions.{Data, Undefined, Constant, Variable, Add, Subtract, If, Now, Before, Args, Nil, Cons, Cond, Equal, Less, And, Or, Not, True}
use Rattle.eb3.specs.Scopes.{Scope, DataInScope, ArgsInScope, CondInScope}
use Rattle.eb3.specs.Terms.{Term, Done, Internal, Perform, Sequence, Choice, Star, Parallel, Guard}
use Rattle.eb3.specs.Reading.{pick}
use Rattle.eb3.specs.Generic.Lists.{one_of}
use Rattle.eb3.specs.Sizes.{breadth, zero_mask, parallel_breadth}
use Rattle.eb3.specs.Spelling.{number_words, data_words, args_words, cond_words, arguments_words, words}
use Rattle.eb3.proofs.Laws.Spelling.{number_length}
use Rattle.codes.specs.Table.{words_after, operands_after, moving_code}
use Rattle.codes.specs.Shapes.{width_of, Shaped, more_words, argument_count, operand_count}
use Rattle.codes.specs.Rows.{Piece, of_data, of_cond, of_term, piece_words, term_fits, piece_fits, Ordered, row_words, Closed, all_idle}

-- The code's own operands, which satisfy K; what comes after the whole satisfies Q. `idle` says whether the text is of something that can never move.
pub record Opens (shape : ℕ) (P : Scope) (Q : List ℕ → Type 0) (K : List Piece → Type 0) (text : List ℕ) (idle : Bool) : Type 0 where
  pub code : ℕ
  pub more : List ℕ
  pub operands : List Piece
  pub opens : text ≡ code ∷ (more ++ row_words (width_of shape) operands)
  pub known : code ≤ 30
  pub counted : length more ≡ more_words shape code
  pub follow : (tail : List ℕ) → Q tail → operand_count shape code (more ++ (row_words (width_of shape) operands ++ tail)) ≡ length operands
  pub fit : All (piece_fits P) operands
  pub ordered : K operands
  pub idles : idle ≡ cond (moving_code code) false (all_idle operands)

abbrev pub Anything : List ℕ → Type 0
Anything tail = Unit

-- Data and conditions only.
abbrev pub IsInner : Piece → Type 0
IsInner (of_data d) = Unit
IsInner (of_cond c) = Unit
IsInner (of_term E) = ⊥

abbrev pub Inner : List Piece → Type 0
Inner xs = All IsInner xs

inner_idle : (xs : List Piece) → Inner xs → all_idle xs ≡ true
inner_idle [] h = refl
inner_idle (of_data d ∷ xs) h = inner_idle xs h.1
inner_idle (of_cond c ∷ xs) h = inner_idle xs h.1
inner_idle (of_term E ∷ xs) h = absurd h.0

-- Data and conditions open with no moving code, and have no terms among their operands.
still : (k : ℕ) (xs : List Piece) → moving_code k ≡ false → Inner xs → true ≡ cond (moving_code k) false (all_idle xs)
still k xs m h = sym (ap (λ b. cond b false (all_idle xs)) m ∙ inner_idle xs h)

-- ── which terms can never move ──

some_breadth : (n : ℕ) → (n ≡ 0 → ⊥) → eqb n 0 ≡ false
some_breadth n h = ne_eqb n 0 h

two_idle : (n a b : ℕ) → (n ≡ 0 → a + b ≡ 0) → (a + b ≡ 0 → n ≡ 0) → eqb n 0 ≡ (eqb a 0 && (eqb b 0 && true))
two_idle n zero zero f g = eq-eqb n 0 (g refl)
two_idle n zero (suc b) f g = some_breadth n (λ e. omega (arith, f e)) ∙ sym (ap (λ x. x && true) (some_breadth (suc b) (λ e. omega (arith, e))))
two_idle n (suc a) b f g = some_breadth n (λ e. omega (arith, f e)) ∙ sym (ap (λ x. x && (eqb b 0 && true)) (some_breadth (suc a) (λ e. omega (arith, e))))

one_idle : (b : Bool) → b ≡ (b && true)
one_idle true = refl
one_idle false = refl

parallel_moves : (z : Bool) (a b : ℕ) → eqb (parallel_breadth z a b) 0 ≡ false
unfolding parallel_breadth
parallel_moves true a b = some_breadth (max 1 (a + b)) (λ e. omega (arith, e))
parallel_moves false a b = some_breadth (max 1 (a + b + a * b)) (λ e. omega (arith, e))

-- ── arguments of now and before ──

abbrev arg_pieces : Args → List Piece
arg_pieces Nil = []
arg_pieces (Cons a rs) = of_data a ∷ arg_pieces rs

args_spelled : (w : ℕ) (rs : Args) → args_words w rs ≡ row_words w (arg_pieces rs)
unfolding args_words
args_spelled w Nil = refl
args_spelled w (Cons a rs) = ap (λ l. data_words w a ++ l) (args_spelled w rs)

args_counted : (P : Scope) (rs : Args) (n : ℕ) → ArgsInScope rs P n → length (arg_pieces rs) ≡ n
args_counted P Nil n s = sym s
args_counted P (Cons a rs) n s = ap suc (args_counted P rs s.0 s.3) ∙ sym s.1

args_fit : (P : Scope) (rs : Args) (n : ℕ) → ArgsInScope rs P n → All (piece_fits P) (arg_pieces rs)
args_fit P Nil n s = tt
args_fit P (Cons a rs) n s = (s.2, args_fit P rs s.0 s.3)

args_inner : (rs : Args) → Inner (arg_pieces rs)
args_inner Nil = tt
args_inner (Cons a rs) = (tt, args_inner rs)

-- ── arguments of an action ──

abbrev constants : List ℕ → List Piece
constants [] = []
constants (v ∷ vs) = of_data (Constant v) ∷ constants vs

constants_spelled : (w : ℕ) (vs : List ℕ) → arguments_words w vs ≡ row_words w (constants vs)
unfolding arguments_words data_words
constants_spelled w [] = refl
constants_spelled w (v ∷ vs) = ap (λ l. 1 ∷ (number_words w v ++ l)) (constants_spelled w vs)

constants_fit : (P : Scope) (vs : List ℕ) → All (λ v. v ≤ P.edition.top) vs → All (piece_fits P) (constants vs)
constants_fit P [] h = tt
constants_fit P (v ∷ vs) h = (h.0, constants_fit P vs h.1)

constants_ordered : (vs : List ℕ) → Ordered (constants vs)
constants_ordered [] = tt
constants_ordered (v ∷ vs) = constants_ordered vs

module _ (shape : ℕ) where
  abbrev W : ℕ
  W = width_of shape

  -- The word after the first argument.
  after_first : (l v : ℕ) (t : List ℕ) → get_or (l ∷ 1 ∷ (number_words W v ++ t)) (2 + W) 0 ≡ get_or t 0 0
  after_first l v t =
      let two : 2 + W ≡ suc (suc W) = omega arith in
      let e : length (number_words W v) ≡ W = number_length W v in
      let i : W ≡ length (number_words W v) + 0 = omega (arith, e) in
      ap (λ j. get_or (l ∷ 1 ∷ (number_words W v ++ t)) j 0) two ∙ ap (λ j. get_or (number_words W v ++ t) j 0) i ∙ get_or-append-add (number_words W v) t 0 0

  picks : (x y a b n : ℕ) → a ≡ b → b ≡ n → pick (eqb a n) x y ≡ x
  picks x y a b n e f = ap (λ z. pick z x y) (eq-eqb a n (e ∙ f))

  skips : (x y a b n : ℕ) → a ≡ b → (b ≡ n → ⊥) → pick (eqb a n) x y ≡ y
  skips x y a b n e f = ap (λ z. pick z x y) (ne_eqb a n (λ g. f (sym e ∙ g)))

  constants_counted : (l : ℕ) (vs : List ℕ) (tail : List ℕ) → length vs ≤ 2 → Closed tail → argument_count shape (l ∷ (row_words W (constants vs) ++ tail)) ≡ length vs
  unfolding data_words
  constants_counted l [] tail h c = skips _ 0 (get_or tail 0 0) (get_or tail 0 0) 1 refl c
  constants_counted l (v ∷ []) tail h c =
      let e : (number_words W v ++ []) ++ tail ≡ number_words W v ++ tail = ap (λ x. x ++ tail) (append-nil (number_words W v)) in
      ap (λ x. pick (eqb (get_or (l ∷ 1 ∷ x) (2 + W) 0) 1) 2 1) e ∙ skips 2 1 (get_or (l ∷ 1 ∷ (number_words W v ++ tail)) (2 + W) 0) (get_or tail 0 0) 1 (after_first l v tail) c
  constants_counted l (v ∷ u ∷ []) tail h c =
      let e : (number_words W v ++ (1 ∷ (number_words W u ++ []))) ++ tail ≡ number_words W v ++ (1 ∷ ((number_words W u ++ []) ++ tail)) = append_assoc (number_words W v) (1 ∷ (number_words W u ++ [])) tail in
      ap (λ x. pick (eqb (get_or (l ∷ 1 ∷ x) (2 + W) 0) 1) 2 1) e
      ∙ picks 2 1 (get_or (l ∷ 1 ∷ (number_words W v ++ (1 ∷ ((number_words W u ++ []) ++ tail)))) (2 + W) 0) 1 1 (after_first l v (1 ∷ ((number_words W u ++ []) ++ tail))) refl
  constants_counted l (v ∷ u ∷ x ∷ vs) tail h c = absurd (let z : ⊥ = omega arith in z)

  constants_length : (vs : List ℕ) → length (constants vs) ≡ length vs
  constants_length [] = refl
  constants_length (v ∷ vs) = ap suc (constants_length vs)

  module _ (P : Scope) (shaped : Shaped shape P) where
    abbrev Opened : Piece → Type 0
    Opened x = Opens shape P Anything Inner (piece_words W x) true

    -- A code whose operands are in the table.
    plain : (k : ℕ) (xs : List Piece) (text : List ℕ) → text ≡ k ∷ row_words W xs → k ≤ 30 → ◌≡◌ {A = ℕ} 0 (more_words shape k) → ((t : List ℕ) → operand_count shape k t ≡ length xs) → All (piece_fits P) xs → Inner xs → moving_code k ≡ false → Opens shape P Anything Inner text true
    plain k xs text e l m n f o v = record { code = k; more = []; operands = xs; opens = e; known = l; counted = m; follow = λ tail q. n (row_words W xs ++ tail); fit = f; ordered = o; idles = still k xs v o }

    data_opens : (d : Data) → DataInScope d P → Opened (of_data d)
    unfolding data_words words_after operands_after moving_code one_of
    data_opens Undefined s = plain 0 [] _ refl (omega arith) (omega arith) (λ t. refl) tt tt refl
    data_opens (Constant n) s = record { code = 1; more = number_words W n; operands = []; opens = ap (λ l. 1 ∷ l) (sym (append-nil (number_words W n))); known = omega arith; counted = omega (arith, number_length W n); follow = λ tail q. refl; fit = tt; ordered = tt; idles = refl }
    data_opens (Variable i) s = record { code = 2; more = i ∷ []; operands = []; opens = refl; known = omega arith; counted = omega arith; follow = λ tail q. refl; fit = tt; ordered = tt; idles = refl }
    data_opens (Add a b) s = plain 3 (of_data a ∷ of_data b ∷ []) _ (simp append-nil) (omega arith) (omega arith) (λ t. refl) (s.0, (s.1, tt)) (tt, (tt, tt)) refl
    data_opens (Subtract a b) s = plain 4 (of_data a ∷ of_data b ∷ []) _ (simp append-nil) (omega arith) (omega arith) (λ t. refl) (s.0, (s.1, tt)) (tt, (tt, tt)) refl
    data_opens (If c a b) s = plain 5 (of_cond c ∷ of_data a ∷ of_data b ∷ []) _ (simp append-nil) (omega arith) (omega arith) (λ t. refl) (s.0, (s.1, (s.2, tt))) (tt, (tt, (tt, tt))) refl
    data_opens (Now f rs) s = record {
      code = 6;
      more = f ∷ [];
      operands = arg_pieces rs;
      opens = ap (λ l. 6 ∷ f ∷ l) (args_spelled W rs);
      known = omega arith;
      counted = omega arith;
      follow = λ tail q. sym (args_counted P rs (P.arity f) s.1 ∙ shaped.now_arity f s.0);
      fit = args_fit P rs (P.arity f) s.1;
      ordered = args_inner rs;
      idles = still 6 (arg_pieces rs) refl (args_inner rs);
    }
    data_opens (Before f rs) s = record {
      code = 7;
      more = f ∷ [];
      operands = arg_pieces rs;
      opens = ap (λ l. 7 ∷ f ∷ l) (args_spelled W rs);
      known = omega arith;
      counted = omega arith;
      follow = λ tail q. sym (args_counted P rs (P.arity f) s.1 ∙ shaped.before_arity f s.0);
      fit = args_fit P rs (P.arity f) s.1;
      ordered = args_inner rs;
      idles = still 7 (arg_pieces rs) refl (args_inner rs);
    }

    cond_opens : (c : Cond) → CondInScope c P → Opened (of_cond c)
    unfolding cond_words words_after operands_after moving_code one_of
    cond_opens (Equal a b) s = plain 8 (of_data a ∷ of_data b ∷ []) _ (simp append-nil) (omega arith) (omega arith) (λ t. refl) (s.0, (s.1, tt)) (tt, (tt, tt)) refl
    cond_opens (Less a b) s = plain 9 (of_data a ∷ of_data b ∷ []) _ (simp append-nil) (omega arith) (omega arith) (λ t. refl) (s.0, (s.1, tt)) (tt, (tt, tt)) refl
    cond_opens (And c d) s = plain 10 (of_cond c ∷ of_cond d ∷ []) _ (simp append-nil) (omega arith) (omega arith) (λ t. refl) (s.0, (s.1, tt)) (tt, (tt, tt)) refl
    cond_opens (Or c d) s = plain 11 (of_cond c ∷ of_cond d ∷ []) _ (simp append-nil) (omega arith) (omega arith) (λ t. refl) (s.0, (s.1, tt)) (tt, (tt, tt)) refl
    cond_opens (Not c) s = plain 12 (of_cond c ∷ []) _ (simp append-nil) (omega arith) (omega arith) (λ t. refl) (s, tt) (tt, tt) refl
    cond_opens True s = plain 13 [] _ refl (omega arith) (omega arith) (λ t. refl) tt tt refl

    -- A term's operands; an action's arguments end where no constant follows.
    abbrev OpenedTerm : Term → Type 0
    OpenedTerm E = Opens shape P Closed Ordered (words W E) (eqb (breadth E) 0)

    plain_term : (k : ℕ) (more : List ℕ) (xs : List Piece) (text : List ℕ) → text ≡ k ∷ (more ++ row_words W xs) → k ≤ 30 → length more ≡ more_words shape k → ((t : List ℕ) → operand_count shape k t ≡ length xs) → All (piece_fits P) xs → Ordered xs → (idle : Bool) → idle ≡ cond (moving_code k) false (all_idle xs) → Opens shape P Closed Ordered text idle
    plain_term k more xs text e l m n f o idle i = record { code = k; more = more; operands = xs; opens = e; known = l; counted = m; follow = λ tail q. n (more ++ (row_words W xs ++ tail)); fit = f; ordered = o; idles = i }

    pub term_opens : (E : Term) → term_fits P E → OpenedTerm E
    unfolding words breadth words_after operands_after moving_code one_of
    term_opens Done s = plain_term 30 [] [] _ refl (omega arith) (omega arith) (λ t. refl) tt tt _ refl
    term_opens Internal s = plain_term 20 [] [] _ refl (omega arith) (omega arith) (λ t. refl) tt tt _ refl
    term_opens (Perform a) s = record {
      code = 21;
      more = a.label ∷ [];
      operands = constants a.arguments;
      opens = ap (λ l. 21 ∷ a.label ∷ l) (constants_spelled W a.arguments);
      known = omega arith;
      counted = omega arith;
      follow = λ tail q. omega (arith, constants_counted a.label a.arguments tail s.0 q, constants_length a.arguments);
      fit = constants_fit P a.arguments s.1;
      ordered = constants_ordered a.arguments;
      idles = refl;
    }
    term_opens (Sequence E F) s = plain_term 22 [] (of_term E ∷ of_term F ∷ []) _ (simp append-nil) (omega arith) (omega arith) (λ t. refl) (s.0, (s.1, tt)) (tt, tt) _ (two_idle (max (breadth E) (breadth F)) (breadth E) (breadth F) (λ e. omega (arith, e)) (λ e. omega (arith, e)))
    term_opens (Choice E F) s = plain_term 23 [] (of_term E ∷ of_term F ∷ []) _ (simp append-nil) (omega arith) (omega arith) (λ t. refl) (s.0, (s.1, tt)) (tt, tt) _ (two_idle (breadth E + breadth F) (breadth E) (breadth F) (λ e. e) (λ e. e))
    term_opens (Star E) s = plain_term 24 [] (of_term E ∷ []) _ (simp append-nil) (omega arith) (omega arith) (λ t. refl) (s, tt) tt _ (some_breadth (1 + breadth E) (λ e. omega (arith, e)))
    term_opens (Parallel Δ E F) s = plain_term 25 Δ (of_term E ∷ of_term F ∷ []) _ (simp append-nil) (omega arith) (omega (arith, s.0)) (λ t. refl) (s.1, (s.2, tt)) (tt, tt) _ (parallel_moves (zero_mask Δ) (breadth E) (breadth F))
    term_opens (Guard C E) s = plain_term 26 [] (of_cond C ∷ of_term E ∷ []) _ (simp append-nil) (omega arith) (omega arith) (λ t. refl) (s.0, (s.1, tt)) tt _ (one_idle (eqb (breadth E) 0))

    pub expression_opens_data : (d : Data) → DataInScope d P → Opened (of_data d)
    expression_opens_data = data_opens

    pub expression_opens_cond : (c : Cond) → CondInScope c P → Opened (of_cond c)
    expression_opens_cond = cond_opens
