-- The reader of a rule stream refuses by the number of the first offending word and accepts where no word offends (document 01, "Operations": 4, 5
-- and 6 by the first offending word of the stream, at one word 4 before 5 before 6): `first_offending_word`.
use Rattle.std.specs.Prelude.{◌≡◌, ◌&&◌, ltb, leb}
use Rattle.std.proofs.Math.Path.{refl, ap, sym}
use Rattle.std.proofs.Common.{◌∙◌, arith}
use Rattle.std.proofs.Math.Bool.{Bool, true, false}
use mathlib.Core.List.{List, [], ◌∷◌, ◌++◌, map, append-nil, append_assoc}
use Rattle.std.proofs.Math.Option.{Option}
use Prim.Native.Nat.{ℕ, zero, suc, ◌+◌, ◌≤◌}
use Rattle.std.proofs.Math.ListN.{length, replicate}
use Rattle.std.proofs.lemmas.List.{length-map}
use Rattle.eb3.specs.Refusal
use Rattle.eb3.specs.Limits
use Rattle.eb3.specs.Editions.{Edition}
use Rattle.eb3.specs.Scopes.{arities}
use Rattle.eb3.specs.Scopes
use Rattle.eb3.specs.Expressions.{Data}
use Rattle.eb3.specs.RuleSets.{RuleTerm, Function, Process, RuleSet, attributes}
use Rattle.eb3.specs.RuleSpelling.{function_words, counts_words}
use Rattle.eb3.specs.Generic.Lists.{concat_map}
use Rattle.eb3.specs.Generic.AllLists.{AllFrom}
use Rattle.eb3.specs.Reading.{Read, refused, taken, Reader, pick, giving, then, both, number_of, count_of, repeat, counted, for_each, series}
use Rattle.eb3.specs.ExpressionReading.{read_data}
use Rattle.eb3.specs.RuleReading.{read_domains, read_labels, read_parameter_counts, count_for, at_start_scope, at_label_scope, function_from, read_function, read_functions, read_rule_term, parameter_limit, read_process, read_processes, without_processes, read_rules}
use Rattle.eb3.proofs.Laws.Reading.{Sound, series_sound}
use Rattle.eb3.proofs.Laws.RuleSets.{functions_counted}
use Rattle.eb3.proofs.Laws.ParameterCounts.{CountsRead, counts_sound}
use Rattle.eb3.proofs.Laws.RuleReading.{FunctionRead, function_sound, arities_are}
use Rattle.first_word.specs.FirstOffendingWord.{Declared, nothing_declared, Owner, of_label, of_process, Due, domain_count, domain_size, label_count, function_count, process_count, parameter_count, parameter, function_parameter_count, function_parameter, data_code, guard_scope, label_scope, empty_trace_scope, parameters_of, by_form, by_reference, from_to, judge, Next, follow, declare, parameters, declare_functions, parameter_counts, expressions, functions_from, processes_due, padding, verdict, first_offending}
use Rattle.first_word.proofs.Laws.FirstOffendingWord.{followed, followed_giving, followed_then, followed_pick, nothing_due, Follows, giving_follows, both_follows, number_follows, data_follows}
use Rattle.first_word.proofs.Laws.FirstOffendingTerms.{rules, declared, rule_term_follows}

pub followed_alike : {A : Type 0} (r : Read A) (g g' : A → List ℕ → Option ℕ) → ((a : A) (u : List ℕ) → g a u ≡ g' a u) → followed r g ≡ followed r g'
unfolding followed
followed_alike (refused k) g g' h = refl
followed_alike (taken a u) g g' h = h a u

-- Where what is read is known to have a property.
followed_known : {A : Type 0} (spell : A → List ℕ) (P : A → Type 0) (s : List ℕ) (r : Read A) → Sound spell P s r → (g g' : A → List ℕ → Option ℕ) → ((a : A) (u : List ℕ) → P a → g a u ≡ g' a u) → followed r g ≡ followed r g'
unfolding followed
followed_known spell P s (refused k) i g g' h = refl
followed_known spell P s (taken a u) i g g' h = h a u i.1

followed_row : {A : Type 0} (f : Reader A) (h : Reader (List A)) (s : List ℕ) (g : List A → List ℕ → Option ℕ)
    → followed (giving (λ (p : A × List A). p.0 ∷ p.1) (both f h s)) g ≡ followed (f s) (λ a u. followed (h u) (λ ys v. g (a ∷ ys) v))
unfolding both
followed_row f h s g =
    followed_giving (λ p. p.0 ∷ p.1) (both f h s) g
    ∙ (followed_then (f s) (λ a u. giving (λ b. (a, b)) (h u)) (λ p v. g (p.0 ∷ p.1) v)
    ∙ followed_alike (f s) _ _ (λ a u. followed_giving (λ b. (a, b)) (h u) (λ p v. g (p.0 ∷ p.1) v)))

module _ (L : Edition) (one : 1 ≤ L.function_parameters) where
  -- A due count, or number, and the verdict on the words after it.
  count_due : (D : Declared) (lo hi : ℕ) (d : Due) (gs : List Due) (x : ℕ → List ℕ → Option ℕ) → ((w : ℕ) (t : List ℕ) → verdict 253 L (w ∷ t) D (d ∷ gs) ≡ judge (by_form (from_to lo hi w)) (x w t))
      → (s : List ℕ) → verdict 253 L s D (d ∷ gs) ≡ followed (count_of lo hi s) x
  unfolding verdict followed count_of judge
  count_due D lo hi d gs x e [] = refl
  count_due D lo hi d gs x e (w ∷ t) = e w t ∙ go (leb lo w) (leb w hi)
    where
      go : (b c : Bool) → judge (by_form (b && c)) (x w t) ≡ followed (pick b (pick c (taken w t) (refused Refusal.form)) (refused Refusal.form)) x
      go true true = refl
      go true false = refl
      go false c = refl

  number_due : (D : Declared) (limit : ℕ) (d : Due) (gs : List Due) (x : ℕ → List ℕ → Option ℕ) → ((w : ℕ) (t : List ℕ) → verdict 253 L (w ∷ t) D (d ∷ gs) ≡ judge (by_reference (ltb w limit)) (x w t))
      → (s : List ℕ) → verdict 253 L s D (d ∷ gs) ≡ followed (number_of Refusal.reference limit s) x
  unfolding verdict followed number_of judge
  number_due D limit d gs x e [] = refl
  number_due D limit d gs x e (w ∷ t) = e w t ∙ sym (followed_pick (ltb w limit) (taken w t) (refused Refusal.reference) x)

  -- n in a row, each adding to what is declared.
  row_due : {A : Type 0} (S : List A → Declared) (f : Reader A) (d : Due) → ((xs : List A) (gs : List Due) (s : List ℕ) → verdict 253 L s (S xs) (d ∷ gs) ≡ followed (f s) λ a u. verdict 253 L u (S (xs ++ (a ∷ []))) gs)
      → (n : ℕ) (xs : List A) (gs : List Due) (s : List ℕ) → verdict 253 L s (S xs) (replicate n d ++ gs) ≡ followed (repeat n f s) λ ys u. verdict 253 L u (S (xs ++ ys)) gs
  unfolding repeat followed
  row_due S f d e zero xs gs s = ap (λ ys. verdict 253 L s (S ys) gs) (sym (append-nil xs))
  row_due S f d e (suc n) xs gs s =
      e xs (replicate n d ++ gs) s
      ∙ (followed_alike (f s) _ _ (λ a u. row_due S f d e n (xs ++ (a ∷ [])) gs u ∙ followed_alike (repeat n f u) _ _ (λ ys v. ap (λ ys. verdict 253 L v (S ys) gs) (append_assoc xs (a ∷ []) ys)))
      ∙ sym (followed_row f (repeat n f) s (λ ys u. verdict 253 L u (S (xs ++ ys)) gs)))

  -- ── domains ──

  abbrev with_domains : List ℕ → Declared
  with_domains ns = record { domains = ns; labels = []; functions = []; processes = [] }

  domains_due : (gs : List Due) (s : List ℕ) → verdict 253 L s nothing_declared (domain_count ∷ gs) ≡ followed (read_domains s) λ ns u. verdict 253 L u (with_domains ns) gs
  unfolding verdict counted
  domains_due gs s =
      count_due nothing_declared 1 Limits.domains domain_count gs (λ n u. verdict 253 L u nothing_declared (replicate n domain_size ++ gs)) (λ w t. refl) s
      ∙ (followed_alike (count_of 1 Limits.domains s) _ _ (λ n u. row_due with_domains (count_of 1 Limits.domain_size) domain_size
      (λ xs gs s. count_due (with_domains xs) 1 Limits.domain_size domain_size gs (λ a u. verdict 253 L u (with_domains (xs ++ (a ∷ []))) gs) (λ w t. refl) s) n [] gs u)
      ∙ sym (followed_then (count_of 1 Limits.domains s) (λ n. repeat n (count_of 1 Limits.domain_size)) (λ ns u. verdict 253 L u (with_domains ns) gs)))

  -- ── parameters of labels and processes ──

  abbrev after : Declared → Owner → List ℕ → List Due → List ℕ → Option ℕ
  after D o ds gs u = verdict 253 L u (declare D o ds).declared ((declare D o ds).due ++ gs)

  parameters_due : (D : Declared) (o : Owner) (n : ℕ) (ds : List ℕ) (gs : List Due) (s : List ℕ)
      → verdict 253 L s (parameters D o n ds).declared ((parameters D o n ds).due ++ gs) ≡ followed (repeat n (number_of Refusal.reference (length D.domains)) s) λ xs u. after D o (ds ++ xs) gs u
  unfolding verdict followed repeat
  parameters_due D o zero ds gs s = ap (λ xs. after D o xs gs s) (sym (append-nil ds))
  parameters_due D o (suc n) ds gs s =
      let f : Reader ℕ = number_of Refusal.reference (length D.domains) in
      number_due D (length D.domains) (parameter o n ds) gs (λ a u. verdict 253 L u (parameters D o n (ds ++ (a ∷ []))).declared ((parameters D o n (ds ++ (a ∷ []))).due ++ gs)) (λ w t. refl) s
      ∙ (followed_alike (f s) _ _ (λ a u. parameters_due D o n (ds ++ (a ∷ [])) gs u ∙ followed_alike (repeat n f u) _ _ (λ xs v. ap (λ ys. after D o ys gs v) (append_assoc ds (a ∷ []) xs)))
      ∙ sym (followed_row f (repeat n f) s (λ xs u. after D o (ds ++ xs) gs u)))

  head_due : (D : Declared) (o : Owner) (limit : ℕ) (gs : List Due) (s : List ℕ)
      → verdict 253 L s D (parameter_count o limit ∷ gs) ≡ followed (counted 0 limit (number_of Refusal.reference (length D.domains)) s) λ ds u. after D o ds gs u
  unfolding verdict counted
  head_due D o limit gs s =
      count_due D 0 limit (parameter_count o limit) gs (λ n u. verdict 253 L u (parameters D o n []).declared ((parameters D o n []).due ++ gs)) (λ w t. refl) s
      ∙ (followed_alike (count_of 0 limit s) _ _ (λ n u. parameters_due D o n [] gs u)
      ∙ sym (followed_then (count_of 0 limit s) (λ n. repeat n (number_of Refusal.reference (length D.domains))) (λ ds u. after D o ds gs u)))

  -- ── labels ──

  abbrev with_labels : List ℕ → List (List ℕ) → Declared
  with_labels domains ls = record { domains = domains; labels = ls; functions = []; processes = [] }

  labels_due : (domains : List ℕ) (gs : List Due) (s : List ℕ) → verdict 253 L s (with_domains domains) (label_count ∷ gs) ≡ followed (read_labels (length domains) s) λ ls u. verdict 253 L u (with_labels domains ls) gs
  unfolding verdict counted
  labels_due domains gs s =
      let head : Reader (List ℕ) = counted 0 Limits.label_parameters (number_of Refusal.reference (length domains)) in
      count_due (with_domains domains) 1 Limits.labels label_count gs (λ n u. verdict 253 L u (with_domains domains) (replicate n (parameter_count of_label Limits.label_parameters) ++ gs)) (λ w t. refl) s
      ∙ (followed_alike (count_of 1 Limits.labels s) _ _ (λ n u. row_due (with_labels domains) head (parameter_count of_label Limits.label_parameters)
      (λ ls gs s. head_due (with_labels domains ls) of_label Limits.label_parameters gs s) n [] gs u)
      ∙ sym (followed_then (count_of 1 Limits.labels s) (λ n. repeat n head) (λ ls u. verdict 253 L u (with_labels domains ls) gs)))

  -- ── functions ──

  module _ (domains : List ℕ) (labels : List (List ℕ)) where
    abbrev with_functions : List ℕ → Declared
    with_functions counts = record { domains = domains; labels = labels; functions = counts; processes = [] }

    module _ (counts : List ℕ) (n : ℕ) where
      abbrev D : Declared
      D = with_functions counts

      repeat_follows : {A : Type 0} (f : Reader A) (d : Due) → Follows L D n f (λ gs. d ∷ gs) → (k : ℕ) → Follows L D n (repeat k f) (λ gs. replicate k d ++ gs)
      unfolding repeat followed
      repeat_follows f d p zero = λ allowed_zeros gs g s l h. h [] s l
      repeat_follows f d p (suc k) = giving_follows L D n (λ p. p.0 ∷ p.1) (both f (repeat k f)) (λ gs. replicate (suc k) d ++ gs) (both_follows L D n f (repeat k f) (λ gs. d ∷ gs) (λ gs. replicate k d ++ gs) p (repeat_follows f d p k))

      for_each_follows : {A B : Type 0} (f : B → Reader A) (d : B → Due) → ((b : B) → Follows L D n (f b) (λ gs. d b ∷ gs)) → (bs : List B) → Follows L D n (for_each bs f) (λ gs. map d bs ++ gs)
      unfolding for_each followed
      for_each_follows f d p [] = λ allowed_zeros gs g s l h. h [] s l
      for_each_follows f d p (b ∷ bs) = giving_follows L D n (λ p. p.0 ∷ p.1) (both (f b) (for_each bs f)) (λ gs. map d (b ∷ bs) ++ gs)
          (both_follows L D n (f b) (for_each bs f) (λ gs. d b ∷ gs) (λ gs. map d bs ++ gs) (p b) (for_each_follows f d p bs))

      abbrev function_due : ℕ → List Due → List Due
      function_due i gs = replicate (parameters_of D i) function_parameter ++ (expressions L D i ++ gs)

      function_follows : (i : ℕ) → Follows L D n (read_function L (length domains) labels counts i) (function_due i)
      unfolding read_function verdict judge
      function_follows i =
          giving_follows L D n function_from (both number (both start each)) (function_due i)
          (both_follows L D n number (both start each) (λ gs. replicate (parameters_of D i) function_parameter ++ gs) (λ gs. expressions L D i ++ gs)
          (repeat_follows (number_of Refusal.reference (length domains)) function_parameter (number_follows L D n (length domains) function_parameter (λ allowed_zeros w t gs. refl)) (count_for counts i))
          (both_follows L D n start each (λ gs. data_code (empty_trace_scope L D i) ∷ gs) (λ gs. map (λ ds. data_code (label_scope L D i (length ds))) labels ++ gs)
          (data_follows L D (empty_trace_scope L D i) refl n)
          (for_each_follows (λ ds. read_data (at_label_scope L counts i (length ds))) (λ ds. data_code (label_scope L D i (length ds))) (λ ds. data_follows L D (label_scope L D i (length ds)) refl n) labels)))
        where
          number : Reader (List ℕ)
          number = repeat (count_for counts i) (number_of Refusal.reference (length domains))

          start : Reader Data
          start = read_data (at_start_scope L counts i)

          each : Reader (List Data)
          each = for_each labels (λ ds. read_data (at_label_scope L counts i (length ds)))

      series_follows : (k i : ℕ) → Follows L D n (series k i (read_function L (length domains) labels counts)) (λ gs. functions_from L D k i ++ gs)
      unfolding series followed
      series_follows zero i = λ allowed_zeros gs g s l h. h [] s l
      series_follows (suc k) i = λ allowed_zeros gs g s l h.
          ap (verdict allowed_zeros L s D) (append_assoc (replicate (parameters_of D i) function_parameter) (expressions L D i ++ functions_from L D k (i + 1)) gs
          ∙ ap (λ x. replicate (parameters_of D i) function_parameter ++ x) (append_assoc (expressions L D i) (functions_from L D k (i + 1)) gs))
          ∙ giving_follows L D n (λ p. p.0 ∷ p.1) (both (F i) (series k (i + 1) F)) (λ gs. function_due i (functions_from L D k (i + 1) ++ gs))
          (both_follows L D n (F i) (series k (i + 1) F) (function_due i) (λ gs. functions_from L D k (i + 1) ++ gs) (function_follows i) (series_follows k (i + 1))) allowed_zeros gs g s l h
        where
          F : ℕ → Reader Function
          F = read_function L (length domains) labels counts

    -- Their parameter counts, each in a word where the edition writes them.
    abbrev after_counts : ℕ → List Due → List ℕ → List ℕ → Option ℕ
    after_counts n gs counts u = verdict 253 L u (with_functions counts) (functions_from L (with_functions counts) n 0 ++ gs)

    written_due : (n k : ℕ) (counts : List ℕ) (gs : List Due) (s : List ℕ)
        → verdict 253 L s (parameter_counts L (with_labels domains labels) n k counts).declared ((parameter_counts L (with_labels domains labels) n k counts).due ++ gs)
        ≡ followed (repeat k (count_of 1 L.function_parameters) s) λ cs u. after_counts n gs (counts ++ cs) u
    unfolding verdict followed repeat
    written_due n zero counts gs s = ap (λ cs. after_counts n gs cs s) (sym (append-nil counts))
    written_due n (suc k) counts gs s =
        let f : Reader ℕ = count_of 1 L.function_parameters in
        let next : List ℕ → Next = λ cs. parameter_counts L (with_labels domains labels) n k cs in
        count_due (with_labels domains labels) 1 L.function_parameters (function_parameter_count n k counts) gs (λ a u. verdict 253 L u (next (counts ++ (a ∷ []))).declared ((next (counts ++ (a ∷ []))).due ++ gs)) (λ w t. refl) s
        ∙ (followed_alike (f s) _ _ (λ a u. written_due n k (counts ++ (a ∷ [])) gs u ∙ followed_alike (repeat k f u) _ _ (λ cs v. ap (λ ds. after_counts n gs ds v) (append_assoc counts (a ∷ []) cs)))
        ∙ sym (followed_row f (repeat k f) s (λ cs u. after_counts n gs (counts ++ cs) u)))

    counts_due : (n : ℕ) (gs : List Due) (s : List ℕ)
        → verdict 253 L s (follow L (with_labels domains labels) function_count n).declared ((follow L (with_labels domains labels) function_count n).due ++ gs)
        ≡ followed (read_parameter_counts L n s) λ counts u. after_counts n gs counts u
    unfolding read_parameter_counts followed
    counts_due n gs s = go L.counts_written
      where
        N : Bool → Next
        N b = pick b (parameter_counts L (with_labels domains labels) n n []) (declare_functions L (with_labels domains labels) n (replicate n 1))

        go : (b : Bool) → verdict 253 L s (N b).declared ((N b).due ++ gs)
            ≡ followed (pick b (repeat n (count_of 1 L.function_parameters) s) (taken (replicate n 1) s)) λ counts u. after_counts n gs counts u
        go true = written_due n n [] gs s
        go false = refl

    -- As many as there are functions.
    counts_counted : (n : ℕ) (s : List ℕ) → Sound (counts_words L) (λ cs. length cs ≡ n) s (read_parameter_counts L n s)
    counts_counted n s = known_less (read_parameter_counts L n s) (counts_sound L one n s)
      where
        known_less : (r : Read (List ℕ)) → Sound (counts_words L) (CountsRead L n) s r → Sound (counts_words L) (λ cs. length cs ≡ n) s r
        known_less (refused k) h = tt
        known_less (taken cs u) h = (h.0, h.1.0)

    -- What is known of the functions read: with their parameter counts, the guards' scope.
    abbrev Counted : List ℕ → List Function → Type 0
    Counted counts Fs = (length counts ≡ length Fs) × AllFrom (FunctionRead L (length domains) labels counts) 0 Fs

    functions_due : (gs : List Due) (s : List ℕ) (x : List Function → List ℕ → Option ℕ)
        → ((counts : List ℕ) (Fs : List Function) (u : List ℕ) → Counted counts Fs → verdict 253 L u (with_functions counts) gs ≡ x Fs u)
        → verdict 253 L s (with_labels domains labels) (function_count ∷ gs) ≡ followed (read_functions L (length domains) labels s) x
    unfolding verdict read_functions
    functions_due gs s x h =
        count_due (with_labels domains labels) 0 Limits.functions function_count gs
        (λ n u. verdict 253 L u (follow L (with_labels domains labels) function_count n).declared ((follow L (with_labels domains labels) function_count n).due ++ gs)) (λ w t. refl) s
        ∙ (followed_alike (count_of 0 Limits.functions s) _ _ (λ n u. counts_due n gs u
        ∙ (followed_known (counts_words L) (λ cs. length cs ≡ n) u (read_parameter_counts L n u) (counts_counted n u) _ (λ counts v. followed (functions counts n v) x) (λ counts v e.
        series_follows counts (length v) n 0 253 gs (λ Fs w. verdict 253 L w (with_functions counts) gs) v (omega arith) (λ Fs w m. refl)
        ∙ followed_known (concat_map (function_words L.width)) (λ Fs. (length Fs ≡ n) × AllFrom (FunctionRead L (length domains) labels counts) 0 Fs) v (functions counts n v)
        (series_sound (function_words L.width) (FunctionRead L (length domains) labels counts) (read_function L (length domains) labels counts) (function_sound L (length domains) labels counts) n 0 v)
        _ x (λ Fs w c. h counts Fs w (e ∙ sym c.0, c.1)))
        ∙ sym (followed_then (read_parameter_counts L n u) (λ counts. functions counts n) x)))
        ∙ sym (followed_then (count_of 0 Limits.functions s) (λ n u. then (read_parameter_counts L n u) λ counts. functions counts n) x))
      where
        functions : List ℕ → ℕ → Reader (List Function)
        functions counts n = series n 0 (read_function L (length domains) labels counts)

    -- ── processes ──

    module _ (Fs : List Function) (counts : List ℕ) (c : Counted counts Fs) where
      same_scope : (ps : List Process) (qs : List (List ℕ)) (m : ℕ) → guard_scope L (declared L domains labels Fs ps counts qs) m ≡ Scopes.guard_scope (attributes (rules L domains labels Fs ps counts qs)) m
      same_scope ps qs m =
          let R : RuleSet = rules L domains labels Fs ps counts qs in
          let a : count_for counts ≡ arities (attributes R) = arities_are R counts c.0 c.1 in
          λ i. record { edition = L; arity = a i; now = (c.0 ∙ sym (functions_counted R)) i; before = 0; variables = m }

      abbrev heads : List Process → List (List ℕ)
      heads ps = map (λ (P : Process). P.parameters) ps

      heads_append : (ps : List Process) (P : Process) → heads (ps ++ (P ∷ [])) ≡ heads ps ++ (P.parameters ∷ [])
      heads_append [] P = refl
      heads_append (Q ∷ ps) P = ap (λ x. Q.parameters ∷ x) (heads_append ps P)

      abbrev with_heads : List (List ℕ) → Declared
      with_heads qs = record { domains = domains; labels = labels; functions = counts; processes = qs }

      abbrev holding : List Process → RuleSet
      holding ps = record { edition = L; domains = domains; labels = labels; functions = Fs; processes = ps }

      next_process : (k : ℕ) → processes_due (suc k) ++ [] ≡ parameter_count of_process (parameter_limit k) ∷ (processes_due k ++ [])
      next_process zero = refl
      next_process (suc k) = refl

      processes_follow : (k : ℕ) (ps : List Process) (s : List ℕ) → verdict 253 L s (with_heads (heads ps)) (processes_due k ++ []) ≡ followed (read_processes k (holding ps) s) λ R u. padding 253 u
      unfolding read_processes read_process followed
      processes_follow zero ps s = nothing_due 253 L (with_heads (heads ps)) s
      processes_follow (suc k) ps s =
          ap (verdict 253 L s (with_heads (heads ps))) (next_process k)
          ∙ (head_due (with_heads (heads ps)) of_process (parameter_limit k) (processes_due k ++ []) s
          ∙ (followed_alike (head s) _ _ (λ ds u.
          rule_term_follows L domains labels Fs ps counts (heads ps ++ (ds ∷ [])) (length-map ps (λ (P : Process). P.parameters)) (same_scope ps (heads ps ++ (ds ∷ []))) (length u) ds
          253 (processes_due k ++ []) (λ E v. followed (rest (made ds E) v) (λ R u. padding 253 u)) u (omega arith)
          (λ E v m. ap (λ qs. verdict 253 L v (with_heads qs) (processes_due k ++ [])) (sym (heads_append ps (made ds E))) ∙ processes_follow k (ps ++ (made ds E ∷ [])) v)
          ∙ sym (followed_then (giving (made ds) (read_rule_term (holding ps) ds u)) rest (λ R u. padding 253 u) ∙ followed_giving (made ds) (read_rule_term (holding ps) ds u) (λ P v. followed (rest P v) (λ R u. padding 253 u))))
          ∙ sym (followed_then (then (head s) process) rest (λ R u. padding 253 u) ∙ (followed_then (head s) process (λ P v. followed (rest P v) (λ R u. padding 253 u))
          ∙ followed_alike (head s) _ _ (λ ds u. sym (followed_then (process ds u) rest (λ R u. padding 253 u)))))))
        where
          made : List ℕ → RuleTerm → Process
          made ds E = record { parameters = ds; term = E }

          head : Reader (List ℕ)
          head = counted 0 (parameter_limit k) (number_of Refusal.reference (length domains))

          process : List ℕ → Reader Process
          process ds u = giving (made ds) (read_rule_term (holding ps) ds u)

          rest : Process → Reader RuleSet
          rest P = read_processes k (holding (ps ++ (P ∷ [])))

      processes_verdict : (s : List ℕ) → verdict 253 L s (with_functions counts) (process_count ∷ [])
          ≡ followed (then (count_of 1 Limits.processes s) λ k. read_processes k (without_processes L domains labels Fs)) λ R u. padding 253 u
      unfolding verdict
      processes_verdict s =
          count_due (with_functions counts) 1 Limits.processes process_count [] (λ k u. verdict 253 L u (with_functions counts) (processes_due k ++ [])) (λ w t. refl) s
          ∙ (followed_alike (count_of 1 Limits.processes s) _ _ (λ k u. processes_follow k [] u)
          ∙ sym (followed_then (count_of 1 Limits.processes s) (λ k. read_processes k (without_processes L domains labels Fs)) (λ R u. padding 253 u)))

  -- ── the sections in a row ──

  pub rules_follow : (s : List ℕ) → first_offending L s ≡ followed (read_rules L s) λ R u. padding 253 u
  unfolding read_rules
  rules_follow s =
      domains_due (label_count ∷ function_count ∷ process_count ∷ []) s
      ∙ (followed_alike (read_domains s) _ _ (λ domains u.
      labels_due domains (function_count ∷ process_count ∷ []) u
      ∙ (followed_alike (read_labels (length domains) u) _ _ (λ labels v.
      functions_due domains labels (process_count ∷ []) v (λ Fs w. followed (from_functions domains labels Fs w) end) (λ counts Fs w c. processes_verdict domains labels Fs counts c w)
      ∙ sym (followed_then (read_functions L (length domains) labels v) (from_functions domains labels) end))
      ∙ sym (followed_then (read_labels (length domains) u) (from_labels domains) end)))
      ∙ sym (followed_then (read_domains s) (λ domains t. then (read_labels (length domains) t) (from_labels domains)) end))
    where
      end : RuleSet → List ℕ → Option ℕ
      end R u = padding 253 u

      from_functions : List ℕ → List (List ℕ) → List Function → Reader RuleSet
      from_functions domains labels Fs t = then (count_of 1 Limits.processes t) λ n. read_processes n (without_processes L domains labels Fs)

      from_labels : List ℕ → List (List ℕ) → Reader RuleSet
      from_labels domains labels t = then (read_functions L (length domains) labels t) (from_functions domains labels)
