-- An admitted rule set is well-formed, and the stream is exactly its spelling followed by zeros, so nothing is read as something else
-- (document 01, "Blocks and the rule stream", refusals 1 to 8).
use Rattle.std.specs.Prelude.{◌≡◌, refl, ◌&&◌, List, [], ◌∷◌, ◌++◌, ℕ, zero, suc, ◌*◌, ◌%◌, ◌≤◌, ◌<◌, T, eqb, leb, ltb, take}
use Rattle.std.proofs.Math.Path.{ap, subst}
use Rattle.std.proofs.Common.{sym, ◌∙◌, arith, eqb→eq, length-append, length-take, length-drop}
use Rattle.std.proofs.Math.Option.{Option, none, some}
use Rattle.std.proofs.Math.Dec.{leb→le, ltb→lt}
use Rattle.std.proofs.Math.ListN.{length, get_or, drop, replicate}
use Rattle.eb3.specs.Limits
use Rattle.eb3.specs.Generic.Booleans.{T_fst, T_snd}
use Rattle.eb3.specs.Refusal
use Rattle.eb3.specs.Sizes.{reach, breadth}
use Rattle.eb3.specs.Editions.{Edition, edition_1, edition_of, Defined}
use Rattle.eb3.proofs.Laws.Editions.{edition_proper, edition_numbered, only_edition_1}
use Rattle.eb3.specs.RuleSets.{RuleSet}
use Rattle.eb3.specs.Unfolding.{unfold_main}
use Rattle.eb3.specs.WellFormedness.{Form, WellFormed}
use Rattle.eb3.specs.RuleSpelling.{rules_words, stream_words}
use Rattle.eb3.specs.Reading.{Read}
use Rattle.eb3.proofs.Laws.Reading.{Sound}
use Rattle.eb3.proofs.Laws.RuleReading.{FormOf, rules_sound}
use Rattle.eb3.specs.RuleReading.{read_rules}
use Rattle.eb3.specs.Answers.{answered, and_then, or_refused}
use Rattle.eb3.proofs.Laws.Answers.{not_both, answered_injective, and_then_answered, pick_answered}
use Rattle.eb3.proofs.Laws.Bytes.{words_counted}
use Rattle.eb3.specs.Blocks.{block_bytes, content_bytes, content_words, content, contents, block_count, stream, whole_blocks, blocks_right, edition_in, Opened, open_blocks}
use Rattle.eb3.specs.Admission.{all_zero, ends_right, ended, within_limits, admission}

-- The words after the last used one are zero.
zeros_are : (ws : List ℕ) → T (all_zero ws) → ws ≡ replicate (length ws) 0
unfolding all_zero
zeros_are [] t = refl
zeros_are (w ∷ ws) t = λ i. eqb→eq w 0 (T_fst (eqb w 0) (all_zero ws) t) i ∷ zeros_are ws (T_snd (eqb w 0) (all_zero ws) t) i

-- Words 0 and 1 are there, since they are not 0.
pub two_words : (s : List ℕ) (a b : ℕ) → 1 ≤ a → 1 ≤ b → get_or s 0 0 ≡ a → get_or s 1 0 ≡ b → s ≡ a ∷ b ∷ drop 2 s
two_words [] a b h k e f = let z : ⊥ = omega arith in absurd z
two_words (v ∷ []) a b h k e f = let z : ⊥ = omega arith in absurd z
two_words (v ∷ w ∷ s) a b h k e f = λ i. e i ∷ f i ∷ s

-- The stream of whole blocks has 254 words for each.
contents_length : (n : ℕ) (s : List ℕ) → length s ≡ block_bytes * n → length (contents n s) ≡ content_bytes * n
unfolding contents
contents_length zero s e = refl
contents_length (suc n) s e =
    omega (
      arith,
      length-append (content (take block_bytes s)) (contents n (drop block_bytes s)),
      length-drop 4 (take block_bytes s),
      length-take block_bytes s,
      contents_length n (drop block_bytes s) (omega (arith, length-drop block_bytes s)),
    )

pub blocks_there : (rules : List ℕ) → T (whole_blocks rules) → 1 ≤ block_count rules
blocks_there rules t = leb→le 1 (block_count rules) (T_fst (leb 1 (block_count rules)) (leb (block_count rules) Limits.blocks)
    (T_snd (eqb (length rules % block_bytes) 0) (leb 1 (block_count rules) && leb (block_count rules) Limits.blocks) t))

pub stream_length : (rules : List ℕ) → T (whole_blocks rules) → length (stream rules) ≡ content_words * block_count rules
stream_length rules t =
    let e = eqb→eq (length rules % block_bytes) 0 (T_fst (eqb (length rules % block_bytes) 0) (leb 1 (block_count rules) && leb (block_count rules) Limits.blocks) t) in
    omega (arith, words_counted (contents (block_count rules) rules), contents_length (block_count rules) rules (omega arith))

abbrev pub Spelled : List ℕ → RuleSet → Type 0
Spelled rules R = (n : ℕ) × (n < content_words) × (stream rules ≡ stream_words (block_count rules) R ++ replicate n 0)

pub or_refused_answered : {X : Type 0} (k : ℕ) (o : Option X) (x : X) → or_refused k o ≡ answered x → o ≡ some x
or_refused_answered k none x e = absurd (not_both k x e)
or_refused_answered k (some y) x e = ap some (answered_injective y x e)

module _ (rules : List ℕ) where
  -- The edition is the one that word 0 says, and the words are those after the first two.
  pub record OpenedAs (o : Opened) : Type 0 where
    pub whole : T (whole_blocks rules)
    pub defined : Defined o.edition
    pub front : stream rules ≡ o.edition.number ∷ block_count rules ∷ o.words

  pub opened : (o : Opened) → open_blocks rules ≡ answered o → OpenedAs o
  unfolding open_blocks edition_in
  opened o e =
      let p = pick_answered (whole_blocks rules) _ Refusal.length o e in
      let q = pick_answered (blocks_right 0 (block_count rules) rules) _ Refusal.block o p.1 in
      let r = and_then_answered (edition_in rules) (λ L. answered (record { edition = L; words = drop 2 (stream rules) })) o q.1 in
      let u = pick_answered (eqb (get_or (stream rules) 1 0) (block_count rules)) _ Refusal.edition r.0 r.1 in
      let d : edition_of (get_or (stream rules) 0 0) ≡ some r.0 = or_refused_answered Refusal.edition (edition_of (get_or (stream rules) 0 0)) r.0 u.1 in
      let n : r.0.number ≡ get_or (stream rules) 0 0 = edition_numbered (get_or (stream rules) 0 0) r.0 d in
      let defined : Defined r.0 = ap edition_of n ∙ d in
      subst OpenedAs (answered_injective (record { edition = r.0; words = drop 2 (stream rules) }) o r.2) (record {
        whole = p.0;
        defined = defined;
        front = two_words (stream rules) r.0.number (block_count rules) (edition_proper r.0 defined).numbered.0 (blocks_there rules p.0) (sym n) (eqb→eq (get_or (stream rules) 1 0) (block_count rules) u.0);
      })

  -- What is opened, edition 1 being the only one.
  abbrev pub opened_1 : Opened
  opened_1 = record { edition = edition_1; words = drop 2 (stream rules) }

  pub opened_is_1 : (o : Opened) → open_blocks rules ≡ answered o → o ≡ opened_1
  opened_is_1 o e =
      let w : OpenedAs o = opened o e in
      let p : o.edition ≡ edition_1 = only_edition_1 o.edition w.defined in
      let q : o.words ≡ drop 2 (stream rules) = ap (drop 2) (sym w.front) in
      λ i. record { edition = p i; words = q i }

  abbrev pub Taken : Edition → List ℕ → RuleSet → Type 0
  Taken L words R = ((n : ℕ) × (n < content_words) × (words ≡ rules_words R ++ replicate n 0)) × FormOf L R

  pub read_whole : (L : Edition) → Defined L → (words : List ℕ) (R : RuleSet) → ended (read_rules L words) ≡ answered R → Taken L words R
  unfolding ended
  read_whole L defined words R e = go (read_rules L words) (rules_sound L (edition_proper L defined) words) e
    where
      go : (r : Read RuleSet) → Sound rules_words (FormOf L) words r → ended r ≡ answered R → Taken L words R
      go (Read.refused k) h e = absurd (not_both k R e)
      go (Read.taken Q rest) h e =
          let p = pick_answered (ends_right rest) (answered Q) Refusal.form R e in
          subst (Taken L words) (answered_injective Q R p.1) (
            (
              length rest,
              ltb→lt (length rest) content_words (T_fst (ltb (length rest) content_words) (all_zero rest) p.0),
              h.0 ∙ ap (λ x. rules_words Q ++ x) (zeros_are rest (T_snd (ltb (length rest) content_words) (all_zero rest) p.0)),
            ),
            h.1,
          )

  limited : (Q R : RuleSet) → within_limits Q ≡ answered R → Defined Q.edition → Form Q → (Q ≡ R) × WellFormed R
  unfolding within_limits
  limited Q R e d f =
      let p = pick_answered (leb (reach Q.edition.width (unfold_main Q)) Limits.reach) _ Refusal.size R e in
      let q = pick_answered (leb (breadth (unfold_main Q)) Limits.breadth) (answered Q) Refusal.breadth R p.1 in
      let same = answered_injective Q R q.1 in (
        same,
        subst WellFormed same (record {
          defined = d;
          form = f;
          reach_limit = leb→le (reach Q.edition.width (unfold_main Q)) Limits.reach p.0;
          breadth_limit = leb→le (breadth (unfold_main Q)) Limits.breadth q.0;
        }),
      )

  -- Whole blocks, a well-formed rule set, and the stream spells it.
  pub record AdmittedAs (R : RuleSet) : Type 0 where
    pub whole : T (whole_blocks rules)
    pub good : WellFormed R
    pub spelled : Spelled rules R

  pub admitted : (R : RuleSet) → admission rules ≡ answered R → AdmittedAs R
  unfolding admission stream_words
  admitted R e =
      let p = and_then_answered (and_then (open_blocks rules) λ o. ended (read_rules o.edition o.words)) within_limits R e in
      let q = and_then_answered (open_blocks rules) (λ o. ended (read_rules o.edition o.words)) p.0 p.1 in
      let o : Opened = q.0 in
      let w : OpenedAs o = opened o q.1 in
      let t = read_whole o.edition w.defined o.words p.0 q.2 in
      let same : p.0.edition ≡ o.edition = t.1.1 in
      let l = limited p.0 R p.2 (subst Defined (sym same) w.defined) t.1.0 in
      record {
        whole = w.whole;
        good = l.1;
        spelled = subst (Spelled rules) l.0 (
          t.0.0,
          t.0.1,
          w.front ∙ (ap (λ s. o.edition.number ∷ block_count rules ∷ s) t.0.2 ∙ ap (λ (L : Edition). L.number ∷ block_count rules ∷ (rules_words p.0 ++ replicate t.0.0 0)) (sym same)),
        );
      }
