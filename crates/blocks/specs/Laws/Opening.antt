-- What the answer of opening a file says of the file (document 01, "Blocks and the rule stream"; refusals 1 to 3).
use Rattle.std.specs.Prelude.{◌≡◌, refl, List, ℕ, ◌*◌, ◌/◌, ◌%◌, ◌≤◌, T, eqb, leb, length, Ok, Err, Result}
use Rattle.std.proofs.Math.Path.{ap, sym}
use Rattle.std.proofs.Common.{◌∙◌, arith, eqb→eq, leb→le}
use Rattle.eb3.specs.Generic.Booleans.{T_fst, T_snd}
use Rattle.eb3.specs.Blocks.{block_count, whole_blocks, Opened as Blocks_as_Opened, open_blocks}
use Rattle.eb3.proofs.Laws.Admission.{opened as opened_as, opened_1, opened_is_1}
use Rattle.eb3.specs.Answers.{Answer, refused, answered}
use Rattle.blocks.specs.Files.{Opens}
use Rattle.blocks.specs.Opening.{opening}
use Rattle.refusals.specs.declared.Refusal.{Refusal}
use Rattle.refusals.specs.Numbers.{RefusedBy}

pub unopened : (s : List ℕ) (a : Answer Blocks_as_Opened) (k : Refusal) → Err k ≡ opening s a → RefusedBy k a
unfolding opening
unopened s (refused j) k e = record { code = j; is = refl; named = cc }
unopened s (answered x) k e = absurd (let z : ◌≡◌ {A = ℕ} 0 1 = cc in omega arith)

pub opened : (s : List ℕ) (a : Answer Blocks_as_Opened) (n : ℕ) → Ok n ≡ opening s a → (n ≡ block_count s) × (x : Blocks_as_Opened) × (a ≡ answered x)
unfolding opening
opened s (refused j) n e = absurd (let z : ◌≡◌ {A = ℕ} 0 1 = cc in omega arith)
opened s (answered x) n e = (cc, x, refl)

pub whole_is : (s : List ℕ) (x : Blocks_as_Opened) → open_blocks s ≡ answered x → T (whole_blocks s) × (x ≡ opened_1 s)
whole_is s x e = ((opened_as s x e).whole, opened_is_1 s x e)

module _ (s : List ℕ) (p : Result ℕ Refusal) (e : p ≡ opening s (open_blocks s)) where
  module _ (n : ℕ) (f : p ≡ Ok n) where
    pub admit_blocks : (length s ≡ 512 * n) × (1 ≤ n) × (n ≤ 64)
    admit_blocks =
        let o = opened s _ n (sym f ∙ e) in
        let t : T (whole_blocks s) = (whole_is s o.1 o.2).0 in
        let u = T_snd (eqb (length s % 512) 0) _ t in
        let c : n ≡ length s / 512 = o.0 in
        let a : length s % 512 ≡ 0 = eqb→eq (length s % 512) 0 (T_fst (eqb (length s % 512) 0) _ t) in
        let b : 1 ≤ block_count s = leb→le 1 (block_count s) (T_fst (leb 1 (block_count s)) _ u) in
        let d : block_count s ≤ 64 = leb→le (block_count s) 64 (T_snd (leb 1 (block_count s)) _ u) in
        (omega arith, omega arith, omega arith)

    pub admit_opens : Opens s
    admit_opens = let o = opened s _ n (sym f ∙ e) in o.2 ∙ ap answered (whole_is s o.1 o.2).1
