-- Writing words in parts, each into the rest of the buffer that is lent on.
use mathlib.Core.Path.{◌≡◌, sym, ap, ◌∙◌}
use mathlib.Core.Bool.{Bool, true, false}
use mathlib.Core.List.{List, ◌++◌}
use Prim.Native.Nat.{ℕ, ◌-◌, ◌*◌, ◌≤◌}
use native.Mathlib.Omega.{arith}
use lib.ListN.{length, take, drop, length-append, length-drop}
use lib.Seq.{length-take-le}
use borrow.Author.Tests.{leb-true, le-leb}
use Rattle.eb3.specs.Bytes.{written}
use Rattle.words.specs.Laws.Checking.{back_rest}
use Rattle.writing.specs.Wrote.{Wrote}
use Rattle.writing.specs.Laws.Wrote.{written_then}

pub never : {b : Bool} → b ≡ true → b ≡ false → ⊥
never p q = let w : ◌≡◌ {A = ℕ} 0 1 = cc in omega arith

pub had_room : (o x y : List ℕ) (b : Bool) → Wrote o x y b → b ≡ true → 2 * length o ≤ length x
had_room o x y b h e = leb-true (2 * length o) (length x) (sym h.fits ∙ e)

pub room_there : (o x y : List ℕ) (b : Bool) → Wrote o x y b → 2 * length o ≤ length x → b ≡ true
room_there o x y b h l = h.fits ∙ le-leb (2 * length o) (length x) l

-- Words written after those that are already written.
pub written_behind : (o w b x : List ℕ) (k : ℕ) → 2 * length o ≤ length b → k ≡ 2 * length o → x ≡ written o b → take k x ++ written w (drop k x) ≡ written (o ++ w) b
written_behind o w b x k h l e =
    ap (λ n. take n x ++ written w (drop n x)) l ∙ (ap (λ z. take (2 * length o) z ++ written w (drop (2 * length o) z)) e ∙ written_then o w b h)

-- ── a buffer whose rest was lent and came back ──

-- The words from a on, as they are lent.
abbrev pub lent : ℕ → List ℕ → List ℕ
lent a x = take (length x - a) (drop a x)

-- A buffer whose words from a on were lent, and came back as y.
abbrev pub back : ℕ → List ℕ → List ℕ → List ℕ
back a x y = take a x ++ (y ++ drop (length x - a) (drop a x))

pub back_length : (x y : List ℕ) (a : ℕ) → a ≤ length x → length y ≡ length (drop a x) → length (back a x y) ≡ length x
back_length x y a h e = omega (arith, ap length (back_rest x y a), length-append (take a x) y, length-take-le a x h, length-drop a x)
