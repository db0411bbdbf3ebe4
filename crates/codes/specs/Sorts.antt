-- Which codes may be where something is due (document 01, "Values and conditions", "Blocks and the rule stream"): data are 0 to 7, conditions 8 to 13, the
-- terms of a process 20 to 29, and running terms 20 to 26 and 30. Any other code there is refused as form.
use Rattle.std.specs.Prelude.{Bool, ◌&&◌, ◌||◌, List, length, get_or, ℕ, zero, suc, eqb, leb, ltb, Option, None, Some, Result, Ok, Err}
use Rattle.eb3.specs.Refusal
use Rattle.eb3.specs.Reading.{pick}
use Rattle.refusals.specs.declared.Refusal.{Refusal as Refused}
use Rattle.refusals.specs.declared.Refusal.TheVariants.{Form}
use Rattle.refusals.specs.Numbers.{refusal}
use Rattle.codes.specs.declared.Due.{Due}
use Rattle.codes.specs.declared.Due.TheVariants.{Data, Condition, RuleTerm, RunningTerm}

abbrev pub between : ℕ → ℕ → ℕ → Bool
between a b c = leb a c && leb c b

unfoldable pub may_be : Due → ℕ → Bool
may_be Data c = between 0 7 c
may_be Condition c = between 8 13 c
may_be RuleTerm c = between 20 29 c
may_be RunningTerm c = between 20 26 c || eqb c 30

-- The refusal's number, or 0 where the code may be there.
unfoldable pub refusal_of : Due → ℕ → ℕ
refusal_of due c = pick (may_be due c) 0 Refusal.form

-- The refusal itself, or none where the number is 0.
abbrev pub refused_as : ℕ → Option Refused
refused_as zero = None
refused_as (suc k) = Some (refusal (suc k))

-- A code with its refusal's number: the code itself where that is 0, else the refusal.
abbrev pub judged : ℕ → ℕ → Result ℕ Refused
judged zero c = Ok c
judged (suc k) c = Err (refusal (suc k))

-- The code at a place where something is due; form where there is no word.
unfoldable pub code_due : Due → List ℕ → ℕ → Result ℕ Refused
code_due due s at = pick (ltb at (length s)) (judged (refusal_of due (get_or s at 0)) (get_or s at 0)) (Err Form)
