-- What an answer of a check has in it: whether something was found, a part of it, and the refusal.
-- Document 01, "Blocks and the rule stream", items 2 to 5; refusals 4 to 6.
use Rattle.std.specs.Prelude.{Ok, Err, Result}
use Rattle.refusals.specs.declared.Refusal.{Refusal}

abbrev pub IsFound : {A : Type 0} → Result A Refusal → Type 0
IsFound (Ok a) = Unit
IsFound (Err k) = ⊥

-- Where it is refused, d.
abbrev pub found_in : {A B : Type 0} → (A → B) → B → Result A Refusal → B
found_in f d (Ok a) = f a
found_in f d (Err k) = d

-- Where something was found, d.
abbrev pub refusal_in : {A : Type 0} → Refusal → Result A Refusal → Refusal
refusal_in d (Ok a) = d
refusal_in d (Err k) = k
