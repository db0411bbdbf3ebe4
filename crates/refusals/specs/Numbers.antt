-- The number of each refusal, the refusal of each number, and what it is to be refused by a refusal's number.
-- Document 01, the table under "Operations"; document 02, K1.
use Rattle.std.specs.Prelude.{◌≡◌, ℕ, eqb}
use Rattle.eb3.specs.Refusal as named
use Rattle.eb3.specs.Reading.{pick}
use Rattle.eb3.specs.Answers.{Answer, refused}
use Rattle.refusals.specs.declared.Refusal.{Refusal}
use Rattle.refusals.specs.declared.Refusal.TheVariants.{Length, Block, Edition, Form, Reference, Kind, Size, Breadth, Space, Term, Stranger, NotOffered, Reader}

abbrev pub number : Refusal → ℕ
number Length = named.length
number Block = named.block
number Edition = named.edition
number Form = named.form
number Reference = named.reference
number Kind = named.kind
number Size = named.size
number Breadth = named.breadth
number Space = named.space
number Term = named.term
number Stranger = named.stranger
number NotOffered = named.not_offered
number Reader = named.reader

-- Only numbers from 1 to 13 are refusals'; any other gives the last.
unfoldable pub refusal : ℕ → Refusal
refusal k = pick (eqb k 1) Length (pick (eqb k 2) Block (pick (eqb k 3) Edition (pick (eqb k 4) Form (pick (eqb k 5) Reference (pick (eqb k 6) Kind (pick (eqb k 7) Size (pick (eqb k 8) Breadth (pick (eqb k 9) Space (pick (eqb k 10) Term (pick (eqb k 11) Stranger (pick (eqb k 12) NotOffered Reader)))))))))))

-- An answer that is refused by the number of refusal k.
pub record RefusedBy {A : Type 0} (k : Refusal) (a : Answer A) : Type 0 where
  pub code : ℕ
  pub is : a ≡ refused code
  pub named : k ≡ refusal code
