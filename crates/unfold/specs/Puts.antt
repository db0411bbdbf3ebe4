-- What a part of the unfolding puts into the buffer of a writer that it is lent, whatever it is that it says: `S ws rest` says that the words
-- to be put are `ws` and that the words after those read are `rest`. The contracts of all parts have this form, so that they are joined by the same laws.
-- Document 01, "Unfolding, size and breadth".
use Rattle.std.specs.Prelude.{◌≡◌, List, ◌++◌, ℕ, ◌+◌, ◌*◌, ◌<◌, length, Option, MatchOption, ⊤}
use Rattle.unfold.specs.declared.writer.Writer.{Writer}
use Rattle.unfold.specs.Written.{written_from}
use Rattle.unfold.specs.Unfolded.{UnfoldedRight}

-- The writer is x before and y after, and the answer r is how many words are left, or none where there is no room.
pub record Puts (S : List ℕ → List ℕ → Type 0) (x y : Writer) (r : Option ℕ) : Type 0 where
  pub same_buffer : y.bytes.ghost_name ≡ x.bytes.ghost_name
  pub same_length : length y.bytes.now ≡ length x.bytes.now
  pub put : (ws rest : List ℕ) → S ws rest → MatchOption r (length x.bytes.now < 2 * (x.at + length ws)) (UnfoldedRight ws rest x y)

-- These words are put, or none where there is no room.
pub record HeadPut (ms : List ℕ) (x y : Writer) : Type 0 where
  pub ends : y.at ≡ x.at + length ms
  pub written_there : y.bytes.now ≡ written_from x.at ms x.bytes.now

pub record Heads (ms : List ℕ) (x y : Writer) (r : Option ⊤) : Type 0 where
  pub same_buffer : y.bytes.ghost_name ≡ x.bytes.ghost_name
  pub same_length : length y.bytes.now ≡ length x.bytes.now
  pub put : MatchOption r (length x.bytes.now < 2 * (x.at + length ms)) (λ _. HeadPut ms x y)

-- These words, where n words are left.
pub record Exactly (ms : List ℕ) (n : ℕ) (ws rest : List ℕ) : Type 0 where
  pub same_words : ws ≡ ms
  pub same_left : n ≡ length rest

-- One part, and another that reads on where the first left off.
pub record Then (S : List ℕ → List ℕ → Type 0) (S' : ℕ → List ℕ → List ℕ → Type 0) (ws rest : List ℕ) : Type 0 where
  pub front : List ℕ
  pub back : List ℕ
  pub between : List ℕ
  pub one : S front between
  pub two : S' (length between) back rest
  pub joined : ws ≡ front ++ back

-- In a row: words are put so far from the writer x up to the writer y, and what G says is to come.
pub record SoFar (G : List ℕ → List ℕ → Type 0) (ws rest : List ℕ) (x y : Writer) : Type 0 where
  pub put : List ℕ
  pub come : List ℕ
  pub joined : ws ≡ put ++ come
  pub size : y.at ≡ x.at + length put
  pub written_there : y.bytes.now ≡ written_from x.at put x.bytes.now
  pub says : G come rest

-- Of the words that S says.
pub record Putting (S G : List ℕ → List ℕ → Type 0) (x y : Writer) : Type 0 where
  pub same_buffer : y.bytes.ghost_name ≡ x.bytes.ghost_name
  pub same_length : length y.bytes.now ≡ length x.bytes.now
  pub so_far : (ws rest : List ℕ) → S ws rest → SoFar G ws rest x y
