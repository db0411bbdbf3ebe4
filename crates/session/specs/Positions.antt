-- The term and the memory of a position between two moves: the bytes of its first words and of its first cells (document 01, "Examples").
use Rattle.std.specs.Prelude.{List, ℕ, ◌*◌, take}
use Rattle.session.specs.declared.positions.Position.{Position}

abbrev pub term_of : Position → List ℕ
term_of p = take (2 * p.words) p.term

abbrev pub memory_of : Position → List ℕ
memory_of p = take (2 * p.cells) p.memory
