-- What the code's scope says in the specification's, of edition 1: functions of one parameter.
-- Document 01, "Values and conditions"; refusals 4 and 5.
use Rattle.eb3.specs.Editions.{edition_1}
use Rattle.eb3.specs.Scopes.{Scope}
use Rattle.expression_check.specs.declared.Scope.{Scope as Given}

abbrev pub scope : Given → Scope
scope c = record { edition = edition_1; arity = λ f. 1; now = c.now; before = c.before; variables = c.variables }
