-- Document 01's numbers are ours (`numbers`).
use Rattle.std.specs.Prelude.{refl, eqb}
use Rattle.std.proofs.Common.{eqb→eq}
use Rattle.eb3.specs.Editions.{edition_of}
use Rattle.eb3.specs.Numbers.{Numbers}
use Rattle.eb3.proofs.Laws.Reading.{pick_false}

pub numbers : Numbers
unfolding edition_of
numbers = record {
  length = refl;
  block = refl;
  edition = refl;
  form = refl;
  reference = refl;
  kind = refl;
  size = refl;
  breadth = refl;
  space = refl;
  term = refl;
  stranger = refl;
  not_offered = refl;
  reader = refl;
  blocks_limit = refl;
  domains_limit = refl;
  domain_size_limit = refl;
  labels_limit = refl;
  label_parameters_limit = refl;
  functions_limit = refl;
  processes_limit = refl;
  process_parameters_limit = refl;
  variables_limit = refl;
  readers_limit = refl;
  reach_limit = refl;
  breadth_limit = refl;
  edition_1 = refl;
  no_other = λ w h. pick_false _ _ (eqb w 1) (λ t. h (eqb→eq w 1 t));
  undefined_word = refl;
}
