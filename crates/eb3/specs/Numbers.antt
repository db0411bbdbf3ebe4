-- Document 01's numbers, as numerals: the refusals by their words (the table under "Operations"), the limits ("Blocks and the rule stream", "Unfolding,
-- size and breadth"), what edition 1 is ("Values and conditions") and undefined's word. Proved in Laws/Numbers.
use Rattle.std.specs.Prelude.{◌≡◌, false, ℕ}
use Rattle.std.proofs.Math.Option.{none, some}
use Rattle.eb3.specs.Refusal
use Rattle.eb3.specs.Limits
use Rattle.eb3.specs.Editions.{edition_of}
use Rattle.eb3.specs.Memory.{undefined_cell}

pub record Numbers : Type 0 where
  pub length : Refusal.length ≡ 1
  pub block : Refusal.block ≡ 2
  pub edition : Refusal.edition ≡ 3
  pub form : Refusal.form ≡ 4
  pub reference : Refusal.reference ≡ 5
  pub kind : Refusal.kind ≡ 6
  pub size : Refusal.size ≡ 7
  pub breadth : Refusal.breadth ≡ 8
  pub space : Refusal.space ≡ 9
  pub term : Refusal.term ≡ 10
  pub stranger : Refusal.stranger ≡ 11
  pub not_offered : Refusal.not_offered ≡ 12
  pub reader : Refusal.reader ≡ 13
  pub blocks_limit : Limits.blocks ≡ 64
  pub domains_limit : Limits.domains ≡ 16
  pub domain_size_limit : Limits.domain_size ≡ 64
  pub labels_limit : Limits.labels ≡ 64
  pub label_parameters_limit : Limits.label_parameters ≡ 2
  pub functions_limit : Limits.functions ≡ 16
  pub processes_limit : Limits.processes ≡ 32
  pub process_parameters_limit : Limits.process_parameters ≡ 4
  pub variables_limit : Limits.variables ≡ 8
  pub readers_limit : Limits.readers ≡ 32
  pub reach_limit : Limits.reach ≡ 8192
  pub breadth_limit : Limits.breadth ≡ 65535
  -- Word 0 is 1: values up to 65,534, constants of one word, functions of one parameter, which the stream does not say.
  pub edition_1 : edition_of 1 ≡ some (record { number = 1; top = 65534; width = 1; function_parameters = 1; counts_written = false })
  pub no_other : (w : ℕ) → (w ≡ 1 → ⊥) → edition_of w ≡ none
  pub undefined_word : undefined_cell ≡ 65535
