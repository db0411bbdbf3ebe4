use Rattle.std.proofs.Common.{rules, tests, ◌∙◌, ap}
use Rattle.std.specs.Prelude.{ℕ, List}
use Rattle.std.specs.List.{list_all, enumerate_from}
use Rattle.std.proofs.lemmas.Iterator.{YieldsList-from_slice}
use Rattle.std.proofs.lemmas.Iterator.Search.{all_from_yields_List}
use Rattle.std.proofs.lemmas.Iterator.Consumers.{YieldsList-from_enumerate}
use Rattle.eb3.specs.Blocks.{block_right}
use Rattle.blocks.proofs.Right.{all_blocks}
use Rattle.blocks.proofs.check_blocks.Goals as goal

pub returns : goal.returns
returns c =
    all_from_yields_List (λ (p : ℕ × List ℕ). block_right p.0 p.1) _ _ c.all.result c.all.ensures.ran (YieldsList-from_enumerate (YieldsList-from_slice c.as_chunks.result.0.now (cc)) (cc)) (λ x b q k. search (rules, tests))
    ∙ ap (λ bs. list_all (λ (p : ℕ × List ℕ). block_right p.0 p.1) (enumerate_from 0 bs)) c.as_chunks.ensures.front
    ∙ all_blocks 0 _ c.args.rules.now
