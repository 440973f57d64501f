use Rattle.std.proofs.Common.{◌∙◌}
use Rattle.roa_table.proofs.Placed.{found}
use Rattle.roa_table.proofs.chunk.Chunk.has.Goals as goal

pub returns : goal.returns
returns c = c.is_ok.ensures.value ∙ found _ _ c.as_slice.ensures.value c.requires c.args.vrp _ c.binary_search.ensures.bound c.binary_search.ensures.position
