use Rattle.std.proofs.Common.{◌∙◌}
use Rattle.roa_table.proofs.Chunking.{rising_here, stands_here}
use Rattle.roa_table.proofs.chunks.stands.Goals as goal

pub has-requires : goal.has-requires
has-requires c = rising_here c.args.chunks.now c.prefix.result c.home.result c.index-chunks-home.result c.requires c.home.ensures c.index-chunks-home.is

pub returns : goal.returns
returns c = c.has.ensures ∙ stands_here c.args.chunks.now c.prefix.result c.home.result c.index-chunks-home.result c.requires c.home.ensures c.index-chunks-home.is c.args.vrp c.prefix.ensures
