use Rattle.std.proofs.Common.{sym, ap, ◌∙◌, subst}
use Rattle.roa_table.specs.Lists.{IsRising, row_in}
use Rattle.roa_table.proofs.Chunking.{rising_here, row_here}
use Rattle.roa_table.proofs.chunks.row_of.Goals as goal

pub row-requires : goal.row-requires
row-requires c = subst IsRising (sym c.as_slice.ensures.value) (rising_here c.args.chunks.now c.args.prefix c.home.result c.index-chunks-home.result c.requires c.home.ensures c.index-chunks-home.is)

pub returns : goal.returns
returns c = c.row.ensures ∙ ap (row_in c.args.prefix) c.as_slice.ensures.value ∙ row_here c.args.chunks.now c.args.prefix c.home.result c.index-chunks-home.result c.requires c.home.ensures c.index-chunks-home.is
