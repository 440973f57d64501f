use Rattle.std.proofs.Common.{◌∙◌, ap}
use Rattle.roa_table.specs.Lists.{row_in}
use Rattle.roa_table.specs.Chunks.{all_of}
use Rattle.roa_table.proofs.Tabled.{row_is}
use Rattle.roa_table.proofs.table.Vrps.of_prefix.Goals as goal

pub returns : goal.returns
returns c = c.row_of.ensures ∙ ap (λ ss. row_in c.args.prefix (all_of ss)) c.as_slice.ensures.value ∙ row_is c.self.inside.chunks.items c.self.inside.count c.self.invariant c.args.self.now c.self.view_is c.args.prefix
