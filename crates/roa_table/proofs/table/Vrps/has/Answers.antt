use Rattle.std.proofs.Common.{◌∙◌, ap}
use Rattle.roa_table.specs.Lists.{stands_in}
use Rattle.roa_table.specs.Chunks.{all_of}
use Rattle.roa_table.proofs.Tabled.{has_is}
use Rattle.roa_table.proofs.table.Vrps.has.Goals as goal

pub returns : goal.returns
returns c = c.stands.ensures ∙ ap (λ ss. stands_in (all_of ss) c.args.vrp) c.as_slice.ensures.value ∙ has_is c.self.inside.chunks.items c.self.inside.count c.self.invariant c.args.self.now c.self.view_is c.args.vrp
