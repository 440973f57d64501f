use Rattle.roa_table.proofs.Tabled.{count_is}
use Rattle.roa_table.proofs.table.Vrps.len.Goals as goal

pub returns-clause-value : goal.returns-clause-value
returns-clause-value c = count_is c.self.inside.chunks.items c.self.inside.count c.self.invariant c.args.self.now c.self.view_is
