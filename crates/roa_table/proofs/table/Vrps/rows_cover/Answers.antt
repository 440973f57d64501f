use Rattle.roa_table.proofs.Tabled.{whole_is}
use Rattle.roa_table.proofs.Covered.{rows_cover, cover_order}
use Rattle.roa_table.proofs.table.Vrps.rows_cover.Goals as goal

pub returns-clause-rows : goal.returns-clause-rows
returns-clause-rows c = rows_cover c.args.self.now c.args.prefix (whole_is c.self.inside.chunks.items c.self.inside.count c.self.invariant c.args.self.now c.self.view_is)

pub returns-clause-order : goal.returns-clause-order
returns-clause-order c = cover_order c.args.self.now c.args.prefix (whole_is c.self.inside.chunks.items c.self.inside.count c.self.invariant c.args.self.now c.self.view_is)
