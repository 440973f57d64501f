use Rattle.table_check.specs.Rows.{held_by}
use Rattle.table_check.proofs.placed.long_paths.Goals as goal

pub loop-asn-init : goal.loop-asn-init
loop-asn-init c = c.none-long.ensures (held_by c.args.table.now c.args.round)
