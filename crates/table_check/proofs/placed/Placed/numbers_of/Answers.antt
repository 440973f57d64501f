use Rattle.table_check.specs.Rows.{held_by}
use Rattle.table_check.proofs.Numbered.{of_holder}
use Rattle.table_check.proofs.placed.Placed.numbers_of.Goals as goal

pub returns-then-length-gt-MOST_IN_SHORT : goal.returns-then-length-gt-MOST_IN_SHORT
returns-then-length-gt-MOST_IN_SHORT c =
    of_holder c.args.self.now.long.now (held_by c.args.self.now.table.now c.args.self.now.round) c.args.asn c.numbers.result c.numbers.ensures c.args.self.now.numbered
