use Rattle.std.proofs.Common.{rules}
use Rattle.std.proofs.lemmas.List.Sorted.{IsPartitionPoint-from_clause}
use Rattle.roa_table.specs.Lists.{is_below}
use Rattle.roa_table.proofs.Placed.{parted_below, cuts_at}
use Rattle.roa_table.proofs.row.count_below.Goals as goal

pub returns : goal.returns
returns c =
    cuts_at (is_below c.args.prefix) c.args.vrps.now c.partition_point.result c.partition_point.ensures.bound
    (IsPartitionPoint-from_clause (is_below c.args.prefix) c.args.vrps.now c.partition_point.result c.partition_point.ensures.partitioned
    (parted_below c.args.prefix c.args.vrps.now c.requires) (λ a r f k. search rules))
