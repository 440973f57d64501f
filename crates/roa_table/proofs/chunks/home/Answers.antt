use Rattle.std.proofs.Common.{rules}
use Rattle.std.proofs.lemmas.List.Sorted.{IsPartitionPoint-from_clause}
use Rattle.roa_table.proofs.Chunking.{is_low, parted_low, home_by}
use Rattle.roa_table.proofs.chunks.home.Goals as goal

pub returns : goal.returns
returns c =
    home_by c.args.prefix c.args.chunks.now c.partition_point.result c.saturating_sub.result c.requires.some c.partition_point.ensures.bound c.saturating_sub.ensures
    (IsPartitionPoint-from_clause (is_low c.args.prefix) c.args.chunks.now c.partition_point.result c.partition_point.ensures.partitioned (parted_low c.args.prefix c.args.chunks.now c.requires.order) (λ a r f k. search rules))
