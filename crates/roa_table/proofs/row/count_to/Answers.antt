use Rattle.std.proofs.Common.{rules, sym, ◌∙◌}
use Rattle.std.proofs.lemmas.List.Sorted.{IsPartitionPoint-from_clause}
use Rattle.roa_table.specs.Lists.{is_to}
use Rattle.roa_table.proofs.Placed.{parted_to, cuts_at, cuts_none}
use Rattle.roa_table.proofs.row.count_to.Goals as goal

pub returns : goal.returns
returns c =
    cuts_at (is_to c.args.prefix) c.args.vrps.now c.partition_point.result c.partition_point.ensures.bound
    (IsPartitionPoint-from_clause (is_to c.args.prefix) c.args.vrps.now c.partition_point.result c.partition_point.ensures.partitioned
    (parted_to c.args.prefix c.args.vrps.now c.requires) (λ a r f k. search rules))

pub returns-then-not-is_to : goal.returns-then-not-is_to
returns-then-not-is_to c = cuts_none c.args.prefix c.args.vrps.now c.index-vrps-0.result c.requires c.index-vrps-0.is (sym c.is_to.ensures ∙ c.if-not-is_to.true)
