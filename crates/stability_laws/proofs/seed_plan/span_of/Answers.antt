use Rattle.std.proofs.Common.{ℕ, rules}
use Rattle.std.proofs.Math.Dec.{leb, ltb}
use Rattle.std.proofs.lemmas.List.Sorted.{IsPartitionPoint-from_clause}
use Rattle.stability_laws.proofs.PlanListings.{begins_before, earlier_first, later_last, in_round_span}
use Rattle.stability_laws.proofs.seed_plan.span_of.Goals as goal

pub returns-clause-order : goal.returns-clause-order
returns-clause-order c =
    let xs = c.args.leakers.now in
    let r = c.args.round in
    begins_before r xs c.partition_point-first.result c.partition_point-end.result c.partition_point-first.ensures.bound
    (IsPartitionPoint-from_clause (λ (y : ℕ × ℕ). ltb y.0 r) xs c.partition_point-first.result c.partition_point-first.ensures.partitioned (earlier_first r xs c.requires) (λ a b g called. (search rules, search rules)))
    (IsPartitionPoint-from_clause (λ (y : ℕ × ℕ). leb y.0 r) xs c.partition_point-end.result c.partition_point-end.ensures.partitioned (later_last r xs c.requires) (λ a b g called. (search rules, search rules)))

pub returns-clause-span : goal.returns-clause-span
returns-clause-span c =
    let xs = c.args.leakers.now in
    let r = c.args.round in
    in_round_span r xs c.partition_point-first.result c.partition_point-end.result
    (IsPartitionPoint-from_clause (λ (y : ℕ × ℕ). ltb y.0 r) xs c.partition_point-first.result c.partition_point-first.ensures.partitioned (earlier_first r xs c.requires) (λ a b g called. (search rules, search rules)))
    (IsPartitionPoint-from_clause (λ (y : ℕ × ℕ). leb y.0 r) xs c.partition_point-end.result c.partition_point-end.ensures.partitioned (later_last r xs c.requires) (λ a b g called. (search rules, search rules)))
