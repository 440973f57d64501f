use Rattle.std.proofs.Common.{rules, ap, ◌∙◌}
use Rattle.std.proofs.lemmas.List.Sorted.{IsNonDecreasingBy-from_sort_by_key}
use Rattle.rank_order.specs.Ranks.{rank_at}
use Rattle.rank_order.specs.Placed.{asns_of}
use Rattle.rank_order.proofs.Orders.{sorted_asns}
use Rattle.rank_order.proofs.order.sorted.Goals as goal

pub returns : goal.returns
returns c =
    sorted_asns (rank_at c.args.ranks.now) c.args.ases.now c.in_ok-asns.field-0.items c.in_ok-order.order.items c.sort_by_cached_key.new.self.items c.in_ok-order.ensures
    (c.in_ok-asns.ensures ∙ ap asns_of c.deref.ensures.value) c.in_ok-sort_by_cached_key.ensures.permutation (IsNonDecreasingBy-from_sort_by_key (λ x. rank_at c.args.ranks.now x.asn) _ c.in_ok-sort_by_cached_key.ensures.sorted (λ a r q k. search rules))
