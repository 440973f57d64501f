use Rattle.std.proofs.Common.{◌∙◌}
use Rattle.std.proofs.lemmas.Map.Views.{btree_set_len-from_list}
use Rattle.net_names.proofs.DerivedOrders.{prefix_orders}
use Rattle.net_names.specs.Orders.{prefix_total}
use Rattle.scenario_text.proofs.limits.count_prefixes.Goals as goal

pub returns : goal.returns
returns c =
    let h = rw (prefix_orders, c.deref.ensures.value, c.in_ok-prefixes.ensures) at c.in_ok-different.ensures in
    c.len.ensures.len ∙ btree_set_len-from_list prefix_total _ _ h
