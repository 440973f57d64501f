use Rattle.net_names.proofs.DerivedOrders.{prefix_orders}
use Rattle.scenario_text.proofs.twice.names_once.Goals as goal

pub returns : goal.returns
returns c = rw prefix_orders at c.items_once.ensures
