use Rattle.net_names.proofs.DerivedOrders.{addr_orders}
use Rattle.scenario_text.proofs.twice.addresses_once.Goals as goal

pub returns : goal.returns
returns c = rw addr_orders at c.items_once.ensures
