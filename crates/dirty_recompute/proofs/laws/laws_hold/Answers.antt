use Rattle.dirty_recompute.proofs.laws.laws_hold.Goals as goal

pub returns : goal.returns
returns g c = record {
  ranks_offers = g.met.P.RoutePolicy.ranks_offers;
  prefers = g.met.P.RoutePolicy.prefers_customers;
  exports_down = g.met.P.RoutePolicy.exports_down_only;
  names = c.offer_names.ensures;
  follows = c.offer_follows.ensures;
  by_offers = c.right_by_offers.ensures;
  nothing_up = c.nothing_up.ensures;
  decide = c.customers_decide.ensures;
  one = c.one_stable_routing.ensures;
}
