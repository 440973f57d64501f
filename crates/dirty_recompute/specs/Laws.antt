-- The laws of policies that a recomputation rests on.
use Rattle.policy_laws.specs.Policy.{Policy, RanksOffers, PrefersCustomers, ExportsDownOnly}
use Rattle.stability_laws.specs.Laws.{OfferNames, OfferFollows, RightByOffers, NothingUp, CustomersDecide, OneStableRouting}

-- the laws hold of policies with these meanings
pub record AreLaws {P : Type 0} (meaning : P → Policy) : Type 0 where
  pub ranks_offers : (p : P) → RanksOffers (meaning p)
  pub prefers : (p : P) → PrefersCustomers (meaning p)
  pub exports_down : (p : P) → ExportsDownOnly (meaning p)
  pub names : OfferNames meaning
  pub follows : OfferFollows meaning
  pub by_offers : RightByOffers meaning
  pub nothing_up : NothingUp meaning
  pub decide : CustomersDecide meaning
  pub one : OneStableRouting meaning
