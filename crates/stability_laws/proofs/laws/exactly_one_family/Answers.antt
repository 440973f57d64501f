use Rattle.std.proofs.Common.{ℕ, Option}
use Rattle.net_names.specs.Prefixes.{PrefixValue}
use Rattle.stability_laws.specs.declared.entry.Seed.{Seed}
use Rattle.stability_laws.specs.Offers.{Setting}
use Rattle.stability_laws.specs.World.{setting}
use Rattle.stability_laws.proofs.Families.{family, family_is}
use Rattle.stability_laws.proofs.laws.exactly_one_family.Goals as goal

pub returns : goal.returns
returns t c = λ w book state plan no_cycle.
    let here : PrefixValue → Setting = λ prefix. setting t.P.RoutePolicy.meaning w book (state prefix) in
    let stable = λ (prefix : PrefixValue) (seeds : ℕ → Option Seed). c.a_stable_routing_exists.ensures w book (state prefix) seeds no_cycle in (
      family here plan stable,
      family_is here plan stable,
      λ rounds h is. c.one_family.ensures w book state plan rounds h (family here plan stable) no_cycle is (family_is here plan stable rounds),
    )
