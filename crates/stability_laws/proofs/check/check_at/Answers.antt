use Rattle.std.proofs.Common.{Option, sym, subst}
use Rattle.std.specs.FinMap as map
use Rattle.policy_laws.specs.declared.policy.View.{View}
use Rattle.stability_laws.specs.Book.{policy_at}
use Rattle.stability_laws.specs.Offers.{offer}
use Rattle.stability_laws.specs.BestView.{IsBestView}
use Rattle.stability_laws.specs.World.{setting}
use Rattle.stability_laws.proofs.Verdicts.{held_is_best}
use Rattle.stability_laws.proofs.check.check_at.Goals as goal

pub returns-else-held-clause-right : goal.returns-else-held-clause-right
returns-else-held-clause-right g c = λ right.
    let here = setting g.P.RoutePolicy.meaning c.args.world.now.graph.now c.args.world.now.book.now (g.V.OriginStates.state_of c.args.world.now.states.now c.args.prefix) in
    let F : Option View → Type 0 = λ v. IsBestView (here.policy c.args.asn) (λ n. offer here (map.get c.args.routing.now) n c.args.asn) v in
    let (o, best, seen) = subst F c.in-Some-Some.is-0 c.best_view-best.ensures in
    let is = held_is_best (here.policy c.args.asn) (g.met.P.RoutePolicy.ranks_offers (policy_at c.args.world.now.book.now c.args.asn)) (map.get c.args.seeds.now c.args.asn) (λ n. offer here (map.get c.args.routing.now) n c.args.asn) (map.get c.args.routing.now c.args.asn)
    c.in-Some-Some.entry.now c.in-Some-Some.view.neighbour o (sym c.in_default.ensures) (sym c.in-Some-Some.ensures.value) best right in
    (c.if-held.ensures o best.made seen).1 is
