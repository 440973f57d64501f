use Rattle.std.proofs.Common.{◌≡◌, ℕ, Option, Some, sym, ap, ◌∙◌, subst}
use Rattle.std.specs.FinMap as map
use Rattle.policy_laws.specs.declared.policy.View.{View}
use Rattle.as_graph.specs.Topology.{relation}
use Rattle.stability_laws.specs.declared.entry.Seed.{Seed}
use Rattle.stability_laws.specs.Offers.{offer, passed_on}
use Rattle.stability_laws.specs.Stable.{IsRightGiven}
use Rattle.stability_laws.specs.BestView.{IsBestView}
use Rattle.stability_laws.specs.World.{setting}
use Rattle.stability_laws.proofs.Verdicts.{entry_of}
use Rattle.stability_laws.proofs.right.right_entry.Goals as goal

pub returns : goal.returns
returns g c =
    let m = g.P.RoutePolicy.meaning in
    let here = setting m c.args.world.now.graph.now c.args.world.now.book.now (g.V.OriginStates.state_of c.args.world.now.states.now c.args.prefix) in
    let a = c.args.asn in
    let offers = λ (n : ℕ). offer here (map.get c.args.routing.now) n a in
    let F : Option View → Type 0 = λ v. IsBestView (here.policy a) offers v in
    let (o, best, seen) = subst F c.in-Some-best_view.is c.best_view.ensures in
    let n = c.in-Some-best_view.view.neighbour in
    let given = c.in-Some-get.given.now in
    let is : o.entry ≡ passed_on (here.policy n).marks (here.policy a).marks n a o.view.rel given =
    entry_of (here.policy n) (here.policy a) here.state n a (relation c.args.world.now.graph.now a n) (map.get c.args.routing.now n) o given best.made (sym c.in-Some-get.ensures.value) in
    let made : c.in_ok-entry-2.entry ≡ passed_on (here.policy n).marks (here.policy a).marks n a c.in-Some-best_view.view.rel given = c.in_ok-entry-2.ensures in
    let same : passed_on (here.policy n).marks (here.policy a).marks n a c.in-Some-best_view.view.rel given ≡ o.entry = ap (λ (v : View). passed_on (here.policy n).marks (here.policy a).marks n a v.rel given) (sym seen) ∙ sym is in
    let G : Option Seed → Type 0 = λ s. IsRightGiven (here.policy a) s offers (Some c.in_ok-entry-2.entry) in
    subst G c.in_default.ensures (n, o, best, made ∙ same)
