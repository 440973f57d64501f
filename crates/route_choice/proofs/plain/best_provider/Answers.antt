use Rattle.std.proofs.Common.{◌≡◌, ◌+◌, ◌<◌, ◌⊎◌, true, false, None, Some, length, refl, sym, ◌∙◌, ap, subst, option_map, take, take_all}
use Rattle.net_names.specs.declared.routes.Rel.TheVariants.{Provider}
use Rattle.net_names.specs.declared.routes.State.{State}
use Rattle.net_names.specs.Numbers.{occurs}
use Rattle.policy_laws.specs.Plain.{SendsPlainly}
use Rattle.route_choice.specs.Leads.{IsOffered}
use Rattle.path_pool.specs.Pool.{list_of}
use Rattle.as_graph.specs.Topology.{relation}
use Rattle.as_graph.specs.declared.neighbour.Neighbour.{Neighbour}
use Rattle.as_graph.specs.Neighbours.{asns}
use Rattle.stability_laws.specs.Book.{policy_at}
use Rattle.stability_laws.specs.Offers.{Offer, offer}
use Rattle.stability_laws.specs.BestView.{IsBestViewOf, better_of}
use Rattle.stability_laws.proofs.BestViews.{among_more}
use Rattle.route_choice.specs.declared.choice.Part.TheVariants.{Whole}
use Rattle.route_choice.specs.PrefixWorlds.{setting_at}
use Rattle.route_choice.specs.declared.held.Held.{Held}
use Rattle.route_choice.specs.Routings.{entry_of, routing_of}
use Rattle.route_choice.specs.Tables.{joined}
use Rattle.route_choice.proofs.BestOffers.{best_of_givers, best_with}
use Rattle.route_choice.proofs.Leads.{lead_seen, leads_weighed}
use Rattle.route_choice.proofs.plain.best_provider.Goals as goal

pub loop-index-init : goal.loop-index-init
loop-index-init g c = (None, ((λ n is. (let e : false ≡ true = is in cc)), c.nobody-lead.ensures))

pub loop-index-preserved : goal.loop-index-preserved
loop-index-preserved g c =
    let here = setting_at g.P.RoutePolicy.meaning g.V.OriginStates.state_of c.args.at.now in
    let f = routing_of c.args.pool.now c.args.at.now.table.now c.args.overlay.now in
    let x = c.index-providers-index.result in
    let xs = c.args.providers.now in
    let i = c.loop-index.index in
    let held = joined c.args.at.now.table.now c.args.overlay.now in
    let a = c.args.asn in
    let new = option_map (λ (o : Offer). o.view) (offer here f x.asn a) in
    let plain : (x.rel ≡ Provider) × SendsPlainly (here.policy x.asn) = subst (λ (t : Neighbour). (t.rel ≡ Provider) × SendsPlainly (here.policy t.asn)) (sym c.index-providers-index.is) (c.requires.plain i x c.loop-index-test.true) in
    let linked : relation c.args.at.now.graph.now a x.asn ≡ Some Provider = subst (λ (t : Neighbour). relation c.args.at.now.graph.now a t.asn ≡ Some t.rel) (sym c.index-providers-index.is) (c.requires.givers.each i x c.loop-index-test.true) ∙ ap Some plain.0 in
    let fits : (h : Held) → held x.asn ≡ Some h → (0 < length (list_of c.args.pool.now h.path.0)) × (occurs a (list_of c.args.pool.now h.path.0) ≡ false) = λ h is. (
      c.paths_are_not_empty.ensures h.path.0 (c.requires.live x.asn h is),
      c.requires.no_loops x.asn Provider (entry_of c.args.pool.now h) linked refl (ap (option_map (entry_of c.args.pool.now)) is) (plain.1.to_customers h.class h.otc),
    ) in
    let test : State → Type 0 = IsOffered here f a in
    let (v, (best, seen)) = c.loop-index.invariant in (
      better_of (here.policy a) v new,
      (
        best_with Whole here f c.args.asn (g.met.P.RoutePolicy.ranks_offers (policy_at c.args.at.now.book.now c.args.asn))
            x.asn (asns (take i xs)) (asns (take (i + 1) xs))
            (λ m is. subst (λ t. (t.asn ≡ m) ⊎ (occurs m (asns (take i xs)) ≡ true)) (sym c.index-providers-index.is) (among_more xs i m x c.loop-index-test.true is))
            v best,
        leads_weighed test (here.policy a) c.requires.own c.args.pool.now held c.loop-index.lead c.lead_of.result c.better-lead.result v new c.better-lead.ensures.new c.better-lead.ensures.old seen
            (lead_seen test here c.args.pool.now held a x.asn c.lead_of.result c.requires.own plain.1 linked (λ h is. (x.asn, (entry_of c.args.pool.now h, (linked, (ap (option_map (entry_of c.args.pool.now)) is, refl))))) fits c.lead_of.ensures),
      ),
    )

pub returns : goal.returns
returns g c =
    let here = setting_at g.P.RoutePolicy.meaning g.V.OriginStates.state_of c.args.at.now in
    let f = routing_of c.args.pool.now c.args.at.now.table.now c.args.overlay.now in
    let (v, (best, seen)) = c.loop-index.invariant in (
      v,
      (
        best_of_givers Whole here f c.args.asn (g.met.P.RoutePolicy.ranks_offers (policy_at c.args.at.now.book.now c.args.asn)) c.args.providers.now c.requires.givers
            v (subst (λ ys. IsBestViewOf (here.policy c.args.asn) (λ n. offer here f n c.args.asn) (asns ys) v) (take_all c.loop-index.index c.args.providers.now c.loop-index-test.false) best),
        seen,
      ),
    )
