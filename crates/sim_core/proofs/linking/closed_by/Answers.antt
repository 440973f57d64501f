use Rattle.std.proofs.Common.{◌∙◌, sym, ap, subst, Some}
use Rattle.net_names.specs.declared.routes.Rel.{Rel}
use Rattle.net_names.specs.declared.routes.Rel.TheVariants.{Customer}
use Rattle.as_graph.specs.Edits.{without_link}
use Rattle.as_graph.specs.Topology.{relation}
use Rattle.scenario_text.specs.declared.acts.Edit.TheVariants.{Link}
use Rattle.sim_core.specs.Editing.{BeginsWithLink}
use Rattle.sim_core.proofs.CycleLemmas.{closed_cycle, closed_none, none_below, peers_below, set_again, turned}
use Rattle.sim_core.proofs.linking.closed_by.Goals as goal

pub returns-in-Customer-clause-cycle : goal.returns-in-Customer-clause-cycle
returns-in-Customer-clause-cycle c =
    let same = set_again c.link_laws.ensures.sound c.link_laws.ensures.set c.link_laws.ensures.taken c.args.graph.now c.args.a c.args.b Customer c.requires.apart (c.requires.linked ∙ ap (λ (r : Rel). Some r) c.in-Customer.is) in
    closed_cycle c.args.graph.now c.args.a c.args.b (BeginsWithLink (Link c.args.a c.args.b c.args.rel)) same
    (λ xs h. subst (λ (r : Rel). BeginsWithLink (Link c.args.a c.args.b r) xs) (sym c.in-Customer.is) h) c.closes.result c.closes.ensures.cycle

pub returns-in-Customer-clause-none : goal.returns-in-Customer-clause-none
returns-in-Customer-clause-none c =
    let same = set_again c.link_laws.ensures.sound c.link_laws.ensures.set c.link_laws.ensures.taken c.args.graph.now c.args.a c.args.b Customer c.requires.apart (c.requires.linked ∙ ap (λ (r : Rel). Some r) c.in-Customer.is) in
    closed_none c.args.graph.now c.args.a c.args.b same c.closes.result c.closes.ensures.none

pub returns-in-Provider-clause-cycle : goal.returns-in-Provider-clause-cycle
returns-in-Provider-clause-cycle c =
    let there = turned c.link_laws.ensures.sound c.link_laws.ensures.set c.link_laws.ensures.taken c.args.graph.now c.args.a c.args.b (c.requires.linked ∙ ap (λ (r : Rel). Some r) c.in-Provider.is) in
    let same = set_again c.link_laws.ensures.sound c.link_laws.ensures.set c.link_laws.ensures.taken c.args.graph.now c.args.b c.args.a Customer (λ e. c.requires.apart (sym e)) there in
    closed_cycle c.args.graph.now c.args.b c.args.a (BeginsWithLink (Link c.args.a c.args.b c.args.rel)) same
    (λ xs h. subst (λ (r : Rel). BeginsWithLink (Link c.args.a c.args.b r) xs) (sym c.in-Provider.is) h) c.closes-in-Provider.result c.closes-in-Provider.ensures.cycle

pub returns-in-Provider-clause-none : goal.returns-in-Provider-clause-none
returns-in-Provider-clause-none c =
    let there = turned c.link_laws.ensures.sound c.link_laws.ensures.set c.link_laws.ensures.taken c.args.graph.now c.args.a c.args.b (c.requires.linked ∙ ap (λ (r : Rel). Some r) c.in-Provider.is) in
    let same = set_again c.link_laws.ensures.sound c.link_laws.ensures.set c.link_laws.ensures.taken c.args.graph.now c.args.b c.args.a Customer (λ e. c.requires.apart (sym e)) there in
    closed_none c.args.graph.now c.args.b c.args.a same c.closes-in-Provider.result c.closes-in-Provider.ensures.none

pub returns-in-Peer-clause-none : goal.returns-in-Peer-clause-none
returns-in-Peer-clause-none c =
    none_below (relation c.args.graph.now) (relation (without_link c.args.graph.now c.args.a c.args.b))
    (peers_below c.link_laws.ensures.sound c.link_laws.ensures.set c.link_laws.ensures.taken c.args.graph.now c.args.a c.args.b (c.requires.linked ∙ ap (λ (r : Rel). Some r) c.in-Peer.is)) c.requires.there
