use Rattle.std.proofs.Common.{◌≡◌, true, false, sym, ◌∙◌}
use Rattle.net_names.specs.Numbers.{occurs}
use Rattle.as_graph.specs.Topology.{relation}
use Rattle.stability_laws.specs.Book.{policy_at}
use Rattle.stability_laws.specs.BestView.{better_of}
use Rattle.stability_laws.specs.Offers.{offer_given}
use Rattle.table_check.specs.Rows.{held_by}
use Rattle.table_check.proofs.Behind.{looped, seen}
use Rattle.table_check.proofs.near.better_with.Goals as goal

pub returns : goal.returns
returns g c =
    let meaning = g.P.RoutePolicy.meaning in
    let state = g.V.OriginStates.state_of c.args.world.now.states.now c.args.prefix in
    let n = c.args.neighbour.now.asn in
    let a = c.args.receiver.now.asn in
    let absent : occurs a c.in-Some-near.held.now.path ≡ false = sym (c.in-Some-numbers_of.ensures c.in-Some-near.held.now (sym c.in-Some-near.ensures.value) a) ∙ sym c.has.ensures ∙ c.if-has.false in
    c.better-2.ensures ∙ (λ i. better_of (meaning (c.policy_near-own.ensures i)) c.args.best (
    (c.view_past-view.ensures a absent
    ∙ (λ k. seen (offer_given (meaning (c.policy_near-sender.ensures k)) (meaning (c.policy_near-own.ensures k)) state n a (sym c.requires k) (c.in-Some-near.ensures.value k)))) i))

pub returns-then-has : goal.returns-then-has
returns-then-has g c =
    let meaning = g.P.RoutePolicy.meaning in
    let book = c.args.world.now.book.now in
    let n = c.args.neighbour.now.asn in
    let a = c.args.receiver.now.asn in
    let held = c.in-Some-near.held.now in
    let there : occurs a held.path ≡ true = sym (c.in-Some-numbers_of.ensures held (sym c.in-Some-near.ensures.value) a) ∙ sym c.has.ensures ∙ c.if-has.true in
    looped (meaning (policy_at book a)) (meaning (policy_at book n)) (meaning (policy_at book a)) (g.V.OriginStates.state_of c.args.world.now.states.now c.args.prefix) n a
    (relation c.args.world.now.graph.now a n) c.args.neighbour.now.rel (held_by c.args.placed.now.table.now c.args.placed.now.round n) held c.args.best c.requires c.in-Some-near.ensures.value there
