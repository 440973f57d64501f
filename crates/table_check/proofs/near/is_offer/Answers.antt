use Rattle.std.proofs.Common.{◌≡◌, ◌↔◌, IsTrue, sym, ◌∙◌, subst}
use Rattle.as_graph.specs.Topology.{relation}
use Rattle.stability_laws.specs.declared.entry.Entry.{Entry}
use Rattle.stability_laws.specs.Book.{policy_at}
use Rattle.stability_laws.specs.Offers.{passed_on}
use Rattle.stability_laws.proofs.Verdicts.{entry_of}
use Rattle.table_check.specs.Rows.{held_by}
use Rattle.table_check.proofs.near.is_offer.Goals as goal

pub returns-in-Some : goal.returns-in-Some
returns-in-Some g c = λ o made seen holds.
    let m = g.P.RoutePolicy.meaning in
    let n = c.args.view.now.neighbour in
    let is : o.entry ≡ passed_on (m (policy_at c.args.world.now.book.now n)).marks (m (policy_at c.args.world.now.book.now c.args.receiver.now.asn)).marks n c.args.receiver.now.asn o.view.rel c.in-Some.given.now =
    entry_of (m (policy_at c.args.world.now.book.now n)) (m (policy_at c.args.world.now.book.now c.args.receiver.now.asn)) (g.V.OriginStates.state_of c.args.world.now.states.now c.args.prefix) n c.args.receiver.now.asn (relation c.args.world.now.graph.now c.args.receiver.now.asn n) (held_by c.args.placed.now.table.now c.args.placed.now.round n) o c.in-Some.given.now made (sym c.in-Some.ensures.value) in
    let same : passed_on (m c.policy_near.result.now).marks (m c.policy_near-in-Some.result.now).marks n c.args.receiver.now.asn c.args.view.now.rel c.in-Some.given.now ≡ o.entry =
    (λ i. passed_on (m (c.policy_near.ensures i)).marks (m (c.policy_near-in-Some.ensures i)).marks n c.args.receiver.now.asn (sym seen i).rel c.in-Some.given.now) ∙ sym is in
    let F : Entry → Type 0 = λ e. IsTrue c.holds_given.result ↔ (c.args.entry.now ≡ e) in
    (subst F same c.holds_given.ensures).0 holds
