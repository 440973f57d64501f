use Rattle.std.specs.Prelude.{is_some}
use Rattle.std.proofs.Common.{sym, ◌≡◌, None, rules, ap, ◌∙◌}
use Rattle.stability_laws.specs.Book.{policy_at}
use Rattle.route_choice.specs.Tables.{prefix_of, seed_at}
use Rattle.route_choice.specs.Routings.{routing_of, seeds_of}
use Rattle.route_choice.proofs.Lists.{seed_there}
use Rattle.route_choice.proofs.Unread.{choice_seen, nothing_seen}
use Rattle.route_choice.proofs.choosing.evaluate_among.Goals as goal

pub returns-in-Some-clause-choice : goal.returns-in-Some-clause-choice
returns-in-Some-clause-choice g c =
    let none : seeds_of c.args.pool.now c.args.at.now.seeds.now c.args.turn.asn ≡ None = search rules in
    let reads : c.reads_state-reads.result ≡ (g.P.RoutePolicy.meaning (policy_at c.args.at.now.book.now c.args.turn.asn)).reads_state =
    c.reads_state-reads.ensures ∙ ap (λ p. (g.P.RoutePolicy.meaning p).reads_state) c.policy_near.ensures in
    choice_seen g.P.RoutePolicy.meaning c.args.at.now.graph.now c.args.at.now.book.now (routing_of c.args.pool.now c.args.at.now.table.now c.args.overlay.now) c.args.turn.asn
    (g.met.P.RoutePolicy.ignores_state (policy_at c.args.at.now.book.now c.args.turn.asn)) c.args.turn.part (g.V.OriginStates.state_of c.args.at.now.states.now (prefix_of c.args.at.now.table.now))
    c.reads_state-reads.result reads (seeds_of c.args.pool.now c.args.at.now.seeds.now c.args.turn.asn) none c.in-Some.view (rw c.in-Some.is at c.best_view-place.ensures.best)

pub returns-in-None-clause-choice : goal.returns-in-None-clause-choice
returns-in-None-clause-choice g c =
    let none : seeds_of c.args.pool.now c.args.at.now.seeds.now c.args.turn.asn ≡ None = search rules in
    let reads : c.reads_state-reads.result ≡ (g.P.RoutePolicy.meaning (policy_at c.args.at.now.book.now c.args.turn.asn)).reads_state =
    c.reads_state-reads.ensures ∙ ap (λ p. (g.P.RoutePolicy.meaning p).reads_state) c.policy_near.ensures in (
      none,
      nothing_seen g.P.RoutePolicy.meaning c.args.at.now.graph.now c.args.at.now.book.now (routing_of c.args.pool.now c.args.at.now.table.now c.args.overlay.now) c.args.turn.asn
          (g.met.P.RoutePolicy.ignores_state (policy_at c.args.at.now.book.now c.args.turn.asn)) c.args.turn.part (g.V.OriginStates.state_of c.args.at.now.states.now (prefix_of c.args.at.now.table.now))
          c.reads_state-reads.result reads (rw c.in-None.is at c.best_view-place.ensures.best),
    )

pub returns-then-is_some-clause-choice : goal.returns-then-is_some-clause-choice
returns-then-is_some-clause-choice g c =
    seed_there c.args.pool.now (seed_at c.args.at.now.seeds.now c.args.turn.asn) (ap is_some (sym c.get.ensures) ∙ sym c.is_some.ensures ∙ c.if-is_some.true)
