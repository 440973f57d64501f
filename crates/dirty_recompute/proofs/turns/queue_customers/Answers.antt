use Rattle.net_names.specs.declared.routes.Rel.TheVariants as rel
use Rattle.as_graph.specs.Topology.{relation}
use Rattle.dirty_recompute.proofs.QueueLemmas.{queued_by}
use Rattle.dirty_recompute.proofs.TurnLemmas.{among_to, among_back}
use Rattle.dirty_recompute.proofs.turns.queue_customers.Goals as goal

pub returns-in_ok-queue_those : goal.returns-in_ok-queue_those
returns-in_ok-queue_those g c =
    queued_by _ _ _ _ _ _ (λ b is. among_to (relation c.args.after.now.world.now.at.graph.now) c.args.after.now.asn c.neighbours_near-near.result.now rel.Customer c.neighbours_near-near.ensures b is.0)
    (λ b is. (among_back (relation c.args.after.now.world.now.at.graph.now) c.args.after.now.asn c.neighbours_near-near.result.now rel.Customer c.neighbours_near-near.ensures b is, c.if-stepped.true)) c.in_ok-queue_those.ensures
