use Rattle.std.proofs.Common.{◌≡◌, ◌⊎◌, inl, inr, ℕ, true, Some}
use Rattle.net_names.specs.declared.routes.Rel.TheVariants as rel
use Rattle.as_graph.specs.Topology.{relation}
use Rattle.dirty_recompute.specs.PlannedRanks.{rank_of}
use Rattle.dirty_recompute.specs.Queues.{IsAmong}
use Rattle.dirty_recompute.specs.Turns.{MayBeLeft}
use Rattle.dirty_recompute.proofs.QueueLemmas.{queued_by, queued_both}
use Rattle.dirty_recompute.proofs.TurnLemmas.{among_to, among_back}
use Rattle.dirty_recompute.proofs.turns.queue_around.Goals as goal

pub returns-in_ok-queue_those-3-clause-up : goal.returns-in_ok-queue_those-3-clause-up
returns-in_ok-queue_those-3-clause-up g c =
    let w = relation c.args.after.now.world.now.at.graph.now in let a = c.args.after.now.asn in let xs = c.neighbours_near-near.result.now in let are = c.neighbours_near-near.ensures in
    let rank = rank_of c.args.after.now.world.now.ranks in
    let left : ℕ → Type 0 = MayBeLeft g.P.RoutePolicy.meaning g.V.OriginStates.state_of c.args.after.now in
    queued_by rank c.args.queues.now.up _ (IsAmong xs rel.Provider) (λ b. (w a b ≡ Some rel.Provider) × (c.args.after.now.stepped.changed ≡ true)) left (λ b is. among_to w a xs rel.Provider are b is.0) (λ b is. (among_back w a xs rel.Provider are b is, c.if-stepped.true)) c.in_ok-queue_those.ensures

pub returns-in_ok-queue_those-3-clause-whole : goal.returns-in_ok-queue_those-3-clause-whole
returns-in_ok-queue_those-3-clause-whole g c =
    let w = relation c.args.after.now.world.now.at.graph.now in let a = c.args.after.now.asn in let xs = c.neighbours_near-near.result.now in let are = c.neighbours_near-near.ensures in
    let rank = rank_of c.args.after.now.world.now.ranks in
    let left : ℕ → Type 0 = MayBeLeft g.P.RoutePolicy.meaning g.V.OriginStates.state_of c.args.after.now in
    queued_both rank c.args.queues.now.whole _ _ (IsAmong xs rel.Peer) (IsAmong xs rel.Customer) (λ b. ((w a b ≡ Some rel.Customer) ⊎ (w a b ≡ Some rel.Peer)) × (c.args.after.now.stepped.changed ≡ true)) left
    (λ b is. elim is.0 [ inl x ↦ inr (among_to w a xs rel.Customer are b x) | inr x ↦ inl (among_to w a xs rel.Peer are b x) ])
    (λ b is. elim is [ inl x ↦ (inr (among_back w a xs rel.Peer are b x), c.if-stepped.true) | inr x ↦ (inl (among_back w a xs rel.Customer are b x), c.if-stepped.true) ])
    c.in_ok-queue_those-2.ensures c.in_ok-queue_those-3.ensures
