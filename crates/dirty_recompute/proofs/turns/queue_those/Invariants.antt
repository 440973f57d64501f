use Rattle.dirty_recompute.specs.PlannedRanks.{rank_of}
use Rattle.dirty_recompute.specs.Queues.{AreQueued}
use Rattle.dirty_recompute.specs.Turns.{MayBeLeft}
use Rattle.dirty_recompute.proofs.QueueLemmas.{IsAmongBelow}
use Rattle.dirty_recompute.proofs.turns.queue_those.Given as goal

abbrev pub invariant-loop-index : goal.invariant-loop-index
invariant-loop-index g l =
    AreQueued (rank_of l.after.world.now.ranks) l.initial.queue l.queue (IsAmongBelow l.index l.neighbours l.wanted) (MayBeLeft g.P.RoutePolicy.meaning g.V.OriginStates.state_of l.after)
