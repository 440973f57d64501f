use Rattle.dirty_recompute.specs.PlannedRanks.{rank_of}
use Rattle.dirty_recompute.specs.Queues.{IsAdded}
use Rattle.dirty_recompute.proofs.QueueLemmas.{IsInBelow}
use Rattle.dirty_recompute.proofs.queue.Queue.add_all.Given as goal

abbrev pub invariant-loop-asn : goal.invariant-loop-asn
invariant-loop-asn l = IsAdded (rank_of l.ranks) l.initial.self l.self (IsInBelow l.asn-index l.asns)
