use Rattle.dirty_recompute.specs.PlannedRanks.{rank_of}
use Rattle.dirty_recompute.proofs.Loops.{just_in, no_ranks}
use Rattle.dirty_recompute.proofs.plan.queue_of.Goals as goal

pub returns-clause-touched : goal.returns-clause-touched
returns-clause-touched c = just_in (rank_of c.args.ranks.now) c.new-queue.result c.add_all.new.self c.args.touched.now (c.new-queue.ensures.none (rank_of c.args.ranks.now)) c.in_ok-add_all.ensures

pub returns-clause-ranks : goal.returns-clause-ranks
returns-clause-ranks c = c.in_ok-add_all.ensures.ranks (no_ranks (rank_of c.args.ranks.now) c.new-queue.result (c.new-queue.ensures.none (rank_of c.args.ranks.now)) c.new-queue.ensures.spots)
