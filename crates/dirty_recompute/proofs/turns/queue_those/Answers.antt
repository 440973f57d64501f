use Rattle.std.proofs.Common.{length, refl, arith, ◌<◌, ◌≤◌}
use Rattle.std.proofs.lemmas.Option.{slice_get_within, slice_get_read}
use Rattle.dirty_recompute.specs.PlannedRanks.{rank_of}
use Rattle.dirty_recompute.specs.Queues.{IsAmong}
use Rattle.dirty_recompute.proofs.QueueLemmas.{IsAmongBelow, queued_next, queued_by}
use Rattle.dirty_recompute.proofs.turns.queue_those.Goals as goal

pub loop-index-preserved : goal.loop-index-preserved
loop-index-preserved g c =
    queued_next (rank_of c.args.after.now.world.now.ranks) _ _ _ _ c.loop-index.index c.args.neighbours.now c.args.wanted c.index-neighbours-index.result
    (slice_get_read c.args.neighbours.now (length c.args.neighbours.now) c.loop-index.index c.index-neighbours-index.result refl c.loop-index-test.true c.index-neighbours-index.is)
    c.loop-index.invariant c.in_ok-queue_one.ensures

pub returns : goal.returns
returns g c =
    queued_by _ _ _ (IsAmongBelow c.loop-index.index c.args.neighbours.now c.args.wanted) (IsAmong c.args.neighbours.now c.args.wanted) _
    (λ b x. let (i, m, at, is, r) = x in
    (i, m, (let lt : i < length c.args.neighbours.now = slice_get_within c.args.neighbours.now i m at in let le : length c.args.neighbours.now ≤ c.loop-index.index = c.loop-index-test.false in omega arith), at, is, r))
    (λ b x. let (i, m, lt, at, is, r) = x in (i, m, at, is, r)) c.loop-index.invariant
