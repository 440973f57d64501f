use Rattle.std.proofs.Common.{◌∙◌, refl, sym}
use Rattle.dirty_recompute.specs.PlannedRanks.{rank_of}
use Rattle.dirty_recompute.proofs.QueueLemmas.{widened}
use Rattle.dirty_recompute.proofs.queue.Queue.widen.Goals as goal

pub returns-then-fill : goal.returns-then-fill
returns-then-fill c =
    let ranked = c.in_ok-spots.ensures.ranked c.in-Some.spots c.in-Some.is in
    widened (rank_of c.args.ranks.now) c.args.self.now _ c.fill.new.spots c.as_slice.result.now (sym c.is_some.ensures ∙ c.if-is_some.false) refl (c.is_within.ensures c.if-is_within.false) (c.as_slice.ensures.value ∙ c.in_ok-keys.ensures)
    (c.fill.ensures.all c.if-fill.true (rank_of c.args.ranks.now) ranked) (c.fill.ensures.ranked (rank_of c.args.ranks.now) ranked)
