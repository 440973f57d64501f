use Rattle.std.proofs.Common.{◌≡◌, ℕ}
use Rattle.dirty_recompute.specs.PlannedRanks.{rank_of}
use Rattle.dirty_recompute.proofs.QueueLemmas.{added_same, gathered_put, on_ok}
use Rattle.dirty_recompute.proofs.queue.Queue.add.Goals as goal

pub returns-then-mark_spot : goal.returns-then-mark_spot
returns-then-mark_spot c =
    let rank = rank_of c.args.ranks.now in
    added_same rank c.args.self.now c.widen.new.self c.mark_spot.new.self (λ (b : ℕ). b ≡ c.args.asn) c.in_ok-widen.ensures (c.mark_spot.ensures.yes c.if-mark_spot.true rank)

pub returns : goal.returns
returns c =
    let rank = rank_of c.args.ranks.now in
    on_ok c.put.result (λ up. added_same rank c.args.self.now c.widen.new.self _ (λ (b : ℕ). b ≡ c.args.asn) c.in_ok-widen.ensures
    (gathered_put rank c.widen.new.self c.mark_spot.new.self c.gather.new.self _ c.args.asn (c.mark_spot.ensures.no c.if-mark_spot.false rank) c.in_ok-gather.ensures.same c.in_ok-gather.ensures.spots c.in_ok-gather.ensures.spots up)) c.put.ensures
