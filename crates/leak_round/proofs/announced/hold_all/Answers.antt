use Rattle.std.proofs.Common.{◌∙◌, arith}
use Rattle.leak_round.proofs.Holding.{uses_read, holds_gained}
use Rattle.leak_round.proofs.announced.hold_all.Goals as goal

pub loop-one-preserved : goal.loop-one-preserved
loop-one-preserved c =
    let x = c.one-item.result in
    let old = c.loop-one.invariant in
    let now = c.hold.ensures in
    record {
      holds = λ k. omega (arith, old.holds k, holds_gained c.loop-one.pool c.hold.new.self x.path.0 now.held k, uses_read c.args.announced.now c.loop-one.one-index x c.loop-one-test.true c.one-item.is k);
      keeps = record { live = λ k l. now.held.stays_live k (old.keeps.live k l); lists = λ k l. now.held.lists k (old.keeps.live k l) ∙ old.keeps.lists k l };
      counts = λ k. omega (arith, old.counts k, now.held.counts k);
      cells = now.live ∙ old.cells;
      limit = now.limit ∙ old.limit;
    }
