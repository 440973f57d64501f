use Rattle.std.proofs.Common.{◌+◌, arith}
use Rattle.route_choice.proofs.Uses.{back_more}
use Rattle.leak_round.proofs.Holding.{uses_read, uses_most, one_of_itself, holds_lost, given_back}
use Rattle.leak_round.proofs.announced.release_all.Goals as goal

pub release-freed-requires : goal.release-freed-requires
release-freed-requires c =
    let xs = c.args.announced.now in
    let i = c.loop-one.one-index in
    let x = c.one-item.result in
    let k = x.path.0 in
    omega (arith, c.loop-one.invariant.holds k, c.requires k, uses_read xs i x c.loop-one-test.true c.one-item.is k, uses_most xs (i + 1) k, one_of_itself k)

pub loop-one-preserved : goal.loop-one-preserved
loop-one-preserved c =
    let x = c.one-item.result in
    let old = c.loop-one.invariant in
    let now = c.release-freed.ensures in
    let next = c.release-freed.new.self in
    record {
      holds = λ k. omega (arith, old.holds k, holds_lost c.loop-one.pool next x.path.0 now.released k, uses_read c.args.announced.now c.loop-one.one-index x c.loop-one-test.true c.one-item.is k);
      back = back_more c.args.pool.now c.loop-one.pool next old.back (given_back c.loop-one.pool next x.path.0 c.release-freed.result now.released now.freed now.spare now.limit);
    }
