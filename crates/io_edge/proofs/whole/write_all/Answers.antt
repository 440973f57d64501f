use Rattle.std.proofs.Common.{arith}
use Rattle.io_edge.proofs.Appending.{Appends-trans, take-more}
use Rattle.io_edge.proofs.whole.write_all.Goals as goal

pub pieces-preserved : goal.pieces-preserved
pieces-preserved g c = record {
  within = omega (arith, c.in_ok-count.ensures.bound);
  later = omega (arith, c.put.ensures.cause.later);
  so_far = rw (take-more c.pieces.done c.in_ok-count.count c.args.piece.now)
      (Appends-trans _ _ _ _ _ c.pieces.invariant.so_far c.in_ok-count.ensures.appends);
}
