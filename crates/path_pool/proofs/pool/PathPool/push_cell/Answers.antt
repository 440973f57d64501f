use Rattle.std.proofs.Common.{rules, arith, ◌≡◌, List, length, sym, subst}
use Rattle.path_pool.specs.declared.pool.Cell.{Cell}
use Rattle.path_pool.specs.Region.{IsRegion}
use Rattle.path_pool.proofs.PushLemmas.{push_region}
use Rattle.path_pool.proofs.pool.PathPool.push_cell.Goals as goal

pub invariant_of-self-clause-region : goal.invariant_of-self-clause-region
invariant_of-self-clause-region c =
    let xs : List Cell = c.args.self.now.cells.items in
    let y : Cell = record { head = c.args.head; tail = c.args.tail; len = c.args.len; count = 1; last = c.args.last } in
    let at : c.len-at.result ≡ length xs = search rules in
    subst (λ ys. IsRegion ys c.args.self.now.free c.args.self.now.dead c.args.self.now.limit) (sym c.push_reserved.ensures.items)
    (push_region xs c.args.self.now.free c.args.self.now.dead c.args.self.now.limit y c.args.self.now.region (omega (arith, at, c.len-at.ensures, c.args.self.now.within, c.requires.room)) c.requires.follows)
