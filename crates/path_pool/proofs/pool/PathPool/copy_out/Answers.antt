use Rattle.std.proofs.Common.{ℕ, ◌-◌, List, [], ◌∷◌, ◌++◌, sym, ap, ◌∙◌, append_assoc}
use Rattle.path_pool.specs.Region.{walk}
use Rattle.path_pool.proofs.GrowLemmas.{walking_read}
use Rattle.path_pool.proofs.pool.PathPool.copy_out.Goals as goal

pub cells-preserved : goal.cells-preserved
cells-preserved c =
    let pool = c.args.self.now in
    let v = c.index-cell.result.now in
    let step = walking_read pool.cells.items pool.free pool.dead pool.limit c.cells.left c.cells.at v pool.region c.cells-test.true c.cells.invariant.walking c.index-cell.ensures in
    let all : List ℕ = c.cells.path in
    let rest : List ℕ = walk pool.cells.items (c.cells.left - 1) v.tail in
    record {
      walking = step.1;
      same = ap (λ t. t ++ rest) c.in_ok-push.ensures.ok ∙ append_assoc all (v.head ∷ []) rest ∙ ap (λ t. all ++ t) (sym step.0) ∙ c.cells.invariant.same;
    }
