use Rattle.std.proofs.Common.{arith, ◌≡◌, ℕ, ◌-◌, ◌<◌, List, ◌∷◌, sym, ap, ◌∙◌}
use Rattle.path_pool.specs.declared.pool.Cell.{Cell}
use Rattle.path_pool.specs.Region.{IsLinked, cell_at, walk, list_of}
use Rattle.path_pool.proofs.RegionLemmas.{cell_read, live_inside}
use Rattle.path_pool.proofs.GrowLemmas.{walk_more}
use Rattle.path_pool.proofs.pool.PathPool.tail.Goals as goal

pub returns-then-cell-gt1-clause-list : goal.returns-then-cell-gt1-clause-list
returns-then-cell-gt1-clause-list c =
    let xs : List Cell = c.args.self.now.cells.items in
    let i : ℕ = c.args.id.0 in
    let v : Cell = c.index-cell.result.now in
    let e : v ≡ cell_at xs i = cell_read xs i v (live_inside xs i c.requires) c.index-cell.ensures in
    let linked : IsLinked xs i = c.args.self.now.region.linked i (live_inside xs i c.requires) in
    let long : 1 < (cell_at xs i).len = omega (arith, c.if-cell-gt1.true, ap (λ (c : Cell). c.len) e) in
    let less : (cell_at xs i).len - 1 ≡ (cell_at xs (cell_at xs i).tail).len = omega (arith, linked.shorter long) in
    walk_more xs (cell_at xs i).len i (omega (arith, long))
    ∙ ap (λ n. (cell_at xs i).head ∷ walk xs n (cell_at xs i).tail) less
    ∙ ap (λ t. (cell_at xs i).head ∷ list_of xs t) (sym (ap (λ (c : Cell). c.tail) e))
