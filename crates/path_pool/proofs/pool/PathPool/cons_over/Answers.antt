use Rattle.std.proofs.Common.{arith, ◌≡◌, ℕ, ◌+◌, ◌<◌, List, [], ◌∷◌, ◌++◌, length, get_or, set, ap, ◌∙◌}
use Rattle.path_pool.specs.declared.pool.Cell.{Cell}
use Rattle.path_pool.specs.declared.pool.PathPool.{PathPool}
use Rattle.path_pool.specs.Region.{IsLive, CanFollow, list_of, cell_at, with_count}
use Rattle.path_pool.proofs.ConsLemmas.{longer_fits, over, follows_over, gains_over, gains_there}
use Rattle.path_pool.proofs.PushLemmas.{push_over, same_length}
use Rattle.path_pool.proofs.pool.PathPool.cons_over.Goals as goal

pub overflow_add-len : goal.overflow_add-len
overflow_add-len c =
    let pool = c.args.self.now in
    let fits = longer_fits pool.cells.items pool.free pool.dead pool.limit c.args.tail.0 c.index-cell.result.now pool.region c.requires.tail_live c.index-cell.ensures in
    omega (arith, fits)

-- the cell of the new path can follow once its tail is held once more
follows : (pool : PathPool) (t h : ℕ) (v : Cell) (ys : List Cell) → IsLive pool.cells.items t → v ≡ get_or pool.cells.items t v → ys ≡ with_count pool.cells.items t (v.count + 1) → CanFollow ys (over h t v)
follows pool t h v ys live read held = follows_over pool.cells.items pool.free pool.dead pool.limit t h v pool.region live read ys held

pub push_cell-requires-clause-follows : goal.push_cell-requires-clause-follows
push_cell-requires-clause-follows c = follows c.args.self.now c.args.tail.0 c.args.head c.index-cell.result.now c.set_count.new.self.cells.items c.requires.tail_live c.index-cell.ensures c.set_count.ensures.cells

pub take_cell-requires-clause-follows : goal.take_cell-requires-clause-follows
take_cell-requires-clause-follows c = follows c.args.self.now c.args.tail.0 c.args.head c.index-cell.result.now c.set_count.new.self.cells.items c.requires.tail_live c.index-cell.ensures c.set_count.ensures.cells

pub returns-then-self-eq0-clause-made : goal.returns-then-self-eq0-clause-made
returns-then-self-eq0-clause-made c =
    let pool = c.args.self.now in
    let xs : List Cell = pool.cells.items in
    let t : ℕ = c.args.tail.0 in
    let v : Cell = c.index-cell.result.now in
    let room : 0 < pool.room = omega (arith, c.requires.spare, c.set_count.ensures.spare, c.if-self-eq0.true) in
    let cells : c.push_cell.new.self.cells.items ≡ with_count xs t (v.count + 1) ++ over c.args.head t v ∷ [] = c.push_cell.ensures.cells ∙ ap (λ ys. ys ++ over c.args.head t v ∷ []) c.set_count.ensures.cells in
    let which : c.push_cell.result.0 ≡ length xs = c.push_cell.ensures.which ∙ ap length c.set_count.ensures.cells ∙ same_length xs t (record (cell_at xs t) { count = v.count + 1 }) in
    gains_there xs _ _ _ _ (c.args.head ∷ list_of xs t) cells which
    (push_over xs pool.free pool.dead pool.limit t c.args.head v pool.region c.requires.tail_live c.index-cell.ensures (omega (arith, room, pool.within)))

pub returns-else-self-eq0-clause-made : goal.returns-else-self-eq0-clause-made
returns-else-self-eq0-clause-made c =
    let pool = c.args.self.now in
    let xs : List Cell = pool.cells.items in
    let y : Cell = over c.args.head c.args.tail.0 c.index-cell.result.now in
    let some : 0 < pool.dead = omega (arith, c.set_count.ensures.spare, c.if-self-eq0.false) in
    let cells : c.take_cell.new.self.cells.items ≡ set (with_count xs c.args.tail.0 (c.index-cell.result.now.count + 1)) pool.free y =
    c.take_cell.ensures.cells ∙ ap (λ i. set c.set_count.new.self.cells.items i y) c.set_count.ensures.free ∙ ap (λ ys. set ys pool.free y) c.set_count.ensures.cells in
    gains_there xs _ _ _ _ (c.args.head ∷ list_of xs c.args.tail.0) cells (c.take_cell.ensures.which ∙ c.set_count.ensures.free)
    (gains_over xs pool.free pool.dead pool.limit c.args.tail.0 c.args.head c.index-cell.result.now pool.region c.requires.tail_live c.index-cell.ensures some)
