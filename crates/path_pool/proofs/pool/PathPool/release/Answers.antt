use Rattle.std.proofs.Common.{arith, ◌≡◌, ℕ, ◌+◌, ◌-◌, true, false, ltb, List, set, sym, ap, subst, refl, ◌∙◌}
use Rattle.path_pool.specs.declared.pool.Cell.{Cell}
use Rattle.path_pool.specs.Region.{cell_at}
use Rattle.path_pool.proofs.ReleaseLemmas.{IsReleasing, read_owed, releasing_keep, releasing_free}
use Rattle.path_pool.proofs.pool.PathPool.release.Goals as goal

pub set_count-requires-clause-enough : goal.set_count-requires-clause-enough
set_count-requires-clause-enough c =
    let owed = c.cells.invariant.releasing.owed c.cells-test.true in
    let read = read_owed c.cells.self.cells.items c.cells.at c.index-cell.result.now owed c.index-cell.ensures in
    let e = ap (λ (c : Cell). c.count) read.0 in
    omega (arith, owed, e)

pub free_cell-requires-clause-none : goal.free_cell-requires-clause-none
free_cell-requires-clause-none c =
    let owed = c.cells.invariant.releasing.owed c.cells-test.true in
    let read = read_owed c.cells.self.cells.items c.cells.at c.index-cell.result.now owed c.index-cell.ensures in
    let e = ap (λ (c : Cell). c.count) read.0 in
    omega (arith, owed, e, c.if-cell-gt1.false)

pub cells-preserved-then-cell-gt1 : goal.cells-preserved-then-cell-gt1
cells-preserved-then-cell-gt1 c =
    let xs : List Cell = c.cells.self.cells.items in
    let i : ℕ = c.cells.at in
    let v : Cell = c.index-cell.result.now in
    let read = read_owed xs i v (c.cells.invariant.releasing.owed c.cells-test.true) c.index-cell.ensures in
    let e : v.count ≡ (cell_at xs i).count = ap (λ (c : Cell). c.count) read.0 in
    let w : IsReleasing c.args.self.now.cells.items xs c.args.id.0 i true = subst (IsReleasing c.args.self.now.cells.items xs c.args.id.0 i) c.cells-test.true c.cells.invariant.releasing in
    record {
      releasing = subst (λ ys. IsReleasing c.args.self.now.cells.items ys c.args.id.0 i false) (sym c.set_count.ensures.cells)
          (releasing_keep c.args.self.now.cells.items xs c.cells.self.free c.cells.self.dead c.cells.self.limit c.args.id.0 i (v.count - 1) c.cells.self.region w (omega (arith, e, read.1)) (omega (arith, c.if-cell-gt1.true)));
      limit = c.set_count.ensures.limit ∙ c.cells.invariant.limit;
      spare = omega (arith, c.set_count.ensures.spare, c.cells.invariant.spare);
      room = c.set_count.ensures.room ∙ c.cells.invariant.room;
    }

pub cells-preserved : goal.cells-preserved
cells-preserved c =
    let xs : List Cell = c.cells.self.cells.items in
    let i : ℕ = c.cells.at in
    let v : Cell = c.index-cell.result.now in
    let (same, some) = read_owed xs i v (c.cells.invariant.releasing.owed c.cells-test.true) c.index-cell.ensures in
    let e : v.count ≡ (cell_at xs i).count = ap (λ (c : Cell). c.count) same in
    let w : IsReleasing c.args.self.now.cells.items xs c.args.id.0 i true = subst (IsReleasing c.args.self.now.cells.items xs c.args.id.0 i) c.cells-test.true c.cells.invariant.releasing in
    let y : Cell = record { head = v.head; tail = c.cells.self.free; len = c.cells.self.dead + 1; count = 0; last = v.head } in
    record {
      releasing = subst (λ ys. IsReleasing c.args.self.now.cells.items ys c.args.id.0 v.tail (ltb 1 v.len)) (sym c.free_cell.ensures.cells)
          (subst (λ (c' : Cell). IsReleasing c.args.self.now.cells.items (set xs i y) c.args.id.0 c'.tail (ltb 1 c'.len)) (sym same)
          (releasing_free c.args.self.now.cells.items xs c.cells.self.free c.cells.self.dead c.cells.self.limit c.args.id.0 i y c.cells.self.region w (omega (arith, e, some, c.if-cell-gt1.false)) refl));
      limit = c.free_cell.ensures.limit ∙ c.cells.invariant.limit;
      spare = omega (arith, c.free_cell.ensures.spare, c.cells.invariant.spare);
      room = c.free_cell.ensures.room ∙ c.cells.invariant.room;
    }
