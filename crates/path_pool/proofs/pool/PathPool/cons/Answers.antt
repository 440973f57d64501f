use Rattle.std.proofs.Common.{arith, ℕ, List, [], ◌∷◌, set, sym, subst, refl, Option}
use Rattle.path_pool.specs.declared.pool.Cell.{Cell}
use Rattle.path_pool.specs.declared.path_id.PathId.{PathId}
use Rattle.path_pool.specs.Region.{GainsCell, tail_list}
use Rattle.path_pool.proofs.ConsLemmas.{gains_single, gains_after}
use Rattle.path_pool.proofs.pool.PathPool.cons.Goals as goal

pub returns-in-None-clause-made : goal.returns-in-None-clause-made
returns-in-None-clause-made c =
    let old : List Cell = c.args.self.now.cells.items in
    let xs : List Cell = c.find_cell.new.self.cells.items in
    let f : ℕ = c.find_cell.new.self.free in
    let y : Cell = record { head = c.args.head; tail = 0; len = 1; count = 1; last = c.args.head } in
    gains_after old xs c.take_cell.new.self.cells.items c.take_cell.result.0 (c.args.head ∷ tail_list old c.args.tail) c.find_cell.ensures.same
    (subst (λ (o : Option PathId). GainsCell xs c.take_cell.new.self.cells.items c.take_cell.result.0 (c.args.head ∷ tail_list old o)) (sym c.in-None.is)
    (subst (λ ys. GainsCell xs ys c.take_cell.result.0 (c.args.head ∷ [])) (sym c.take_cell.ensures.cells)
    (subst (λ i. GainsCell xs (set xs f y) i (c.args.head ∷ [])) (sym c.take_cell.ensures.which)
    (gains_single xs f c.find_cell.new.self.dead c.find_cell.new.self.limit y c.find_cell.new.self.region c.find_cell.ensures.some
    (record { held = refl; some = omega arith; live = λ l. absurd (omega arith); free_hold = λ l. absurd (omega arith); shorter = λ l. absurd (omega arith); single_last = λ _. refl; longer_last = λ l. absurd (omega arith) }) refl))))
