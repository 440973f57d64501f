use Rattle.std.proofs.Common.{arith, ◌≡◌, ℕ, ◌<◌, List, ◌∷◌, set, sym, subst}
use Rattle.path_pool.specs.declared.pool.Cell.{Cell}
use Rattle.path_pool.specs.Region.{IsLive, PassesHold, list_of, holds_of, cell_at}
use Rattle.path_pool.proofs.RegionLemmas.{SameKind}
use Rattle.path_pool.proofs.ConsLemmas.{longer_fits, over, read_kind, follows_held, passes_over, passes_after}
use Rattle.path_pool.proofs.pool.PathPool.lengthen.Goals as goal

pub overflow_add-cell : goal.overflow_add-cell
overflow_add-cell c =
    let pool = c.find_cell.new.self in
    let alive : IsLive pool.cells.items c.args.rest.0 = omega (arith, c.find_cell.ensures.same.holds c.args.rest.0, c.requires.held) in
    let fits = longer_fits pool.cells.items pool.free pool.dead pool.limit c.args.rest.0 c.index-cell.result.now pool.region alive c.index-cell.ensures in
    omega (arith, fits)

pub take_cell-requires-clause-follows : goal.take_cell-requires-clause-follows
take_cell-requires-clause-follows c =
    let pool = c.find_cell.new.self in
    let held : 0 < holds_of pool.cells.items c.args.rest.0 = omega (arith, c.find_cell.ensures.same.holds c.args.rest.0, c.requires.held) in
    follows_held pool.cells.items pool.free pool.dead pool.limit c.args.rest.0 c.args.head c.index-cell.result.now pool.region held (read_kind pool.cells.items c.args.rest.0 c.index-cell.result.now (omega (arith, held)) c.index-cell.ensures)

pub returns-clause-made : goal.returns-clause-made
returns-clause-made c =
    let old : List Cell = c.args.self.now.cells.items in
    let pool = c.find_cell.new.self in
    let xs : List Cell = pool.cells.items in
    let t : ℕ = c.args.rest.0 in
    let v : Cell = c.index-cell.result.now in
    let held : 0 < holds_of xs t = omega (arith, c.find_cell.ensures.same.holds t, c.requires.held) in
    let kind : SameKind v (cell_at xs t) = read_kind xs t v (omega (arith, held)) c.index-cell.ensures in
    let path : list_of xs t ≡ list_of old t = c.find_cell.ensures.same.lists t (omega (arith, c.requires.held)) in
    passes_after old xs c.take_cell.new.self.cells.items t c.take_cell.result.0 (c.args.head ∷ list_of old t) c.find_cell.ensures.same
    (subst (λ ns. PassesHold xs c.take_cell.new.self.cells.items t c.take_cell.result.0 (c.args.head ∷ ns)) path
    (subst (λ zs. PassesHold xs zs t c.take_cell.result.0 (c.args.head ∷ list_of xs t)) (sym c.take_cell.ensures.cells)
    (subst (λ i. PassesHold xs (set xs pool.free (over c.args.head t v)) t i (c.args.head ∷ list_of xs t)) (sym c.take_cell.ensures.which)
    (passes_over xs pool.free pool.dead pool.limit t c.args.head v pool.region held kind c.find_cell.ensures.some))))
