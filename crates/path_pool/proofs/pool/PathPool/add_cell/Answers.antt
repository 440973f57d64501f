use Rattle.std.proofs.Common.{rules, arith, ◌≡◌, ◌+◌, List, [], ◌∷◌, ◌++◌, length, refl, sym, subst}
use Rattle.path_pool.specs.declared.pool.Cell.{Cell}
use Rattle.path_pool.specs.Region.{IsRegion, SameCells}
use Rattle.path_pool.proofs.GrowLemmas.{grow_region, grow_same}
use Rattle.path_pool.proofs.pool.PathPool.add_cell.Goals as goal

pub invariant_of-self-clause-region : goal.invariant_of-self-clause-region
invariant_of-self-clause-region c =
    let xs : List Cell = c.args.self.now.cells.items in
    let y : Cell = record { head = c.any_asn-asn.result; tail = c.args.self.now.free; len = c.args.self.now.dead + 1; count = 0; last = c.any_asn-asn.result } in
    let at : c.len-at.result ≡ length xs = search rules in
    subst (λ ys. IsRegion ys c.len-at.result (c.args.self.now.dead + 1) c.args.self.now.limit) (sym c.push_reserved.ensures.items)
    (subst (λ n. IsRegion (xs ++ y ∷ []) n (c.args.self.now.dead + 1) c.args.self.now.limit) (sym at)
    (grow_region xs c.args.self.now.free c.args.self.now.dead c.args.self.now.limit y c.args.self.now.region (omega (arith, at, c.len-at.ensures, c.args.self.now.within, c.requires)) refl refl refl))

pub returns-clause-same : goal.returns-clause-same
returns-clause-same c =
    let y : Cell = record { head = c.any_asn-asn.result; tail = c.args.self.now.free; len = c.args.self.now.dead + 1; count = 0; last = c.any_asn-asn.result } in
    subst (λ ys. SameCells c.args.self.now.cells.items ys) (sym c.push_reserved.ensures.items)
    (grow_same c.args.self.now.cells.items c.args.self.now.free c.args.self.now.dead c.args.self.now.limit y c.args.self.now.region refl)
