use Rattle.std.proofs.Common.{◌≢◌, ◌-◌, sym, ◌∙◌}
use Rattle.std.proofs.lemmas.Bool.{eqb-true, eq-eqb, both_ways}
use Rattle.path_pool.specs.Region.{walk}
use Rattle.path_pool.proofs.GrowLemmas.{walking_read, any_here, any_later}
use Rattle.path_pool.proofs.pool.PathPool.contains.Goals as goal

pub returns-then-eq : goal.returns-then-eq
returns-then-eq c =
    let pool = c.args.self.now in
    let v = c.index-cell.result.now in
    let step = walking_read pool.cells.items pool.free pool.dead pool.limit c.cells.left c.cells.at v pool.region c.cells-test.true c.cells.invariant.walking c.index-cell.ensures in
    sym (c.cells.invariant.same ∙ any_here _ (walk pool.cells.items (c.cells.left - 1) v.tail) v.head c.args.asn step.0 (eqb-true v.head c.args.asn (sym c.eq.ensures ∙ c.if-eq.true)))

pub cells-preserved : goal.cells-preserved
cells-preserved c =
    let pool = c.args.self.now in
    let v = c.index-cell.result.now in
    let step = walking_read pool.cells.items pool.free pool.dead pool.limit c.cells.left c.cells.at v pool.region c.cells-test.true c.cells.invariant.walking c.index-cell.ensures in
    let other : v.head ≢ c.args.asn = λ e. both_ways c.eq.result c.if-eq.false (c.eq.ensures ∙ eq-eqb v.head c.args.asn e) in
    record {
      walking = step.1;
      same = c.cells.invariant.same ∙ any_later _ (walk pool.cells.items (c.cells.left - 1) v.tail) v.head c.args.asn step.0 other;
    }
