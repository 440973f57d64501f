use Rattle.std.proofs.Common.{◌≡◌, ◌+◌, length, sym, ap, arith}
use Rattle.path_pool.specs.Pool.{list_of}
use Rattle.reports.proofs.Paths.{Grows-trans, grown_on, told_first, told_next, told_end}
use Rattle.reports.proofs.rows.append_path.Goals as goal

pub returns-in_err-append_number-clause-err : goal.returns-in_err-append_number-clause-err
returns-in_err-append_number-clause-err c = grown_on _ _ _ _ _ c.cells.invariant.grows.is c.in_err-append_number.ensures.err

pub cells-preserved : goal.cells-preserved
cells-preserved c =
    let shorter : length (list_of c.args.pool.now c.in-Some.next.0) + 1 ≡ length (list_of c.args.pool.now c.cells.at.0) = omega (arith, ap length c.in-Some.ensures.list) in
    record {
      grows = Grows-trans _ _ _ c.cells.invariant.grows (record { more = _; is = c.in_ok-append_number.ensures.ok });
      live = c.in-Some.ensures.live;
      some = omega (arith, c.cells-test.true);
      left = omega (arith, shorter, c.cells.invariant.left, c.cells-test.true);
      told = told_next (list_of c.args.pool.now c.cells.at.0) (list_of c.args.pool.now c.in-Some.next.0) _ _ _ _ _ c.in-Some.ensures.list (omega (arith, shorter, c.cells.invariant.left, c.cells-test.true)) c.head-in-cells.ensures.first c.in_ok-append_number.ensures.ok c.cells.invariant.told;
    }

pub returns-clause-ok : goal.returns-clause-ok
returns-clause-ok c = told_end (list_of c.args.pool.now c.cells.at.0) _ _ (omega (arith, c.cells.invariant.left, c.cells-test.false)) c.cells.invariant.told

pub cells-init : goal.cells-init
cells-init c = record {
  grows = record { more = _; is = c.in_ok-put_asn.ensures.ok };
  live = c.requires;
  some = omega (arith, c.length-left.ensures.some);
  left = sym c.length-left.ensures.value;
  told = told_first (list_of c.args.pool.now c.args.path.0) _ _ _ (omega (arith, c.length-left.ensures.some, c.length-left.ensures.value)) c.head.ensures.first c.in_ok-put_asn.ensures.ok;
}
