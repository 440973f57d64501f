use Rattle.std.proofs.Common.{◌≡◌, ◌↔◌, length}
use Rattle.path_pool.specs.Pool.{IsLive, list_of}
use Rattle.route_choice.proofs.settling.same_path.Given as goal

abbrev pub invariant-cells : goal.invariant-cells
invariant-cells l = record {
  first : IsLive l.pool l.x.0;
  second : IsLive l.pool l.y.0;
  same : (list_of l.pool l.x.0 ≡ list_of l.pool l.y.0) ↔ (list_of l.pool l.fn.a.0 ≡ list_of l.pool l.fn.b.0);
}

abbrev pub decreases-cells : goal.decreases-cells
decreases-cells l = length (list_of l.pool l.x.0)
