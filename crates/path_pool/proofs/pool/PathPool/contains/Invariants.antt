use Rattle.std.proofs.Common.{◌≡◌}
use Rattle.std.specs.Prelude.{◌==◌}
use Rattle.std.specs.List.{list_any}
use Rattle.path_pool.specs.Region.{walk, list_of}
use Rattle.path_pool.proofs.GrowLemmas.{IsWalking}
use Rattle.path_pool.proofs.pool.PathPool.contains.Given as goal

abbrev pub invariant-cells : goal.invariant-cells
invariant-cells l = record {
  walking : IsWalking l.self.cells.items l.left l.at;
  same : list_any (λ x. x == l.fn.asn) (list_of l.self.cells.items l.fn.id.0) ≡ list_any (λ x. x == l.fn.asn) (walk l.self.cells.items l.left l.at);
}

abbrev pub decreases-cells : goal.decreases-cells
decreases-cells l = l.left
