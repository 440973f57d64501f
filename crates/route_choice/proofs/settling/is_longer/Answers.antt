use Rattle.std.proofs.Common.{refl}
use Rattle.path_pool.specs.Pool.{head_of, list_of}
use Rattle.route_choice.proofs.Numbers.{one_differs}
use Rattle.route_choice.proofs.settling.is_longer.Goals as goal

pub returns-in-None : goal.returns-in-None
returns-in-None c = (
  λ t. cc,
  λ e. absurd (one_differs c.args.asn (head_of c.args.pool.now c.args.path.0) (list_of c.args.pool.now c.args.path.0) (list_of c.args.pool.now c.args.path.0) (list_of c.args.pool.now c.args.rest.0)
      e c.in-None.ensures.list (c.paths_are_not_empty.ensures c.args.rest.0 c.requires.second) refl),
)
