use Rattle.topo_gen.proofs.Drawing.{more_picked}
use Rattle.topo_gen.proofs.links.join_all.Goals as goal

pub picked-preserved : goal.picked-preserved
picked-preserved c = more_picked c.args.a c.picked._k c.args.rel (c.args.links.now, c.args.rng.now) _ _ c.picked.invariant c.in_ok-join_picked.ensures
