use Rattle.std.specs.FinSet as set
use Rattle.sim_core.specs.Sims.{world_seen}
use Rattle.sim_core.specs.World.{has_round}
use Rattle.sim_core.proofs.Replies.{not_both}
use Rattle.sim_core.proofs.sim.Sim.watched.Goals as goal

pub returns-in-Err-clause-none : goal.returns-in-Err-clause-none
returns-in-Err-clause-none c =
    let w = world_seen c.args.self.now in
    not_both (has_round w c.args.round) (set.contains w.watched c.args.addr) _ _ _ c.in-Err.ensures.refused
