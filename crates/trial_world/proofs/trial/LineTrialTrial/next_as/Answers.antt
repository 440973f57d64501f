use Rattle.trial_world.specs.Fixed.{world_of}
use Rattle.trial_world.proofs.Following.{next_in, none_in}
use Rattle.trial_world.proofs.trial.LineTrialTrial.next_as.Goals as goal

pub returns-clause-found : goal.returns-clause-found
returns-clause-found c = next_in (world_of c.args.self.now.fixed) c.graph.result.now c.graph.ensures c.args.after c.next.result c.next.ensures.found

pub returns-clause-none : goal.returns-clause-none
returns-clause-none c = none_in (world_of c.args.self.now.fixed) c.graph.result.now c.graph.ensures c.args.after c.next.result c.next.ensures.none
