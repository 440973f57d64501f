use Rattle.std.proofs.Common.{IfOk, replicate, subst}
use Rattle.message_sim.specs.Nets.{net_of, net_setting, seeds_in}
use Rattle.message_sim.specs.StepValues.{StepValue}
use Rattle.message_sim.specs.Turns.{AreTurns}
use Rattle.message_sim.proofs.Turning.{rested_ok}
use Rattle.message_sim.proofs.net.Net.make.Goals as goal

pub returns-in-None-clause-run : goal.returns-in-None-clause-run
returns-in-None-clause-run g c =
    let w = net_setting g.P.RoutePolicy.meaning g.V.OriginStates.state_of c.args.self.now.world in
    let seeds = seeds_in c.args.self.now.world in
    let F : StepValue → Type 0 = λ s. IfOk c.rest.result (λ made. AreTurns w seeds (replicate s.most s.link) (net_of c.args.self.now) made (net_of c.rest.new.self)) in
    subst F c.step.view_is (rested_ok w seeds c.args.self.now c.rest.new.self c.step.inside.most c.step.inside.link c.rest.result c.in-None.is c.rest.ensures.rested)
