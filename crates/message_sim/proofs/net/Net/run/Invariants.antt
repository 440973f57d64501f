use Rattle.std.proofs.Common.{◌≡◌, take}
use Rattle.message_sim.specs.Nets.{net_of, net_setting, seeds_in}
use Rattle.message_sim.specs.Turns.{AreTurns, turns_of}
use Rattle.message_sim.proofs.net.Net.run.Given as goal

abbrev pub invariant-loop-step : goal.invariant-loop-step
invariant-loop-step g l = record {
  world : l.self.world ≡ l.fn.self.world;
  run : AreTurns (net_setting g.P.RoutePolicy.meaning g.V.OriginStates.state_of l.fn.self.world) (seeds_in l.fn.self.world) (turns_of (take l.step-index l.step-items)) (net_of l.fn.self) l.made (net_of l.self);
}
