use Rattle.std.proofs.Common.{◌≡◌, ◌≤◌, Some, replicate}
use Rattle.message_sim.specs.Nets.{net_of, net_setting, seeds_in}
use Rattle.message_sim.specs.Turns.{AreTurns}
use Rattle.message_sim.proofs.net.Net.turn.Given as goal

abbrev pub invariant-loop-k : goal.invariant-loop-k
invariant-loop-k g l = record {
  world : l.self.world ≡ l.fn.self.world;
  run : AreTurns (net_setting g.P.RoutePolicy.meaning g.V.OriginStates.state_of l.fn.self.world) (seeds_in l.fn.self.world) (replicate l.k (Some (l.from, l.to))) (net_of l.fn.self) l.made (net_of l.self);
  few : l.made ≤ l.k;
}
