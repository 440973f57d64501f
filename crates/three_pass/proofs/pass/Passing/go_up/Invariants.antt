use Rattle.std.proofs.Common.{◌≡◌, ◌≢◌, ℕ, true, Some, None, take, ◌≤◌, ◌+◌}
use Rattle.net_names.specs.Numbers.{occurs}
use Rattle.net_names.specs.declared.routes.Rel.{Rel}
use Rattle.net_names.specs.declared.routes.Rel.TheVariants.{Customer}
use Rattle.as_graph.specs.Topology.{relation}
use Rattle.policy_laws.specs.Plain.{IsOf}
use Rattle.route_choice.specs.Routings.{routing_of, seeds_of}
use Rattle.route_choice.specs.PrefixWorlds.{setting_at}
use Rattle.three_pass.specs.Origins.{AreHeldOf}
use Rattle.three_pass.specs.Progress.{AfterUp}
use Rattle.three_pass.specs.Told.{AreTrue, IsTold}
use Rattle.three_pass.specs.Spending.{CanGo, HasSpent}
use Rattle.three_pass.proofs.pass.Passing.go_up.Given as goal

abbrev pub invariant-loop-place : goal.invariant-loop-place
invariant-loop-place g l = record {
  steps : l.steps ≤ l.initial.steps + l.place;
  origins : AreHeldOf (IsOf l.self.all) (setting_at g.P.RoutePolicy.meaning g.V.OriginStates.state_of l.self.at).state (routing_of l.pool l.self.at.table.now l.overlay);
  so_far : AfterUp (setting_at g.P.RoutePolicy.meaning g.V.OriginStates.state_of l.self.at) (seeds_of l.initial.pool l.self.at.seeds.now) (take l.place l.self.course.now.order.ases.items) (routing_of l.pool l.self.at.table.now l.overlay);
  holders : (b n : ℕ) (r : Rel) → occurs b (take l.place l.self.course.now.order.ases.items) ≡ true → routing_of l.pool l.self.at.table.now l.overlay b ≢ None → relation l.self.at.graph.now b n ≡ Some r → r ≢ Customer → IsTold l.gathered.told n b;
  true_notes : AreTrue (relation l.self.at.graph.now) l.gathered.told;
  room : CanGo l.pool l.self.at.seeds.now l.self.at.table.now l.overlay l.self.course.now.order.ases.items;
  spent : HasSpent l.initial.pool l.pool l.self.at.seeds.now l.self.at.table.now l.initial.overlay l.overlay l.self.course.now.order.ases.items;
}
