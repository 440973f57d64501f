use Rattle.std.proofs.Common.{◌≡◌, ℕ, take, length, ◌≤◌, ◌+◌}
use Rattle.policy_laws.specs.Plain.{IsOf}
use Rattle.route_choice.specs.Routings.{routing_of, seeds_of}
use Rattle.route_choice.specs.PrefixWorlds.{setting_at}
use Rattle.three_pass.specs.Origins.{AreHeldOf}
use Rattle.three_pass.specs.Progress.{AfterWhole}
use Rattle.three_pass.specs.Told.{IsTold}
use Rattle.three_pass.specs.Telling.{HaveTold}
use Rattle.three_pass.specs.Spending.{CanGo, HasSpent}
use Rattle.three_pass.proofs.pass.Passing.go_down.Given as goal

abbrev pub invariant-loop-left : goal.invariant-loop-left
invariant-loop-left g l = record {
  within : l.left ≤ length l.self.course.now.order.ases.items;
  steps : l.steps + l.left ≤ l.initial.steps + length l.self.course.now.order.ases.items;
  origins : AreHeldOf (IsOf l.self.all) (setting_at g.P.RoutePolicy.meaning g.V.OriginStates.state_of l.self.at).state (routing_of l.pool l.self.at.table.now l.overlay);
  so_far : AfterWhole (setting_at g.P.RoutePolicy.meaning g.V.OriginStates.state_of l.self.at) (seeds_of l.initial.pool l.self.at.seeds.now) (take l.left l.self.course.now.order.ases.items) (routing_of l.pool l.self.at.table.now l.overlay);
  same : l.gathered.told ≡ l.initial.gathered.told;
  told : (a : ℕ) → HaveTold (IsTold l.initial.gathered.told) (setting_at g.P.RoutePolicy.meaning g.V.OriginStates.state_of l.self.at) (routing_of l.pool l.self.at.table.now l.overlay) a;
  room : CanGo l.pool l.self.at.seeds.now l.self.at.table.now l.overlay l.self.course.now.order.ases.items;
  spent : HasSpent l.initial.pool l.pool l.self.at.seeds.now l.self.at.table.now l.initial.overlay l.overlay l.self.course.now.order.ases.items;
}

abbrev pub decreases-loop-left : goal.decreases-loop-left
decreases-loop-left g l = l.left
